-- The values so far and those that the rest spells are those of all bytes, and there is room for the latter.
use Rattle.std.proofs.Common.{◌≡◌, ◌+◌, ◌*◌, ◌++◌, ℕ, length, map}
use Rattle.std.specs.Vec.{vec_capacity, vec_len}
use Rattle.std.specs.Slice.Iter.{chunks_exact_rest, chunks_exact_size}
use Rattle.ipc_format_column_bytes.specs.streams.columnar_memory.Numbers.{numbers_in}
use Rattle.ipc_format_column_reading.proofs.Decoding.{elements}
use Rattle.ipc_format_column_reading.proofs.read_basic.decoded.Given as goal

abbrev pub invariant-loop-chunk : goal.invariant-loop-chunk
invariant-loop-chunk g l =
    (m : ℕ) × (chunks_exact_size l.chunk-iterator ≡ g.T.NativeType.SIZE)
    × (length (chunks_exact_rest l.chunk-iterator) ≡ m * g.T.NativeType.SIZE)
    × (vec_len l.values + m ≡ vec_capacity l.values)
    × (map g.T.NativeType.numbers l.values.items
    ++ elements (numbers_in g.T.NativeType.PRIMITIVE l.is_little_endian) g.T.NativeType.SIZE m (chunks_exact_rest l.chunk-iterator)
    ≡ elements (numbers_in g.T.NativeType.PRIMITIVE l.is_little_endian) g.T.NativeType.SIZE l.count l.bytes)
