use Rattle.std.proofs.Common.{◌≡◌, ◌+◌, ◌++◌, take}
use Rattle.std.specs.Int.{w64, to_le_bytes}
use Rattle.std.specs.Vec.{vec_capacity, vec_len}
use Rattle.columnar_memory_kernels.proofs.words.push_word.Given as goal

-- the bytes before stand there, and there is as much room as before
abbrev pub invariant-loop-byte : goal.invariant-loop-byte
invariant-loop-byte l =
    (l.to.items ≡ l.fn.to.items ++ take l.byte-index (to_le_bytes w64 l.word))
    × (vec_len l.to ≡ vec_len l.fn.to + l.byte-index)
    × (vec_capacity l.to ≡ vec_capacity l.fn.to)
