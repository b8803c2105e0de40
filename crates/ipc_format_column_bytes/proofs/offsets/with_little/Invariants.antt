use Rattle.std.proofs.Common.{◌≡◌, ◌+◌, ◌-◌, ◌*◌, ◌++◌, take, true}
use Rattle.std.specs.List.{flat_map}
use Rattle.std.specs.Vec.{vec_capacity, vec_len}
use Rattle.ipc_format_streams.specs.grammar.StoredEncoding.{ordered_bytes}
use Rattle.ipc_format_streams.specs.columnar_memory.Spans.{number_of}
use Rattle.ipc_format_column_bytes.specs.Numbers.{width_of}
use Rattle.ipc_format_column_bytes.proofs.offsets.with_little.Given as goal

-- the offsets before stand there, and they took so much of the room
abbrev pub invariant-loop-offset : goal.invariant-loop-offset
invariant-loop-offset g l =
    (l.bytes.items
    ≡ l.fn.room.items ++ flat_map (λ x. ordered_bytes true (width_of g.O.Offset.IS_LARGE) (number_of (g.O.Number.value x) - l.first)) (take
    l.offset-index l.offsets))
    × (vec_len l.bytes ≡ vec_len l.fn.room + l.offset-index * g.O.NativeType.SIZE)
    × (vec_capacity l.bytes ≡ vec_capacity l.fn.room)
