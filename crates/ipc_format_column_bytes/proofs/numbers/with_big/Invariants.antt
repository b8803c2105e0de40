use Rattle.std.proofs.Common.{◌≡◌, ◌+◌, ◌*◌, ◌++◌, take, false}
use Rattle.std.specs.List.{flat_map}
use Rattle.std.specs.Vec.{vec_capacity, vec_len}
use Rattle.ipc_format_column_bytes.specs.Numbers.{value_bytes}
use Rattle.ipc_format_column_bytes.proofs.numbers.with_big.Given as goal

-- the numbers before stand there, and they took so much of the room
abbrev pub invariant-loop-value : goal.invariant-loop-value
invariant-loop-value g l =
    (l.bytes.items
    ≡ l.fn.room.items ++ flat_map (λ v. value_bytes false g.T.NativeType.PRIMITIVE (g.T.NativeType.numbers v)) (take l.value-index l.values))
    × (vec_len l.bytes ≡ vec_len l.fn.room + l.value-index * g.T.NativeType.SIZE)
    × (vec_capacity l.bytes ≡ vec_capacity l.fn.room)
