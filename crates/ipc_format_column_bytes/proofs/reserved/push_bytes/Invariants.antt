use Rattle.std.proofs.Common.{◌≡◌, ◌+◌, ◌++◌, take}
use Rattle.std.specs.Vec.{vec_capacity, vec_len}
use Rattle.ipc_format_column_bytes.proofs.reserved.push_bytes.Given as goal

-- the bytes before stand there, and there is as much room as before
abbrev pub invariant-loop-byte : goal.invariant-loop-byte
invariant-loop-byte l =
    (l.to.items ≡ l.fn.to.items ++ take l.byte-index l.bytes)
    × (vec_len l.to ≡ vec_len l.fn.to + l.byte-index)
    × (vec_capacity l.to ≡ vec_capacity l.fn.to)
