use Rattle.std.proofs.Common.{◌≡◌, take}
use Rattle.std.specs.List.{flat_map}
use Rattle.ipc_format_writing.specs.Pieces.{number_bytes}
use Rattle.ipc_format_writing.proofs.tables.bytes_of.Given as goal

abbrev pub invariant-loop-number : goal.invariant-loop-number
invariant-loop-number l = l.bytes.items ≡ flat_map number_bytes (take l.number-index l.numbers)
