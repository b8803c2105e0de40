-- The bytes before the place are bytes.
use Rattle.std.proofs.Common.{◌≡◌, true, take}
use Rattle.std.specs.List.{list_all}
use Rattle.ipc_format_column_writing.specs.column_reading.columns.SoundColumns.{is_byte}
use Rattle.ipc_format_array_reading.proofs.fixed_size_binary.are_bytes.Given as goal

abbrev pub invariant-loop-byte : goal.invariant-loop-byte
invariant-loop-byte l = list_all is_byte (take l.byte-index l.bytes) ≡ true
