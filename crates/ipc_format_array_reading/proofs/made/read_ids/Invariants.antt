use Rattle.std.proofs.Common.{◌≡◌, true, take}
use Rattle.std.specs.List.{list_all}
use Rattle.ipc_format_column_writing.specs.column_reading.columns.Kinds.{is_signed}
use Rattle.ipc_format_array_reading.proofs.made.read_ids.Given as goal

abbrev pub invariant-loop-id : goal.invariant-loop-id
invariant-loop-id l = list_all (is_signed 8) (take l.id-index l.ids) ≡ true
