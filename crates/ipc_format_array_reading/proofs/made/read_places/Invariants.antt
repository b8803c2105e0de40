use Rattle.std.proofs.Common.{◌≡◌, true, take}
use Rattle.std.specs.List.{list_all}
use Rattle.ipc_format_column_writing.specs.column_reading.columns.Kinds.{is_signed}
use Rattle.ipc_format_array_reading.proofs.made.read_places.Given as goal

abbrev pub invariant-loop-place : goal.invariant-loop-place
invariant-loop-place l = list_all (is_signed 32) (take l.place-index l.places) ≡ true
