use Rattle.std.proofs.Common.{◌≡◌, true, take}
use Rattle.std.specs.List.{list_all}
use Rattle.nested_arrays_parts.specs.columns.Kinds.{is_signed}
use Rattle.nested_arrays_arrays.proofs.picks.read_ids.Given as goal

abbrev pub invariant-loop-id : goal.invariant-loop-id
invariant-loop-id l = list_all (is_signed 8) (take l.id-index l.ids) ≡ true
