use Rattle.std.proofs.Common.{◌≡◌, ◌+◌, drop}
use Rattle.nested_arrays_parts.specs.columns.StoredColumns.{place_of_id}
use Rattle.nested_arrays_arrays.proofs.picks.place_of_id.Given as goal

abbrev pub invariant-loop-place : goal.invariant-loop-place
invariant-loop-place l = place_of_id l.fn.ids l.fn.id ≡ l.place + place_of_id (drop l.place l.fn.ids) l.fn.id
