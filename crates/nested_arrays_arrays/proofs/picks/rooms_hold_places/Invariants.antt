use Rattle.std.proofs.Common.{◌≡◌, true}
use Rattle.std.specs.Prelude.{None}
use Rattle.nested_arrays_parts.specs.columns.SoundColumns.{has_child_at, holds_below}
use Rattle.nested_arrays_parts.specs.columns.StoredColumns.{in_columns, type_layer}
use Rattle.nested_arrays_arrays.proofs.picks.rooms_hold_places.Given as goal

abbrev pub invariant-loop-i : goal.invariant-loop-i
invariant-loop-i l = holds_below l.i (has_child_at (type_layer l.data_type) l.ids None (in_columns l.arrays)) ≡ true
