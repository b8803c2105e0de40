use Rattle.std.proofs.Common.{◌≡◌, true, take}
use Rattle.std.specs.List.{list_all}
use Rattle.std.specs.Prelude.{Some}
use Rattle.nested_arrays_parts.specs.columns.SoundColumns.{has_child_at, holds_below, is_offset}
use Rattle.nested_arrays_parts.specs.columns.StoredColumns.{in_columns, type_layer}
use Rattle.nested_arrays_arrays.proofs.picks.rooms_hold_offsets.Given as goal

abbrev pub invariant-loop-i : goal.invariant-loop-i
invariant-loop-i l = record {
  placed : holds_below l.i (has_child_at (type_layer l.data_type) l.ids (Some l.offsets) (in_columns l.arrays)) ≡ true;
  whole : list_all is_offset (take l.i l.offsets) ≡ true;
}
