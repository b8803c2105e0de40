use Rattle.std.proofs.Common.{◌≡◌, length}
use Rattle.nested_arrays_parts.specs.columns.SoundColumns.{column_lens}
use Rattle.nested_arrays_parts.specs.columns.StoredColumns.{in_columns}
use Rattle.nested_arrays_arrays.proofs.RoomTables.{HoldsFrom}
use Rattle.nested_arrays_arrays.proofs.picks.rooms_by_id.Given as goal

-- the rooms of the ids from the place on
abbrev pub invariant-loop-place : goal.invariant-loop-place
invariant-loop-place l = record {
  long : length l.rooms ≡ 256;
  held : HoldsFrom l.rooms l.ids (column_lens (in_columns l.arrays)) l.place;
}
