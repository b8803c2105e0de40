use Rattle.std.proofs.Common.{◌≡◌, take, true}
use Rattle.nested_arrays_iterators.specs.columns.SoundColumns.{are_sound}
use Rattle.nested_arrays_iterators.specs.columns.StoredColumns.{in_columns}
use Rattle.nested_arrays_nulls.specs.NullColumns.{null_columns}
use Rattle.nested_arrays_nulls.proofs.nulls.+nulls.Given as goal

abbrev pub invariant-nulls_of-loop-field : goal.invariant-nulls_of-loop-field
invariant-nulls_of-loop-field l = record {
  made : l.arrays.items ≡ null_columns (take l.field-index l.fields) l.length;
  sound : are_sound (in_columns (null_columns (take l.field-index l.fields) l.length)) ≡ true;
}
