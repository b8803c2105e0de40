-- Arrays that are equal: their types and their slots, whatever is stored under a null and whatever keys name the values.
use Rattle.std.specs.Prelude.{◌≡◌}
use Rattle.nested_arrays_columns.specs.StoredColumns.{Column, column_type, slots}

-- columns of one type and with the same slots
pub record AreEqual (a b : Column) : Type 0 where
  pub types : column_type a ≡ column_type b
  pub slots : slots a ≡ slots b
