-- The keys of a dictionary as a column.
use Rattle.std.specs.Prelude.{◌≡◌, ℕ, Bool, List, Option}
use Rattle.nested_arrays_builders.specs.arrays.columnar_memory.declared.IntegerType.{IntegerType}
use Rattle.nested_arrays_builders.specs.arrays.columnar_memory.declared.PhysicalType.TheVariants as physical
use Rattle.nested_arrays_builders.specs.arrays.columns.StoredColumns.{Column}
use Rattle.nested_arrays_builders.specs.arrays.flat.ColumnMasks.{column_mask}
use Rattle.nested_arrays_builders.specs.arrays.parts.Keys.{numbers_in, AreKeysOf}
use Rattle.nested_arrays_builders.specs.values.Uses.{keys_from}

-- keys of a type with a mask, of slots that need so many of the values each
pub record AreFrozenKeys (key : IntegerType) (mask : Option (List Bool)) (uses : List ℕ) (keys : Column) : Type 0 where
  pub typed : AreKeysOf (physical.Dictionary key) keys
  pub masked : column_mask keys ≡ mask
  pub named : numbers_in keys ≡ keys_from uses
