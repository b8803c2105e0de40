-- The keys of dictionaries: whole numbers of an integer type, one for each slot (Arrow columnar format, "Dictionary-encoded Layout").
use Rattle.std.specs.Prelude.{◌≡◌, ℤ, List, []}
use Rattle.nested_arrays_flat.specs.columnar_memory.declared.DataType.{DataType}
use Rattle.nested_arrays_flat.specs.columnar_memory.declared.IntegerType.{IntegerType}
use Rattle.nested_arrays_flat.specs.columnar_memory.declared.IntegerType.TheVariants as integers
use Rattle.nested_arrays_flat.specs.columnar_memory.declared.PhysicalType.{PhysicalType}
use Rattle.nested_arrays_flat.specs.columnar_memory.declared.PhysicalType.TheVariants as physical
use Rattle.nested_arrays_flat.specs.columnar_memory.declared.PrimitiveType.{PrimitiveType}
use Rattle.nested_arrays_flat.specs.columnar_memory.declared.PrimitiveType.TheVariants as kinds
use Rattle.nested_arrays_flat.specs.columns.StoredColumns.{Column, flat, numbers, dictionary}
use Rattle.nested_arrays_flat.specs.ColumnMasks.{column_mask}

-- the whole numbers that a column of numbers stores, those under nulls too
abbrev pub numbers_in : Column → List ℤ
numbers_in (flat data_type mask (numbers kind values)) = values
numbers_in _ = []

-- of which kind the keys of an integer type are
abbrev pub kind_of_keys : IntegerType → PrimitiveType
kind_of_keys integers.Int8 = kinds.Int8
kind_of_keys integers.Int16 = kinds.Int16
kind_of_keys integers.Int32 = kinds.Int32
kind_of_keys integers.Int64 = kinds.Int64
kind_of_keys integers.UInt8 = kinds.UInt8
kind_of_keys integers.UInt16 = kinds.UInt16
kind_of_keys integers.UInt32 = kinds.UInt32
kind_of_keys integers.UInt64 = kinds.UInt64

-- a column stores keys of dictionaries that lie in memory so
abbrev pub AreKeysOf : PhysicalType → Column → Type 0
AreKeysOf (physical.Dictionary key) (flat data_type mask (numbers kind values)) = kind ≡ kind_of_keys key
AreKeysOf _ _ = ⊥

-- the column of a dictionary by the columns of its keys, whose mask it has, and of its values
abbrev pub keyed : DataType → Column → Column → Column
keyed data_type keys values = dictionary data_type (column_mask keys) (numbers_in keys) values
