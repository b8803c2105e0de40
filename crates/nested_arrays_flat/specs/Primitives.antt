-- The columns of arrays of numbers of any kind.
use Rattle.std.specs.Prelude.{Bool, true, false, pos}
use Rattle.flat_arrays_core.specs.columnar_memory.declared.PhysicalType.{PhysicalType}
use Rattle.flat_arrays_core.specs.columnar_memory.declared.PhysicalType.TheVariants as physical
use Rattle.flat_arrays_core.specs.columnar_memory.declared.PrimitiveType.TheVariants as kinds
use Rattle.flat_arrays_core.specs.columnar_memory.Numbers.{one, two, three}
use Rattle.nested_arrays_columns.specs.StoredColumns.{Column}
use Rattle.nested_arrays_flat.specs.FlatColumns.{primitive_column}
use Rattle.nested_arrays_flat.specs.declared.primitive.PrimitiveNode.{PrimitiveNode}
use Rattle.nested_arrays_flat.specs.declared.primitive.PrimitiveNode.TheVariants as variant

abbrev pub column_of : PrimitiveNode → Column
column_of (variant.Int8 array) = primitive_column kinds.Int8 one array
column_of (variant.Int16 array) = primitive_column kinds.Int16 one array
column_of (variant.Int32 array) = primitive_column kinds.Int32 one array
column_of (variant.Int64 array) = primitive_column kinds.Int64 one array
column_of (variant.Int128 array) = primitive_column kinds.Int128 one array
column_of (variant.Int256 array) = primitive_column kinds.Int256 one array
column_of (variant.UInt8 array) = primitive_column kinds.UInt8 (λ x. one (pos x)) array
column_of (variant.UInt16 array) = primitive_column kinds.UInt16 (λ x. one (pos x)) array
column_of (variant.UInt32 array) = primitive_column kinds.UInt32 (λ x. one (pos x)) array
column_of (variant.UInt64 array) = primitive_column kinds.UInt64 (λ x. one (pos x)) array
column_of (variant.DaysMs array) = primitive_column kinds.DaysMs (λ x. two x.0 x.1) array
column_of (variant.MonthsDaysNs array) = primitive_column kinds.MonthDayNano (λ x. three x.0 x.1 x.2) array

-- whether arrays that lie in memory so are of numbers
abbrev pub is_primitive : PhysicalType → Bool
is_primitive (physical.Primitive kind) = true
is_primitive _ = false
