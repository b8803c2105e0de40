-- The data types that are named by the integers of dictionaries and by the primitive values.
use Rattle.columnar_memory_types.specs.declared.data_type.DataType.{DataType}
use Rattle.columnar_memory_types.specs.declared.data_type.DataType.TheVariants as data_type
use Rattle.columnar_memory_types.specs.declared.kinds.IntegerType.{IntegerType}
use Rattle.columnar_memory_types.specs.declared.kinds.IntegerType.TheVariants as integer
use Rattle.columnar_memory_types.specs.declared.kinds.PrimitiveType.{PrimitiveType}
use Rattle.columnar_memory_types.specs.declared.kinds.PrimitiveType.TheVariants as primitive
use Rattle.columnar_memory_types.specs.declared.units.IntervalUnit.TheVariants as interval

-- the integers of a type
abbrev pub type_of_integer : IntegerType → DataType
type_of_integer integer.Int8 = data_type.Int8
type_of_integer integer.Int16 = data_type.Int16
type_of_integer integer.Int32 = data_type.Int32
type_of_integer integer.Int64 = data_type.Int64
type_of_integer integer.UInt8 = data_type.UInt8
type_of_integer integer.UInt16 = data_type.UInt16
type_of_integer integer.UInt32 = data_type.UInt32
type_of_integer integer.UInt64 = data_type.UInt64

-- a type of these values: where several have it, the plainest, and decimals of 32 digits after the point
abbrev pub type_of_primitive : PrimitiveType → DataType
type_of_primitive primitive.Int8 = data_type.Int8
type_of_primitive primitive.Int16 = data_type.Int16
type_of_primitive primitive.Int32 = data_type.Int32
type_of_primitive primitive.Int64 = data_type.Int64
type_of_primitive primitive.Int128 = data_type.Decimal 32 32
type_of_primitive primitive.Int256 = data_type.Decimal256 32 32
type_of_primitive primitive.UInt8 = data_type.UInt8
type_of_primitive primitive.UInt16 = data_type.UInt16
type_of_primitive primitive.UInt32 = data_type.UInt32
type_of_primitive primitive.UInt64 = data_type.UInt64
type_of_primitive primitive.Float16 = data_type.Float16
type_of_primitive primitive.Float32 = data_type.Float32
type_of_primitive primitive.Float64 = data_type.Float64
type_of_primitive primitive.DaysMs = data_type.Interval interval.DayTime
type_of_primitive primitive.MonthDayNano = data_type.Interval interval.MonthDayNano
