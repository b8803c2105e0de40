-- What stores a data type: the type that it is logically, and how its arrays lie in memory.
use Rattle.std.specs.Prelude.{Option, Some, None, unwrap_or}
use Rattle.columnar_memory_types.specs.declared.data_type.DataType.{DataType}
use Rattle.columnar_memory_types.specs.declared.data_type.Field.{Field}
use Rattle.columnar_memory_types.specs.declared.data_type.DataType.TheOpen as layer
use Rattle.columnar_memory_types.specs.declared.data_type.DataType.TheFolds.{fold-DataType, para-DataType}
use Rattle.columnar_memory_types.specs.declared.kinds.PhysicalType.{PhysicalType}
use Rattle.columnar_memory_types.specs.declared.kinds.PhysicalType.TheVariants as physical
use Rattle.columnar_memory_types.specs.declared.kinds.PrimitiveType.TheVariants as primitive
use Rattle.columnar_memory_types.specs.declared.units.IntervalUnit.TheVariants as interval

-- one layer of a type, where each type below stands beside what it is over: what this one is over
abbrev pub stored_step : layer.DataType-F (DataType × Option DataType) (Field × Unit {0}) → Option DataType
stored_step (layer.Extension name below more) = Some (unwrap_or below.1 below.0)
stored_step _ = None

-- what an extension type is over once each extension is taken off, and nothing of another type
abbrev pub stored_type : DataType → Option DataType
stored_type = para-DataType (Option DataType) (Unit {0}) stored_step (λ f. tt)

-- the type without its extensions
abbrev pub logical_type : DataType → DataType
logical_type d = unwrap_or (stored_type d) d

-- one layer of a type, where each type below stands as its layout: the layout of this one
abbrev pub physical_step : layer.DataType-F PhysicalType (Unit {0}) → PhysicalType
physical_step layer.Null = physical.Null
physical_step layer.Boolean = physical.Boolean
physical_step layer.Int8 = physical.Primitive primitive.Int8
physical_step layer.Int16 = physical.Primitive primitive.Int16
physical_step layer.Int32 = physical.Primitive primitive.Int32
physical_step layer.Int64 = physical.Primitive primitive.Int64
physical_step layer.UInt8 = physical.Primitive primitive.UInt8
physical_step layer.UInt16 = physical.Primitive primitive.UInt16
physical_step layer.UInt32 = physical.Primitive primitive.UInt32
physical_step layer.UInt64 = physical.Primitive primitive.UInt64
physical_step layer.Float16 = physical.Primitive primitive.Float16
physical_step layer.Float32 = physical.Primitive primitive.Float32
physical_step layer.Float64 = physical.Primitive primitive.Float64
physical_step (layer.Timestamp unit timezone) = physical.Primitive primitive.Int64
physical_step layer.Date32 = physical.Primitive primitive.Int32
physical_step layer.Date64 = physical.Primitive primitive.Int64
physical_step (layer.Time32 unit) = physical.Primitive primitive.Int32
physical_step (layer.Time64 unit) = physical.Primitive primitive.Int64
physical_step (layer.Duration unit) = physical.Primitive primitive.Int64
physical_step (layer.Interval interval.YearMonth) = physical.Primitive primitive.Int32
physical_step (layer.Interval interval.DayTime) = physical.Primitive primitive.DaysMs
physical_step (layer.Interval interval.MonthDayNano) = physical.Primitive primitive.MonthDayNano
physical_step layer.Binary = physical.Binary
physical_step (layer.FixedSizeBinary size) = physical.FixedSizeBinary
physical_step layer.LargeBinary = physical.LargeBinary
physical_step layer.Utf8 = physical.Utf8
physical_step layer.LargeUtf8 = physical.LargeUtf8
physical_step (layer.List item) = physical.List
physical_step (layer.FixedSizeList item size) = physical.FixedSizeList
physical_step (layer.LargeList item) = physical.LargeList
physical_step (layer.Struct fields) = physical.Struct
physical_step (layer.Union fields ids mode) = physical.Union
physical_step (layer.Map entry is_sorted) = physical.Map
physical_step (layer.Dictionary key value is_ordered) = physical.Dictionary key
physical_step (layer.Decimal precision scale) = physical.Primitive primitive.Int128
physical_step (layer.Decimal256 precision scale) = physical.Primitive primitive.Int256
physical_step (layer.Extension name below more) = below

-- how an array of a type lies in memory: an extension as the type that it is over
abbrev pub physical_type : DataType → PhysicalType
physical_type = fold-DataType PhysicalType (Unit {0}) physical_step (λ f. tt)
