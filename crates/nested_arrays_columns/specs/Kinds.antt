-- The whole numbers of the physical kinds (Arrow columnar format, "Data Types"), and the limits of lengths and keys.
use Rattle.std.specs.Prelude.{ℕ, ◌-◌, ◌^◌, ℤ, pos, negsuc, Bool, false, ◌==◌, nat_lt, Option, Some, None}
use Rattle.columnar_memory_core.specs.declared.DataType.TheOpen as layer
use Rattle.columnar_memory_core.specs.declared.IntervalUnit.TheVariants as intervals
use Rattle.columnar_memory_core.specs.declared.PrimitiveType.{PrimitiveType}
use Rattle.columnar_memory_core.specs.declared.PrimitiveType.TheVariants as kinds
use Rattle.columnar_memory_core.specs.declared.IntegerType.{IntegerType}
use Rattle.columnar_memory_core.specs.declared.IntegerType.TheVariants as integers
use Rattle.columnar_memory_core.specs.declared.PhysicalType.{PhysicalType}
use Rattle.columnar_memory_core.specs.declared.PhysicalType.TheVariants as physical

-- a number of so many bits, one of them for the sign
abbrev pub is_signed : ℕ → ℤ → Bool
is_signed width (pos n) = nat_lt n (2 ^ (width - 1))
is_signed width (negsuc n) = nat_lt n (2 ^ (width - 1))

-- a number of so many bits without a sign
abbrev pub is_unsigned : ℕ → ℤ → Bool
is_unsigned width (pos n) = nat_lt n (2 ^ width)
is_unsigned width (negsuc n) = false

-- a whole number within the range of its kind; floats, pairs and triples have none
abbrev pub in_kind : PrimitiveType → ℤ → Bool
in_kind kinds.Int8 n = is_signed 8 n
in_kind kinds.Int16 n = is_signed 16 n
in_kind kinds.Int32 n = is_signed 32 n
in_kind kinds.Int64 n = is_signed 64 n
in_kind kinds.Int128 n = is_signed 128 n
in_kind kinds.Int256 n = is_signed 256 n
in_kind kinds.UInt8 n = is_unsigned 8 n
in_kind kinds.UInt16 n = is_unsigned 16 n
in_kind kinds.UInt32 n = is_unsigned 32 n
in_kind kinds.UInt64 n = is_unsigned 64 n
in_kind _ n = false

-- how many whole numbers a value of a kind has, none where it is a float
abbrev pub numbers_of_kind : PrimitiveType → ℕ
numbers_of_kind kinds.Float16 = 0
numbers_of_kind kinds.Float32 = 0
numbers_of_kind kinds.Float64 = 0
numbers_of_kind kinds.DaysMs = 2
numbers_of_kind kinds.MonthDayNano = 3
numbers_of_kind _ = 1

-- the kinds by numbers, each its own
abbrev pub kind_number : PrimitiveType → ℕ
kind_number kinds.Int8 = 0
kind_number kinds.Int16 = 1
kind_number kinds.Int32 = 2
kind_number kinds.Int64 = 3
kind_number kinds.Int128 = 4
kind_number kinds.Int256 = 5
kind_number kinds.UInt8 = 6
kind_number kinds.UInt16 = 7
kind_number kinds.UInt32 = 8
kind_number kinds.UInt64 = 9
kind_number kinds.Float16 = 10
kind_number kinds.Float32 = 11
kind_number kinds.Float64 = 12
kind_number kinds.DaysMs = 13
kind_number kinds.MonthDayNano = 14

abbrev pub same_kind : PrimitiveType → PrimitiveType → Bool
same_kind a b = kind_number a == kind_number b

-- the kind of the numbers of a type that stores one a slot
abbrev pub kind_of : {A B : Type 0} → layer.DataType-F A B → Option PrimitiveType
kind_of layer.Int8 = Some kinds.Int8
kind_of layer.Int16 = Some kinds.Int16
kind_of layer.Int32 = Some kinds.Int32
kind_of layer.Int64 = Some kinds.Int64
kind_of layer.UInt8 = Some kinds.UInt8
kind_of layer.UInt16 = Some kinds.UInt16
kind_of layer.UInt32 = Some kinds.UInt32
kind_of layer.UInt64 = Some kinds.UInt64
kind_of layer.Float16 = Some kinds.Float16
kind_of layer.Float32 = Some kinds.Float32
kind_of layer.Float64 = Some kinds.Float64
kind_of layer.Date32 = Some kinds.Int32
kind_of layer.Date64 = Some kinds.Int64
kind_of (layer.Time32 unit) = Some kinds.Int32
kind_of (layer.Time64 unit) = Some kinds.Int64
kind_of (layer.Timestamp unit timezone) = Some kinds.Int64
kind_of (layer.Duration unit) = Some kinds.Int64
kind_of (layer.Interval intervals.YearMonth) = Some kinds.Int32
kind_of (layer.Interval intervals.DayTime) = Some kinds.DaysMs
kind_of (layer.Interval intervals.MonthDayNano) = Some kinds.MonthDayNano
kind_of (layer.Decimal precision scale) = Some kinds.Int128
kind_of (layer.Decimal256 precision scale) = Some kinds.Int256
kind_of _ = None

-- a key of an integer type
abbrev pub is_key : IntegerType → ℤ → Bool
is_key integers.Int8 n = is_signed 8 n
is_key integers.Int16 n = is_signed 16 n
is_key integers.Int32 n = is_signed 32 n
is_key integers.Int64 n = is_signed 64 n
is_key integers.UInt8 n = is_unsigned 8 n
is_key integers.UInt16 n = is_unsigned 16 n
is_key integers.UInt32 n = is_unsigned 32 n
is_key integers.UInt64 n = is_unsigned 64 n

-- the greatest length of an array
abbrev pub most_slots : ℕ
most_slots = 2 ^ 63 - 1

-- how many values the keys of an integer type tell apart
abbrev pub most_values : IntegerType → ℕ
most_values integers.Int8 = 2 ^ 7
most_values integers.Int16 = 2 ^ 15
most_values integers.Int32 = 2 ^ 31
most_values integers.Int64 = most_slots
most_values integers.UInt8 = 2 ^ 8
most_values integers.UInt16 = 2 ^ 16
most_values integers.UInt32 = 2 ^ 32
most_values integers.UInt64 = most_slots

-- the greatest offset of a layout: 32 bits where it isn't a large one
abbrev pub most_offset : PhysicalType → ℕ
most_offset physical.Binary = 2 ^ 31 - 1
most_offset physical.Utf8 = 2 ^ 31 - 1
most_offset physical.List = 2 ^ 31 - 1
most_offset physical.Map = 2 ^ 31 - 1
most_offset _ = 2 ^ 63 - 1
