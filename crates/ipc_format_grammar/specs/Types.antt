-- The types of columns in metadata (Schema.fbs, union Type and its tables).
use Rattle.std.specs.Prelude.{ℕ, zero, suc, ◌+◌, ◌==◌, ℤ, pos, Bool, true, false, List, [], ◌∷◌, Option, Some, None, if◌then◌else◌}
use Rattle.std.specs.Ordering.{int_eq}
use Rattle.std.specs.Int.{w16, w32}
use Rattle.ipc_format_flatbuffers.specs.Reading.{◌>>=◌}
use Rattle.ipc_format_flatbuffers.specs.FlatBuffers.{TablePlace, Vector, signed_field, truth_field, signed_at, string_field, vector_field}
use Rattle.nested_arrays_columns.specs.columnar_memory.declared.DataType.{DataType}
use Rattle.nested_arrays_columns.specs.columnar_memory.declared.DataType.TheVariants as types
use Rattle.nested_arrays_columns.specs.columnar_memory.declared.TimeUnit.{TimeUnit}
use Rattle.nested_arrays_columns.specs.columnar_memory.declared.TimeUnit.TheVariants as units
use Rattle.nested_arrays_columns.specs.columnar_memory.declared.IntervalUnit.TheVariants as intervals
use Rattle.nested_arrays_columns.specs.columnar_memory.declared.IntegerType.{IntegerType}
use Rattle.nested_arrays_columns.specs.columnar_memory.declared.IntegerType.TheVariants as integers
use Rattle.nested_arrays_columns.specs.columnar_memory.declared.UnionMode.{UnionMode}
use Rattle.nested_arrays_columns.specs.columnar_memory.declared.UnionMode.TheVariants as modes
use Rattle.ipc_format_grammar.specs.Messages.{natural}
use Rattle.ipc_format_grammar.specs.SlotNumbers as slots
use Rattle.ipc_format_grammar.specs.TagNumbers as tags

-- the tags of the union Type
pub data Tag : Type 0 where
  null : Tag
  int : Tag
  floating_point : Tag
  binary : Tag
  utf8 : Tag
  bool : Tag
  decimal : Tag
  date : Tag
  time : Tag
  timestamp : Tag
  interval : Tag
  list : Tag
  struct : Tag
  union : Tag
  fixed_size_binary : Tag
  fixed_size_list : Tag
  map : Tag
  duration : Tag
  large_binary : Tag
  large_utf8 : Tag
  large_list : Tag

-- the tags by their numbers; another number is no type
abbrev pub tag_of : ℕ → Option Tag
tag_of number =
    if number == tags.null then Some null else
    if number == tags.int then Some int else
    if number == tags.floating_point then Some floating_point else
    if number == tags.binary then Some binary else
    if number == tags.utf8 then Some utf8 else
    if number == tags.bool then Some bool else
    if number == tags.decimal then Some decimal else
    if number == tags.date then Some date else
    if number == tags.time then Some time else
    if number == tags.timestamp then Some timestamp else
    if number == tags.interval then Some interval else
    if number == tags.list then Some list else
    if number == tags.struct then Some struct else
    if number == tags.union then Some union else
    if number == tags.fixed_size_binary then Some fixed_size_binary else
    if number == tags.fixed_size_list then Some fixed_size_list else
    if number == tags.map then Some map else
    if number == tags.duration then Some duration else
    if number == tags.large_binary then Some large_binary else
    if number == tags.large_utf8 then Some large_utf8 else
    if number == tags.large_list then Some large_list else None

-- the units of time by their numbers
abbrev pub time_unit_of : ℤ → Option TimeUnit
time_unit_of number =
    if int_eq number (pos tags.second) then Some units.Second else if int_eq number (pos tags.millisecond) then Some units.Millisecond else
    if int_eq number (pos tags.microsecond) then Some units.Microsecond else
    if int_eq number (pos tags.nanosecond) then Some units.Nanosecond else None

-- the whole numbers by their bits, signed and unsigned
abbrev pub signed_of : ℤ → Option IntegerType
signed_of bits =
    if int_eq bits (pos 8) then Some integers.Int8 else if int_eq bits (pos 16) then Some integers.Int16 else
    if int_eq bits (pos 32) then Some integers.Int32 else if int_eq bits (pos 64) then Some integers.Int64 else None

abbrev pub unsigned_of : ℤ → Option IntegerType
unsigned_of bits =
    if int_eq bits (pos 8) then Some integers.UInt8 else if int_eq bits (pos 16) then Some integers.UInt16 else
    if int_eq bits (pos 32) then Some integers.UInt32 else if int_eq bits (pos 64) then Some integers.UInt64 else None

abbrev pub integer_of : ℤ → Bool → Option IntegerType
integer_of bits true = signed_of bits
integer_of bits false = unsigned_of bits

-- an Int table: how many bits, and whether signed
unfoldable pub integer_in : List ℕ → TablePlace → Option IntegerType
integer_in bytes table = do
  bits ← signed_field w32 bytes table slots.int_bit_width (pos 0)
  is_signed ← truth_field bytes table slots.int_is_signed
  integer_of bits is_signed

-- the type of a column of whole numbers
abbrev pub type_of_integer : IntegerType → DataType
type_of_integer integers.Int8 = types.Int8
type_of_integer integers.Int16 = types.Int16
type_of_integer integers.Int32 = types.Int32
type_of_integer integers.Int64 = types.Int64
type_of_integer integers.UInt8 = types.UInt8
type_of_integer integers.UInt16 = types.UInt16
type_of_integer integers.UInt32 = types.UInt32
type_of_integer integers.UInt64 = types.UInt64

-- a number of bytes or items, from 1 on
abbrev pub size_of : ℤ → Option ℕ
size_of (pos (suc n)) = Some (suc n)
size_of _ = None

-- decimals of 128 and 256 bits
abbrev pub decimal_of : ℤ → ℕ → ℕ → Option DataType
decimal_of bits precision scale =
    if int_eq bits (pos 128) then Some (types.Decimal precision scale) else
    if int_eq bits (pos 256) then Some (types.Decimal256 precision scale) else None

unfoldable pub decimal_in : List ℕ → TablePlace → Option DataType
decimal_in bytes table = do
  stated_precision ← signed_field w32 bytes table slots.decimal_precision (pos 0)
  precision ← natural stated_precision
  stated_scale ← signed_field w32 bytes table slots.decimal_scale (pos 0)
  scale ← natural stated_scale
  bits ← signed_field w32 bytes table slots.decimal_bit_width (pos 128)
  decimal_of bits precision scale

-- dates by their unit: days or milliseconds
abbrev pub date_of : ℤ → Option DataType
date_of number =
    if int_eq number (pos tags.date_day) then Some types.Date32 else if int_eq number (pos tags.date_millisecond) then Some types.Date64 else
    None

-- the time of a day: seconds and milliseconds in 32 bits, microseconds and nanoseconds in 64
abbrev pub short_time_of : TimeUnit → Option DataType
short_time_of units.Second = Some (types.Time32 units.Second)
short_time_of units.Millisecond = Some (types.Time32 units.Millisecond)
short_time_of _ = None

abbrev pub long_time_of : TimeUnit → Option DataType
long_time_of units.Microsecond = Some (types.Time64 units.Microsecond)
long_time_of units.Nanosecond = Some (types.Time64 units.Nanosecond)
long_time_of _ = None

abbrev pub time_of : ℤ → TimeUnit → Option DataType
time_of bits unit =
    if int_eq bits (pos 32) then short_time_of unit else if int_eq bits (pos 64) then long_time_of unit else None

unfoldable pub time_in : List ℕ → TablePlace → Option DataType
time_in bytes table = do
  number ← signed_field w16 bytes table slots.time_unit (pos 1)
  unit ← time_unit_of number
  bits ← signed_field w32 bytes table slots.time_bit_width (pos 32)
  time_of bits unit

unfoldable pub timestamp_in : List ℕ → TablePlace → Option DataType
timestamp_in bytes table = do
  number ← signed_field w16 bytes table slots.timestamp_unit (pos 0)
  unit ← time_unit_of number
  timezone ← string_field bytes table slots.timestamp_timezone
  Some (types.Timestamp unit timezone)

-- intervals by their unit
abbrev pub interval_of : ℤ → Option DataType
interval_of number =
    if int_eq number (pos tags.year_month) then Some (types.Interval intervals.YearMonth) else
    if int_eq number (pos tags.day_time) then Some (types.Interval intervals.DayTime) else
    if int_eq number (pos tags.month_day_nano) then Some (types.Interval intervals.MonthDayNano) else None

-- unions by their mode
abbrev pub mode_of : ℤ → Option UnionMode
mode_of number =
    if int_eq number (pos tags.sparse) then Some modes.Sparse else if int_eq number (pos tags.dense) then Some modes.Dense else None

-- n signed numbers of four bytes from a place on
abbrev pub numbers_from : List ℕ → ℕ → ℕ → Option (List ℤ)
numbers_from bytes place zero = Some []
numbers_from bytes place (suc n) = do
  first ← signed_at w32 bytes place
  others ← numbers_from bytes (place + slots.id_size) n
  Some (first ∷ others)

abbrev pub numbers_of : List ℕ → Option Vector → Option (Option (List ℤ))
numbers_of bytes None = Some None
numbers_of bytes (Some vector) = do
  numbers ← numbers_from bytes vector.place vector.count
  Some (Some numbers)

-- a union's mode, and the ids of its children where they are given
pub record UnionTable : Type 0 where
  pub mode : UnionMode
  pub ids : Option (List ℤ)

unfoldable pub union_in : List ℕ → TablePlace → Option UnionTable
union_in bytes table = do
  number ← signed_field w16 bytes table slots.union_mode (pos 0)
  mode ← mode_of number
  vector ← vector_field bytes table slots.union_type_ids slots.id_size
  ids ← numbers_of bytes vector
  Some (record { mode = mode; ids = ids })
