-- What the slots of a field's type and of the types' tables give, each by itself (Schema.fbs, union Type and its tables).
use Rattle.std.specs.Prelude.{ℕ, ◌+◌, ◌*◌, ℤ, pos, Bool, true, false, List, Option, Some, None, nat_lt, if◌then◌else◌}
use Rattle.std.specs.Ordering.{int_eq}
use Rattle.std.specs.Int.{w8, w16, w32}
use Rattle.ipc_format_metadata.specs.columnar_memory.declared.TimeUnit.{TimeUnit}
use Rattle.ipc_format_metadata.specs.columnar_memory.declared.UnionMode.{UnionMode}
use Rattle.ipc_format_metadata.specs.columnar_memory.declared.IntervalUnit.{IntervalUnit}
use Rattle.ipc_format_metadata.specs.columnar_memory.declared.IntervalUnit.TheVariants as intervals
use Rattle.ipc_format_metadata.specs.flatbuffers.Reading.{◌>>=◌}
use Rattle.ipc_format_metadata.specs.flatbuffers.FlatBuffers.{number_field, signed_at, signed_field}
use Rattle.ipc_format_metadata.specs.grammar.Types.{Tag, tag_of, mode_of}
use Rattle.ipc_format_metadata.specs.Leaves.{unit_in}
use Rattle.ipc_format_messages.specs.MessageSlots.{TableIn, VectorIn, table_in, vector_in}
use Rattle.ipc_format_messages.specs.SchemaSlots.{text_in, truth_in}
use Rattle.ipc_format_metadata.specs.grammar.SlotNumbers as slots
use Rattle.ipc_format_metadata.specs.grammar.TagNumbers as tags

-- a type: its kind, and its own table
pub record TypeIn : Type 0 where
  pub kind : Tag
  pub table : TableIn

-- the type of a tag, by its table
abbrev pub type_of : ℕ → TableIn → Option TypeIn
type_of number table = do
  kind ← tag_of number
  Some (record { kind = kind; table = table })

abbrev pub type_if : ℕ → Option TableIn → Option (Option TypeIn)
type_if number None = Some None
type_if number (Some table) = do
  found ← type_of number table
  Some (Some found)

-- ---- Field

abbrev pub field_type : TableIn → Option (Option TypeIn)
field_type field = do
  number ← number_field w8 field.bytes field.table slots.field_type_type 0
  table ← table_in field slots.field_type
  type_if number table

-- ---- Decimal

abbrev pub int_in : TableIn → ℕ → ℕ → Option ℤ
int_in from slot absent = signed_field w32 from.bytes from.table slot (pos absent)

abbrev pub decimal_precision : TableIn → Option ℤ
decimal_precision decimal = int_in decimal slots.decimal_precision 0

abbrev pub decimal_scale : TableIn → Option ℤ
decimal_scale decimal = int_in decimal slots.decimal_scale 0

abbrev pub decimal_bit_width : TableIn → Option ℤ
decimal_bit_width decimal = int_in decimal slots.decimal_bit_width 128

-- ---- Date (whether the unit is the day)

abbrev pub is_day_of : ℤ → Option Bool
is_day_of number =
    if int_eq number (pos tags.date_day) then Some true else if int_eq number (pos tags.date_millisecond) then Some false else None

abbrev pub date_is_day : TableIn → Option Bool
date_is_day date = do
  number ← signed_field w16 date.bytes date.table slots.date_unit (pos 1)
  is_day_of number

-- ---- Time

abbrev pub time_unit : TableIn → Option TimeUnit
time_unit time = unit_in time.bytes time.table 1

abbrev pub time_bit_width : TableIn → Option ℤ
time_bit_width time = int_in time slots.time_bit_width 32

-- ---- Timestamp

abbrev pub timestamp_unit : TableIn → Option TimeUnit
timestamp_unit timestamp = unit_in timestamp.bytes timestamp.table 0

abbrev pub timestamp_timezone : TableIn → Option (Option (List ℕ))
timestamp_timezone timestamp = text_in timestamp slots.timestamp_timezone

-- ---- Interval

abbrev pub interval_unit_of : ℤ → Option IntervalUnit
interval_unit_of number =
    if int_eq number (pos tags.year_month) then Some intervals.YearMonth else
    if int_eq number (pos tags.day_time) then Some intervals.DayTime else
    if int_eq number (pos tags.month_day_nano) then Some intervals.MonthDayNano else None

abbrev pub interval_unit : TableIn → Option IntervalUnit
interval_unit interval = do
  number ← signed_field w16 interval.bytes interval.table slots.interval_unit (pos 0)
  interval_unit_of number

-- ---- Union

abbrev pub union_mode : TableIn → Option UnionMode
union_mode union = do
  number ← signed_field w16 union.bytes union.table slots.union_mode (pos 0)
  mode_of number

abbrev pub union_type_ids : TableIn → Option (Option VectorIn)
union_type_ids union = vector_in union slots.union_type_ids slots.id_size

-- number k of a vector of them, where there are so many
unfoldable pub number_at : VectorIn → ℕ → Option ℤ
number_at from k = if nat_lt k from.vector.count then signed_at w32 from.bytes (from.vector.place + slots.id_size * k) else None

-- ---- FixedSizeBinary and FixedSizeList, whose sizes have one slot

abbrev pub fixed_size : TableIn → Option ℤ
fixed_size from = int_in from slots.fixed_size_list_list_size 0

-- ---- Map

abbrev pub map_keys_sorted : TableIn → Option Bool
map_keys_sorted map = truth_in map slots.map_keys_sorted

-- ---- Duration

abbrev pub duration_unit : TableIn → Option TimeUnit
duration_unit duration = unit_in duration.bytes duration.table 1
