-- Which values fit a type (Arrow columnar format, "Data Types").
use Rattle.std.specs.Prelude.{ℕ, Bool, true, false, ◌&&◌, ◌==◌, List, [], ◌∷◌, length}
use Rattle.std.specs.List.{list_all}
use Rattle.std.specs.Str.{is_utf8}
use Rattle.columnar_memory_core.specs.declared.DataType.{DataType}
use Rattle.columnar_memory_core.specs.declared.DataType.TheOpen as layer
use Rattle.columnar_memory_core.specs.declared.DataType.TheFolds.{fold-DataType}
use Rattle.columnar_memory_core.specs.declared.IntervalUnit.{IntervalUnit}
use Rattle.columnar_memory_core.specs.declared.IntervalUnit.TheVariants as intervals
use Rattle.columnar_memory_core.specs.declared.PrimitiveType.{PrimitiveType}
use Rattle.columnar_memory_core.specs.declared.PrimitiveType.TheVariants as kinds
use Rattle.nested_arrays_columns.specs.Kinds.{is_signed, in_kind, same_kind}
use Rattle.nested_arrays_columns.specs.SoundColumns.{is_byte}
use Rattle.nested_arrays_columns.specs.Slots.{Slot, Slots, null, truth, number, pair, triple, text, bytes, items, fields, no_slot, slot_then, slot_list}

-- each test holds of null: it fits every type
abbrev pub is_null : Slot → Bool
is_null null = true
is_null _ = false

abbrev pub is_truth : Slot → Bool
is_truth null = true
is_truth (truth b) = true
is_truth _ = false

-- a whole number of a kind, within its range
abbrev pub is_number_of : PrimitiveType → Slot → Bool
is_number_of kind null = true
is_number_of kind (number own n) = same_kind kind own && in_kind own n
is_number_of kind _ = false

-- days and milliseconds, of 32 bits each
abbrev pub is_days_and_ms : Slot → Bool
is_days_and_ms null = true
is_days_and_ms (pair own days ms) = same_kind kinds.DaysMs own && is_signed 32 days && is_signed 32 ms
is_days_and_ms _ = false

-- months and days of 32 bits, and nanoseconds of 64
abbrev pub is_months_days_and_ns : Slot → Bool
is_months_days_and_ns null = true
is_months_days_and_ns (triple own months days ns) = same_kind kinds.MonthDayNano own && is_signed 32 months && is_signed 32 days && is_signed 64 ns
is_months_days_and_ns _ = false

abbrev pub is_interval : IntervalUnit → Slot → Bool
is_interval intervals.YearMonth = is_number_of kinds.Int32
is_interval intervals.DayTime = is_days_and_ms
is_interval intervals.MonthDayNano = is_months_days_and_ns

-- a text in UTF-8
abbrev pub is_text : Slot → Bool
is_text null = true
is_text (text content) = is_utf8 content
is_text _ = false

abbrev pub is_bytes : Slot → Bool
is_bytes null = true
is_bytes (bytes content) = list_all is_byte content
is_bytes _ = false

-- bytes of exactly one size
abbrev pub is_bytes_of : ℕ → Slot → Bool
is_bytes_of size null = true
is_bytes_of size (bytes content) = (length content == size) && list_all is_byte content
is_bytes_of size _ = false

-- a list whose items fit
abbrev pub is_list_of : (Slot → Bool) → Slot → Bool
is_list_of fits_item null = true
is_list_of fits_item (items slots) = list_all fits_item (slot_list slots)
is_list_of fits_item _ = false

-- a list of exactly one length whose items fit
abbrev pub is_list_of_size : ℕ → (Slot → Bool) → Slot → Bool
is_list_of_size size fits_item null = true
is_list_of_size size fits_item (items slots) = (length (slot_list slots) == size) && list_all fits_item (slot_list slots)
is_list_of_size size fits_item _ = false

-- as many slots as tests, each fitting its own
abbrev pub fit_each : List (Slot → Bool) → Slots → Bool
fit_each [] no_slot = true
fit_each (test ∷ tests) (slot_then slot slots) = test slot && fit_each tests slots
fit_each _ _ = false

abbrev pub is_record_of : List (Slot → Bool) → Slot → Bool
is_record_of tests null = true
is_record_of tests (fields slots) = fit_each tests slots
is_record_of tests _ = false

-- One layer of a type, where each type below stands as its test: the kind is the type's, a fixed size is met exactly, items and fields fit
-- the types of the children, a dictionary or extension takes what its inner type takes. Only null fits a map, a union or a float.
abbrev pub fits_step : layer.DataType-F (Slot → Bool) (Slot → Bool) → Slot → Bool
fits_step layer.Boolean = is_truth
fits_step layer.Int8 = is_number_of kinds.Int8
fits_step layer.Int16 = is_number_of kinds.Int16
fits_step layer.Int32 = is_number_of kinds.Int32
fits_step layer.Int64 = is_number_of kinds.Int64
fits_step layer.UInt8 = is_number_of kinds.UInt8
fits_step layer.UInt16 = is_number_of kinds.UInt16
fits_step layer.UInt32 = is_number_of kinds.UInt32
fits_step layer.UInt64 = is_number_of kinds.UInt64
fits_step (layer.Timestamp unit timezone) = is_number_of kinds.Int64
fits_step layer.Date32 = is_number_of kinds.Int32
fits_step layer.Date64 = is_number_of kinds.Int64
fits_step (layer.Time32 unit) = is_number_of kinds.Int32
fits_step (layer.Time64 unit) = is_number_of kinds.Int64
fits_step (layer.Duration unit) = is_number_of kinds.Int64
fits_step (layer.Interval unit) = is_interval unit
fits_step (layer.Decimal precision scale) = is_number_of kinds.Int128
fits_step (layer.Decimal256 precision scale) = is_number_of kinds.Int256
fits_step layer.Utf8 = is_text
fits_step layer.LargeUtf8 = is_text
fits_step layer.Binary = is_bytes
fits_step layer.LargeBinary = is_bytes
fits_step (layer.FixedSizeBinary size) = is_bytes_of size
fits_step (layer.List item) = is_list_of item
fits_step (layer.LargeList item) = is_list_of item
fits_step (layer.FixedSizeList item size) = is_list_of_size size item
fits_step (layer.Struct children) = is_record_of children
fits_step (layer.Dictionary key value is_ordered) = value
fits_step (layer.Extension name inner metadata) = inner
fits_step _ = is_null

-- whether a slot fits a type
abbrev pub fits_cell : DataType → Slot → Bool
fits_cell = fold-DataType (Slot → Bool) (Slot → Bool) fits_step (λ field. field.data_type)
