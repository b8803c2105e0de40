-- The pairs and types that stand in metadata, by the tables of its message (Schema.fbs). Each part is what its slot gives; there is nothing
-- where a slot gives nothing.
use Rattle.std.specs.Prelude.{ℕ, zero, suc, ◌+◌, ℤ, pos, Bool, true, false, List, [], ◌∷◌, ◌++◌, Option, Some, None, if◌then◌else◌}
use Rattle.std.specs.Ordering.{int_eq}
use Rattle.std.specs.Int.{w16}
use Rattle.ipc_format_writing.specs.flatbuffers.Reading.{◌>>=◌}
use Rattle.ipc_format_writing.specs.flatbuffers.FlatBuffers.{signed_field}
use Rattle.ipc_format_writing.specs.grammar.TagNumbers as tags
use Rattle.ipc_format_writing.specs.grammar.Types as kind
use Rattle.ipc_format_writing.specs.grammar.Types.{Tag}
use Rattle.ipc_format_writing.specs.messages.MessageSlots.{TableIn, VectorIn}
use Rattle.ipc_format_writing.specs.messages.SchemaSlots as schema
use Rattle.ipc_format_writing.specs.messages.TypeSlots as type_slots
use Rattle.ipc_format_writing.specs.messages.TypeSlots.{TypeIn}
use Rattle.ipc_format_writing.specs.messages.declared.DateUnit.{DateUnit}
use Rattle.ipc_format_writing.specs.messages.declared.DateUnit.TheVariants.{Day, Millisecond}
use Rattle.ipc_format_values.specs.declared.fields.KeyValue.{KeyValue}
use Rattle.ipc_format_values.specs.declared.fields.Int.{Int}
use Rattle.ipc_format_values.specs.declared.types.Precision.{Precision}
use Rattle.ipc_format_values.specs.declared.types.Precision.TheVariants as precisions
use Rattle.ipc_format_values.specs.declared.types.Type_.{Type_}
use Rattle.ipc_format_values.specs.declared.types.Type_.TheVariants as types

-- ---- lists

-- What stands at n places from the k-th on, one after another. A place has some, or breaks a rule.
abbrev pub gathered : {A : Type 0} → (ℕ → Option (List A)) → ℕ → ℕ → Option (List A)
gathered read zero k = Some []
gathered read (suc n) k = do
  here ← read k
  others ← gathered read n (k + 1)
  Some (here ++ others)

-- table k of a vector
abbrev pub table_at : VectorIn → ℕ → Option TableIn
table_at from k = do
  found ← schema.element_in from k
  found

-- ---- pairs of custom metadata

-- a pair that has a key and a value
abbrev pub pair_if : Option (List ℕ) → Option (List ℕ) → Option KeyValue
pair_if (Some key) (Some value) = Some (record { key = key; value = value })
pair_if (Some key) None = None
pair_if None value = None

abbrev pub pair_in : TableIn → Option (Option KeyValue)
pair_in pair = do
  key ← schema.pair_key pair
  value ← schema.pair_value pair
  Some (pair_if key value)

abbrev pub key_value_in : TableIn → Option KeyValue
key_value_in pair = do
  found ← pair_in pair
  found

-- one that lacks either is dropped
abbrev pub kept : Option KeyValue → List KeyValue
kept (Some pair) = pair ∷ []
kept None = []

abbrev pub kept_at : VectorIn → ℕ → Option (List KeyValue)
kept_at pairs k = do
  table ← table_at pairs k
  found ← pair_in table
  Some (kept found)

abbrev pub pairs_of : VectorIn → Option (List KeyValue)
pairs_of pairs = gathered (kept_at pairs) pairs.vector.count 0

abbrev pub pairs_in : Option VectorIn → Option (List KeyValue)
pairs_in None = Some []
pairs_in (Some pairs) = pairs_of pairs

-- ---- types

abbrev pub int_in : TableIn → Option Int
int_in int = do
  bit_width ← schema.int_bit_width int
  is_signed ← schema.int_is_signed int
  Some (record { bit_width = bit_width; is_signed = is_signed })

abbrev pub precision_of : ℤ → Option Precision
precision_of number =
    if int_eq number (pos tags.half) then Some precisions.Half else if int_eq number (pos tags.single) then Some precisions.Single else
    if int_eq number (pos tags.double) then Some precisions.Double else None

-- the slot of FloatingPoint
abbrev pub floating_point_precision : ℕ
floating_point_precision = 0

abbrev pub floating_point_in : TableIn → Option Type_
floating_point_in table = do
  number ← signed_field w16 table.bytes table.table floating_point_precision (pos 0)
  precision ← precision_of number
  Some (types.FloatingPoint precision)

abbrev pub decimal_in : TableIn → Option Type_
decimal_in table = do
  precision ← type_slots.decimal_precision table
  scale ← type_slots.decimal_scale table
  bit_width ← type_slots.decimal_bit_width table
  Some (types.Decimal precision scale bit_width)

abbrev pub date_unit_of : Bool → DateUnit
date_unit_of true = Day
date_unit_of false = Millisecond

abbrev pub date_in : TableIn → Option Type_
date_in table = do
  is_day ← type_slots.date_is_day table
  Some (types.Date (date_unit_of is_day))

abbrev pub time_in : TableIn → Option Type_
time_in table = do
  unit ← type_slots.time_unit table
  bit_width ← type_slots.time_bit_width table
  Some (types.Time unit bit_width)

abbrev pub timestamp_in : TableIn → Option Type_
timestamp_in table = do
  unit ← type_slots.timestamp_unit table
  timezone ← type_slots.timestamp_timezone table
  Some (types.Timestamp unit timezone)

-- number k of a vector of them, alone
abbrev pub one_number_at : VectorIn → ℕ → Option (List ℤ)
one_number_at from k = do
  number ← type_slots.number_at from k
  Some (number ∷ [])

abbrev pub numbers_of : VectorIn → Option (List ℤ)
numbers_of from = gathered (one_number_at from) from.vector.count 0

abbrev pub numbers_in : Option VectorIn → Option (Option (List ℤ))
numbers_in None = Some None
numbers_in (Some from) = do
  numbers ← numbers_of from
  Some (Some numbers)

abbrev pub union_in : TableIn → Option Type_
union_in table = do
  mode ← type_slots.union_mode table
  vector ← type_slots.union_type_ids table
  type_ids ← numbers_in vector
  Some (types.Union mode type_ids)

-- the type of a kind, by its own table
abbrev pub type_of_kind : Tag → TableIn → Option Type_
type_of_kind kind.null table = Some types.Null
type_of_kind kind.int table = do
  int ← int_in table
  Some (types.Int int)
type_of_kind kind.floating_point table = floating_point_in table
type_of_kind kind.binary table = Some types.Binary
type_of_kind kind.utf8 table = Some types.Utf8
type_of_kind kind.bool table = Some types.Bool
type_of_kind kind.decimal table = decimal_in table
type_of_kind kind.date table = date_in table
type_of_kind kind.time table = time_in table
type_of_kind kind.timestamp table = timestamp_in table
type_of_kind kind.interval table = do
  unit ← type_slots.interval_unit table
  Some (types.Interval unit)
type_of_kind kind.list table = Some types.List
type_of_kind kind.struct table = Some types.Struct
type_of_kind kind.union table = union_in table
type_of_kind kind.fixed_size_binary table = do
  byte_width ← type_slots.fixed_size table
  Some (types.FixedSizeBinary byte_width)
type_of_kind kind.fixed_size_list table = do
  list_size ← type_slots.fixed_size table
  Some (types.FixedSizeList list_size)
type_of_kind kind.map table = do
  keys_sorted ← type_slots.map_keys_sorted table
  Some (types.Map keys_sorted)
type_of_kind kind.duration table = do
  unit ← type_slots.duration_unit table
  Some (types.Duration unit)
type_of_kind kind.large_binary table = Some types.LargeBinary
type_of_kind kind.large_utf8 table = Some types.LargeUtf8
type_of_kind kind.large_list table = Some types.LargeList

abbrev pub type_in : TypeIn → Option Type_
type_in type_ = type_of_kind type_.kind type_.table

-- whether a type takes no memory
abbrev pub is_plain : Tag → Bool
is_plain kind.timestamp = false
is_plain kind.union = false
is_plain _ = true
