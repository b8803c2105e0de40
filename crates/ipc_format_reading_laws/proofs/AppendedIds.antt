-- The ids that are read beside a schema's fields fit them, and are signed numbers of eight bytes.
use Rattle.std.proofs.Common.{◌≡◌, ◌∙◌, ℕ, zero, suc, ◌+◌, ◌-◌, ◌^◌, ℤ, pos, negsuc, Bool, true, false, ◌&&◌, List, [], ◌∷◌, length, map}
use Rattle.std.proofs.Common.{refl, sym, ap, arith, nat_le, nat_lt}
use Rattle.std.specs.Prelude.{Option, Some, None}
use Rattle.std.specs.Ordering.{int_eq}
use Rattle.std.specs.Int.{w8, w16, w32, w64, cast_signed}
use Rattle.std.proofs.lemmas.Bool.{and_from, and_parts, lt-ltb, ltb-false}
use mir.Val.{sel}
use denote.Hole.Carrier
use Rattle.ipc_format_laws.specs.flatbuffers.Reading.{◌>>=◌, guard}
use Rattle.ipc_format_laws.specs.flatbuffers.FlatBuffers.{TablePlace, Vector, number_field, signed_field, truth_field, table_field, vector_field}
use Rattle.ipc_format_laws.specs.flatbuffers.FlatBuffers.{string_field}
use Rattle.ipc_format_laws.specs.flatbuffers.FlatBuffers.{element_at, field_at, number_at, signed_at, or_default}
use Rattle.ipc_format_laws.specs.columnar_memory.declared.DataType.{DataType}
use Rattle.ipc_format_laws.specs.columnar_memory.declared.DataType.TheOpen as layer
use Rattle.ipc_format_laws.specs.columnar_memory.declared.DataType.TheVariants as types
use Rattle.ipc_format_laws.specs.columnar_memory.declared.DataType.TheViews.{roll-DataType}
use Rattle.ipc_format_laws.specs.columnar_memory.declared.IntegerType.{IntegerType}
use Rattle.ipc_format_laws.specs.columnar_memory.declared.IntegerType.TheVariants as integers
use Rattle.ipc_format_laws.specs.columnar_memory.declared.IntervalUnit.TheVariants as intervals
use Rattle.ipc_format_laws.specs.columnar_memory.declared.TimeUnit.{TimeUnit}
use Rattle.ipc_format_laws.specs.columnar_memory.declared.TimeUnit.TheVariants as units
use Rattle.ipc_format_laws.specs.columns.Kinds.{is_signed}
use Rattle.ipc_format_laws.specs.grammar.Messages.{natural}
use Rattle.ipc_format_laws.specs.grammar.Types as kind
use Rattle.ipc_format_laws.specs.grammar.Types.{Tag, tag_of, integer_in, type_of_integer, size_of, decimal_in, date_of, time_in}
use Rattle.ipc_format_laws.specs.grammar.Types.{short_time_of, long_time_of, timestamp_in, interval_of, time_unit_of, union_in}
use Rattle.ipc_format_laws.specs.grammar.Schemas.{Ids, IdsList, ids, no_ids, ids_then, FieldIn, TypeIn, SchemaIn, EncodedType, ids_of, fields_of}
use Rattle.ipc_format_laws.specs.grammar.Schemas.{visit}
use Rattle.ipc_format_laws.specs.grammar.Schemas.{each_of, child_in, children_in, type_in}
use Rattle.ipc_format_laws.specs.grammar.Schemas.{metadata_in, extended, extended_by, extension_name_key, extension_metadata_key, encoded_by, field_in}
use Rattle.ipc_format_laws.specs.grammar.Schemas.{any_schema_in, is_little_of}
use Rattle.ipc_format_laws.specs.grammar.SchemaGrammar.{schema_in}
use Rattle.ipc_format_laws.specs.grammar.Writable.{is_writable}
use Rattle.ipc_format_laws.specs.grammar.Ids.{Fitting, fit_each, fit_step, ids_fit, ids_fit_fields, is_id, are_ids, all_are_ids}
use Rattle.ipc_format_laws.specs.columnar_memory.Pairs.{value_at}
use Rattle.ipc_format_laws.proofs.Given.{Gives, then_gives, each_gives, either_gives, was_given}
use Rattle.ipc_format_reading_laws.proofs.NormalColumnsLayers.{Layer}
use Rattle.ipc_format_reading_laws.proofs.StoredGivenFolds.{foldf, at_layer, fold_field, fold_roll}

-- ---- a signed number of eight bytes

signed_by : (n : ℕ) (test : Bool) → nat_lt n (2 ^ 63) ≡ test → is_signed 64 (sel test (pos n) (negsuc (2 ^ 64 - suc n))) ≡ true
signed_by n true is = is
signed_by n false is = lt-ltb (2 ^ 64 - suc n) (2 ^ 63) (omega (arith, ltb-false n (2 ^ 63) is))

in_range : (n : ℕ) → is_signed 64 (cast_signed w64 n) ≡ true
in_range n = signed_by n (nat_lt n (2 ^ 63)) refl

abbrev IsSigned : ℤ → Type 0
IsSigned z = is_signed 64 z ≡ true

signed_gives : (bytes : List ℕ) (place : ℕ) → Gives IsSigned (signed_at w64 bytes place)
unfolding signed_at
signed_gives bytes place = each_gives IsSigned (number_at w64 bytes place) _ (λ n. in_range n)

field_by : (bytes : List ℕ) (field : Option ℕ) → Gives IsSigned (or_default (pos 0) (signed_at w64 bytes) field)
field_by bytes None = refl
field_by bytes (Some place) = signed_gives bytes place

field_gives_signed : (bytes : List ℕ) (table : TablePlace) (slot : ℕ) → Gives IsSigned (signed_field w64 bytes table slot (pos 0))
unfolding signed_field
field_gives_signed bytes table slot = each_gives IsSigned (field_at bytes table slot 8) _ (λ field. field_by bytes field)

-- ---- the ids of a type and of a field

abbrev FitsType : DataType → IdsList → Type 0
FitsType t below = (ids_fit t (ids None below) ≡ true) × (all_are_ids below ≡ true)

abbrev FitsPlain : DataType → Type 0
FitsPlain t = FitsType t no_ids

abbrev TypeFits : TypeIn × ℕ → Type 0
TypeFits found = FitsType found.0.data_type found.0.below

abbrev FieldFits : FieldIn × ℕ → Type 0
FieldFits found = (foldf fit_step found.0.field found.0.ids ≡ true) × (are_ids found.0.ids ≡ true)

abbrev FieldsFit : List FieldIn × ℕ → Type 0
FieldsFit found = (fit_each (map (foldf fit_step) (fields_of found.0)) (ids_of found.0) ≡ true) × (all_are_ids (ids_of found.0) ≡ true)

fits_layer : (x : Layer) (here : Ids) → at_layer fit_step x here ≡ true → ids_fit (roll-DataType x) here ≡ true
fits_layer x here h = ap (λ (fits : Fitting). fits here) (fold_roll fit_step x) ∙ h

at_roll : (x : Layer) → at_layer fit_step x (ids None no_ids) ≡ true → FitsPlain (roll-DataType x)
at_roll x h = (fits_layer x (ids None no_ids) h, refl)

over_roll : (x : Layer) (below : IdsList) → at_layer fit_step x (ids None below) ≡ true → all_are_ids below ≡ true → FitsType (roll-DataType x) below
over_roll x below h k = (fits_layer x (ids None below) h, k)

-- a layer over one field
abbrev one_id : FieldIn → IdsList
one_id found = ids_then found.ids no_ids

one_fits : (found : FieldIn × ℕ) → FieldFits found → (foldf fit_step found.0.field found.0.ids && true) ≡ true
one_fits found h = and_from (foldf fit_step found.0.field found.0.ids) true h.0 refl

one_signed : (found : FieldIn × ℕ) → FieldFits found → all_are_ids (one_id found.0) ≡ true
one_signed found h = and_from (are_ids found.0.ids) true h.1 refl

-- ---- types without fields below them

integer_fits : (integer : IntegerType) → FitsPlain (type_of_integer integer)
unfolding roll-DataType denote.Hole.Carrier.roll
integer_fits integers.Int8 = at_roll layer.Int8 refl
integer_fits integers.Int16 = at_roll layer.Int16 refl
integer_fits integers.Int32 = at_roll layer.Int32 refl
integer_fits integers.Int64 = at_roll layer.Int64 refl
integer_fits integers.UInt8 = at_roll layer.UInt8 refl
integer_fits integers.UInt16 = at_roll layer.UInt16 refl
integer_fits integers.UInt32 = at_roll layer.UInt32 refl
integer_fits integers.UInt64 = at_roll layer.UInt64 refl

decimal_gives : (bytes : List ℕ) (table : TablePlace) → Gives FitsPlain (decimal_in bytes table)
unfolding decimal_in roll-DataType denote.Hole.Carrier.roll
decimal_gives bytes table =
    each_gives FitsPlain (signed_field w32 bytes table 0 (pos 0)) _ (λ stated_precision.
    each_gives FitsPlain (natural stated_precision) _ (λ precision.
    each_gives FitsPlain (signed_field w32 bytes table 1 (pos 0)) _ (λ stated_scale.
    each_gives FitsPlain (natural stated_scale) _ (λ scale.
    each_gives FitsPlain (signed_field w32 bytes table 2 (pos 128)) _ (λ bits.
    either_gives FitsPlain (int_eq bits (pos 128)) (Some (types.Decimal precision scale)) _ (at_roll (layer.Decimal precision scale) refl)
    (either_gives FitsPlain (int_eq bits (pos 256)) (Some (types.Decimal256 precision scale)) None
    (at_roll (layer.Decimal256 precision scale) refl) tt))))))

date_gives : (unit : ℤ) → Gives FitsPlain (date_of unit)
unfolding roll-DataType denote.Hole.Carrier.roll
date_gives unit =
    either_gives FitsPlain (int_eq unit (pos 0)) (Some types.Date32) _ (at_roll layer.Date32 refl)
    (either_gives FitsPlain (int_eq unit (pos 1)) (Some types.Date64) None (at_roll layer.Date64 refl) tt)

short_gives : (unit : TimeUnit) → Gives FitsPlain (short_time_of unit)
unfolding roll-DataType denote.Hole.Carrier.roll
short_gives units.Second = at_roll (layer.Time32 units.Second) refl
short_gives units.Millisecond = at_roll (layer.Time32 units.Millisecond) refl
short_gives _ = tt

long_gives : (unit : TimeUnit) → Gives FitsPlain (long_time_of unit)
unfolding roll-DataType denote.Hole.Carrier.roll
long_gives units.Microsecond = at_roll (layer.Time64 units.Microsecond) refl
long_gives units.Nanosecond = at_roll (layer.Time64 units.Nanosecond) refl
long_gives _ = tt

time_gives : (bytes : List ℕ) (table : TablePlace) → Gives FitsPlain (time_in bytes table)
unfolding time_in
time_gives bytes table =
    each_gives FitsPlain (signed_field w16 bytes table 0 (pos 1)) _ (λ number.
    each_gives FitsPlain (time_unit_of number) _ (λ unit.
    each_gives FitsPlain (signed_field w32 bytes table 1 (pos 32)) _ (λ bits.
    either_gives FitsPlain (int_eq bits (pos 32)) (short_time_of unit) _ (short_gives unit)
    (either_gives FitsPlain (int_eq bits (pos 64)) (long_time_of unit) None (long_gives unit) tt))))

timestamp_gives : (bytes : List ℕ) (table : TablePlace) → Gives FitsPlain (timestamp_in bytes table)
unfolding timestamp_in roll-DataType denote.Hole.Carrier.roll
timestamp_gives bytes table =
    each_gives FitsPlain (signed_field w16 bytes table 0 (pos 0)) _ (λ number.
    each_gives FitsPlain (time_unit_of number) _ (λ unit.
    each_gives FitsPlain (string_field bytes table 1) _ (λ zone. at_roll (layer.Timestamp unit zone) refl)))

interval_gives : (unit : ℤ) → Gives FitsPlain (interval_of unit)
unfolding roll-DataType denote.Hole.Carrier.roll
interval_gives unit =
    either_gives FitsPlain (int_eq unit (pos 0)) (Some (types.Interval intervals.YearMonth)) _ (at_roll (layer.Interval intervals.YearMonth) refl)
    (either_gives FitsPlain (int_eq unit (pos 1)) (Some (types.Interval intervals.DayTime)) _ (at_roll (layer.Interval intervals.DayTime) refl)
    (either_gives FitsPlain (int_eq unit (pos 2)) (Some (types.Interval intervals.MonthDayNano)) None
    (at_roll (layer.Interval intervals.MonthDayNano) refl) tt))

-- ---- types over fields

-- what reads a Field table gives ids that fit
abbrev ReadsIds : (TablePlace → ℕ → Option (FieldIn × ℕ)) → Type 0
ReadsIds read = (table : TablePlace) (left : ℕ) → Gives FieldFits (read table left)

each_of_gives : (read : TablePlace → ℕ → Option (FieldIn × ℕ)) (bytes : List ℕ) (vector : Vector) (n k left : ℕ) → ReadsIds read
    → Gives FieldsFit (each_of read bytes vector n k left)
each_of_gives read bytes vector zero k left h = (refl, refl)
each_of_gives read bytes vector (suc n) k left h =
    each_gives FieldsFit (element_at bytes vector k) _ (λ table.
    then_gives FieldFits FieldsFit (read table left) _ (h table left) (λ first is_first.
    then_gives FieldsFit FieldsFit (each_of read bytes vector n (k + 1) first.1) _ (each_of_gives read bytes vector n (k + 1) first.1 h)
    (λ others are_others. (
      and_from (foldf fit_step first.0.field first.0.ids) (fit_each (map (foldf fit_step) (fields_of others.0)) (ids_of others.0)) is_first.0
          are_others.0,
      and_from (are_ids first.0.ids) (all_are_ids (ids_of others.0)) is_first.1 are_others.1,
    ))))

children_give : (read : TablePlace → ℕ → Option (FieldIn × ℕ)) (bytes : List ℕ) (field : TablePlace) (left : ℕ) → ReadsIds read
    → Gives FieldsFit (children_in read bytes field left)
children_give read bytes field left h =
    each_gives FieldsFit (vector_field bytes field 5 4) _ (λ found.
    each_gives FieldsFit found _ (λ vector. each_of_gives read bytes vector vector.count 0 left h))

child_gives : (read : TablePlace → ℕ → Option (FieldIn × ℕ)) (bytes : List ℕ) (field : TablePlace) (left : ℕ) → ReadsIds read
    → Gives FieldFits (child_in read bytes field left)
child_gives read bytes field left h =
    each_gives FieldFits (vector_field bytes field 5 4) _ (λ found.
    each_gives FieldFits found _ (λ vector.
    each_gives FieldFits (guard (nat_le 1 vector.count)) _ (λ is_one.
    each_gives FieldFits (element_at bytes vector 0) _ (λ table. h table left))))

type_gives : (read : TablePlace → ℕ → Option (FieldIn × ℕ)) (bytes : List ℕ) (tag : Tag) (field table : TablePlace) (left : ℕ) → ReadsIds read
    → Gives TypeFits (type_in None read bytes tag field table left)
unfolding type_in roll-DataType denote.Hole.Carrier.roll
type_gives read bytes kind.null field table left h = at_roll layer.Null refl
type_gives read bytes kind.bool field table left h = at_roll layer.Boolean refl
type_gives read bytes kind.binary field table left h = at_roll layer.Binary refl
type_gives read bytes kind.large_binary field table left h = at_roll layer.LargeBinary refl
type_gives read bytes kind.utf8 field table left h = at_roll layer.Utf8 refl
type_gives read bytes kind.large_utf8 field table left h = at_roll layer.LargeUtf8 refl
type_gives read bytes kind.floating_point field table left h = tt
type_gives read bytes kind.int field table left h =
    each_gives TypeFits (integer_in bytes table) _ (λ integer. integer_fits integer)
type_gives read bytes kind.decimal field table left h =
    then_gives FitsPlain TypeFits (decimal_in bytes table) _ (decimal_gives bytes table) (λ t is. is)
type_gives read bytes kind.date field table left h =
    each_gives TypeFits (signed_field w16 bytes table 0 (pos 1)) _ (λ unit.
    then_gives FitsPlain TypeFits (date_of unit) _ (date_gives unit) (λ t is. is))
type_gives read bytes kind.time field table left h =
    then_gives FitsPlain TypeFits (time_in bytes table) _ (time_gives bytes table) (λ t is. is)
type_gives read bytes kind.timestamp field table left h =
    then_gives FitsPlain TypeFits (timestamp_in bytes table) _ (timestamp_gives bytes table) (λ t is. is)
type_gives read bytes kind.interval field table left h =
    each_gives TypeFits (signed_field w16 bytes table 0 (pos 0)) _ (λ unit.
    then_gives FitsPlain TypeFits (interval_of unit) _ (interval_gives unit) (λ t is. is))
type_gives read bytes kind.duration field table left h =
    each_gives TypeFits (signed_field w16 bytes table 0 (pos 1)) _ (λ number.
    each_gives TypeFits (time_unit_of number) _ (λ unit. at_roll (layer.Duration unit) refl))
type_gives read bytes kind.fixed_size_binary field table left h =
    each_gives TypeFits (signed_field w32 bytes table 0 (pos 0)) _ (λ width.
    each_gives TypeFits (size_of width) _ (λ size. at_roll (layer.FixedSizeBinary size) refl))
type_gives read bytes kind.list field table left h =
    then_gives FieldFits TypeFits (child_in read bytes field left) _ (child_gives read bytes field left h) (λ child is.
    over_roll (layer.List child.0.field) (one_id child.0) (one_fits child is) (one_signed child is))
type_gives read bytes kind.large_list field table left h =
    then_gives FieldFits TypeFits (child_in read bytes field left) _ (child_gives read bytes field left h) (λ child is.
    over_roll (layer.LargeList child.0.field) (one_id child.0) (one_fits child is) (one_signed child is))
type_gives read bytes kind.fixed_size_list field table left h =
    each_gives TypeFits (signed_field w32 bytes table 0 (pos 0)) _ (λ count.
    each_gives TypeFits (size_of count) _ (λ size.
    then_gives FieldFits TypeFits (child_in read bytes field left) _ (child_gives read bytes field left h) (λ child is.
    over_roll (layer.FixedSizeList child.0.field size) (one_id child.0) (one_fits child is) (one_signed child is))))
type_gives read bytes kind.map field table left h =
    each_gives TypeFits (truth_field bytes table 0) _ (λ is_sorted.
    then_gives FieldFits TypeFits (child_in read bytes field left) _ (child_gives read bytes field left h) (λ child is.
    over_roll (layer.Map child.0.field is_sorted) (one_id child.0) (one_fits child is) (one_signed child is)))
type_gives read bytes kind.struct field table left h =
    then_gives FieldsFit TypeFits (children_in read bytes field left) _ (children_give read bytes field left h) (λ children are.
    over_roll (layer.Struct (fields_of children.0)) (ids_of children.0) are.0 are.1)
type_gives read bytes kind.union field table left h =
    each_gives TypeFits (union_in bytes table) _ (λ union.
    then_gives FieldsFit TypeFits (children_in read bytes field left) _ (children_give read bytes field left h) (λ children are.
    over_roll (layer.Union (fields_of children.0) union.ids union.mode) (ids_of children.0) are.0 are.1))

-- ---- fields

-- the extension that metadata names
extended_fits : (name metadata : Option (List ℕ)) (t : DataType) (here : Ids) → ids_fit t here ≡ true
    → ids_fit (extended_by name metadata t) here ≡ true
unfolding roll-DataType denote.Hole.Carrier.roll
extended_fits None metadata t here h = h
extended_fits (Some name) metadata t here h = fits_layer (layer.Extension name t metadata) here h

abbrev EncodedFits : IdsList → EncodedType → Type 0
EncodedFits below found = (ids_fit found.data_type (ids found.id below) ≡ true) × (is_id found.id ≡ true)

-- the dictionary of a field
encoded_gives : (bytes : List ℕ) (dictionary : Option TablePlace) (t : DataType) (below : IdsList) → ids_fit t (ids None below) ≡ true
    → Gives (EncodedFits below) (encoded_by bytes dictionary t)
unfolding roll-DataType denote.Hole.Carrier.roll
encoded_gives bytes None t below h = (h, refl)
encoded_gives bytes (Some table) t below h =
    then_gives IsSigned (EncodedFits below) (signed_field w64 bytes table 0 (pos 0)) _ (field_gives_signed bytes table 0) (λ id is_signed.
    each_gives (EncodedFits below) (table_field bytes table 1) _ (λ found.
    each_gives (EncodedFits below) found _ (λ keys.
    each_gives (EncodedFits below) (integer_in bytes keys) _ (λ integer.
    each_gives (EncodedFits below) (truth_field bytes table 2) _ (λ is_ordered.
    (fits_layer (layer.Dictionary integer t is_ordered) (ids (Some id) below) h, is_signed))))))

field_gives : (bytes : List ℕ) (levels : ℕ) → ReadsIds (field_in None bytes levels)
unfolding field_in
field_gives bytes zero table left = tt
field_gives bytes (suc levels) table left =
    each_gives FieldFits (visit left) _ (λ visited.
    each_gives FieldFits (string_field bytes table 0) _ (λ found_name.
    each_gives FieldFits found_name _ (λ name.
    each_gives FieldFits (truth_field bytes table 1) _ (λ is_nullable.
    each_gives FieldFits (number_field w8 bytes table 2 0) _ (λ number.
    each_gives FieldFits (tag_of number) _ (λ tag.
    each_gives FieldFits (table_field bytes table 3) _ (λ found_type.
    each_gives FieldFits found_type _ (λ type_table.
    then_gives TypeFits FieldFits (type_in None (field_in None bytes levels) bytes tag table type_table visited) _
    (type_gives (field_in None bytes levels) bytes tag table type_table visited (field_gives bytes levels)) (λ found is_type.
    each_gives FieldFits (table_field bytes table 4) _ (λ dictionary.
    each_gives FieldFits (metadata_in bytes table 6) _ (λ metadata.
    then_gives (EncodedFits found.0.below) FieldFits (encoded_by bytes dictionary (extended metadata found.0.data_type)) _
    (encoded_gives bytes dictionary (extended metadata found.0.data_type) found.0.below
    (extended_fits (value_at extension_name_key metadata) (value_at extension_metadata_key metadata) found.0.data_type
    (ids None found.0.below) is_type.0))
    (λ encoded is_encoded. (
      ap (λ (fits : Fitting). fits (ids encoded.id found.0.below))
          (fold_field fit_step (record { name = name; data_type = encoded.data_type; is_nullable = is_nullable; metadata = metadata }))
          ∙ is_encoded.0,
      and_from (is_id encoded.id) (all_are_ids found.0.below) is_encoded.1 is_type.1,
    )))))))))))))

-- ---- the schema

each_field : (found : List FieldIn) → fit_each (map (foldf fit_step) (fields_of found)) (ids_of found) ≡ true
    → ids_fit_fields (fields_of found) (ids_of found) ≡ true
each_field [] h = refl
each_field (first ∷ others) h =
    let parts = and_parts (foldf fit_step first.field first.ids) (fit_each (map (foldf fit_step) (fields_of others)) (ids_of others)) h in
    and_from (ids_fit first.field.data_type first.ids) (ids_fit_fields (fields_of others) (ids_of others))
    (sym (ap (λ (fits : Fitting). fits first.ids) (fold_field fit_step first.field)) ∙ parts.0) (each_field others parts.1)

-- ids that fit a schema's fields, each a signed number of eight bytes
abbrev pub SchemaFits : SchemaIn → Type 0
SchemaFits found = (ids_fit_fields found.schema.fields found.ids ≡ true) × (all_are_ids found.ids ≡ true)

schema_gives : (bytes : List ℕ) (table : TablePlace) → Gives SchemaFits (any_schema_in None bytes table)
unfolding any_schema_in
schema_gives bytes table =
    each_gives SchemaFits (signed_field w16 bytes table 0 (pos 0)) _ (λ number.
    each_gives SchemaFits (is_little_of number) _ (λ is_little_endian.
    each_gives SchemaFits (vector_field bytes table 1 4) _ (λ found.
    each_gives SchemaFits found _ (λ vector.
    then_gives FieldsFit SchemaFits (each_of (field_in None bytes 64) bytes vector vector.count 0 (length bytes)) _
    (each_of_gives (field_in None bytes 64) bytes vector vector.count 0 (length bytes) (field_gives bytes 64)) (λ fields are.
    each_gives SchemaFits (metadata_in bytes table 2) _ (λ metadata. (each_field fields.0 are.0, are.1)))))))

-- a schema that is read is one that is written, and its ids fit it
abbrev IsRead : SchemaIn → Type 0
IsRead read = SchemaFits read × (is_writable read.schema ≡ true)

by_test : (read : SchemaIn) (test : Bool) → is_writable read.schema ≡ test → SchemaFits read → Gives IsRead (guard test >>= (λ _. Some read))
by_test read true writable is = (is, writable)
by_test read false writable is = tt

pub schemas_read_have_ids : (bytes : List ℕ) (table : TablePlace) (found : SchemaIn) → schema_in bytes table ≡ Some found
    → SchemaFits found × (is_writable found.schema ≡ true)
unfolding schema_in
schemas_read_have_ids bytes table found e =
    was_given IsRead (any_schema_in None bytes table >>= (λ read. guard (is_writable read.schema) >>= (λ _. Some read))) found
    (then_gives SchemaFits IsRead (any_schema_in None bytes table) _ (schema_gives bytes table) (λ read is.
    by_test read (is_writable read.schema) refl is)) e
