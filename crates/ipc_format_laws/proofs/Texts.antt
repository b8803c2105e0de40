-- A schema that is read is of texts.
use Rattle.std.proofs.Common.{◌≡◌, ◌∙◌, ℕ, zero, suc, ◌+◌, ℤ, pos, Bool, true, ◌&&◌, List, length, map, refl, nat_le}
use Rattle.std.specs.Prelude.{Option, Some, None}
use Rattle.std.specs.Ordering.{int_eq}
use Rattle.std.specs.Int.{w8, w16, w32, w64}
use Rattle.std.specs.Str.{is_utf8}
use Rattle.std.proofs.lemmas.Bool.{and_from}
use denote.Hole.Carrier
use Rattle.ipc_format_grammar.specs.flatbuffers.Reading.{◌>>=◌, guard}
use Rattle.ipc_format_grammar.specs.flatbuffers.FlatBuffers.{TablePlace, Vector, number_field, signed_field, truth_field, table_field, vector_field}
use Rattle.ipc_format_grammar.specs.flatbuffers.FlatBuffers.{string_field}
use Rattle.ipc_format_grammar.specs.flatbuffers.FlatBuffers.{element_at}
use Rattle.ipc_format_grammar.specs.columnar_memory.declared.DataType.{DataType, map-DataType}
use Rattle.ipc_format_grammar.specs.columnar_memory.declared.DataType.TheOpen as layer
use Rattle.ipc_format_grammar.specs.columnar_memory.declared.DataType.TheVariants as types
use Rattle.ipc_format_grammar.specs.columnar_memory.declared.DataType.TheViews.{roll-DataType}
use Rattle.ipc_format_grammar.specs.columnar_memory.declared.DataType.TheFolds.{fold-DataType, fold-roll-DataType, fold-roll-Field}
use Rattle.ipc_format_grammar.specs.columnar_memory.declared.Field.{Field}
use Rattle.ipc_format_grammar.specs.columnar_memory.declared.IntegerType.{IntegerType}
use Rattle.ipc_format_grammar.specs.columnar_memory.declared.IntegerType.TheVariants as integers
use Rattle.ipc_format_grammar.specs.columnar_memory.declared.IntervalUnit.TheVariants as intervals
use Rattle.ipc_format_grammar.specs.columnar_memory.declared.TimeUnit.{TimeUnit}
use Rattle.ipc_format_grammar.specs.columnar_memory.declared.TimeUnit.TheVariants as units
use Rattle.ipc_format_grammar.specs.Messages.{natural}
use Rattle.ipc_format_grammar.specs.Types as kind
use Rattle.ipc_format_grammar.specs.Types.{Tag, UnionTable, tag_of, integer_in, type_of_integer, size_of, decimal_of, decimal_in, date_of}
use Rattle.ipc_format_grammar.specs.Types.{time_of, time_in}
use Rattle.ipc_format_grammar.specs.Types.{short_time_of, long_time_of, timestamp_in, interval_of, time_unit_of, union_in}
use Rattle.ipc_format_grammar.specs.Schemas.{FieldIn, TypeIn, SchemaIn, EncodedType, fields_of, visit, each_of, child_in, children_in, type_in}
use Rattle.ipc_format_grammar.specs.Schemas.{metadata_in, extended, extended_by, extension_name_key, extension_metadata_key, encoded_by, field_in}
use Rattle.ipc_format_grammar.specs.Schemas.{any_schema_in, is_little_of}
use Rattle.ipc_format_grammar.specs.SchemaGrammar.{schema_in}
use Rattle.ipc_format_grammar.specs.Writable.{is_writable}
use Rattle.ipc_format_grammar.specs.columnar_memory.Pairs.{value_at}
use Rattle.ipc_format_laws.specs.Schemas.{is_text_or_none, are_texts, is_ascending, are_true, texts_step, texts_field_step, has_texts, HasTexts}
use Rattle.ipc_format_laws.specs.Texts.{SchemasReadHaveTexts}
use Rattle.ipc_format_laws.proofs.Given.{Gives, then_gives, each_gives, either_gives, was_given}
use Rattle.ipc_format_laws.proofs.MetadataTexts.{AreMetadata, field_gives_text, metadata_gives, value_is_text}

-- ---- the texts of a type and of a field

abbrev texts_in_type : DataType → Bool
texts_in_type = fold-DataType Bool Bool texts_step texts_field_step

abbrev IsOfTexts : DataType → Type 0
IsOfTexts t = texts_in_type t ≡ true

abbrev TypeOfTexts : TypeIn × ℕ → Type 0
TypeOfTexts found = IsOfTexts found.0.data_type

abbrev FieldOfTexts : FieldIn × ℕ → Type 0
FieldOfTexts found = has_texts found.0.field ≡ true

abbrev FieldsOfTexts : List FieldIn × ℕ → Type 0
FieldsOfTexts found = are_true (map has_texts (fields_of found.0)) ≡ true

-- the texts of a type are those of its layer
at_roll : (x : layer.DataType-F DataType Field) → texts_step (map-DataType DataType Field Bool Bool texts_in_type has_texts x) ≡ true
    → IsOfTexts (roll-DataType x)
at_roll x h = fold-roll-DataType Bool Bool texts_step texts_field_step x ∙ h

field_texts : (name : List ℕ) (t : DataType) (is_nullable : Bool) (metadata : List (List ℕ × List ℕ)) → is_utf8 name ≡ true → AreMetadata metadata
    → IsOfTexts t → has_texts (record { name = name; data_type = t; is_nullable = is_nullable; metadata = metadata }) ≡ true
unfolding roll-DataType denote.Hole.Carrier.roll
field_texts name t is_nullable metadata is_name are_metadata h =
    fold-roll-Field Bool Bool texts_step texts_field_step
    (record { name = name; data_type = t; is_nullable = is_nullable; metadata = metadata })
    ∙ and_from (is_utf8 name && are_texts metadata && is_ascending metadata) (texts_in_type t)
    (and_from (is_utf8 name && are_texts metadata) (is_ascending metadata) (and_from (is_utf8 name) (are_texts metadata) is_name are_metadata.0)
    are_metadata.1) h

-- ---- types without fields below them

integer_texts : (integer : IntegerType) → IsOfTexts (type_of_integer integer)
unfolding roll-DataType denote.Hole.Carrier.roll
integer_texts integers.Int8 = at_roll layer.Int8 refl
integer_texts integers.Int16 = at_roll layer.Int16 refl
integer_texts integers.Int32 = at_roll layer.Int32 refl
integer_texts integers.Int64 = at_roll layer.Int64 refl
integer_texts integers.UInt8 = at_roll layer.UInt8 refl
integer_texts integers.UInt16 = at_roll layer.UInt16 refl
integer_texts integers.UInt32 = at_roll layer.UInt32 refl
integer_texts integers.UInt64 = at_roll layer.UInt64 refl

decimal_gives : (bytes : List ℕ) (table : TablePlace) → Gives IsOfTexts (decimal_in bytes table)
unfolding decimal_in roll-DataType denote.Hole.Carrier.roll
decimal_gives bytes table =
    each_gives IsOfTexts (signed_field w32 bytes table 0 (pos 0)) _ (λ stated_precision.
    each_gives IsOfTexts (natural stated_precision) _ (λ precision.
    each_gives IsOfTexts (signed_field w32 bytes table 1 (pos 0)) _ (λ stated_scale.
    each_gives IsOfTexts (natural stated_scale) _ (λ scale.
    each_gives IsOfTexts (signed_field w32 bytes table 2 (pos 128)) _ (λ bits.
    either_gives IsOfTexts (int_eq bits (pos 128)) (Some (types.Decimal precision scale)) _ (at_roll (layer.Decimal precision scale) refl)
    (either_gives IsOfTexts (int_eq bits (pos 256)) (Some (types.Decimal256 precision scale)) None
    (at_roll (layer.Decimal256 precision scale) refl) tt))))))

date_gives : (unit : ℤ) → Gives IsOfTexts (date_of unit)
unfolding roll-DataType denote.Hole.Carrier.roll
date_gives unit =
    either_gives IsOfTexts (int_eq unit (pos 0)) (Some types.Date32) _ (at_roll layer.Date32 refl)
    (either_gives IsOfTexts (int_eq unit (pos 1)) (Some types.Date64) None (at_roll layer.Date64 refl) tt)

short_gives : (unit : TimeUnit) → Gives IsOfTexts (short_time_of unit)
unfolding roll-DataType denote.Hole.Carrier.roll
short_gives units.Second = at_roll (layer.Time32 units.Second) refl
short_gives units.Millisecond = at_roll (layer.Time32 units.Millisecond) refl
short_gives _ = tt

long_gives : (unit : TimeUnit) → Gives IsOfTexts (long_time_of unit)
unfolding roll-DataType denote.Hole.Carrier.roll
long_gives units.Microsecond = at_roll (layer.Time64 units.Microsecond) refl
long_gives units.Nanosecond = at_roll (layer.Time64 units.Nanosecond) refl
long_gives _ = tt

time_gives : (bytes : List ℕ) (table : TablePlace) → Gives IsOfTexts (time_in bytes table)
unfolding time_in
time_gives bytes table =
    each_gives IsOfTexts (signed_field w16 bytes table 0 (pos 1)) _ (λ number.
    each_gives IsOfTexts (time_unit_of number) _ (λ unit.
    each_gives IsOfTexts (signed_field w32 bytes table 1 (pos 32)) _ (λ bits.
    either_gives IsOfTexts (int_eq bits (pos 32)) (short_time_of unit) _ (short_gives unit)
    (either_gives IsOfTexts (int_eq bits (pos 64)) (long_time_of unit) None (long_gives unit) tt))))

timestamp_gives : (bytes : List ℕ) (table : TablePlace) → Gives IsOfTexts (timestamp_in bytes table)
unfolding timestamp_in roll-DataType denote.Hole.Carrier.roll
timestamp_gives bytes table =
    each_gives IsOfTexts (signed_field w16 bytes table 0 (pos 0)) _ (λ number.
    each_gives IsOfTexts (time_unit_of number) _ (λ unit.
    then_gives (λ zone. is_text_or_none zone ≡ true) IsOfTexts (string_field bytes table 1) _ (field_gives_text bytes table 1) (λ zone is_zone.
    at_roll (layer.Timestamp unit zone) is_zone)))

interval_gives : (unit : ℤ) → Gives IsOfTexts (interval_of unit)
unfolding roll-DataType denote.Hole.Carrier.roll
interval_gives unit =
    either_gives IsOfTexts (int_eq unit (pos 0)) (Some (types.Interval intervals.YearMonth)) _ (at_roll (layer.Interval intervals.YearMonth) refl)
    (either_gives IsOfTexts (int_eq unit (pos 1)) (Some (types.Interval intervals.DayTime)) _ (at_roll (layer.Interval intervals.DayTime) refl)
    (either_gives IsOfTexts (int_eq unit (pos 2)) (Some (types.Interval intervals.MonthDayNano)) None
    (at_roll (layer.Interval intervals.MonthDayNano) refl) tt))

-- ---- types over fields

-- what reads a Field table gives texts
abbrev ReadsTexts : (TablePlace → ℕ → Option (FieldIn × ℕ)) → Type 0
ReadsTexts read = (table : TablePlace) (left : ℕ) → Gives FieldOfTexts (read table left)

each_of_gives : (read : TablePlace → ℕ → Option (FieldIn × ℕ)) (bytes : List ℕ) (vector : Vector) (n k left : ℕ) → ReadsTexts read
    → Gives FieldsOfTexts (each_of read bytes vector n k left)
each_of_gives read bytes vector zero k left h = refl
each_of_gives read bytes vector (suc n) k left h =
    each_gives FieldsOfTexts (element_at bytes vector k) _ (λ table.
    then_gives FieldOfTexts FieldsOfTexts (read table left) _ (h table left) (λ first is_first.
    then_gives FieldsOfTexts FieldsOfTexts (each_of read bytes vector n (k + 1) first.1) _ (each_of_gives read bytes vector n (k + 1) first.1 h)
    (λ others are_others. and_from (has_texts first.0.field) (are_true (map has_texts (fields_of others.0))) is_first are_others)))

children_give : (read : TablePlace → ℕ → Option (FieldIn × ℕ)) (bytes : List ℕ) (field : TablePlace) (left : ℕ) → ReadsTexts read
    → Gives FieldsOfTexts (children_in read bytes field left)
children_give read bytes field left h =
    each_gives FieldsOfTexts (vector_field bytes field 5 4) _ (λ found.
    each_gives FieldsOfTexts found _ (λ vector. each_of_gives read bytes vector vector.count 0 left h))

child_gives : (read : TablePlace → ℕ → Option (FieldIn × ℕ)) (bytes : List ℕ) (field : TablePlace) (left : ℕ) → ReadsTexts read
    → Gives FieldOfTexts (child_in read bytes field left)
child_gives read bytes field left h =
    each_gives FieldOfTexts (vector_field bytes field 5 4) _ (λ found.
    each_gives FieldOfTexts found _ (λ vector.
    each_gives FieldOfTexts (guard (nat_le 1 vector.count)) _ (λ is_one.
    each_gives FieldOfTexts (element_at bytes vector 0) _ (λ table. h table left))))

type_gives : (read : TablePlace → ℕ → Option (FieldIn × ℕ)) (bytes : List ℕ) (tag : Tag) (field table : TablePlace) (left : ℕ) → ReadsTexts read
    → Gives TypeOfTexts (type_in None read bytes tag field table left)
unfolding type_in roll-DataType denote.Hole.Carrier.roll
type_gives read bytes kind.null field table left h = at_roll layer.Null refl
type_gives read bytes kind.bool field table left h = at_roll layer.Boolean refl
type_gives read bytes kind.binary field table left h = at_roll layer.Binary refl
type_gives read bytes kind.large_binary field table left h = at_roll layer.LargeBinary refl
type_gives read bytes kind.utf8 field table left h = at_roll layer.Utf8 refl
type_gives read bytes kind.large_utf8 field table left h = at_roll layer.LargeUtf8 refl
type_gives read bytes kind.floating_point field table left h = tt
type_gives read bytes kind.int field table left h =
    each_gives TypeOfTexts (integer_in bytes table) _ (λ integer. integer_texts integer)
type_gives read bytes kind.decimal field table left h =
    then_gives IsOfTexts TypeOfTexts (decimal_in bytes table) _ (decimal_gives bytes table) (λ t is. is)
type_gives read bytes kind.date field table left h =
    each_gives TypeOfTexts (signed_field w16 bytes table 0 (pos 1)) _ (λ unit.
    then_gives IsOfTexts TypeOfTexts (date_of unit) _ (date_gives unit) (λ t is. is))
type_gives read bytes kind.time field table left h =
    then_gives IsOfTexts TypeOfTexts (time_in bytes table) _ (time_gives bytes table) (λ t is. is)
type_gives read bytes kind.timestamp field table left h =
    then_gives IsOfTexts TypeOfTexts (timestamp_in bytes table) _ (timestamp_gives bytes table) (λ t is. is)
type_gives read bytes kind.interval field table left h =
    each_gives TypeOfTexts (signed_field w16 bytes table 0 (pos 0)) _ (λ unit.
    then_gives IsOfTexts TypeOfTexts (interval_of unit) _ (interval_gives unit) (λ t is. is))
type_gives read bytes kind.duration field table left h =
    each_gives TypeOfTexts (signed_field w16 bytes table 0 (pos 1)) _ (λ number.
    each_gives TypeOfTexts (time_unit_of number) _ (λ unit. at_roll (layer.Duration unit) refl))
type_gives read bytes kind.fixed_size_binary field table left h =
    each_gives TypeOfTexts (signed_field w32 bytes table 0 (pos 0)) _ (λ width.
    each_gives TypeOfTexts (size_of width) _ (λ size. at_roll (layer.FixedSizeBinary size) refl))
type_gives read bytes kind.list field table left h =
    then_gives FieldOfTexts TypeOfTexts (child_in read bytes field left) _ (child_gives read bytes field left h) (λ child is.
    at_roll (layer.List child.0.field) is)
type_gives read bytes kind.large_list field table left h =
    then_gives FieldOfTexts TypeOfTexts (child_in read bytes field left) _ (child_gives read bytes field left h) (λ child is.
    at_roll (layer.LargeList child.0.field) is)
type_gives read bytes kind.fixed_size_list field table left h =
    each_gives TypeOfTexts (signed_field w32 bytes table 0 (pos 0)) _ (λ count.
    each_gives TypeOfTexts (size_of count) _ (λ size.
    then_gives FieldOfTexts TypeOfTexts (child_in read bytes field left) _ (child_gives read bytes field left h) (λ child is.
    at_roll (layer.FixedSizeList child.0.field size) is)))
type_gives read bytes kind.map field table left h =
    each_gives TypeOfTexts (truth_field bytes table 0) _ (λ is_sorted.
    then_gives FieldOfTexts TypeOfTexts (child_in read bytes field left) _ (child_gives read bytes field left h) (λ child is.
    at_roll (layer.Map child.0.field is_sorted) is))
type_gives read bytes kind.struct field table left h =
    then_gives FieldsOfTexts TypeOfTexts (children_in read bytes field left) _ (children_give read bytes field left h) (λ children are.
    at_roll (layer.Struct (fields_of children.0)) are)
type_gives read bytes kind.union field table left h =
    each_gives TypeOfTexts (union_in bytes table) _ (λ union.
    then_gives FieldsOfTexts TypeOfTexts (children_in read bytes field left) _ (children_give read bytes field left h) (λ children are.
    at_roll (layer.Union (fields_of children.0) union.ids union.mode) are))

-- ---- fields

-- the extension that metadata names
extended_texts : (name metadata : Option (List ℕ)) (t : DataType) → is_text_or_none name ≡ true → is_text_or_none metadata ≡ true → IsOfTexts t
    → IsOfTexts (extended_by name metadata t)
unfolding roll-DataType denote.Hole.Carrier.roll
extended_texts None metadata t is_name is_metadata h = h
extended_texts (Some name) metadata t is_name is_metadata h =
    at_roll (layer.Extension name t metadata) (and_from (is_utf8 name && is_text_or_none metadata) (texts_in_type t)
    (and_from (is_utf8 name) (is_text_or_none metadata) is_name is_metadata) h)

-- the dictionary of a field
encoded_gives : (bytes : List ℕ) (dictionary : Option TablePlace) (t : DataType) → IsOfTexts t
    → Gives (λ (found : EncodedType). IsOfTexts found.data_type) (encoded_by bytes dictionary t)
unfolding roll-DataType denote.Hole.Carrier.roll
encoded_gives bytes None t h = h
encoded_gives bytes (Some table) t h =
    each_gives (λ (found : EncodedType). IsOfTexts found.data_type) (signed_field w64 bytes table 0 (pos 0)) _ (λ id.
    each_gives (λ (found : EncodedType). IsOfTexts found.data_type) (table_field bytes table 1) _ (λ found.
    each_gives (λ (found : EncodedType). IsOfTexts found.data_type) found _ (λ keys.
    each_gives (λ (found : EncodedType). IsOfTexts found.data_type) (integer_in bytes keys) _ (λ integer.
    each_gives (λ (found : EncodedType). IsOfTexts found.data_type) (truth_field bytes table 2) _ (λ is_ordered.
    at_roll (layer.Dictionary integer t is_ordered) h)))))

present_gives : (found : Option (List ℕ)) → is_text_or_none found ≡ true → Gives (λ text. is_utf8 text ≡ true) found
present_gives None h = tt
present_gives (Some text) h = h

field_gives : (bytes : List ℕ) (levels : ℕ) → ReadsTexts (field_in None bytes levels)
unfolding field_in
field_gives bytes zero table left = tt
field_gives bytes (suc levels) table left =
    each_gives FieldOfTexts (visit left) _ (λ visited.
    then_gives (λ name. is_text_or_none name ≡ true) FieldOfTexts (string_field bytes table 0) _ (field_gives_text bytes table 0)
    (λ found_name is_found.
    then_gives (λ text. is_utf8 text ≡ true) FieldOfTexts found_name _ (present_gives found_name is_found) (λ name is_name.
    each_gives FieldOfTexts (truth_field bytes table 1) _ (λ is_nullable.
    each_gives FieldOfTexts (number_field w8 bytes table 2 0) _ (λ number.
    each_gives FieldOfTexts (tag_of number) _ (λ tag.
    each_gives FieldOfTexts (table_field bytes table 3) _ (λ found_type.
    each_gives FieldOfTexts found_type _ (λ type_table.
    then_gives TypeOfTexts FieldOfTexts (type_in None (field_in None bytes levels) bytes tag table type_table visited) _
    (type_gives (field_in None bytes levels) bytes tag table type_table visited (field_gives bytes levels)) (λ found is_type.
    each_gives FieldOfTexts (table_field bytes table 4) _ (λ dictionary.
    then_gives AreMetadata FieldOfTexts (metadata_in bytes table 6) _ (metadata_gives bytes table 6) (λ metadata are_metadata.
    then_gives (λ (e : EncodedType). IsOfTexts e.data_type) FieldOfTexts
    (encoded_by bytes dictionary (extended metadata found.0.data_type)) _
    (encoded_gives bytes dictionary (extended metadata found.0.data_type)
    (extended_texts (value_at extension_name_key metadata) (value_at extension_metadata_key metadata) found.0.data_type
    (value_is_text extension_name_key metadata are_metadata.0) (value_is_text extension_metadata_key metadata are_metadata.0) is_type))
    (λ encoded is_encoded. field_texts name encoded.data_type is_nullable metadata is_name are_metadata is_encoded))))))))))))

-- ---- the schema

abbrev SchemaOfTexts : SchemaIn → Type 0
SchemaOfTexts found = HasTexts found.schema

schema_gives : (bytes : List ℕ) (table : TablePlace) → Gives SchemaOfTexts (any_schema_in None bytes table)
unfolding any_schema_in
schema_gives bytes table =
    each_gives SchemaOfTexts (signed_field w16 bytes table 0 (pos 0)) _ (λ number.
    each_gives SchemaOfTexts (is_little_of number) _ (λ is_little_endian.
    each_gives SchemaOfTexts (vector_field bytes table 1 4) _ (λ found.
    each_gives SchemaOfTexts found _ (λ vector.
    then_gives FieldsOfTexts SchemaOfTexts (each_of (field_in None bytes 64) bytes vector vector.count 0 (length bytes)) _
    (each_of_gives (field_in None bytes 64) bytes vector vector.count 0 (length bytes) (field_gives bytes 64)) (λ fields are.
    then_gives AreMetadata SchemaOfTexts (metadata_in bytes table 2) _ (metadata_gives bytes table 2) (λ metadata are_metadata.
    record { fields = are; texts = are_metadata.0; ascending = are_metadata.1 }))))))

pub schemas_read_have_texts : SchemasReadHaveTexts
unfolding schema_in
schemas_read_have_texts bytes table found e =
    was_given SchemaOfTexts (any_schema_in None bytes table >>= (λ read. guard (is_writable read.schema) >>= (λ _. Some read))) found
    (then_gives SchemaOfTexts SchemaOfTexts (any_schema_in None bytes table) _ (schema_gives bytes table) (λ read is.
    each_gives SchemaOfTexts (guard (is_writable read.schema)) _ (λ allowed. is))) e
