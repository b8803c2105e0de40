-- Schemas in metadata (Schema.fbs): fields, their types, dictionaries and custom metadata.
-- A schema's fields form a tree of Field tables. At most as many of them are visited as the message has bytes, and fields nest at most 64 deep.
use Rattle.std.specs.Prelude.{ℕ, zero, suc, ◌+◌, ℤ, pos, Bool, true, false, List, [], ◌∷◌, length, map, codes, Option, Some, None, nat_le}
use Rattle.std.specs.Prelude.{if◌then◌else◌}
use Rattle.std.specs.Ordering.{int_eq}
use Rattle.std.specs.Int.{w8, w16, w32, w64}
use Rattle.ipc_format_flatbuffers.specs.Reading.{◌>>=◌, guard}
use Rattle.ipc_format_flatbuffers.specs.FlatBuffers.{TablePlace, Vector, number_field, signed_field, truth_field, table_field, vector_field}
use Rattle.ipc_format_flatbuffers.specs.FlatBuffers.{string_field, element_at}
use Rattle.nested_arrays_columns.specs.columnar_memory.declared.DataType.{DataType}
use Rattle.nested_arrays_columns.specs.columnar_memory.declared.DataType.TheVariants as types
use Rattle.nested_arrays_columns.specs.columnar_memory.declared.Field.{Field}
use Rattle.nested_arrays_columns.specs.columnar_memory.declared.Schema.{Schema}
use Rattle.nested_arrays_columns.specs.columnar_memory.Pairs.{value_at, with_pair}
use Rattle.ipc_format_grammar.specs.Types as kind
use Rattle.ipc_format_grammar.specs.Types.{Tag, tag_of, integer_in, type_of_integer, size_of, decimal_in, date_of, time_in, timestamp_in}
use Rattle.ipc_format_grammar.specs.Types.{interval_of, time_unit_of, union_in}
use Rattle.ipc_format_grammar.specs.SlotNumbers as slots
use Rattle.ipc_format_grammar.specs.TagNumbers as tags
use Rattle.ipc_format_grammar.specs.Limits.{most_levels}

mutual
  -- the dictionary ids beside a field: its own, if it has a dictionary, and those of the fields below it
  pub data Ids : Type 0 where
    ids : Option ℤ → IdsList → Ids

  pub data IdsList : Type 0 where
    no_ids : IdsList
    ids_then : Ids → IdsList → IdsList

-- a field, and the dictionary ids beside it
pub record FieldIn : Type 0 where
  pub field : Field
  pub ids : Ids

-- a type, and the dictionary ids of the fields below it
pub record TypeIn : Type 0 where
  pub data_type : DataType
  pub below : IdsList

abbrev pub ids_of : List FieldIn → IdsList
ids_of [] = no_ids
ids_of (found ∷ others) = ids_then found.ids (ids_of others)

abbrev pub fields_of : List FieldIn → List Field
fields_of found = map (λ (f : FieldIn). f.field) found

-- What reads something from a Field table: the number says how many tables may still be visited, before and after.
abbrev pub Visits : Type 0 → Type 0
Visits A = ℕ → Option (A × ℕ)

-- a visit of one more table
abbrev pub visit : ℕ → Option ℕ
visit zero = None
visit (suc left) = Some left

-- the tables of n references of a vector, from the k-th on, each read in turn
abbrev pub each_of : {A : Type 0} → (TablePlace → Visits A) → List ℕ → Vector → ℕ → ℕ → Visits (List A)
each_of read bytes vector zero k left = Some ([], left)
each_of read bytes vector (suc n) k left = do
  table ← element_at bytes vector k
  first ← read table left
  others ← each_of read bytes vector n (k + 1) first.1
  Some (first.0 ∷ others.0, others.1)

-- a type without fields below it
abbrev pub flat : DataType → Visits TypeIn
flat data_type left = Some (record { data_type = data_type; below = no_ids }, left)

-- all children of a field
abbrev pub children_in : (TablePlace → Visits FieldIn) → List ℕ → TablePlace → Visits (List FieldIn)
children_in read bytes field left = do
  found ← vector_field bytes field slots.field_children slots.reference_size
  vector ← found
  each_of read bytes vector vector.count 0 left

-- the first child of a field, which counts alone for lists and maps
abbrev pub child_in : (TablePlace → Visits FieldIn) → List ℕ → TablePlace → Visits FieldIn
child_in read bytes field left = do
  found ← vector_field bytes field slots.field_children slots.reference_size
  vector ← found
  _ ← guard (nat_le 1 vector.count)
  table ← element_at bytes vector 0
  read table left

abbrev pub with_child : (Field → DataType) → FieldIn × ℕ → TypeIn × ℕ
with_child make found = (record { data_type = make found.0.field; below = ids_then found.0.ids no_ids }, found.1)

-- The type of a field, by the tag of its type and the type's own table. What FloatingPoint gives is an argument: the grammar has nothing
-- for it. The tables of types without fields of their own are not looked at.
unfoldable pub type_in : Option DataType → (TablePlace → Visits FieldIn) → List ℕ → Tag → TablePlace → TablePlace → Visits TypeIn
type_in floats read bytes kind.null field table left = flat types.Null left
type_in floats read bytes kind.bool field table left = flat types.Boolean left
type_in floats read bytes kind.binary field table left = flat types.Binary left
type_in floats read bytes kind.large_binary field table left = flat types.LargeBinary left
type_in floats read bytes kind.utf8 field table left = flat types.Utf8 left
type_in floats read bytes kind.large_utf8 field table left = flat types.LargeUtf8 left
type_in floats read bytes kind.floating_point field table left = do
  data_type ← floats
  flat data_type left
type_in floats read bytes kind.int field table left = do
  integer ← integer_in bytes table
  flat (type_of_integer integer) left
type_in floats read bytes kind.decimal field table left = do
  data_type ← decimal_in bytes table
  flat data_type left
type_in floats read bytes kind.date field table left = do
  unit ← signed_field w16 bytes table slots.date_unit (pos 1)
  data_type ← date_of unit
  flat data_type left
type_in floats read bytes kind.time field table left = do
  data_type ← time_in bytes table
  flat data_type left
type_in floats read bytes kind.timestamp field table left = do
  data_type ← timestamp_in bytes table
  flat data_type left
type_in floats read bytes kind.interval field table left = do
  unit ← signed_field w16 bytes table slots.interval_unit (pos 0)
  data_type ← interval_of unit
  flat data_type left
type_in floats read bytes kind.duration field table left = do
  number ← signed_field w16 bytes table slots.duration_unit (pos 1)
  unit ← time_unit_of number
  flat (types.Duration unit) left
type_in floats read bytes kind.fixed_size_binary field table left = do
  width ← signed_field w32 bytes table slots.fixed_size_binary_byte_width (pos 0)
  size ← size_of width
  flat (types.FixedSizeBinary size) left
type_in floats read bytes kind.list field table left = do
  child ← child_in read bytes field left
  Some (with_child types.List child)
type_in floats read bytes kind.large_list field table left = do
  child ← child_in read bytes field left
  Some (with_child types.LargeList child)
type_in floats read bytes kind.fixed_size_list field table left = do
  count ← signed_field w32 bytes table slots.fixed_size_list_list_size (pos 0)
  size ← size_of count
  child ← child_in read bytes field left
  Some (with_child (λ item. types.FixedSizeList item size) child)
type_in floats read bytes kind.map field table left = do
  is_sorted ← truth_field bytes table slots.map_keys_sorted
  child ← child_in read bytes field left
  Some (with_child (λ entry. types.Map entry is_sorted) child)
type_in floats read bytes kind.struct field table left = do
  children ← children_in read bytes field left
  Some (record { data_type = types.Struct (fields_of children.0); below = ids_of children.0 }, children.1)
type_in floats read bytes kind.union field table left = do
  union ← union_in bytes table
  children ← children_in read bytes field left
  Some (record { data_type = types.Union (fields_of children.0) union.ids union.mode; below = ids_of children.0 }, children.1)

-- A pair of custom metadata, joined to those before it: the last of a repeated key counts, and one without key or value is dropped.
abbrev pub with_found : List (List ℕ × List ℕ) → Option (List ℕ) → Option (List ℕ) → List (List ℕ × List ℕ)
with_found pairs (Some key) (Some value) = with_pair pairs key value
with_found pairs (Some key) None = pairs
with_found pairs None value = pairs

-- n pairs of a vector of KeyValue tables, from the k-th on
abbrev pub pairs_from : List ℕ → Vector → ℕ → ℕ → List (List ℕ × List ℕ) → Option (List (List ℕ × List ℕ))
pairs_from bytes vector zero k pairs = Some pairs
pairs_from bytes vector (suc n) k pairs = do
  table ← element_at bytes vector k
  key ← string_field bytes table slots.key_value_key
  value ← string_field bytes table slots.key_value_value
  pairs_from bytes vector n (k + 1) (with_found pairs key value)

abbrev pub pairs_of : List ℕ → Option Vector → Option (List (List ℕ × List ℕ))
pairs_of bytes None = Some []
pairs_of bytes (Some vector) = pairs_from bytes vector vector.count 0 []

-- the custom metadata that a slot of a table refers to, in the order of the keys
unfoldable pub metadata_in : List ℕ → TablePlace → ℕ → Option (List (List ℕ × List ℕ))
metadata_in bytes table slot = do
  vector ← vector_field bytes table slot slots.reference_size
  pairs_of bytes vector

-- the keys under which a field's metadata names an extension type (Arrow columnar format, "Extension Types")
abbrev pub extension_name_key : List ℕ
extension_name_key = codes "ARROW:extension:name"

abbrev pub extension_metadata_key : List ℕ
extension_metadata_key = codes "ARROW:extension:metadata"

-- the type as the extension that the metadata names, if it names one
abbrev pub extended_by : Option (List ℕ) → Option (List ℕ) → DataType → DataType
extended_by None metadata data_type = data_type
extended_by (Some name) metadata data_type = types.Extension name data_type metadata

abbrev pub extended : List (List ℕ × List ℕ) → DataType → DataType
extended pairs data_type = extended_by (value_at extension_name_key pairs) (value_at extension_metadata_key pairs) data_type

-- the type as the values of a dictionary, if the field has one; its ids
pub record EncodedType : Type 0 where
  pub data_type : DataType
  pub id : Option ℤ

-- DictionaryEncoding: an id, the type of the keys, which must be there, and whether the values are ordered; its kind is not looked at
abbrev pub encoded_by : List ℕ → Option TablePlace → DataType → Option EncodedType
encoded_by bytes None data_type = Some (record { data_type = data_type; id = None })
encoded_by bytes (Some table) data_type = do
  id ← signed_field w64 bytes table slots.dictionary_encoding_id (pos 0)
  found ← table_field bytes table slots.dictionary_encoding_index_type
  keys ← found
  integer ← integer_in bytes keys
  is_ordered ← truth_field bytes table slots.dictionary_encoding_is_ordered
  Some (record { data_type = types.Dictionary integer data_type is_ordered; id = Some id })

-- The field of a Field table, where fields may nest so many levels deep from here on. The reader keeps the keys of an extension in the
-- metadata. An extension stands under the field's dictionary.
unfoldable pub field_in : Option DataType → List ℕ → ℕ → TablePlace → Visits FieldIn
field_in floats bytes zero table left = None
field_in floats bytes (suc levels) table left = do
  visited ← visit left
  found_name ← string_field bytes table slots.field_name
  name ← found_name
  is_nullable ← truth_field bytes table slots.field_nullable
  number ← number_field w8 bytes table slots.field_type_type 0
  tag ← tag_of number
  found_type ← table_field bytes table slots.field_type
  type_table ← found_type
  found ← type_in floats (field_in floats bytes levels) bytes tag table type_table visited
  dictionary ← table_field bytes table slots.field_dictionary
  metadata ← metadata_in bytes table slots.field_custom_metadata
  encoded ← encoded_by bytes dictionary (extended metadata found.0.data_type)
  Some (
    record {
      field = record { name = name; data_type = encoded.data_type; is_nullable = is_nullable; metadata = metadata };
      ids = ids encoded.id found.0.below;
    },
    found.1,
  )

-- a schema as read, the dictionary ids beside its fields, and whether numbers stand with the lowest byte first
pub record SchemaIn : Type 0 where
  pub schema : Schema
  pub ids : IdsList
  pub is_little_endian : Bool

-- the byte order by its number
abbrev pub is_little_of : ℤ → Option Bool
is_little_of number =
    if int_eq number (pos tags.little) then Some true else if int_eq number (pos tags.big) then Some false else None

-- the schema of a Schema table, before it is tested whether it is one that is written; its features are not looked at
unfoldable pub any_schema_in : Option DataType → List ℕ → TablePlace → Option SchemaIn
any_schema_in floats bytes table = do
  number ← signed_field w16 bytes table slots.schema_endianness (pos 0)
  is_little_endian ← is_little_of number
  found ← vector_field bytes table slots.schema_fields slots.reference_size
  vector ← found
  fields ← each_of (field_in floats bytes most_levels) bytes vector vector.count 0 (length bytes)
  metadata ← metadata_in bytes table slots.schema_custom_metadata
  Some (record { schema = record { fields = fields_of fields.0; metadata = metadata }; ids = ids_of fields.0; is_little_endian = is_little_endian })
