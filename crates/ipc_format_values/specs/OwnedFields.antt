-- The fields and schemas that stand in metadata (Schema.fbs). A schema's fields form a tree of Field tables. At most as many of them are
-- visited as the message has bytes, and fields nest at most 64 deep. A field has a name and a type, and a dictionary the type of its keys; a
-- schema has its vector of fields. Children and custom metadata that are absent are empty.
use Rattle.std.specs.Prelude.{ℕ, zero, suc, ◌+◌, Bool, true, false, List, [], ◌∷◌, length, Option, Some, None}
use Rattle.ipc_format_writing.specs.flatbuffers.Reading.{◌>>=◌}
use Rattle.ipc_format_writing.specs.grammar.Limits.{most_levels}
use Rattle.ipc_format_writing.specs.grammar.Schemas.{Visits, visit}
use Rattle.ipc_format_writing.specs.messages.MessageSlots.{TableIn, VectorIn}
use Rattle.ipc_format_writing.specs.messages.SchemaSlots as slots
use Rattle.ipc_format_writing.specs.messages.TypeSlots.{field_type}
use Rattle.ipc_format_writing.specs.messages.declared.Endianness.{Endianness}
use Rattle.ipc_format_writing.specs.messages.declared.Endianness.TheVariants.{Little, Big}
use Rattle.ipc_format_values.specs.Owned.{int_in, type_in, pairs_in, table_at}
use Rattle.ipc_format_values.specs.declared.fields.DictionaryEncoding.{DictionaryEncoding}
use Rattle.ipc_format_values.specs.declared.fields.Field.{Field}
use Rattle.ipc_format_values.specs.declared.fields.Field.TheViews.{roll-Field}
use Rattle.ipc_format_values.specs.declared.fields.Schema.{Schema}
use Rattle.ipc_format_values.specs.declared.taken_fields.FieldParts.{FieldParts}

-- ---- fields

-- the type of the keys must be there
abbrev pub encoding_in : TableIn → Option DictionaryEncoding
encoding_in encoding = do
  id ← slots.encoding_id encoding
  found ← slots.encoding_index_type encoding
  keys ← found
  index_type ← int_in keys
  is_ordered ← slots.encoding_is_ordered encoding
  dictionary_kind ← slots.encoding_kind encoding
  Some (record { id = id; index_type = index_type; is_ordered = is_ordered; dictionary_kind = dictionary_kind })

abbrev pub encoding_if : Option TableIn → Option (Option DictionaryEncoding)
encoding_if None = Some None
encoding_if (Some table) = do
  encoding ← encoding_in table
  Some (Some encoding)

-- a field but for the fields below it
abbrev pub parts_in : TableIn → Option FieldParts
parts_in field = do
  found_name ← slots.field_name field
  name ← found_name
  nullable ← slots.field_is_nullable field
  found_type ← field_type field
  type_table ← found_type
  type_ ← type_in type_table
  dictionary_table ← slots.field_dictionary field
  dictionary ← encoding_if dictionary_table
  pairs ← slots.field_metadata field
  custom_metadata ← pairs_in pairs
  Some (record { name = name; nullable = nullable; type_ = type_; dictionary = dictionary; custom_metadata = custom_metadata })

-- the field of its parts
abbrev pub field_over : FieldParts → List Field → Field
field_over parts children = roll-Field (
    record {
      name = parts.name;
      nullable = parts.nullable;
      type_ = parts.type_;
      dictionary = parts.dictionary;
      children = children;
      custom_metadata = parts.custom_metadata;
    }
    )

-- the fields of n tables of a vector, from the k-th on
abbrev pub each_of : (TableIn → Visits Field) → VectorIn → ℕ → ℕ → Visits (List Field)
each_of read from zero k left = Some ([], left)
each_of read from (suc n) k left = do
  table ← table_at from k
  first ← read table left
  others ← each_of read from n (k + 1) first.1
  Some (first.0 ∷ others.0, others.1)

abbrev pub fields_in : (TableIn → Visits Field) → VectorIn → Visits (List Field)
fields_in read from left = each_of read from from.vector.count 0 left

abbrev pub fields_if : (TableIn → Visits Field) → Option VectorIn → Visits (List Field)
fields_if read None left = Some ([], left)
fields_if read (Some from) left = fields_in read from left

-- the field of a Field table, where fields may nest so many levels deep from here on
unfoldable pub field_in : ℕ → TableIn → Visits Field
field_in zero field left = None
field_in (suc levels) field left = do
  visited ← visit left
  parts ← parts_in field
  found ← slots.field_children field
  children ← fields_if (field_in levels) found visited
  Some (field_over parts children.0, children.1)

-- a field by itself, as a top field of its message
abbrev pub top_field_in : TableIn → Option Field
top_field_in field = do
  found ← field_in most_levels field (length field.bytes)
  Some found.0

-- ---- schemas

abbrev pub order_of : Bool → Endianness
order_of true = Little
order_of false = Big

-- the fields of a schema, and how many Field tables may still be visited
abbrev pub schema_fields_in : TableIn → Option (List Field × ℕ)
schema_fields_in schema = do
  found ← slots.schema_fields schema
  from ← found
  fields_in (field_in most_levels) from (length schema.bytes)

-- how many of them there are then, of as many as the message has bytes
abbrev pub visits_left : TableIn → Option ℕ
visits_left schema = do
  found ← schema_fields_in schema
  Some found.1

-- its features are not looked at
abbrev pub schema_in : TableIn → Option Schema
schema_in schema = do
  is_little ← slots.schema_is_little schema
  fields ← schema_fields_in schema
  pairs ← slots.schema_metadata schema
  custom_metadata ← pairs_in pairs
  Some (record { endianness = order_of is_little; fields = fields.0; custom_metadata = custom_metadata })
