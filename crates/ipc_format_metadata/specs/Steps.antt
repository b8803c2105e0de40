-- Fields and schemas in the order in which they are read: the definitions of the format, step by step.
use Rattle.std.specs.Prelude.{ℕ, ◌<◌, Bool, List, length, Option, Some, None, IsSomeAnd, nat_le, pos}
use Rattle.std.specs.Int.{w8, w16}
use Rattle.ipc_format_grammar.specs.columnar_memory.declared.DataType.{DataType}
use Rattle.ipc_format_grammar.specs.columnar_memory.declared.Field.{Field}
use Rattle.ipc_format_grammar.specs.flatbuffers.Reading.{◌>>=◌, guard}
use Rattle.ipc_format_grammar.specs.flatbuffers.FlatBuffers.{TablePlace, Vector, number_field, signed_field, truth_field, table_field, vector_field}
use Rattle.ipc_format_grammar.specs.flatbuffers.FlatBuffers.{string_field, element_at}
use Rattle.ipc_format_grammar.specs.Messages as message
use Rattle.ipc_format_grammar.specs.Types.{tag_of}
use Rattle.ipc_format_grammar.specs.Schemas.{FieldIn, TypeIn, SchemaIn, IdsList, Visits, type_in, field_in, each_of, fields_of}
use Rattle.ipc_format_grammar.specs.Schemas.{ids_of, ids, no_ids, ids_then, metadata_in, extended, encoded_by, is_little_of}
use Rattle.ipc_format_grammar.specs.SchemaGrammar as grammar
use Rattle.ipc_format_grammar.specs.Refusals.{field_at_path, field_of_schema, IsFloat}
use Rattle.ipc_format_metadata.specs.Parts.{Layer, flat, over, over_all, layer_of}
use Rattle.ipc_format_grammar.specs.SlotNumbers as slots
use Rattle.ipc_format_grammar.specs.Limits.{most_levels}

-- a float field stands at a path below a Field table
abbrev pub FloatBelow : List ℕ → TablePlace → Type 0
FloatBelow bytes field = (path : List ℕ) × IsSomeAnd (field_at_path bytes field path) (IsFloat bytes)

-- the same below one of some Field tables
abbrev pub FloatAmong : List ℕ → Vector → Type 0
FloatAmong bytes vector = (k : ℕ) × (k < vector.count) × IsSomeAnd (element_at bytes vector k) (FloatBelow bytes)

-- a float field stands at a path of a schema
abbrev pub FloatInSchema : List ℕ → TablePlace → Type 0
FloatInSchema bytes schema = (k : ℕ) × (path : List ℕ) × IsSomeAnd (field_of_schema bytes schema k path) (IsFloat bytes)

-- fields, and the dictionary ids beside them
pub record FieldsIn : Type 0 where
  pub fields : List Field
  pub below : IdsList

abbrev pub apart : List FieldIn × ℕ → Option (FieldsIn × ℕ)
apart found = Some (record { fields = fields_of found.0; below = ids_of found.0 }, found.1)

-- the fields of a vector's tables
abbrev pub fields_in : (TablePlace → Visits FieldIn) → List ℕ → Vector → Visits FieldsIn
fields_in read bytes vector left = do
  found ← each_of read bytes vector vector.count 0 left
  apart found

-- the children of a field
abbrev pub children : List ℕ → TablePlace → Option Vector
children bytes field = do
  found ← vector_field bytes field slots.field_children slots.reference_size
  found

-- the first of them
abbrev pub first_child : List ℕ → TablePlace → Option TablePlace
first_child bytes field = do
  vector ← children bytes field
  _ ← guard (nat_le 1 vector.count)
  element_at bytes vector 0

abbrev pub over_one : (Field → DataType) → FieldIn × ℕ → Option (TypeIn × ℕ)
over_one make found = Some (record { data_type = make found.0.field; below = ids_then found.0.ids no_ids }, found.1)

abbrev pub over_each : (List Field → DataType) → FieldsIn × ℕ → Option (TypeIn × ℕ)
over_each make found = Some (record { data_type = make found.0.fields; below = found.0.below }, found.1)

-- the type of a layer over the fields below it
abbrev pub by_layer : Layer → (TablePlace → Visits FieldIn) → List ℕ → TablePlace → Visits TypeIn
by_layer (flat data_type) read bytes field left = Some (record { data_type = data_type; below = no_ids }, left)
by_layer (over make) read bytes field left = do
  table ← first_child bytes field
  found ← read table left
  over_one make found
by_layer (over_all make) read bytes field left = do
  vector ← children bytes field
  found ← fields_in read bytes vector left
  over_each make found

-- the layer of a field's type
abbrev pub layer_in : List ℕ → TablePlace → Option Layer
layer_in bytes field = do
  number ← number_field w8 bytes field slots.field_type_type 0
  tag ← tag_of number
  found ← table_field bytes field slots.field_type
  table ← found
  layer_of bytes tag table

-- the type of a field
abbrev pub type_found : (TablePlace → Visits FieldIn) → List ℕ → TablePlace → Visits TypeIn
type_found read bytes field left = do
  number ← number_field w8 bytes field slots.field_type_type 0
  tag ← tag_of number
  found ← table_field bytes field slots.field_type
  table ← found
  type_in None read bytes tag field table left

-- the name of a field, and whether its slots may be null
abbrev pub head_in : List ℕ → TablePlace → Option (List ℕ × Bool)
head_in bytes field = do
  found_name ← string_field bytes field slots.field_name
  name ← found_name
  is_nullable ← truth_field bytes field slots.field_nullable
  Some (name, is_nullable)

-- a field by its type, with what stands beside it
abbrev pub completed : List ℕ → TablePlace → List ℕ × Bool → TypeIn × ℕ → Option (FieldIn × ℕ)
completed bytes table head found = do
  dictionary ← table_field bytes table slots.field_dictionary
  metadata ← metadata_in bytes table slots.field_custom_metadata
  encoded ← encoded_by bytes dictionary (extended metadata found.0.data_type)
  Some (
    record {
      field = record { name = head.0; data_type = encoded.data_type; is_nullable = head.1; metadata = metadata };
      ids = ids encoded.id found.0.below;
    },
    found.1,
  )

-- the byte order of a schema
abbrev pub order_in : List ℕ → TablePlace → Option Bool
order_in bytes table = do
  number ← signed_field w16 bytes table slots.schema_endianness (pos 0)
  is_little_of number

-- the Field tables of a schema
abbrev pub tables_in : List ℕ → TablePlace → Option Vector
tables_in bytes table = do
  found ← vector_field bytes table slots.schema_fields slots.reference_size
  found

-- how many Field tables may still be visited when a schema's fields are read, of as many as the message has bytes
abbrev pub visits_left : List ℕ → TablePlace → Option ℕ
visits_left bytes table = do
  vector ← tables_in bytes table
  found ← fields_in (field_in None bytes most_levels) bytes vector (length bytes)
  Some found.1

-- the Schema table of a message
abbrev pub schema_of : message.Header → Option TablePlace
schema_of (message.schema table) = Some table
schema_of _ = None

abbrev pub schema_table_in : List ℕ → Option TablePlace
schema_table_in bytes = do
  found ← message.message_in bytes
  schema_of found.header

-- the schema of a message
abbrev pub schema_message_in : List ℕ → Option SchemaIn
schema_message_in bytes = do
  table ← schema_table_in bytes
  grammar.schema_in bytes table

-- the same, of the schema of a message
abbrev pub visits_left_in_message : List ℕ → Option ℕ
visits_left_in_message bytes = do
  table ← schema_table_in bytes
  visits_left bytes table

-- a float field stands in the schema of a message
abbrev pub FloatInMessage : List ℕ → Type 0
FloatInMessage bytes = IsSomeAnd (schema_table_in bytes) (FloatInSchema bytes)
