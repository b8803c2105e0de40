-- What the slots of schemas, fields and what stands beside them give, each by itself (Schema.fbs).
use Rattle.std.specs.Prelude.{ℕ, ℤ, pos, Bool, List, Option, Some, None, nat_lt, if◌then◌else◌}
use Rattle.std.specs.Ordering.{int_eq}
use Rattle.std.specs.Int.{w16, w32}
use Rattle.ipc_format_metadata.specs.flatbuffers.Reading.{◌>>=◌}
use Rattle.ipc_format_metadata.specs.flatbuffers.FlatBuffers.{signed_field, truth_field, string_field, element_at}
use Rattle.ipc_format_metadata.specs.grammar.Schemas.{is_little_of}
use Rattle.ipc_format_messages.specs.MessageSlots.{TableIn, VectorIn, table_in, vector_in, long_in}
use Rattle.ipc_format_metadata.specs.grammar.SlotNumbers as slots
use Rattle.ipc_format_metadata.specs.grammar.TagNumbers as tags
use Rattle.ipc_format_messages.specs.declared.fields.DictionaryKind.{DictionaryKind}
use Rattle.ipc_format_messages.specs.declared.fields.DictionaryKind.TheVariants.{DenseArray}

-- a text, if it is there
abbrev pub text_in : TableIn → ℕ → Option (Option (List ℕ))
text_in from slot = string_field from.bytes from.table slot

abbrev pub truth_in : TableIn → ℕ → Option Bool
truth_in from slot = truth_field from.bytes from.table slot

-- the table of reference k of a vector, where there are so many
unfoldable pub element_in : VectorIn → ℕ → Option (Option TableIn)
element_in from k =
    if nat_lt k from.vector.count then (do
      table ← element_at from.bytes from.vector k
      Some (Some (record { bytes = from.bytes; table = table })))
    else Some None

-- ---- Schema

abbrev pub schema_is_little : TableIn → Option Bool
schema_is_little schema = do
  number ← signed_field w16 schema.bytes schema.table slots.schema_endianness (pos 0)
  is_little_of number

abbrev pub schema_fields : TableIn → Option (Option VectorIn)
schema_fields schema = vector_in schema slots.schema_fields slots.reference_size

abbrev pub schema_metadata : TableIn → Option (Option VectorIn)
schema_metadata schema = vector_in schema slots.schema_custom_metadata slots.reference_size

-- ---- Field

abbrev pub field_name : TableIn → Option (Option (List ℕ))
field_name field = text_in field slots.field_name

abbrev pub field_is_nullable : TableIn → Option Bool
field_is_nullable field = truth_in field slots.field_nullable

abbrev pub field_dictionary : TableIn → Option (Option TableIn)
field_dictionary field = table_in field slots.field_dictionary

abbrev pub field_children : TableIn → Option (Option VectorIn)
field_children field = vector_in field slots.field_children slots.reference_size

abbrev pub field_metadata : TableIn → Option (Option VectorIn)
field_metadata field = vector_in field slots.field_custom_metadata slots.reference_size

-- ---- DictionaryEncoding

abbrev pub encoding_id : TableIn → Option ℤ
encoding_id encoding = long_in encoding slots.dictionary_encoding_id

abbrev pub encoding_index_type : TableIn → Option (Option TableIn)
encoding_index_type encoding = table_in encoding slots.dictionary_encoding_index_type

abbrev pub encoding_is_ordered : TableIn → Option Bool
encoding_is_ordered encoding = truth_in encoding slots.dictionary_encoding_is_ordered

-- the slot of the kind, which schemas are read without
abbrev pub dictionary_encoding_dictionary_kind : ℕ
dictionary_encoding_dictionary_kind = 3

abbrev pub kind_of : ℤ → Option DictionaryKind
kind_of number = if int_eq number (pos tags.dense_array) then Some DenseArray else None

abbrev pub encoding_kind : TableIn → Option DictionaryKind
encoding_kind encoding = do
  number ← signed_field w16 encoding.bytes encoding.table dictionary_encoding_dictionary_kind (pos 0)
  kind_of number

-- ---- Int

abbrev pub int_bit_width : TableIn → Option ℤ
int_bit_width int = signed_field w32 int.bytes int.table slots.int_bit_width (pos 0)

abbrev pub int_is_signed : TableIn → Option Bool
int_is_signed int = truth_in int slots.int_is_signed

-- ---- KeyValue

abbrev pub pair_key : TableIn → Option (Option (List ℕ))
pair_key pair = text_in pair slots.key_value_key

abbrev pub pair_value : TableIn → Option (Option (List ℕ))
pair_value pair = text_in pair slots.key_value_value
