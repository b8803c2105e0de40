-- Views of schemas and of what stands in them, as the definitions of their slots have them.
use Rattle.std.specs.Prelude.{Bool, true, false}
use Rattle.ipc_format_metadata.specs.flatbuffers.Views.{vector_of}
use Rattle.ipc_format_messages.specs.MessageSlots.{TableIn, VectorIn}
use Rattle.ipc_format_messages.specs.MessageViews.{table_view}
use Rattle.ipc_format_messages.specs.declared.vectors.TablesRef.{TablesRef}
use Rattle.ipc_format_messages.specs.declared.schemas.Endianness.{Endianness}
use Rattle.ipc_format_messages.specs.declared.schemas.Endianness.TheVariants.{Little, Big}
use Rattle.ipc_format_messages.specs.declared.schemas.FieldsRef.{FieldsRef}
use Rattle.ipc_format_messages.specs.declared.schemas.KeyValuesRef.{KeyValuesRef}
use Rattle.ipc_format_messages.specs.declared.fields.FieldRef.{FieldRef}
use Rattle.ipc_format_messages.specs.declared.fields.DictionaryEncodingRef.{DictionaryEncodingRef}
use Rattle.ipc_format_messages.specs.declared.fields.IntRef.{IntRef}
use Rattle.ipc_format_messages.specs.declared.fields.KeyValueRef.{KeyValueRef}

-- whether the order of bytes is little
abbrev pub is_little : Endianness → Bool
is_little Little = true
is_little Big = false

abbrev pub tables_view : TablesRef → VectorIn
tables_view tables = record { bytes = tables.bytes.now; vector = vector_of tables.vector }

abbrev pub fields_view : FieldsRef → VectorIn
fields_view fields = tables_view fields.tables

abbrev pub pairs_view : KeyValuesRef → VectorIn
pairs_view pairs = tables_view pairs.tables

abbrev pub field_view : FieldRef → TableIn
field_view field = table_view field.table

abbrev pub encoding_view : DictionaryEncodingRef → TableIn
encoding_view encoding = table_view encoding.table

abbrev pub int_view : IntRef → TableIn
int_view int = table_view int.table

abbrev pub pair_view : KeyValueRef → TableIn
pair_view pair = table_view pair.table
