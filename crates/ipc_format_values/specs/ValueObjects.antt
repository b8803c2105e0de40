-- The object that is laid for each value.
use Rattle.std.specs.Prelude.{ℕ, Bool, List, [], ◌∷◌, map, Option, Some, None}
use Rattle.std.specs.Int.{w8, w16, w32, w64, cast_unsigned}
use Rattle.ipc_format_writing.specs.flatbuffers.Objects.{Object, Objects, table, references, text, no_field, absent_then, number_then, refers_then}
use Rattle.ipc_format_writing.specs.flatbuffers.Objects.{no_object, object_then}
use Rattle.ipc_format_writing.specs.grammar.SchemaObjects as objects
use Rattle.ipc_format_writing.specs.grammar.SchemaObjects.{refers_if, metadata_object, text_if, numbers_if, truth, unit_number, interval_number}
use Rattle.ipc_format_writing.specs.grammar.SchemaObjects.{mode_number, int_object, short_table, long_table, empty_table}
use Rattle.ipc_format_writing.specs.grammar.TagNumbers as tags
use Rattle.ipc_format_writing.specs.grammar.WrittenFiles.{blocks_object}
use Rattle.ipc_format_writing.specs.MessageWriting.{batch_object}
use Rattle.ipc_format_writing.specs.FooterWriting.{block_view}
use Rattle.ipc_format_writing.specs.messages.declared.Block.{Block}
use Rattle.ipc_format_writing.specs.messages.declared.DateUnit.{DateUnit}
use Rattle.ipc_format_writing.specs.messages.declared.DateUnit.TheVariants.{Day, Millisecond}
use Rattle.ipc_format_writing.specs.messages.declared.DictionaryKind.{DictionaryKind}
use Rattle.ipc_format_writing.specs.messages.declared.DictionaryKind.TheVariants.{DenseArray}
use Rattle.ipc_format_writing.specs.messages.declared.Endianness.{Endianness}
use Rattle.ipc_format_writing.specs.messages.declared.Endianness.TheVariants.{Little, Big}
use Rattle.ipc_format_writing.specs.messages.declared.MetadataVersion.{MetadataVersion}
use Rattle.ipc_format_writing.specs.messages.declared.MetadataVersion.TheVariants as versions
use Rattle.ipc_format_values.specs.declared.fields.KeyValue.{KeyValue}
use Rattle.ipc_format_values.specs.declared.fields.Int.{Int}
use Rattle.ipc_format_values.specs.declared.fields.DictionaryEncoding.{DictionaryEncoding}
use Rattle.ipc_format_values.specs.declared.fields.Field.{Field}
use Rattle.ipc_format_values.specs.declared.fields.Field.TheOpen as layer
use Rattle.ipc_format_values.specs.declared.fields.Field.TheFolds.{fold-Field}
use Rattle.ipc_format_values.specs.declared.fields.Schema.{Schema}
use Rattle.ipc_format_values.specs.declared.types.Precision.{Precision}
use Rattle.ipc_format_values.specs.declared.types.Precision.TheVariants as precisions
use Rattle.ipc_format_values.specs.declared.types.Type_.{Type_}
use Rattle.ipc_format_values.specs.declared.types.Type_.TheVariants as types
use Rattle.ipc_format_values.specs.declared.message_values.RecordBatch.{RecordBatch}
use Rattle.ipc_format_values.specs.declared.message_values.DictionaryBatch.{DictionaryBatch}
use Rattle.ipc_format_values.specs.declared.message_values.MessageHeader.{MessageHeader}
use Rattle.ipc_format_values.specs.declared.message_values.MessageHeader.TheVariants as headers
use Rattle.ipc_format_values.specs.declared.message_values.Message.{Message}
use Rattle.ipc_format_values.specs.declared.message_values.Footer.{Footer}

-- ---- types

abbrev pub int_value : Int → Object
int_value int = int_object (cast_unsigned w32 int.bit_width) int.is_signed

abbrev pub precision_number : Precision → ℕ
precision_number precisions.Half = 0
precision_number precisions.Single = 1
precision_number precisions.Double = 2

abbrev pub date_number : DateUnit → ℕ
date_number Day = 0
date_number Millisecond = 1

-- the tag that names a type's table
abbrev pub type_tag : Type_ → ℕ
type_tag types.Null = 1
type_tag (types.Int int) = 2
type_tag (types.FloatingPoint precision) = 3
type_tag types.Binary = 4
type_tag types.Utf8 = 5
type_tag types.Bool = 6
type_tag (types.Decimal precision scale bit_width) = 7
type_tag (types.Date unit) = 8
type_tag (types.Time unit bit_width) = 9
type_tag (types.Timestamp unit timezone) = 10
type_tag (types.Interval unit) = 11
type_tag types.List = 12
type_tag types.Struct = 13
type_tag (types.Union mode type_ids) = 14
type_tag (types.FixedSizeBinary byte_width) = 15
type_tag (types.FixedSizeList list_size) = 16
type_tag (types.Map keys_sorted) = 17
type_tag (types.Duration unit) = 18
type_tag types.LargeBinary = 19
type_tag types.LargeUtf8 = 20
type_tag types.LargeList = 21

-- a type's own table
abbrev pub type_value : Type_ → Object
type_value (types.Int int) = int_value int
type_value (types.FloatingPoint precision) = short_table (precision_number precision)
type_value (types.Decimal precision scale bit_width) =
    objects.decimal_object (cast_unsigned w32 precision) (cast_unsigned w32 scale) (cast_unsigned w32 bit_width)
type_value (types.Date unit) = short_table (date_number unit)
type_value (types.Time unit bit_width) = objects.time_object (unit_number unit) (cast_unsigned w32 bit_width)
type_value (types.Timestamp unit timezone) = table (number_then w16 (unit_number unit) (refers_if (text_if timezone) no_field))
type_value (types.Interval unit) = short_table (interval_number unit)
type_value (types.Union mode type_ids) = table (number_then w16 (mode_number mode) (refers_if (numbers_if type_ids) no_field))
type_value (types.FixedSizeBinary byte_width) = long_table (cast_unsigned w32 byte_width)
type_value (types.FixedSizeList list_size) = long_table (cast_unsigned w32 list_size)
type_value (types.Map keys_sorted) = table (number_then w8 (truth keys_sorted) no_field)
type_value (types.Duration unit) = short_table (unit_number unit)
type_value _ = empty_table

-- ---- fields and schemas

abbrev pub pair_view : KeyValue → List ℕ × List ℕ
pair_view pair = (pair.key, pair.value)

-- pairs, absent where there is none
abbrev pub pairs_value : List KeyValue → Option Object
pairs_value pairs = metadata_object (map pair_view pairs)

abbrev pub kind_number : DictionaryKind → ℕ
kind_number DenseArray = tags.dense_array

abbrev pub encoding_value : Option DictionaryEncoding → Option Object
encoding_value None = None
encoding_value (Some encoding) = Some (table (number_then w64 (cast_unsigned w64 encoding.id) (refers_then (int_value encoding.index_type)
    (number_then w8 (truth encoding.is_ordered) (number_then w16 (kind_number encoding.dictionary_kind) no_field)))))

-- objects before others
abbrev pub objects_before : List Object → Objects → Objects
objects_before [] others = others
objects_before (first ∷ more) others = object_then first (objects_before more others)

abbrev pub objects_list : List Object → Objects
objects_list all = objects_before all no_object

-- a Field table over its parts
abbrev pub field_over : List ℕ → Bool → Type_ → Option DictionaryEncoding → Objects → List KeyValue → Object
field_over name nullable type_ dictionary children pairs =
    table (refers_then (text name) (number_then w8 (truth nullable) (number_then w8 (type_tag type_) (refers_then (type_value type_)
    (refers_if (encoding_value dictionary) (refers_then (references children) (refers_if (pairs_value pairs) no_field)))))))

abbrev pub field_step : layer.Field-F Object → Object
field_step field = field_over field.name field.nullable field.type_ field.dictionary (objects_list field.children) field.custom_metadata

-- a field, with the fields below it
abbrev pub field_value : Field → Object
field_value = fold-Field Object field_step

abbrev pub order_number : Endianness → ℕ
order_number Little = 0
order_number Big = 1

abbrev pub schema_value : Schema → Object
schema_value schema =
    table (number_then w16 (order_number schema.endianness) (refers_then (references (objects_list (map field_value schema.fields)))
    (refers_if (pairs_value schema.custom_metadata) (absent_then no_field))))

-- ---- messages and footers

abbrev pub batch_value : RecordBatch → Object
batch_value batch = batch_object (cast_unsigned w64 batch.length) batch.nodes batch.buffers

abbrev pub dictionary_value : DictionaryBatch → Object
dictionary_value batch = table (number_then w64 (cast_unsigned w64 batch.id) (refers_then (batch_value batch.data)
    (number_then w8 (truth batch.is_delta) no_field)))

-- the tag that names a header's table
abbrev pub header_tag : MessageHeader → ℕ
header_tag (headers.Schema schema) = 1
header_tag (headers.DictionaryBatch batch) = 2
header_tag (headers.RecordBatch batch) = 3

abbrev pub header_value : MessageHeader → Object
header_value (headers.Schema schema) = schema_value schema
header_value (headers.DictionaryBatch batch) = dictionary_value batch
header_value (headers.RecordBatch batch) = batch_value batch

abbrev pub version_number : MetadataVersion → ℕ
version_number versions.V1 = 0
version_number versions.V2 = 1
version_number versions.V3 = 2
version_number versions.V4 = 3
version_number versions.V5 = 4

abbrev pub message_value : Message → Object
message_value message = table (number_then w16 (version_number message.version) (number_then w8 (header_tag message.header)
    (refers_then (header_value message.header) (number_then w64 (cast_unsigned w64 message.body_length)
    (refers_if (pairs_value message.custom_metadata) no_field)))))

-- a footer of a version and pairs, over its schema
abbrev pub footer_with : ℕ → Object → List Block → List Block → Option Object → Object
footer_with version schema dictionaries record_batches pairs = table (number_then w16 version (refers_then schema
    (refers_then (blocks_object (map block_view dictionaries)) (refers_then (blocks_object (map block_view record_batches))
    (refers_if pairs no_field)))))

abbrev pub footer_value : Footer → Object
footer_value footer = footer_with (version_number footer.version) (schema_value footer.schema) footer.dictionaries footer.record_batches
    (pairs_value footer.custom_metadata)
