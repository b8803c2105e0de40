-- The values of the code as the definitions of the format have them.
use Rattle.ipc_format_metadata.specs.flatbuffers.Views.{table_of, vector_of}
use Rattle.ipc_format_metadata.specs.grammar.Messages as format
use Rattle.ipc_format_messages.specs.MessageSlots.{TableIn, VectorIn, HeaderIn, BlockIn}
use Rattle.ipc_format_messages.specs.declared.tables.TableRef.{TableRef}
use Rattle.ipc_format_messages.specs.declared.messages.MessageRef.{MessageRef}
use Rattle.ipc_format_messages.specs.declared.messages.MessageHeaderRef.{MessageHeaderRef}
use Rattle.ipc_format_messages.specs.declared.messages.MessageHeaderRef.TheVariants.{Schema, DictionaryBatch, RecordBatch}
use Rattle.ipc_format_messages.specs.declared.batches.RecordBatchRef.{RecordBatchRef}
use Rattle.ipc_format_messages.specs.declared.batches.BodyCompressionRef.{BodyCompressionRef}
use Rattle.ipc_format_messages.specs.declared.schemas.SchemaRef.{SchemaRef}
use Rattle.ipc_format_messages.specs.declared.footer.FooterRef.{FooterRef}
use Rattle.ipc_format_messages.specs.declared.vectors.FieldNodesRef.{FieldNodesRef}
use Rattle.ipc_format_messages.specs.declared.vectors.BuffersRef.{BuffersRef}
use Rattle.ipc_format_messages.specs.declared.vectors.BlocksRef.{BlocksRef}
use Rattle.ipc_format_messages.specs.declared.values.MetadataVersion.{MetadataVersion}
use Rattle.ipc_format_messages.specs.declared.values.MetadataVersion.TheVariants.{V1, V2, V3, V4, V5}
use Rattle.ipc_format_messages.specs.declared.values.FieldNode.{FieldNode}
use Rattle.ipc_format_messages.specs.declared.values.Buffer.{Buffer}
use Rattle.ipc_format_messages.specs.declared.values.Block.{Block}

abbrev pub version_view : MetadataVersion → format.Version
version_view V1 = format.V1
version_view V2 = format.V2
version_view V3 = format.V3
version_view V4 = format.V4
version_view V5 = format.V5

-- ---- tables

abbrev pub table_view : TableRef → TableIn
table_view from = record { bytes = from.bytes.now; table = table_of from.place }

abbrev pub message_view : MessageRef → TableIn
message_view message = table_view message.table

abbrev pub batch_view : RecordBatchRef → TableIn
batch_view batch = table_view batch.table

abbrev pub compression_view : BodyCompressionRef → TableIn
compression_view compression = table_view compression.table

abbrev pub schema_view : SchemaRef → TableIn
schema_view schema = table_view schema.table

abbrev pub footer_view : FooterRef → TableIn
footer_view footer = table_view footer.table

-- a header, by the place of its table
abbrev pub kind_view : MessageHeaderRef → format.Header
kind_view (Schema schema) = format.schema (table_of schema.table.place)
kind_view (DictionaryBatch batch) = format.dictionary_batch (table_of batch.table.place)
kind_view (RecordBatch batch) = format.record_batch (table_of batch.table.place)

abbrev pub header_view : MessageHeaderRef → HeaderIn
header_view (Schema schema) = record { bytes = schema.table.bytes.now; header = kind_view (Schema schema) }
header_view (DictionaryBatch batch) = record { bytes = batch.table.bytes.now; header = kind_view (DictionaryBatch batch) }
header_view (RecordBatch batch) = record { bytes = batch.table.bytes.now; header = kind_view (RecordBatch batch) }

-- ---- vectors of structs, and the structs

abbrev pub nodes_view : FieldNodesRef → VectorIn
nodes_view nodes = record { bytes = nodes.bytes.now; vector = vector_of nodes.vector }

abbrev pub buffers_view : BuffersRef → VectorIn
buffers_view buffers = record { bytes = buffers.bytes.now; vector = vector_of buffers.vector }

abbrev pub blocks_view : BlocksRef → VectorIn
blocks_view blocks = record { bytes = blocks.bytes.now; vector = vector_of blocks.vector }

-- a node: its slots, and how many of them are null
abbrev pub node_view : FieldNode → format.Pair
node_view node = record { first = node.length; second = node.null_count }

-- a buffer: where it begins in its body, and how many bytes it has
abbrev pub buffer_view : Buffer → format.Pair
buffer_view buffer = record { first = buffer.offset; second = buffer.length }

abbrev pub block_view : Block → BlockIn
block_view block = record { offset = block.offset; metadata_length = block.meta_data_length; body_length = block.body_length }
