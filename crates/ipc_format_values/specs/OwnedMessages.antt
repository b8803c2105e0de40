-- The messages and footers that stand in metadata (Message.fbs, File.fbs). A message has a header and a footer its schema; a batch has both
-- its vectors, and is not compressed; a footer has the blocks of its record batches. Blocks of dictionaries and custom metadata that are
-- absent are empty.
use Rattle.std.specs.Prelude.{ℕ, Bool, true, false, List, [], ◌∷◌, Option, Some, None}
use Rattle.ipc_format_writing.specs.flatbuffers.Reading.{◌>>=◌}
use Rattle.ipc_format_writing.specs.grammar.Messages as format
use Rattle.ipc_format_writing.specs.grammar.Messages.{Pair, Version, struct_at}
use Rattle.ipc_format_writing.specs.grammar.SlotNumbers.{reference_size}
use Rattle.ipc_format_writing.specs.messages.MessageSlots as slots
use Rattle.ipc_format_writing.specs.messages.MessageSlots.{TableIn, VectorIn, HeaderIn, BlockIn, vector_in, block_at}
use Rattle.ipc_format_writing.specs.messages.declared.Block.{Block}
use Rattle.ipc_format_writing.specs.messages.declared.Buffer.{Buffer}
use Rattle.ipc_format_writing.specs.messages.declared.FieldNode.{FieldNode}
use Rattle.ipc_format_writing.specs.messages.declared.MetadataVersion.{MetadataVersion}
use Rattle.ipc_format_writing.specs.messages.declared.MetadataVersion.TheVariants as versions
use Rattle.ipc_format_values.specs.Owned.{gathered, pairs_in}
use Rattle.ipc_format_values.specs.OwnedFields.{schema_in}
use Rattle.ipc_format_values.specs.declared.message_values.RecordBatch.{RecordBatch}
use Rattle.ipc_format_values.specs.declared.message_values.DictionaryBatch.{DictionaryBatch}
use Rattle.ipc_format_values.specs.declared.message_values.MessageHeader.{MessageHeader}
use Rattle.ipc_format_values.specs.declared.message_values.MessageHeader.TheVariants as headers
use Rattle.ipc_format_values.specs.declared.message_values.Message.{Message}
use Rattle.ipc_format_values.specs.declared.message_values.Footer.{Footer}

-- ---- structs of vectors

abbrev pub node_of : Pair → FieldNode
node_of pair = record { length = pair.first; null_count = pair.second }

abbrev pub node_at : VectorIn → ℕ → Option (List FieldNode)
node_at from k = do
  pair ← struct_at from.bytes from.vector k
  Some (node_of pair ∷ [])

abbrev pub nodes_in : VectorIn → Option (List FieldNode)
nodes_in from = gathered (node_at from) from.vector.count 0

abbrev pub buffer_of : Pair → Buffer
buffer_of pair = record { offset = pair.first; length = pair.second }

abbrev pub buffer_at : VectorIn → ℕ → Option (List Buffer)
buffer_at from k = do
  pair ← struct_at from.bytes from.vector k
  Some (buffer_of pair ∷ [])

abbrev pub buffers_in : VectorIn → Option (List Buffer)
buffers_in from = gathered (buffer_at from) from.vector.count 0

abbrev pub stated_of : BlockIn → Block
stated_of block = record { offset = block.offset; meta_data_length = block.metadata_length; body_length = block.body_length }

abbrev pub stated_at : VectorIn → ℕ → Option (List Block)
stated_at from k = do
  block ← block_at from.bytes from.vector k
  Some (stated_of block ∷ [])

abbrev pub blocks_in : VectorIn → Option (List Block)
blocks_in from = gathered (stated_at from) from.vector.count 0

abbrev pub blocks_if : Option VectorIn → Option (List Block)
blocks_if None = Some []
blocks_if (Some from) = blocks_in from

-- ---- batches

-- whether a table is there
abbrev pub is_there : Option (Option TableIn) → Bool
is_there (Some (Some table)) = true
is_there (Some None) = false
is_there None = false

abbrev pub is_compressed : TableIn → Bool
is_compressed batch = is_there (slots.batch_compression batch)

-- nothing where a table is there
abbrev pub unless_there : Option TableIn → Option Bool
unless_there None = Some true
unless_there (Some table) = None

abbrev pub batch_in : TableIn → Option RecordBatch
batch_in batch = do
  length ← slots.batch_length batch
  found_nodes ← slots.batch_nodes batch
  nodes_vector ← found_nodes
  nodes ← nodes_in nodes_vector
  found_buffers ← slots.batch_buffers batch
  buffers_vector ← found_buffers
  buffers ← buffers_in buffers_vector
  compression ← slots.batch_compression batch
  _ ← unless_there compression
  Some (record { length = length; nodes = nodes; buffers = buffers })

abbrev pub dictionary_in : TableIn → Option DictionaryBatch
dictionary_in batch = do
  id ← slots.dictionary_id batch
  found ← slots.dictionary_data batch
  table ← found
  values ← batch_in table
  is_delta ← slots.dictionary_is_delta batch
  Some (record { id = id; «data» = values; is_delta = is_delta })

-- whether the values of a dictionary are compressed
abbrev pub are_compressed : Option (Option TableIn) → Bool
are_compressed (Some (Some batch)) = is_compressed batch
are_compressed (Some None) = false
are_compressed None = false

abbrev pub dictionary_is_compressed : TableIn → Bool
dictionary_is_compressed batch = are_compressed (slots.dictionary_data batch)

-- ---- messages

abbrev pub version_of : Version → MetadataVersion
version_of format.V1 = versions.V1
version_of format.V2 = versions.V2
version_of format.V3 = versions.V3
version_of format.V4 = versions.V4
version_of format.V5 = versions.V5

-- the header of a kind, by its table
abbrev pub header_by : List ℕ → format.Header → Option MessageHeader
header_by bytes (format.schema table) = do
  schema ← schema_in (record { bytes = bytes; table = table })
  Some (headers.Schema schema)
header_by bytes (format.dictionary_batch table) = do
  batch ← dictionary_in (record { bytes = bytes; table = table })
  Some (headers.DictionaryBatch batch)
header_by bytes (format.record_batch table) = do
  batch ← batch_in (record { bytes = bytes; table = table })
  Some (headers.RecordBatch batch)

abbrev pub header_in : HeaderIn → Option MessageHeader
header_in from = header_by from.bytes from.header

abbrev pub compressed_by : List ℕ → format.Header → Bool
compressed_by bytes (format.schema table) = false
compressed_by bytes (format.dictionary_batch table) = dictionary_is_compressed (record { bytes = bytes; table = table })
compressed_by bytes (format.record_batch table) = is_compressed (record { bytes = bytes; table = table })

abbrev pub header_is_compressed : HeaderIn → Bool
header_is_compressed from = compressed_by from.bytes from.header

abbrev pub compressed_if : Option (Option HeaderIn) → Bool
compressed_if (Some (Some header)) = header_is_compressed header
compressed_if (Some None) = false
compressed_if None = false

abbrev pub message_is_compressed : TableIn → Bool
message_is_compressed message = compressed_if (slots.message_header message)

-- the slot of Message and of Footer
abbrev pub custom_metadata : ℕ
custom_metadata = 4

abbrev pub metadata_in : TableIn → Option (Option VectorIn)
metadata_in from = vector_in from custom_metadata reference_size

abbrev pub message_in : TableIn → Option Message
message_in message = do
  version ← slots.message_version message
  found ← slots.message_header message
  stated ← found
  header ← header_in stated
  body_length ← slots.message_body_length message
  pairs ← metadata_in message
  found_pairs ← pairs_in pairs
  Some (record { version = version_of version; header = header; body_length = body_length; custom_metadata = found_pairs })

-- ---- footers

abbrev pub footer_in : TableIn → Option Footer
footer_in footer = do
  version ← slots.footer_version footer
  found_schema ← slots.footer_schema footer
  schema_table ← found_schema
  schema ← schema_in schema_table
  found_dictionaries ← slots.footer_dictionaries footer
  dictionaries ← blocks_if found_dictionaries
  found_batches ← slots.footer_record_batches footer
  batches_vector ← found_batches
  record_batches ← blocks_in batches_vector
  pairs ← metadata_in footer
  found_pairs ← pairs_in pairs
  Some (
      record {
        version = version_of version;
        schema = schema;
        dictionaries = dictionaries;
        record_batches = record_batches;
        custom_metadata = found_pairs;
      }
      )
