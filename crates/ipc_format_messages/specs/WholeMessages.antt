-- Messages and batches that are read whole, as the grammar has them.
use Rattle.std.specs.Prelude.{◌≡◌, ℕ, List}
use Rattle.ipc_format_metadata.specs.flatbuffers.Views.{table_of, vector_of}
use Rattle.ipc_format_metadata.specs.grammar.Messages as format
use Rattle.ipc_format_messages.specs.MessageViews.{kind_view, header_view}
use Rattle.ipc_format_messages.specs.declared.reading.MessageParts.{MessageParts}
use Rattle.ipc_format_messages.specs.declared.reading.RecordBatchParts.{RecordBatchParts}
use Rattle.ipc_format_messages.specs.declared.reading.DictionaryBatchParts.{DictionaryBatchParts}

abbrev pub message_parts_view : MessageParts → format.Message
message_parts_view parts = record { header = kind_view parts.header; body_length = parts.body_length }

-- the header's table stands in some bytes
abbrev pub StandsIn : List ℕ → MessageParts → Type 0
StandsIn bytes parts = (header_view parts.header).bytes ≡ bytes

abbrev pub batch_parts_view : RecordBatchParts → format.RecordBatch
batch_parts_view parts = record {
  nodes = vector_of parts.nodes.vector;
  buffers = vector_of parts.buffers.vector;
  is_compressed = parts.is_compressed;
}

abbrev pub dictionary_parts_view : DictionaryBatchParts → format.DictionaryBatch
dictionary_parts_view parts = record { id = parts.id; values = table_of parts.values.table.place; is_delta = parts.is_delta }
