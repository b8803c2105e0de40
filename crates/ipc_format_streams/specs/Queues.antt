-- The nodes and buffers of a batch as queues (Arrow IPC, "RecordBatch message").
use Rattle.std.specs.Prelude.{◌≡◌, ℕ, Bool, true, false, List, length, map, nat_le, Option, Some, None, Result, Ok, Err}
use Rattle.ipc_format_values.specs.columnar_memory.declared.Error.{Error}
use Rattle.ipc_format_values.specs.columnar_memory.declared.Error.TheVariants as errors
use Rattle.ipc_format_values.specs.flatbuffers.FlatBuffers.{TablePlace}
use Rattle.ipc_format_values.specs.grammar.Columns.{Source}
use Rattle.ipc_format_values.specs.grammar.Dictionaries.{Entry, source_in}
use Rattle.ipc_format_values.specs.grammar.Messages as format
use Rattle.ipc_format_values.specs.grammar.Messages.{as_node, as_buffer, record_batch_in}
use Rattle.ipc_format_values.specs.messages.MessageViews.{node_view, buffer_view}
use Rattle.ipc_format_values.specs.messages.declared.values.Buffer.{Buffer}
use Rattle.ipc_format_values.specs.messages.declared.values.FieldNode.{FieldNode}
use Rattle.ipc_format_streams.specs.declared.queues.BatchQueues.{BatchQueues}

abbrev pub node_of : FieldNode → format.FieldNode
node_of node = as_node (node_view node)

abbrev pub buffer_of : Buffer → format.Buffer
buffer_of buffer = as_buffer (buffer_view buffer)

-- one of the structs of a vector does not stand in the message, or there was no memory for them
abbrev pub AreMissing : {B : Type 0} → Option (List B) → Error → Type 0
AreMissing given (errors.OutOfSpec what) = given ≡ None
AreMissing given errors.OutOfMemory = Unit {0}
AreMissing given _ = ⊥

-- all structs of a vector
abbrev pub AreAll : {Q B : Type 0} → (Q → List B) → Option (List B) → Result Q Error → Type 0
AreAll view given (Ok queue) = given ≡ Some (view queue)
AreAll view given (Err error) = AreMissing given error

-- whether there is a sum, and it is no more than a size
abbrev pub fits_by : ℕ → Option ℕ → Bool
fits_by size None = false
fits_by size (Some sum) = nat_le sum size

-- whether the buffers of a batch are compressed
abbrev pub is_compressed_by : Option format.RecordBatch → Bool
is_compressed_by None = false
is_compressed_by (Some batch) = batch.is_compressed

abbrev pub is_compressed : List ℕ → TablePlace → Bool
is_compressed bytes table = is_compressed_by (record_batch_in bytes table)

-- the batch of a message whose nodes and buffers stand in queues
abbrev pub source_with : BatchQueues → Bool → Entry → Source
source_with queues is_little_endian entry = record {
  nodes = map node_of queues.field_nodes.items;
  buffers = map buffer_of queues.buffers.items;
  version = entry.version;
  is_little_endian = is_little_endian;
  room = entry.room;
  origin = entry.origin;
}

-- for each message with some metadata whose buffers stand in a room of so many bytes, in either byte order
abbrev pub ForEntries : List ℕ → ℕ → (Bool → Entry → Type 0) → Type 0
ForEntries bytes size P = (is_little_endian : Bool) (entry : Entry) → entry.metadata ≡ bytes → length entry.room ≡ size → P is_little_endian entry

-- The nodes and buffers of a batch are those of the format, exactly where the format gives the batch; a compressed one is not read.
abbrev pub MakesQueues : List ℕ → TablePlace → ℕ → Result BatchQueues Error → Type 0
MakesQueues bytes table size (Ok queues) = (is_compressed bytes table ≡ false)
    × ForEntries bytes size (λ is_little_endian entry. source_in is_little_endian entry table ≡ Some (source_with queues is_little_endian entry))
MakesQueues bytes table size (Err (errors.NotYetImplemented what)) = is_compressed bytes table ≡ true
MakesQueues bytes table size (Err (errors.OutOfSpec what)) = (is_compressed bytes table ≡ false)
    × ForEntries bytes size (λ is_little_endian entry. source_in is_little_endian entry table ≡ None)
MakesQueues bytes table size (Err errors.OutOfMemory) = is_compressed bytes table ≡ false
MakesQueues bytes table size (Err _) = ⊥
