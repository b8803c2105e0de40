-- Columns that stand in the body of a message, and the messages that have them (Arrow IPC, "RecordBatch message", "Dictionary Messages").
use Rattle.std.specs.Prelude.{◌≡◌, ℕ, ℤ, pos, Bool, true, false, ◌&&◌, List, [], map, Result, Ok, Err, FitsSigned}
use Rattle.std.specs.Int.{w64}
use Rattle.std.specs.List.{AllByRecursion}
use Rattle.std.specs.declared.vec.Vec.{Vec}
use Rattle.std.specs.declared.alloc.Global.{Global}
use Rattle.ipc_format_column_bytes.specs.Bodies.{Parts, parts, stated_node, stated_buffer, IsRefused}
use Rattle.ipc_format_streams.specs.columnar_memory.declared.Error.{Error}
use Rattle.ipc_format_streams.specs.columnar_memory.declared.Error.TheVariants.{Overflow, OutOfMemory}
use Rattle.ipc_format_streams.specs.messages.declared.FieldNode.{FieldNode}
use Rattle.ipc_format_streams.specs.messages.declared.Buffer.{Buffer}
use Rattle.ipc_format_streams.specs.grammar.Encoding.{Encoded}
use Rattle.ipc_format_streams.specs.grammar.SchemaObjects.{dictionary_batch_object}
use Rattle.ipc_format_streams.specs.grammar.TagNumbers.{dictionary_tag, record_tag}
use Rattle.ipc_format_streams.specs.grammar.WrittenMessages.{Written, batch_object, body_bytes, buffer_places, fits_limit, message_of}
use Rattle.ipc_format_streams.specs.grammar.WrittenStreams.{has_nodes_in_room}
use Rattle.ipc_format_column_bytes.specs.declared.placed.Placed.{Placed}

-- the nodes and buffers of a column, and a body of its buffers alone
pub record IsPlaced (placed : Placed) (body : List ℕ) (column : Encoded) : Type 0 where
  pub nodes : placed.nodes.items ≡ map stated_node column.nodes
  pub buffers : placed.buffers.items ≡ map stated_buffer (buffer_places 0 column.buffers)
  pub bytes : body ≡ body_bytes column.buffers

-- a body without columns
abbrev pub no_parts : Parts
no_parts = parts [] [] [] (pos 0)

-- a column is placed in a body of its own; or it is refused
abbrev pub Places : Result Placed Error → List ℕ → Encoded → Type 0
Places (Ok placed) body column = IsPlaced placed body column
Places (Err error) body column = IsRefused error 0 column

-- the message of a batch of so many rows, and of a dictionary of so many values, of a column
abbrev pub batch_of_column : ℕ → Encoded → Written
batch_of_column rows column = message_of record_tag (batch_object rows column) column.buffers

abbrev pub dictionary_of_column : ℤ → ℕ → Encoded → Written
dictionary_of_column id rows column = message_of dictionary_tag (dictionary_batch_object id (batch_object rows column)) column.buffers

-- The metadata of a message beside its body; or the message is past its limits; or memory ran out.
abbrev pub WritesMetadata : Result (Vec ℕ Global) Error → List ℕ → Written → Type 0
WritesMetadata (Ok metadata) body message = (fits_limit message ≡ true) × (record { metadata = metadata.items; body = body } ≡ message)
WritesMetadata (Err Overflow) body message = fits_limit message ≡ false
WritesMetadata (Err OutOfMemory) body message = Unit {0}
WritesMetadata (Err _) body message = ⊥

-- whether the nodes of a column and the message that has it are within their limits
abbrev pub is_within : Encoded → Written → Bool
is_within column message = has_nodes_in_room column && fits_limit message

-- why a message is not encoded: a test says that it is past a limit, or memory ran out
abbrev pub IsNotEncoded : Error → Bool → Type 0
IsNotEncoded Overflow fits = fits ≡ false
IsNotEncoded OutOfMemory fits = Unit {0}
IsNotEncoded _ fits = ⊥

-- what a node and a buffer state are signed numbers of eight bytes
abbrev pub IsSignedNode : FieldNode → Type 0
IsSignedNode node = FitsSigned w64 node.length × FitsSigned w64 node.null_count

abbrev pub IsSignedBuffer : Buffer → Type 0
IsSignedBuffer buffer = FitsSigned w64 buffer.offset × FitsSigned w64 buffer.length

abbrev pub AreSignedNodes : List FieldNode → Type 0
AreSignedNodes nodes = AllByRecursion IsSignedNode nodes

abbrev pub AreSignedBuffers : List Buffer → Type 0
AreSignedBuffers buffers = AllByRecursion IsSignedBuffer buffers
