-- What is written of a message, and why one is not.
use Rattle.std.specs.Prelude.{◌≡◌, ℕ, ◌+◌, ◌≤◌, ◌<◌, ℤ, Bool, true, false, ◌&&◌, List, [], ◌∷◌, ◌++◌, length, map, nat_le, nat_lt, Result, Ok, Err}
use Rattle.std.specs.Int.{w8, w16, w64, cast_unsigned, to_le_bytes}
use Rattle.std.specs.declared.vec.Vec.{Vec}
use Rattle.std.specs.declared.alloc.Global.{Global}
use Rattle.ipc_format_messages.specs.columnar_memory.declared.Error.{Error}
use Rattle.ipc_format_messages.specs.columnar_memory.declared.Error.TheVariants.{Overflow, OutOfMemory}
use Rattle.ipc_format_messages.specs.flatbuffers.Laying.{Piece, TableSlot, absent, number, refers, message_bytes}
use Rattle.ipc_format_messages.specs.flatbuffers.Objects.{Object, laid}
use Rattle.ipc_format_messages.specs.flatbuffers.Views.{piece_view}
use Rattle.ipc_format_messages.specs.flatbuffers.declared.Laid.{Laid}
use Rattle.ipc_format_messages.specs.flatbuffers.declared.LayError.{LayError}
use Rattle.ipc_format_messages.specs.flatbuffers.declared.LayError.TheVariants.{TooLong}
use Rattle.ipc_format_messages.specs.grammar.SchemaObjects.{message_object, record_batch_object, dictionary_batch_object}
use Rattle.ipc_format_messages.specs.grammar.TagNumbers.{dictionary_tag, record_tag}
use Rattle.ipc_format_messages.specs.grammar.WrittenMessages.{prefix_size, most_metadata, body_limit}
use Rattle.ipc_format_messages.specs.declared.FieldNode.{FieldNode}
use Rattle.ipc_format_messages.specs.declared.Buffer.{Buffer}

-- ---- objects

-- a node as it is written: its slots, and how many of them are null
abbrev pub node_pair : FieldNode → ℕ × ℕ
node_pair node = (cast_unsigned w64 node.length, cast_unsigned w64 node.null_count)

-- a buffer as it is written: where it begins in its body, and how many bytes it has
abbrev pub buffer_pair : Buffer → ℕ × ℕ
buffer_pair buffer = (cast_unsigned w64 buffer.offset, cast_unsigned w64 buffer.length)

abbrev pub batch_object : ℕ → List FieldNode → List Buffer → Object
batch_object rows nodes buffers = record_batch_object rows (map node_pair nodes) (map buffer_pair buffers)

-- the message of a record batch, and of a dictionary batch
abbrev pub record_message : ℕ → List FieldNode → List Buffer → ℕ → Object
record_message rows nodes buffers body_length = message_object record_tag (batch_object rows nodes buffers) body_length

abbrev pub dictionary_message : ℤ → ℕ → List FieldNode → List Buffer → ℕ → Object
dictionary_message id rows nodes buffers body_length =
    message_object dictionary_tag (dictionary_batch_object id (batch_object rows nodes buffers)) body_length

-- ---- answers

-- metadata and a body's length within the limits of a message
abbrev pub fits : List ℕ → ℕ → Bool
fits metadata body_length = nat_lt body_length body_limit && nat_le (prefix_size + length metadata) most_metadata

-- The metadata is that of the message's object; or the message is past its limits; or memory ran out.
abbrev pub WritesMessage : Result (Vec ℕ Global) Error → Object → ℕ → Type 0
WritesMessage (Ok bytes) message body_length = (fits (laid message) body_length ≡ true) × (bytes.items ≡ laid message)
WritesMessage (Err Overflow) message body_length = fits (laid message) body_length ≡ false
WritesMessage (Err OutOfMemory) message body_length = Unit {0}
WritesMessage (Err _) message body_length = ⊥

-- ---- steps of the writing

-- two numbers of eight bytes
unfoldable pub pair_bytes : ℕ × ℕ → List ℕ
pair_bytes pair = to_le_bytes w64 pair.0 ++ to_le_bytes w64 pair.1

abbrev pub node_bytes : FieldNode → List ℕ
node_bytes node = pair_bytes (node_pair node)

abbrev pub buffer_bytes : Buffer → List ℕ
buffer_bytes buffer = pair_bytes (buffer_pair buffer)

-- the slots of a message, whose header is laid
abbrev pub message_slots : ℕ → Piece → ℕ → List TableSlot
message_slots kind header body_length = number w16 4 ∷ number w8 kind ∷ refers header ∷ number w64 body_length ∷ absent ∷ []

-- so many bytes at most has the object of a message: 8 stand before it, and 8 before the metadata
abbrev pub most_object : ℕ
most_object = 2147483624

-- the bytes of a message whose object is laid; or it is too long; or memory ran out
abbrev pub Finishes : Result (Vec ℕ Global) Error → Result Laid LayError → Type 0
Finishes (Ok bytes) (Ok root) = (length root.bytes.items ≤ most_object) × (bytes.items ≡ message_bytes (piece_view root))
Finishes (Err Overflow) (Ok root) = most_object < length root.bytes.items
Finishes (Err Overflow) (Err TooLong) = Unit {0}
Finishes (Err OutOfMemory) laid = Unit {0}
Finishes _ laid = ⊥
