-- Which messages a stream has whose bytes were written one message behind another (Arrow IPC, "Encapsulated message format", "IPC
-- Streaming Format").
use Rattle.std.specs.Prelude.{◌≡◌, ℕ, ◌<◌, ◌^◌, pos, List, [], ◌∷◌, ◌++◌, length, map, Some, IsSomeAnd}
use Rattle.std.specs.List.{All}
use Rattle.ipc_format_grammar.specs.Messages as grammar
use Rattle.ipc_format_grammar.specs.Messages.{Header, message_in}
use Rattle.ipc_format_grammar.specs.Framing.{Framed, Stream, dictionaries_after, messages_of}
use Rattle.ipc_format_grammar.specs.WrittenMessages.{Written, end_mark}
use Rattle.ipc_format_grammar.specs.WrittenStreams.{bytes_of_messages}

-- a message as it is written: its metadata and its body
abbrev pub as_written : Framed → Written
as_written message = record { metadata = message.metadata; body = message.body }

-- A message's metadata tells its header and how long its body is. It has less than 2^31 bytes, since their number is written as a signed
-- number of four bytes.
pub record IsReadable (message : Framed) : Type 0 where
  pub tells : message_in message.metadata ≡ Some (record { header = message.header; body_length = pos (length message.body) })
  pub is_short : length message.metadata < 2 ^ 31

-- a message of a schema
abbrev pub IsOfSchema : Header → Type 0
IsOfSchema (grammar.schema table) = Unit {0}
IsOfSchema _ = ⊥

-- messages may stand behind so many dictionary messages: none of them is a schema's, and not too many of dictionaries stand in a row
abbrev pub MayFollow : ℕ → List Framed → Type 0
MayFollow dictionaries [] = Unit {0}
MayFollow dictionaries (message ∷ others) =
    IsSomeAnd (dictionaries_after dictionaries message.header) (λ in_a_row. MayFollow in_a_row others)

-- messages that make a stream: a schema's, and behind it those of dictionaries and batches
pub record IsStream (messages : Stream) : Type 0 where
  pub begins : IsOfSchema messages.first.header
  pub first : IsReadable messages.first
  pub later : All IsReadable messages.later
  pub in_a_row : MayFollow 0 messages.later

-- messages as they are written, the first before the later ones
abbrev pub all_written : Stream → List Written
all_written messages = map as_written (messages.first ∷ messages.later)

-- The bytes of a stream's messages have exactly these messages, each with its metadata, header and body, whatever stands behind the end
-- mark.
abbrev pub MessagesReadBack : Type 0
MessagesReadBack = (messages : Stream) (behind : List ℕ) → IsStream messages
    → messages_of (bytes_of_messages (all_written messages) ++ end_mark ++ behind) ≡ Some messages
