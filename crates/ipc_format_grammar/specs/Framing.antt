-- The messages of a stream, by position (Arrow IPC, "Encapsulated message format", "IPC Streaming Format").
use Rattle.std.specs.Prelude.{◌≡◌, ℕ, zero, suc, ◌+◌, ℤ, pos, negsuc, Bool, true, false, List, [], ◌∷◌, length, Option, Some, None, nat_lt}
use Rattle.std.specs.Prelude.{if◌then◌else◌}
use Rattle.std.specs.Int.{w32}
use Rattle.ipc_format_flatbuffers.specs.Reading.{◌>>=◌, guard, window_at}
use Rattle.ipc_format_flatbuffers.specs.FlatBuffers.{signed_at}
use Rattle.ipc_format_grammar.specs.Messages as message
use Rattle.ipc_format_grammar.specs.Messages.{Message, message_in, natural}
use Rattle.ipc_format_grammar.specs.Limits.{most_dictionaries}

-- what stands at a message's place: fewer than four bytes, a length of 0, or metadata, with the place where its body begins
pub data Frame : Type 0 where
  truncated : Frame
  end_mark : Frame
  metadata_then : List ℕ → ℕ → Frame

-- the metadata of a stated length from a place on; a length of 0 ends the stream, and a negative one is refused
abbrev pub frame_of : List ℕ → ℤ → ℕ → Option Frame
frame_of bytes (pos zero) place = Some end_mark
frame_of bytes (pos (suc n)) place = do
  metadata ← window_at bytes place (suc n)
  Some (metadata_then metadata (place + suc n))
frame_of bytes (negsuc n) place = None

-- behind the marker FF FF FF FF stands the length; where the marker is missing, the length stands in its place
abbrev pub frame_behind : List ℕ → ℤ → ℕ → Option Frame
frame_behind bytes (negsuc zero) place = do
  length ← signed_at w32 bytes (place + 4)
  frame_of bytes length (place + 8)
frame_behind bytes (negsuc (suc n)) place = None
frame_behind bytes (pos n) place = frame_of bytes (pos n) (place + 4)

unfoldable pub frame_at : List ℕ → ℕ → Option Frame
frame_at bytes place = if nat_lt (length bytes) (place + 4) then Some truncated else (do
  first ← signed_at w32 bytes place
  frame_behind bytes first place)

-- a message of a stream: its metadata, its header, and its body
pub record Framed : Type 0 where
  pub metadata : List ℕ
  pub header : message.Header
  pub body : List ℕ

-- The message whose metadata stands before a place, and where the next one stands. A schema has no body, and the length that it states
-- is not looked at.
abbrev pub framed_by : List ℕ → List ℕ → ℕ → message.Header → ℤ → Option (Framed × ℕ)
framed_by bytes metadata place (message.schema table) body_length =
    Some (record { metadata = metadata; header = message.schema table; body = [] }, place)
framed_by bytes metadata place header body_length = do
  size ← natural body_length
  body ← window_at bytes place size
  Some (record { metadata = metadata; header = header; body = body }, place + size)

abbrev pub framed_at : List ℕ → List ℕ → ℕ → Option (Framed × ℕ)
framed_at bytes metadata place = do
  found ← message_in metadata
  framed_by bytes metadata place found.header found.body_length

-- what stands at a place of a stream: fewer than four bytes, the end mark, or a message, with the place of the next one
pub data Next : Type 0 where
  nothing_whole : Next
  at_end : Next
  message_then : Framed → ℕ → Next

abbrev pub next_of : List ℕ → Frame → Option Next
next_of bytes truncated = Some nothing_whole
next_of bytes end_mark = Some at_end
next_of bytes (metadata_then metadata place) = do
  found ← framed_at bytes metadata place
  Some (message_then found.0 found.1)

abbrev pub next_at : List ℕ → ℕ → Option Next
next_at bytes place = do
  frame ← frame_at bytes place
  next_of bytes frame

-- how many dictionary messages stand in a row after one more message; too many are refused, and so is a schema
abbrev pub dictionaries_after : ℕ → message.Header → Option ℕ
dictionaries_after before (message.schema table) = None
dictionaries_after before (message.dictionary_batch table) = do
  _ ← guard (nat_lt before most_dictionaries)
  Some (before + 1)
dictionaries_after before (message.record_batch table) = Some 0

-- What comes of what stands at a place: nothing of a stream that is truncated there, one value of the end mark, another of a message.
abbrev pub by_next : {A : Type 0} → Option A → Option A → (Framed → ℕ → Option A) → Next → Option A
by_next if_truncated if_end read nothing_whole = if_truncated
by_next if_truncated if_end read at_end = if_end
by_next if_truncated if_end read (message_then framed place) = read framed place

-- The messages from a place on, after the schema, up to the end mark; what stands behind it is unread. At most so many messages are
-- looked for, and each has at least four bytes.
abbrev pub later_messages : ℕ → List ℕ → ℕ → ℕ → Option (List Framed)
later_messages zero bytes place dictionaries = None
later_messages (suc most) bytes place dictionaries = do
  next ← next_at bytes place
  by_next None (Some []) (λ framed after. (do
    in_a_row ← dictionaries_after dictionaries framed.header
    others ← later_messages most bytes after in_a_row
    Some (framed ∷ others))) next

-- a stream: its first message, which is a schema, and the messages after it
pub record Stream : Type 0 where
  pub first : Framed
  pub later : List Framed

-- a schema's message, and the place behind it
abbrev pub schema_then : Framed → ℕ → message.Header → Option (Framed × ℕ)
schema_then framed after (message.schema table) = Some (framed, after)
schema_then framed after _ = None

-- the first message, and where the next one stands
unfoldable pub first_of : List ℕ → Option (Framed × ℕ)
first_of bytes = do
  next ← next_at bytes 0
  by_next None None (λ framed after. schema_then framed after framed.header) next

unfoldable pub messages_of : List ℕ → Option Stream
messages_of bytes = do
  first ← first_of bytes
  later ← later_messages (length bytes) bytes first.1 0
  Some (record { first = first.0; later = later })

-- whether the messages from a place on end within the first four bytes of one
abbrev pub truncated_from : ℕ → List ℕ → ℕ → ℕ → Option Bool
truncated_from zero bytes place dictionaries = None
truncated_from (suc most) bytes place dictionaries = do
  next ← next_at bytes place
  by_next (Some true) (Some false) (λ framed after. (do
    in_a_row ← dictionaries_after dictionaries framed.header
    truncated_from most bytes after in_a_row)) next

unfoldable pub is_truncated : List ℕ → Option Bool
is_truncated bytes = do
  first ← first_of bytes
  truncated_from (length bytes) bytes first.1 0

-- the stream ends within the first four bytes of a message after the first
abbrev pub EndsInLaterMessage : List ℕ → Type 0
EndsInLaterMessage bytes = is_truncated bytes ≡ Some true
