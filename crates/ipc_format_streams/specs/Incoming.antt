-- The messages of a stream whose bytes arrive piece by piece (Arrow IPC, "Encapsulated message format", "IPC Streaming Format").
use Rattle.std.specs.Prelude.{◌≡◌, ◌⊎◌, ℕ, ◌<◌, ℤ, pos, List, [], ◌++◌, length, drop, Option, Some, None, Result, Ok, Err}
use Rattle.std.specs.Io.KnownBytes.{Consumes}
use Rattle.ipc_format_values.specs.flatbuffers.Reading.{◌>>=◌}
use Rattle.ipc_format_values.specs.columnar_memory.declared.Error.{Error}
use Rattle.ipc_format_values.specs.columnar_memory.declared.Error.TheVariants as errors
use Rattle.ipc_format_values.specs.grammar.Messages as message
use Rattle.ipc_format_values.specs.grammar.Messages.{Header, message_in, natural}
use Rattle.ipc_format_values.specs.grammar.Framing.{frame_of, frame_at, next_at, nothing_whole, at_end, message_then}
use Rattle.ipc_format_streams.specs.Arriving.{Arrive, IsOfDevice}
use Rattle.ipc_format_streams.specs.declared.incoming.Incoming.{Incoming}
use Rattle.ipc_format_streams.specs.declared.incoming.Incoming.TheVariants as incoming

-- for the bytes that are left, where they are known
abbrev pub ForLeft : Option (List ℕ) → (List ℕ → Type 0) → Type 0
ForLeft left P = (bytes : List ℕ) → left ≡ Some bytes → P bytes

-- some metadata and a body are those of the message that the bytes begin with, and what stands behind it is left
abbrev pub IsNextMessage : Option (List ℕ) → List ℕ → List ℕ → List ℕ → Type 0
IsNextMessage left_after metadata body bytes = (header : Header) × (after : ℕ)
    × (next_at bytes 0 ≡ Some (message_then (record { metadata = metadata; header = header; body = body }) after))
    × (left_after ≡ Some (drop after bytes))

-- What comes next of the bytes that are left: fewer than four bytes, of which none is lost; the end mark; or a message. It is out of
-- specification exactly where the format gives nothing; else the device refused, or memory ran out.
abbrev pub TakesNext : Option (List ℕ) → Option (List ℕ) → List ℕ → List ℕ → Result Incoming Error → Type 0
TakesNext left left_after metadata body (Ok incoming.Waiting) =
    ForLeft left (λ bytes. (next_at bytes 0 ≡ Some nothing_whole) × (left_after ≡ Some bytes))
TakesNext left left_after metadata body (Ok incoming.End) = ForLeft left (λ bytes. next_at bytes 0 ≡ Some at_end)
TakesNext left left_after metadata body (Ok incoming.Message) = ForLeft left (IsNextMessage left_after metadata body)
TakesNext left left_after metadata body (Err (errors.OutOfSpec text)) = ForLeft left (λ bytes. next_at bytes 0 ≡ None)
TakesNext left left_after metadata body (Err (errors.Io what)) = Unit {0}
TakesNext left left_after metadata body (Err errors.OutOfMemory) = Unit {0}
TakesNext left left_after metadata body (Err _) = ⊥

-- what is held of the next message: fewer than four bytes, and where the call does not wait none
abbrev pub Holds : List ℕ → Result Incoming Error → Type 0
Holds held (Ok incoming.Waiting) = length held < 4
Holds held _ = held ≡ []

-- ---- the parts of a message, one after another

-- The four bytes that a message begins with, and the next four where they are the continuation marker, say how many bytes of metadata stand
-- behind them. Where they say it not, nothing is a frame.
abbrev pub TellsSize : Option (List ℕ) → Option (List ℕ) → List ℕ → List ℕ → Result ℕ Error → Type 0
TellsSize left left_after head head_after (Ok size) = Arrive left left_after head head_after
    × ((rest : List ℕ) → frame_at (head_after ++ rest) 0 ≡ frame_of (head_after ++ rest) (pos size) (length head_after))
TellsSize left left_after head head_after (Err (errors.OutOfSpec text)) = ForLeft left (λ rest. frame_at (head ++ rest) 0 ≡ None)
TellsSize left left_after head head_after (Err error) = IsOfDevice error

-- a length that is stated, or a negative number
abbrev pub IsSize : ℤ → Result ℕ Error → Type 0
IsSize stated (Ok size) = stated ≡ pos size
IsSize stated (Err (errors.OutOfSpec text)) = natural stated ≡ None
IsSize stated (Err _) = ⊥

-- so many bytes of metadata come, or there are fewer
abbrev pub TakesMetadata : {A : Type 0} → Option (List ℕ) → Option (List ℕ) → ℕ → List ℕ → Result A Error → Type 0
TakesMetadata left left_after size metadata (Ok done) = Consumes left left_after metadata × (length metadata ≡ size)
TakesMetadata left left_after size metadata (Err (errors.OutOfSpec text)) = ForLeft left (λ rest. length rest < size)
TakesMetadata left left_after size metadata (Err error) = IsOfDevice error

-- how many bytes the body of a message has; a schema has none
abbrev pub body_size : Header → ℤ → Option ℕ
body_size (message.schema table) stated = Some 0
body_size (message.dictionary_batch table) stated = natural stated
body_size (message.record_batch table) stated = natural stated

-- the same by the message's metadata
abbrev pub body_size_in : List ℕ → Option ℕ
body_size_in metadata = do
  found ← message_in metadata
  body_size found.header found.body_length

-- there are fewer bytes than a body has
abbrev pub IsShort : Option ℕ → List ℕ → Type 0
IsShort None rest = ⊥
IsShort (Some size) rest = length rest < size

-- the body of a message comes; or the metadata is none of a message, or there are fewer bytes
abbrev pub TakesBody : {A : Type 0} → Option (List ℕ) → Option (List ℕ) → List ℕ → List ℕ → Result A Error → Type 0
TakesBody left left_after metadata body (Ok done) = Consumes left left_after body × (body_size_in metadata ≡ Some (length body))
TakesBody left left_after metadata body (Err (errors.OutOfSpec text)) =
    ForLeft left (λ rest. (body_size_in metadata ≡ None) ⊎ IsShort (body_size_in metadata) rest)
TakesBody left left_after metadata body (Err error) = IsOfDevice error
