-- What comes next of a stream that is read batch by batch, all columns or those that are asked for: some dictionaries, and the record batch behind
-- them (Arrow IPC, "IPC Streaming Format", "Dictionary Messages").
use Rattle.std.specs.Prelude.{◌≡◌, ℕ, zero, suc, ◌-◌, Bool, true, false, List, ◌∷◌, drop, Option, Some, None}
use Rattle.ipc_format_chunk_writing.specs.BatchReads.{asked_arrays}
use Rattle.ipc_format_chunk_writing.specs.DictionaryReads.{dictionary_array, is_unread}
use Rattle.ipc_format_chunk_writing.specs.columns.Slots.{Slot}
use Rattle.ipc_format_chunk_writing.specs.flatbuffers.Reading.{◌>>=◌}
use Rattle.ipc_format_chunk_writing.specs.grammar.Columns.{Dictionary}
use Rattle.ipc_format_chunk_writing.specs.grammar.Dictionaries.{Entry, Layout}
use Rattle.ipc_format_chunk_writing.specs.grammar.Framing.{Framed, by_next, dictionaries_after, next_at}
use Rattle.ipc_format_chunk_writing.specs.grammar.Limits.{most_dictionaries}
use Rattle.ipc_format_chunk_writing.specs.grammar.Messages as message
use Rattle.ipc_format_chunk_writing.specs.grammar.Messages.{Version}
use Rattle.ipc_format_chunk_writing.specs.grammar.Tables.{stream_entry}
use Rattle.ipc_format_chunk_writing.specs.streams.Queues.{is_compressed}

-- ---- one message

-- what a message says: a dictionary, which stands from then on, or the columns of a record batch that are asked for
pub data Said : Type 0 where
  dictionary_stands : Dictionary → Said
  columns_come : List (List Slot) → Said

abbrev pub said_by : Option (List ℕ) → Layout → List Dictionary → Entry → message.Header → Option Said
said_by asked layout standing entry (message.schema table) = None
said_by asked layout standing entry (message.dictionary_batch table) = do
  dictionary ← dictionary_array layout standing entry table
  Some (dictionary_stands dictionary)
said_by asked layout standing entry (message.record_batch table) = do
  columns ← asked_arrays asked layout standing None entry table
  Some (columns_come columns)

-- What a message says behind some dictionary messages in a row, and how many are in a row then. Nothing where there are too many, or the format
-- gives nothing of it.
abbrev pub heard : Option (List ℕ) → Layout → Version → List Dictionary → ℕ → Framed → Option (ℕ × Said)
heard asked layout version standing row framed = do
  in_a_row ← dictionaries_after row framed.header
  said ← said_by asked layout standing (stream_entry version framed) framed.header
  Some (in_a_row, said)

-- ---- messages up to a record batch

-- What comes next of a stream. Fewer than four bytes are left, behind some dictionaries, with how many of them came in a row; or the end mark; or
-- the columns of a record batch, with the bytes behind it and the dictionaries that stand there.
pub data Turn : Type 0 where
  waits : List ℕ → List Dictionary → ℕ → Turn
  ends : Turn
  gives : List (List Slot) → List ℕ → List Dictionary → Turn

-- a record batch is what comes; a dictionary stands before what comes behind it
abbrev pub turn_with : (ℕ → List Dictionary → Option Turn) → List ℕ → List Dictionary → ℕ × Said → Option Turn
turn_with rest bytes standing (row, dictionary_stands dictionary) = rest row (dictionary ∷ standing)
turn_with rest bytes standing (row, columns_come columns) = Some (gives columns bytes standing)

-- what comes of some bytes, where at most so many messages are looked at
abbrev pub turn_within : Option (List ℕ) → Layout → Version → ℕ → List ℕ → List Dictionary → ℕ → Option Turn
turn_within asked layout version zero bytes standing row = None
turn_within asked layout version (suc most) bytes standing row = do
  next ← next_at bytes 0
  by_next (Some (waits bytes standing row)) (Some ends) (λ framed after. (do
    found ← heard asked layout version standing row framed
    turn_with (λ now stand. turn_within asked layout version most (drop after bytes) stand now) (drop after bytes) standing found)) next

-- What comes next of some bytes, behind a stream's schema, under the dictionaries that stand, the latest first, of which so many came in a row.
-- Behind as many as may stand in a row one more message is looked at.
unfoldable pub next_turn : Option (List ℕ) → Layout → Version → List ℕ → List Dictionary → ℕ → Option Turn
next_turn asked layout version bytes standing row = turn_within asked layout version (suc (most_dictionaries - row)) bytes standing row

-- ---- messages that are not read

-- whether a message is one of those that are not read: its buffers are compressed, or it adds to an earlier dictionary
abbrev pub is_not_read : List ℕ → message.Header → Bool
is_not_read metadata (message.schema table) = false
is_not_read metadata (message.dictionary_batch table) = is_unread metadata table
is_not_read metadata (message.record_batch table) = is_compressed metadata table

-- whether the message behind n others is one of those
abbrev pub is_not_read_behind : ℕ → List ℕ → Option Bool
is_not_read_behind zero bytes = do
  next ← next_at bytes 0
  by_next None None (λ framed after. Some (is_not_read framed.metadata framed.header)) next
is_not_read_behind (suc n) bytes = do
  next ← next_at bytes 0
  by_next None None (λ framed after. is_not_read_behind n (drop after bytes)) next

-- one of the messages of some bytes is not read
abbrev pub HasNotRead : List ℕ → Type 0
HasNotRead bytes = (n : ℕ) × (is_not_read_behind n bytes ≡ Some true)
