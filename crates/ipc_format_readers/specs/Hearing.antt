-- What calls answer that read a message of a stream, and messages up to a record batch.
use Rattle.std.specs.Prelude.{◌≡◌, ℕ, ◌+◌, ◌<◌, Bool, true, List, ◌∷◌, map, Option, Some, None, Result, Ok, Err}
use Rattle.ipc_format_chunk_writing.specs.BatchReads.{asked_arrays, asked_fields, entry_in}
use Rattle.ipc_format_chunk_writing.specs.DictionaryReads.{dictionary_array, is_unread}
use Rattle.ipc_format_chunk_writing.specs.Standing.{StandAlike}
use Rattle.ipc_format_chunk_writing.specs.columnar_memory.declared.Error.{Error}
use Rattle.ipc_format_chunk_writing.specs.columnar_memory.declared.Error.TheVariants as errors
use Rattle.ipc_format_chunk_writing.specs.columns.StoredColumns.{Column, column_type, slots}
use Rattle.ipc_format_chunk_writing.specs.flatbuffers.FlatBuffers.{TablePlace}
use Rattle.ipc_format_chunk_writing.specs.flatbuffers.Reading.{◌>>=◌}
use Rattle.ipc_format_chunk_writing.specs.grammar.Columns.{Dictionary}
use Rattle.ipc_format_chunk_writing.specs.grammar.Dictionaries.{Layout}
use Rattle.ipc_format_chunk_writing.specs.grammar.Limits.{most_dictionaries}
use Rattle.ipc_format_chunk_writing.specs.grammar.Messages as message
use Rattle.ipc_format_chunk_writing.specs.grammar.Messages.{Version, message_in}
use Rattle.ipc_format_chunk_writing.specs.Below.{type_of}
use Rattle.ipc_format_chunk_writing.specs.streams.Incoming.{ForLeft}
use Rattle.ipc_format_chunk_writing.specs.streams.Queues.{is_compressed}
use Rattle.ipc_format_readers.specs.Turns.{Said, dictionary_stands, columns_come, heard, is_not_read, HasNotRead, Turn, next_turn}
use Rattle.ipc_format_readers.specs.Turns.{waits, ends, gives}
use Rattle.ipc_format_readers.specs.declared.state.StreamState.{StreamState}
use Rattle.ipc_format_readers.specs.declared.state.StreamState.TheVariants as states

-- ---- one message

-- what a message with some metadata and a body says
abbrev pub heard_in : Option (List ℕ) → Layout → Version → List Dictionary → ℕ → List ℕ → List ℕ → Option (ℕ × Said)
heard_in asked layout version standing row metadata body = do
  found ← message_in metadata
  heard asked layout version standing row (record { metadata = metadata; header = found.header; body = body })

-- whether it is one of those that are not read
abbrev pub is_not_read_in : List ℕ → Option Bool
is_not_read_in metadata = do
  found ← message_in metadata
  Some (is_not_read metadata found.header)

-- arrays of the types of a layout's fields that are asked for
abbrev pub HasTypes : Option (List ℕ) → Layout → List Column → Type 0
HasTypes asked layout chunk = map column_type chunk ≡ map type_of (asked_fields asked layout.fields)

-- The dictionary of a message is read, and stands from then on; or it is one of those that are not read, or the format gives nothing of it.
abbrev pub HearsDictionary : {A : Type 0} → Layout → Version → List Dictionary → List Dictionary → List ℕ → TablePlace → List ℕ → Result A Error
    → Type 0
HearsDictionary layout version standing standing_after metadata table body (Ok done) = (dictionary : Dictionary)
    × (dictionary_array layout standing (entry_in metadata (message.dictionary_batch table) version 0 body) table ≡ Some dictionary)
    × StandAlike (dictionary ∷ standing) standing_after
HearsDictionary layout version standing standing_after metadata table body (Err (errors.OutOfSpec text)) =
    dictionary_array layout standing (entry_in metadata (message.dictionary_batch table) version 0 body) table ≡ None
HearsDictionary layout version standing standing_after metadata table body (Err (errors.NotYetImplemented text)) =
    (dictionary_array layout standing (entry_in metadata (message.dictionary_batch table) version 0 body) table ≡ None)
    × (is_unread metadata table ≡ true)
HearsDictionary layout version standing standing_after metadata table body (Err errors.OutOfMemory) = Unit {0}
HearsDictionary layout version standing standing_after metadata table body (Err _) = ⊥

-- the columns of a message's record batch that are asked for are read
abbrev pub HearsColumns : Option (List ℕ) → Layout → Version → List Dictionary → List ℕ → TablePlace → List ℕ → Result (List Column) Error → Type 0
HearsColumns asked layout version standing metadata table body (Ok chunk) = HasTypes asked layout chunk
    × (asked_arrays asked layout standing None (entry_in metadata (message.record_batch table) version 0 body) table ≡ Some (map slots chunk))
HearsColumns asked layout version standing metadata table body (Err (errors.OutOfSpec text)) =
    asked_arrays asked layout standing None (entry_in metadata (message.record_batch table) version 0 body) table ≡ None
HearsColumns asked layout version standing metadata table body (Err (errors.NotYetImplemented text)) =
    (asked_arrays asked layout standing None (entry_in metadata (message.record_batch table) version 0 body) table ≡ None)
    × (is_compressed metadata table ≡ true)
HearsColumns asked layout version standing metadata table body (Err errors.OutOfMemory) = Unit {0}
HearsColumns asked layout version standing metadata table body (Err _) = ⊥

-- A message is read: a dictionary stands from then on, and of a record batch the columns come.
abbrev pub Hears : Option (List ℕ) → Layout → Version → List Dictionary → List Dictionary → ℕ → List ℕ → List ℕ
    → Result (Option (List Column)) Error → Type 0
Hears asked layout version standing standing_after row metadata body (Ok None) = (row < most_dictionaries)
    × ((dictionary : Dictionary) × (heard_in asked layout version standing row metadata body ≡ Some (row + 1, dictionary_stands dictionary))
    × StandAlike (dictionary ∷ standing) standing_after)
Hears asked layout version standing standing_after row metadata body (Ok (Some chunk)) =
    (heard_in asked layout version standing row metadata body ≡ Some (0, columns_come (map slots chunk)))
    × HasTypes asked layout chunk × (standing_after ≡ standing)
Hears asked layout version standing standing_after row metadata body (Err (errors.OutOfSpec text)) =
    heard_in asked layout version standing row metadata body ≡ None
Hears asked layout version standing standing_after row metadata body (Err (errors.NotYetImplemented text)) =
    (heard_in asked layout version standing row metadata body ≡ None) × (is_not_read_in metadata ≡ Some true)
Hears asked layout version standing standing_after row metadata body (Err errors.OutOfMemory) = Unit {0}
Hears asked layout version standing standing_after row metadata body (Err _) = ⊥

-- ---- messages up to a record batch

-- where a reader stands: the bytes that are left, where they are known, the dictionaries that stand, and how many of them came in a row
pub record Spot : Type 0 where
  pub left : Option (List ℕ)
  pub standing : List Dictionary
  pub in_a_row : ℕ

-- a reader stands before some bytes, and each id means there what it means among some dictionaries
abbrev pub StandsAt : Spot → List ℕ → List Dictionary → ℕ → Type 0
StandsAt spot bytes standing row = (spot.left ≡ Some bytes) × StandAlike standing spot.standing × (spot.in_a_row ≡ row)

-- what comes next of the bytes at a spot
abbrev pub turn_at : Option (List ℕ) → Layout → Version → Spot → List ℕ → Option Turn
turn_at asked layout version spot bytes = next_turn asked layout version bytes spot.standing spot.in_a_row

-- Some dictionaries are read, and what comes behind them: fewer than four bytes, of which none is lost; the end mark, behind which no batch
-- comes; or a record batch, of which the columns that are asked for have these slots and the types of their fields. It is out of specification
-- exactly where the format gives nothing, and not implemented where a message is not read; else the device refused, or memory ran out.
abbrev pub TakesTurn : Option (List ℕ) → Layout → Version → Spot → Spot → Result (Option StreamState) Error → Type 0
TakesTurn asked layout version old new (Ok None) = ForLeft old.left (λ bytes. turn_at asked layout version old bytes ≡ Some ends)
TakesTurn asked layout version old new (Ok (Some states.Waiting)) = ForLeft old.left (λ bytes. (rest : List ℕ) × (standing : List Dictionary)
    × (row : ℕ) × (turn_at asked layout version old bytes ≡ Some (waits rest standing row)) × StandsAt new rest standing row)
TakesTurn asked layout version old new (Ok (Some (states.Some chunk))) = HasTypes asked layout chunk
    × ForLeft old.left (λ bytes. (rest : List ℕ) × (standing : List Dictionary)
    × (turn_at asked layout version old bytes ≡ Some (gives (map slots chunk) rest standing)) × StandsAt new rest standing 0)
TakesTurn asked layout version old new (Err (errors.OutOfSpec text)) = ForLeft old.left (λ bytes. turn_at asked layout version old bytes ≡ None)
TakesTurn asked layout version old new (Err (errors.NotYetImplemented text)) =
    ForLeft old.left (λ bytes. (turn_at asked layout version old bytes ≡ None) × HasNotRead bytes)
TakesTurn asked layout version old new (Err (errors.Io what)) = Unit {0}
TakesTurn asked layout version old new (Err errors.OutOfMemory) = Unit {0}
TakesTurn asked layout version old new (Err _) = ⊥
