-- How what comes of a stream, turn by turn, makes its batches, of all columns or of those that are asked for.
use Rattle.std.specs.Prelude.{◌≡◌, ℕ, ◌≤◌, List, [], ◌∷◌, length, map, Option, Some, None}
use Rattle.ipc_format_chunk_writing.specs.Readable.{HasArrays}
use Rattle.ipc_format_chunk_writing.specs.columns.Slots.{Slot}
use Rattle.ipc_format_chunk_writing.specs.flatbuffers.Reading.{◌>>=◌}
use Rattle.ipc_format_chunk_writing.specs.grammar.Columns.{Dictionary}
use Rattle.ipc_format_chunk_writing.specs.grammar.Dictionaries.{Entry, Layout}
use Rattle.ipc_format_chunk_writing.specs.grammar.Framing.{later_messages}
use Rattle.ipc_format_chunk_writing.specs.grammar.Limits.{most_dictionaries}
use Rattle.ipc_format_chunk_writing.specs.grammar.Messages.{Version}
use Rattle.ipc_format_chunk_writing.specs.grammar.Tables.{batches_of, chosen_batches, stream_entry}
use Rattle.ipc_format_readers.specs.Turns.{Turn, waits, ends, gives, next_turn}

-- the batches of some messages, of all columns or of those that are asked for
abbrev pub asked_batches : Option (List ℕ) → Layout → List Dictionary → List Entry → Option (List (List (List Slot)))
asked_batches None layout standing entries = batches_of layout standing entries
asked_batches (Some columns) layout standing entries = chosen_batches layout columns standing None entries

-- the same of some bytes behind a stream's schema, under the dictionaries that stand, of which so many came in a row
abbrev pub batches_from : Option (List ℕ) → Layout → Version → List ℕ → List Dictionary → ℕ → Option (List (List (List Slot)))
batches_from asked layout version bytes standing row = do
  later ← later_messages (length bytes) bytes 0 row
  asked_batches asked layout standing (map (stream_entry version) later)

-- the batches of a turn, and those behind it; a stream that is cut off has none
abbrev pub batches_by_turn : Option (List ℕ) → Layout → Version → Turn → Option (List (List (List Slot)))
batches_by_turn asked layout version (waits bytes standing row) = None
batches_by_turn asked layout version ends = Some []
batches_by_turn asked layout version (gives columns bytes standing) = do
  others ← batches_from asked layout version bytes standing 0
  Some (columns ∷ others)

-- The batches that the format gives of a stream, of all columns or of those that are asked for, are those of its turns, one after another, where
-- there are arrays of all types of its schema.
abbrev pub StreamsAreReadByTurns : Type 0
StreamsAreReadByTurns = (asked : Option (List ℕ)) (layout : Layout) (version : Version) (bytes : List ℕ) (standing : List Dictionary) (row : ℕ)
    → HasArrays layout → row ≤ most_dictionaries
    → batches_from asked layout version bytes standing row
    ≡ (next_turn asked layout version bytes standing row >>= batches_by_turn asked layout version)
