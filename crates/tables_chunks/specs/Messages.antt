-- What is read of the messages behind a stream's schema (Arrow IPC, "RecordBatch message", "Dictionary Messages").
use Rattle.std.specs.Prelude.{◌≡◌, ◌⊎◌, ℕ, ◌<◌, ◌≤◌, List, ◌∷◌, length, map, Option, Some, None, Result, Ok, Err}
use Rattle.ipc_format.specs.Standing.{StandAlike}
use Rattle.ipc_format.specs.columnar_memory.declared.Error.{Error}
use Rattle.ipc_format.specs.columnar_memory.declared.Error.TheVariants as errors
use Rattle.ipc_format.specs.columnar_memory.declared.Field.{Field}
use Rattle.ipc_format.specs.columns.StoredColumns.{slots}
use Rattle.ipc_format.specs.Columns.{Dictionary}
use Rattle.ipc_format.specs.Dictionaries.{Layout}
use Rattle.ipc_format.specs.Framing.{next_at}
use Rattle.ipc_format.specs.grammar.Limits.{most_dictionaries}
use Rattle.ipc_format.specs.Messages.{Version}
use Rattle.ipc_format.specs.Behind.{IsOutOfTurn, IsUnreadThere}
use Rattle.ipc_format.specs.Steps.{Step, cut_off, ended, dictionary_then, batch_then, step_at}
pub use Rattle.ipc_format.specs.BlockMessages.{AreOfFields, TakesDictionary, layout_by, type_of}
use Rattle.tables_chunks.specs.declared.messages.Next.{Next}
use Rattle.tables_chunks.specs.declared.messages.Next.TheVariants as next

-- ---- a message at a place

-- Why nothing is read at a place: the format gives nothing there, or the message may not stand there; it isn't read; or there was no memory.
abbrev pub RefusesNext : Option Step → List ℕ → ℕ → ℕ → Error → Type 0
RefusesNext given bytes place in_a_row (errors.OutOfSpec what) = (given ≡ None) ⊎ IsOutOfTurn bytes place in_a_row
RefusesNext given bytes place in_a_row (errors.NotYetImplemented what) = (given ≡ None) × IsUnreadThere (next_at bytes place)
RefusesNext given bytes place in_a_row errors.OutOfMemory = Unit {0}
RefusesNext given bytes place in_a_row _ = ⊥

-- What is read at a place: what the format gives there, under the dictionaries that stand. The next message stands behind it, within the bytes.
abbrev pub ReadsNext : List Field → Layout → Version → List Dictionary → List Dictionary → List ℕ → ℕ → ℕ → Result Next Error → Type 0
ReadsNext fields layout version standing standing_after bytes place in_a_row (Ok next.Truncated) =
    step_at layout version standing bytes place ≡ Some cut_off
ReadsNext fields layout version standing standing_after bytes place in_a_row (Ok next.End) =
    step_at layout version standing bytes place ≡ Some ended
ReadsNext fields layout version standing standing_after bytes place in_a_row (Ok (next.Dictionary after)) =
    (dictionary : Dictionary) × (step_at layout version standing bytes place ≡ Some (dictionary_then dictionary after))
    × StandAlike standing_after (dictionary ∷ standing) × (in_a_row < most_dictionaries) × (place < after) × (after ≤ length bytes)
ReadsNext fields layout version standing standing_after bytes place in_a_row (Ok (next.Rows chunk after)) =
    (step_at layout version standing bytes place ≡ Some (batch_then (map slots chunk) after)) × (standing_after ≡ standing)
    × AreOfFields fields chunk × (place < after) × (after ≤ length bytes)
ReadsNext fields layout version standing standing_after bytes place in_a_row (Err error) =
    RefusesNext (step_at layout version standing bytes place) bytes place in_a_row error
