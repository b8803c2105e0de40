-- What is gathered of one message: its chosen columns, or the dictionary that it brings (Arrow IPC, "RecordBatch message", "Dictionary Messages").
use Rattle.std.specs.Prelude.{◌≡◌, ◌⊎◌, ℕ, true, List, ◌∷◌, map, Option, Some, None, IsSome, IsSomeAnd, Result, Ok, Err}
use Rattle.tables_chunks.specs.Messages.{AreOfFields}
use Rattle.tables_chunks.specs.ipc_format.BlockMessages.{dictionary_by}
use Rattle.tables_chunks.specs.ipc_format.columnar_memory.declared.Error.{Error}
use Rattle.tables_chunks.specs.ipc_format.columns.Slots.{Slot}
use Rattle.tables_chunks.specs.ipc_format.columns.StoredColumns.{Column, slots}
use Rattle.tables_chunks.specs.ipc_format.columns.Tables.{chosen}
use Rattle.tables_chunks.specs.ipc_format.Columns.{Dictionary}
use Rattle.tables_chunks.specs.ipc_format.Dictionaries.{Entry, Layout}
use Rattle.tables_chunks.specs.ipc_format.Messages as message
use Rattle.tables_chunks.specs.ipc_format.Refusals.{compression_in, is_delta}
use Rattle.tables_chunks.specs.ipc_format.Standing.{StandAlike}
use Rattle.tables_chunks.specs.ipc_format.grammar.Tables.{chosen_batch_in}
use Rattle.tables_chunks.specs.ipc_format.metadata.Reading.{Refuses}

-- a message is compressed, or adds to an earlier dictionary
abbrev pub IsUnread : Entry → Type 0
IsUnread entry = IsSome (compression_in (entry.metadata, entry.header)) ⊎ (is_delta entry.metadata entry.header ≡ Some true)

-- the chosen columns of a message, under a limit
abbrev pub chosen_by : Layout → List Dictionary → Entry → Option ℕ → List ℕ → message.Header → Option (List (List Slot))
chosen_by layout standing entry limit columns (message.record_batch table) = chosen_batch_in layout standing entry limit columns table
chosen_by layout standing entry limit columns _ = None

-- A dictionary that the format gives stands from here on, as the latest one; or these are the chosen columns that it gives, and the dictionaries
-- stay. What is refused is neither.
abbrev pub GathersEntry : Layout → List ℕ → List Dictionary → List Dictionary → Option ℕ → Entry → Result (Option (List Column)) Error → Type 0
GathersEntry layout columns standing standing_after limit entry (Ok None) =
    IsSomeAnd (dictionary_by layout standing entry entry.header) (λ dictionary. StandAlike standing_after (dictionary ∷ standing))
GathersEntry layout columns standing standing_after limit entry (Ok (Some chunk)) =
    (chosen_by layout standing entry limit columns entry.header ≡ Some (map slots chunk)) × (standing_after ≡ standing)
    × AreOfFields (chosen columns layout.fields) chunk
GathersEntry layout columns standing standing_after limit entry (Err error) =
    Refuses (IsUnread entry) error (dictionary_by layout standing entry entry.header)
    × Refuses (IsUnread entry) error (chosen_by layout standing entry limit columns entry.header)
