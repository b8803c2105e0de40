-- How the turns of a stream, from its beginning on, make its table, and the choice of some of its columns (Arrow IPC, "IPC Streaming Format").
use Rattle.std.specs.Prelude.{◌≡◌, ℕ, ◌^◌, List, [], drop, length, Option, Some, None, nat_lt}
use Rattle.std.specs.List.{list_all}
use Rattle.ipc_format_chunk_writing.specs.Readable.{HasArrays}
use Rattle.ipc_format_chunk_writing.specs.columnar_memory.declared.Schema.{Schema}
use Rattle.ipc_format_chunk_writing.specs.columns.Slots.{Slot}
use Rattle.ipc_format_chunk_writing.specs.columns.Tables.{Table, chosen, limit, rows_of_batches}
use Rattle.ipc_format_chunk_writing.specs.flatbuffers.Reading.{◌>>=◌, guard}
use Rattle.ipc_format_chunk_writing.specs.grammar.Tables.{choice_of, layout_of, stream, table_of}
use Rattle.ipc_format_chunk_writing.specs.grammar.Writable.{normalised}
use Rattle.ipc_format_chunk_writing.specs.streams.Starts.{Start, start_in}
use Rattle.ipc_format_readers.specs.Laws.{batches_from}

-- the table of batches under a schema, where their rows fit 64 bits
abbrev pub table_by : Schema → Option (List (List (List Slot))) → Option Table
table_by schema found = do
  batches ← found
  _ ← guard (nat_lt (length (rows_of_batches batches)) (2 ^ 64))
  Some (record { schema = schema; rows = rows_of_batches batches })

-- the same of batches of chosen columns; nothing where a column isn't there
abbrev pub choice_by : List ℕ → Schema → Option (List (List (List Slot))) → Option Table
choice_by columns schema found = do
  _ ← guard (list_all (λ k. nat_lt k (length schema.fields)) columns)
  table_by (record schema { fields = chosen columns schema.fields }) found

-- the batches behind a stream's first message, which says this and ends at a place, of all columns or of those that are asked for
abbrev pub batches_after : Option (List ℕ) → Start → ℕ → List ℕ → Option (List (List (List Slot)))
batches_after asked start place bytes = batches_from asked (layout_of start.schema) start.version (drop place bytes) [] 0

-- A stream whose first message says this and ends at a place: there are arrays of all types of its schema, so its batches are those of its turns;
-- the table that the format gives of it is that of these batches, the choice that it gives of columns that of the batches of these; and under a
-- limit it gives the first rows of the choice.
pub record IsReadByTurns (bytes : List ℕ) (start : Start) (place : ℕ) : Type 0 where
  pub arrays : HasArrays (layout_of start.schema)
  pub whole : table_of stream bytes ≡ table_by (normalised start.schema.schema) (batches_after None start place bytes)
  pub choices : (columns : List ℕ)
      → choice_of stream bytes columns None ≡ choice_by columns (normalised start.schema.schema) (batches_after (Some columns) start place bytes)
  pub limits : (columns : List ℕ) (most : ℕ) (table : Table) → choice_of stream bytes columns None ≡ Some table
      → choice_of stream bytes columns (Some most) ≡ Some (limit most table)

-- The table of a stream, and each choice of its columns, are those of its turns.
abbrev pub TablesAreReadByTurns : Type 0
TablesAreReadByTurns = (bytes : List ℕ) (start : Start) (place : ℕ) → start_in bytes ≡ Some (start, place) → IsReadByTurns bytes start place
