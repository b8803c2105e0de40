-- When the table of a stream or a file that is written of stored columns is the table of their slots (Arrow IPC, "IPC Streaming Format", "IPC
-- File Format", "Dictionary Messages").
use Rattle.std.specs.Prelude.{◌≡◌, ℕ, ◌<◌, ◌^◌, List, ◌++◌, length, map, Some}
use Rattle.ipc_format_laws.specs.columnar_memory.declared.Schema.{Schema}
use Rattle.ipc_format_laws.specs.columns.Slots.{Slot}
use Rattle.ipc_format_laws.specs.columns.StoredColumns.{Column, slots}
use Rattle.ipc_format_laws.specs.columns.Tables.{rows_of_batches}
use Rattle.ipc_format_laws.specs.grammar.Schemas.{IdsList}
use Rattle.ipc_format_laws.specs.grammar.Writable.{normalised}
use Rattle.ipc_format_laws.specs.grammar.Tables.{Form, stream, file, batches_in, table_of}
use Rattle.ipc_format_laws.specs.grammar.WrittenStreams.{Chunk, stored_columns, written_stream}
use Rattle.ipc_format_laws.specs.grammar.WrittenFiles.{written_file}
use Rattle.ipc_format_laws.specs.Schemas.{HasTexts}
use Rattle.ipc_format_reading_laws.specs.NormalColumns.{normal_slot}

-- batches of columns as they are handed to a writer
abbrev pub stored_chunks : List (List Column) → List Chunk
stored_chunks batches = map stored_columns batches

-- the slots of a column as they are read: what a union picks names the normalised type of its child
abbrev pub read_slots : Column → List Slot
read_slots column = map normal_slot (slots column)

abbrev pub read_batches : List (List Column) → List (List (List Slot))
read_batches batches = map (λ (columns : List Column). map read_slots columns) batches

-- bytes hold these batches under the one form of a schema
pub record HoldsBatches (form : Form) (bytes : List ℕ) (schema : Schema) (batches : List (List (List Slot))) : Type 0 where
  pub in_batches : batches_in form bytes ≡ Some batches
  pub as_table : table_of form bytes ≡ Some (record { schema = normalised schema; rows = rows_of_batches batches })

-- What is written of batches of stored columns as a stream holds their slots, batch by batch, whatever stands behind the end mark: of every
-- type, with a dictionary that is replaced between batches read as it stood, where names and metadata are texts and the rows fit 64 bits.
abbrev pub StoredStreamsReadBack : Type 0
StoredStreamsReadBack = (schema : Schema) (below : IdsList) (batches : List (List Column)) (bytes behind : List ℕ)
    → written_stream schema below (stored_chunks batches) ≡ Some bytes → HasTexts schema
    → length (rows_of_batches (read_batches batches)) < 2 ^ 64 → HoldsBatches stream (bytes ++ behind) schema (read_batches batches)

-- the same of a file
abbrev pub StoredFilesReadBack : Type 0
StoredFilesReadBack = (schema : Schema) (below : IdsList) (batches : List (List Column)) (bytes : List ℕ)
    → written_file schema below (stored_chunks batches) ≡ Some bytes → HasTexts schema
    → length (rows_of_batches (read_batches batches)) < 2 ^ 64 → HoldsBatches file bytes schema (read_batches batches)
