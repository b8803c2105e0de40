-- The stream that is written of a table: its messages, when they are within their limits, and what it reads as (Arrow IPC, "IPC Streaming
-- Format", "Dictionary Messages").
use Rattle.std.specs.Prelude.{Bool, true, ◌&&◌, ℕ, List, [], ◌∷◌, ◌++◌, map}
use Rattle.ipc_format.specs.columnar_memory.declared.Schema.{Schema}
use Rattle.ipc_format.specs.columns.StoredColumns.{Column, slots}
use Rattle.ipc_format.specs.GivenDictionaries.{Given, written_after}
use Rattle.ipc_format.specs.Ids.{default_ids}
use Rattle.ipc_format.specs.Schemas.{IdsList}
use Rattle.ipc_format.specs.WrittenMessages.{Written, fits_limit, schema_written}
use Rattle.ipc_format.specs.WrittenStreams.{Batch, batch_of_stored, stream_messages, stream_bytes}
use Rattle.ipc_format.specs.reading_laws.laws.Tables.{ReadsAs}
use Rattle.ipc_format.specs.EncodedChunks.{is_batch_within}

-- the ids of a table's dictionaries: from 0 on
abbrev pub table_ids : Schema → IdsList
table_ids schema = default_ids schema.fields

-- the batches of a table as they are written
abbrev pub written_batches : Schema → List (List Column) → List Batch
written_batches schema batches = map (batch_of_stored (table_ids schema)) batches

-- the messages of a table's stream: its schema's, and for each batch those of the dictionaries that go before it, and its own
abbrev pub table_messages : Schema → List (List Column) → List Written
table_messages schema batches = stream_messages schema (table_ids schema) (written_batches schema batches)

-- the stream of a table
abbrev pub table_bytes : Schema → List (List Column) → List ℕ
table_bytes schema batches = stream_bytes schema (table_ids schema) (written_batches schema batches)

-- ---- limits

-- the dictionaries that are told after some batches, the latest first
abbrev pub told_after : List Given → List Batch → List Given
told_after told [] = told
told_after told (batch ∷ batches) = told_after (written_after told batch.given) batches

-- whether each message of some batches, and each node in it, is within its limit
abbrev pub are_within : List Given → List Batch → Bool
are_within told [] = true
are_within told (batch ∷ batches) = is_batch_within told batch && are_within (written_after told batch.given) batches

-- the same of a table's stream
abbrev pub is_table_within : Schema → List (List Column) → Bool
is_table_within schema batches =
    fits_limit (schema_written schema (table_ids schema)) && are_within [] (written_batches schema batches)

-- ---- what it reads as

-- bytes read as a table, batch by batch, whatever stands behind them
abbrev pub ReadAsTable : List ℕ → Schema → List (List Column) → Type 0
ReadAsTable bytes schema batches =
    (behind : List ℕ) → ReadsAs (bytes ++ behind) schema (map (λ (batch : List Column). map slots batch) batches)
