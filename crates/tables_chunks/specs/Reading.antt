-- What is read of a stream, against what the format gives (Arrow IPC, "IPC Streaming Format").
use Rattle.std.specs.Prelude.{◌≡◌, ◌⊎◌, ℕ, ◌≤◌, ◌<◌, ◌^◌, true, List, [], length, All, Some, None, IfSome, Result, Ok, Err}
use Rattle.ipc_format.specs.columnar_memory.declared.Error.TheVariants as errors
use Rattle.ipc_format.specs.columnar_memory.declared.Schema.{Schema}
use Rattle.ipc_format.specs.columns.Tables.{Table, rows_of_batches}
use Rattle.ipc_format.specs.Dictionaries.{Layout}
use Rattle.ipc_format.specs.Framing.{truncated_from, EndsInLaterMessage}
use Rattle.ipc_format.specs.Messages.{Version}
use Rattle.ipc_format.specs.Refusals.{HasFloat, HasCompression, HasDelta, HasTooManyRows, IsUnfinished}
use Rattle.ipc_format.specs.Tables.{stream, batches_in, batches_behind, table_of}
pub use Rattle.ipc_format.specs.BlockMessages.{slots_of_batches}
use Rattle.tables_chunks.specs.declared.fault.Fault.{Fault}
use Rattle.tables_chunks.specs.declared.fault.Fault.TheVariants as faults
use Rattle.ipc_format.specs.Behind.{HasUnreadFrom, HasTooManyFrom, IsUnfinishedFrom}
use Rattle.tables_chunks.specs.Messages.{AreOfFields}
use Rattle.tables_chunks.specs.TableSchemas.{IsTableSchema}
use Rattle.tables_chunks.specs.declared.reading.StreamBatches.{StreamBatches}

-- ---- batches of stored columns

-- the table that was read: its rows under its schema, however they are cut into batches
abbrev pub table_read : StreamBatches → Table
table_read read = record { schema = read.schema; rows = rows_of_batches (slots_of_batches read.chunks.items) }

-- ---- what stands behind a schema

-- what the batches are that stand behind a schema: those that were read
abbrev pub ReadsBatches : Schema → Layout → Version → List ℕ → ℕ → Result StreamBatches Fault → Type 0
ReadsBatches schema layout version bytes place (Ok read) = (read.schema ≡ schema)
    × (batches_behind layout version [] (length bytes) bytes place 0 ≡ Some (slots_of_batches read.chunks.items))
    × (read.rows ≡ length (rows_of_batches (slots_of_batches read.chunks.items))) × (read.rows < 2 ^ 64)
    × All (AreOfFields schema.fields) read.chunks.items
ReadsBatches schema layout version bytes place (Err faults.Memory) = Unit {0}
ReadsBatches schema layout version bytes place (Err (faults.Ipc (errors.OutOfSpec what))) =
    (batches_behind layout version [] (length bytes) bytes place 0 ≡ None)
    × ¬ (IsUnfinishedFrom layout version bytes place × (truncated_from (length bytes) bytes place 0 ≡ Some true))
ReadsBatches schema layout version bytes place (Err (faults.Ipc (errors.NotYetImplemented what))) =
    (batches_behind layout version [] (length bytes) bytes place 0 ≡ None) × HasUnreadFrom bytes place
ReadsBatches schema layout version bytes place (Err faults.Unfinished) =
    (batches_behind layout version [] (length bytes) bytes place 0 ≡ None) × (truncated_from (length bytes) bytes place 0 ≡ Some true)
ReadsBatches schema layout version bytes place (Err faults.TooManyRows) =
    IfSome (batches_behind layout version [] (length bytes) bytes place 0) (λ batches. 2 ^ 64 ≤ length (rows_of_batches batches))
    × HasTooManyFrom layout version bytes place
ReadsBatches schema layout version bytes place (Err _) = ⊥

-- ---- the whole

-- What is read is the table that the format gives, batch by batch: its normalised schema, which is that of a table, arrays of the types of its
-- fields, and the number of its rows. Of what is refused as out of specification the format gives no batches, and its messages don't all keep their
-- turn and read up to where the stream ends within the first four bytes of another one. Nor does it give any of what isn't implemented, in which
-- stands a float field, a compressed batch, or a dictionary that adds to an earlier one, nor of an unfinished stream, which ends within the first
-- four bytes of a later message. For too many rows its first batches have them. Memory may run out anywhere.
abbrev pub ReadsStream : Result StreamBatches Fault → List ℕ → Type 0
ReadsStream (Ok read) bytes = (table_of stream bytes ≡ Some (table_read read))
    × (batches_in stream bytes ≡ Some (slots_of_batches read.chunks.items))
    × (read.rows ≡ length (table_read read).rows) × All (AreOfFields read.schema.fields) read.chunks.items × IsTableSchema read.schema
ReadsStream (Err faults.Memory) bytes = Unit {0}
ReadsStream (Err (faults.Ipc (errors.OutOfSpec what))) bytes =
    (batches_in stream bytes ≡ None) × ¬ (IsUnfinished bytes × EndsInLaterMessage bytes)
ReadsStream (Err (faults.Ipc (errors.NotYetImplemented what))) bytes =
    (batches_in stream bytes ≡ None) × (HasFloat stream bytes ⊎ (HasCompression stream bytes ⊎ HasDelta stream bytes))
ReadsStream (Err faults.Unfinished) bytes = (batches_in stream bytes ≡ None) × EndsInLaterMessage bytes
ReadsStream (Err faults.TooManyRows) bytes = (table_of stream bytes ≡ None) × HasTooManyRows stream bytes
ReadsStream (Err _) bytes = ⊥
