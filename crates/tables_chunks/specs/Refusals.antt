-- What a call that writes a table's stream leaves behind what was there, and what its refusal says.
use Rattle.std.specs.Prelude.{◌≡◌, ◌⊎◌, ℕ, Bool, true, false, List, [], ◌∷◌, ◌++◌, Option, Result, Ok, Err}
use Rattle.std.specs.Io.KnownBytes.{Appends}
use Rattle.ipc_format.specs.columnar_memory.declared.Schema.{Schema}
use Rattle.ipc_format.specs.columnar_memory.declared.Error.{Error}
use Rattle.ipc_format.specs.columnar_memory.declared.Error.TheVariants as errors
use Rattle.ipc_format.specs.columns.StoredColumns.{Column}
use Rattle.ipc_format.specs.WrittenMessages.{fits_limit, schema_written}
use Rattle.ipc_format.specs.WrittenStreams.{batch_of_stored, bytes_of_messages}
use Rattle.ipc_format.specs.EncodedChunks.{is_batch_within}
use Rattle.ipc_format.specs.streams.Devices.{AppendsBeginning, IsRefusedWrite}
use Rattle.tables_chunks.specs.declared.fault.Fault.{Fault}
use Rattle.tables_chunks.specs.declared.fault.Fault.TheVariants as faults
use Rattle.tables_chunks.specs.WrittenTables.{table_ids, written_batches, table_messages, table_bytes, told_after, is_table_within}

-- why something isn't written: it is too long, the device refused, or memory ran out
abbrev pub IsRefusal : Type 0 → Error → Type 0
IsRefusal too_long errors.Overflow = too_long
IsRefusal too_long errors.OutOfMemory = Unit {0}
IsRefusal too_long (errors.Io what) = Unit {0}
IsRefusal too_long _ = ⊥

-- The messages before those of the first batch that has one past its limit were appended, and nothing else. All messages of a batch are
-- encoded before the first of them is written.
pub record StopsAtBatch (old new : Option (List ℕ)) (schema : Schema) (batches : List (List Column)) : Type 0 where
  pub before : List (List Column)
  pub batch : List Column
  pub after : List (List Column)
  pub split : batches ≡ before ++ batch ∷ after
  pub within : is_table_within schema before ≡ true
  pub past : is_batch_within (told_after [] (written_batches schema before)) (batch_of_stored (table_ids schema) batch) ≡ false
  pub written : Appends old new (bytes_of_messages (table_messages schema before))

-- the schema's message is past its limit, and nothing was appended
pub record StopsAtSchema (old new : Option (List ℕ)) (schema : Schema) : Type 0 where
  pub past : fits_limit (schema_written schema (table_ids schema)) ≡ false
  pub written : Appends old new []

abbrev pub StopsAtTooLong : Option (List ℕ) → Option (List ℕ) → Schema → List (List Column) → Type 0
StopsAtTooLong old new schema batches = StopsAtSchema old new schema ⊎ StopsAtBatch old new schema batches

-- The stream of a table was appended, and all of it is within its limits; or a beginning of it was appended.
abbrev pub PutsTable : Result (Unit {0}) Error → Option (List ℕ) → Option (List ℕ) → Schema → List (List Column) → Type 0
PutsTable (Ok _) old new schema batches = (is_table_within schema batches ≡ true) × Appends old new (table_bytes schema batches)
PutsTable (Err error) old new schema batches =
    AppendsBeginning old new (table_bytes schema batches) × IsRefusal (StopsAtTooLong old new schema batches) error

-- The same of a device that is memory alone or is not, had failed so often before the call, and so often after it: `Io` says that it failed in the
-- call, `OutOfSpec` that it took nothing or refused without a failure, or that its count fell, and `OutOfMemory` that it or the call had no memory.
-- Memory says neither of the first two.
abbrev pub IsWriteError : Type 0 → Bool → ℕ → ℕ → Error → Type 0
IsWriteError too_long in_memory before after errors.Overflow = too_long
IsWriteError too_long in_memory before after errors.OutOfMemory = Unit {0}
IsWriteError too_long in_memory before after (errors.Io what) = IsRefusedWrite in_memory before after (errors.Io what)
IsWriteError too_long in_memory before after (errors.OutOfSpec what) = IsRefusedWrite in_memory before after (errors.OutOfSpec what)
IsWriteError too_long in_memory before after _ = ⊥

abbrev pub WritesTable : Result (Unit {0}) Error → Schema → List (List Column) → Bool → ℕ → ℕ → Option (List ℕ) → Option (List ℕ) → Type 0
WritesTable (Ok _) schema batches in_memory before after old new =
    (is_table_within schema batches ≡ true) × Appends old new (table_bytes schema batches) × (after ≡ before)
WritesTable (Err error) schema batches in_memory before after old new =
    AppendsBeginning old new (table_bytes schema batches) × IsWriteError (StopsAtTooLong old new schema batches) in_memory before after error

-- `Memory` is want of memory, here or in the device; every other error is `Ipc`
abbrev pub IsWriteFault : Type 0 → Bool → ℕ → ℕ → Fault → Type 0
IsWriteFault too_long in_memory before after faults.Memory = Unit {0}
IsWriteFault too_long in_memory before after (faults.Ipc errors.OutOfMemory) = ⊥
IsWriteFault too_long in_memory before after (faults.Ipc error) = IsWriteError too_long in_memory before after error
IsWriteFault too_long in_memory before after _ = ⊥

-- What was written of a table's stream to a device, by whether it is memory alone, how often it had failed before the call and after it, and what
-- it held. Where the call succeeds, all of the stream, which is within its limits, and the device has failed as often as before; where it is refused,
-- a beginning of it. `Ipc(Overflow)` leaves exactly the messages before those of the first batch that has one past its limit.
abbrev pub WritesStream : Result (Unit {0}) Fault → Schema → List (List Column) → Bool → ℕ → ℕ → Option (List ℕ) → Option (List ℕ) → Type 0
WritesStream (Ok _) schema batches in_memory before after old new =
    (is_table_within schema batches ≡ true) × Appends old new (table_bytes schema batches) × (after ≡ before)
WritesStream (Err fault) schema batches in_memory before after old new =
    AppendsBeginning old new (table_bytes schema batches) × IsWriteFault (StopsAtTooLong old new schema batches) in_memory before after fault
