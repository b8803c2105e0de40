-- The messages of batches as they are put to a device, one after another.
use Rattle.std.specs.Prelude.{◌≡◌, ℤ, ℕ, Bool, true, false, List, [], ◌∷◌, ◌++◌, Option, Result, Ok, Err}
use Rattle.std.specs.Io.KnownBytes.{Appends}
use Rattle.ipc_format.specs.columnar_memory.declared.Error.{Error}
use Rattle.ipc_format.specs.columnar_memory.declared.Schema.{Schema}
use Rattle.ipc_format.specs.columns.StoredColumns.{Column}
use Rattle.ipc_format.specs.GivenDictionaries.{Given, written_after}
use Rattle.ipc_format.specs.WrittenMessages.{message_bytes, fits_limit, schema_written}
use Rattle.ipc_format.specs.WrittenStreams.{Batch, batch_messages, batch_of_stored, messages_after, bytes_of_messages}
use Rattle.ipc_format.specs.EncodedChunks.{is_batch_within}
use Rattle.ipc_format.specs.Tracking.{Tells}
use Rattle.ipc_format.specs.streams.Devices.{AppendsBeginning}
use Rattle.tables_chunks.specs.WrittenTables.{table_ids, told_after, are_within, written_batches}
use Rattle.tables_chunks.specs.Refusals.{IsRefusal, StopsAtSchema}

-- ---- the schema

-- the message of a schema was appended, which is within its limit; or a beginning of it was
abbrev pub PutsSchema : Result (Unit {0}) Error → Option (List ℕ) → Option (List ℕ) → Schema → Type 0
PutsSchema (Ok _) old new schema = (fits_limit (schema_written schema (table_ids schema)) ≡ true)
    × Appends old new (message_bytes (schema_written schema (table_ids schema)))
PutsSchema (Err error) old new schema = AppendsBeginning old new (message_bytes (schema_written schema (table_ids schema)))
    × IsRefusal (StopsAtSchema old new schema) error

-- ---- one batch

-- the messages of a batch were appended, where some dictionaries were told, and its dictionaries are told
pub record IsPut (old new : Option (List ℕ)) (entries : List (ℤ × Column) × Bool) (told : List Given) (batch : Batch) : Type 0 where
  pub within : is_batch_within told batch ≡ true
  pub written : Appends old new (bytes_of_messages (batch_messages told batch))
  pub tells : Tells entries.0 (written_after told batch.given)
  pub kind : entries.1 ≡ false

-- a message of a batch is past its limit, and nothing was appended
pub record IsPast (old new : Option (List ℕ)) (told : List Given) (batch : Batch) : Type 0 where
  pub past : is_batch_within told batch ≡ false
  pub written : Appends old new []

abbrev pub PutsAfter : Result (Unit {0}) Error → Option (List ℕ) → Option (List ℕ) → List (ℤ × Column) × Bool → List Given → Batch → Type 0
PutsAfter (Ok _) old new entries told batch = IsPut old new entries told batch
PutsAfter (Err error) old new entries told batch =
    AppendsBeginning old new (bytes_of_messages (batch_messages told batch)) × IsRefusal (IsPast old new told batch) error

-- the same wherever the tracker, which replaces dictionaries, tells what was told
abbrev pub PutsBatch : Result (Unit {0}) Error → Option (List ℕ) → Option (List ℕ) → List (ℤ × Column) × Bool → List (ℤ × Column) × Bool
    → Batch → Type 0
PutsBatch result old new before after batch =
    (told : List Given) → Tells before.0 told → before.1 ≡ false → PutsAfter result old new after told batch

-- ---- batches one after another

-- the messages of some first batches were appended, and their dictionaries are told
pub record ArePut (old new : Option (List ℕ)) (entries : List (ℤ × Column) × Bool) (batches : List Batch) : Type 0 where
  pub within : are_within [] batches ≡ true
  pub written : Appends old new (bytes_of_messages (messages_after [] batches))
  pub tells : Tells entries.0 (told_after [] batches)
  pub kind : entries.1 ≡ false

-- exactly the messages before those of the first batch that has one past its limit were appended
pub record StopsAmong (old new : Option (List ℕ)) (schema : Schema) (batches : List (List Column)) : Type 0 where
  pub before : List (List Column)
  pub batch : List Column
  pub after : List (List Column)
  pub split : batches ≡ before ++ batch ∷ after
  pub within : are_within [] (written_batches schema before) ≡ true
  pub past : is_batch_within (told_after [] (written_batches schema before)) (batch_of_stored (table_ids schema) batch) ≡ false
  pub written : Appends old new (bytes_of_messages (messages_after [] (written_batches schema before)))

-- the messages of batches were appended, all within their limits; or a beginning of them was
abbrev pub PutsBatches : Result (Unit {0}) Error → Option (List ℕ) → Option (List ℕ) → Schema → List (List Column) → Type 0
PutsBatches (Ok _) old new schema batches = (are_within [] (written_batches schema batches) ≡ true)
    × Appends old new (bytes_of_messages (messages_after [] (written_batches schema batches)))
PutsBatches (Err error) old new schema batches = AppendsBeginning old new (bytes_of_messages (messages_after [] (written_batches schema batches)))
    × IsRefusal (StopsAmong old new schema batches) error
