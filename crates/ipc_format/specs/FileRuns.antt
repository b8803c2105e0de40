-- What a run of calls of a writer stands for: start, writes, finish (Arrow IPC, "IPC File Format").
use Rattle.std.specs.Prelude.{◌≡◌, ℕ, Bool, List, [], ◌∷◌, ◌++◌, length, Option, Ok}
use Rattle.std.specs.Io.KnownBytes.{Appends}
use Rattle.ipc_format_readers.specs.chunk_writing.Opening.{fields_or}
use Rattle.ipc_format_readers.specs.chunk_writing.Tracking.{Tells}
use Rattle.ipc_format_readers.specs.chunk_writing.columnar_memory.declared.Schema.{Schema}
use Rattle.ipc_format_readers.specs.chunk_writing.columns.StoredColumns.{Column}
use Rattle.ipc_format_readers.specs.chunk_writing.grammar.GivenDictionaries.{Given, written_after}
use Rattle.ipc_format_readers.specs.chunk_writing.grammar.Schemas.{IdsList}
use Rattle.ipc_format_readers.specs.chunk_writing.grammar.WrittenFiles.{batch_blocks, file_bytes, file_start, place_after}
use Rattle.ipc_format_readers.specs.chunk_writing.grammar.WrittenMessages.{schema_written}
use Rattle.ipc_format_readers.specs.chunk_writing.grammar.WrittenStreams.{Batch, batch_of_stored, bytes_of_messages, messages_after}
use Rattle.ipc_format_readers.specs.chunk_writing.metadata.Views.{ids_views}
use Rattle.ipc_format_readers.specs.chunk_writing.metadata.declared.ipc_schema.IpcField.{IpcField}
use Rattle.ipc_format.specs.Ends.{start_bytes}
use Rattle.ipc_format.specs.FilePhases.{Progress, Writer, finished, started}
use Rattle.ipc_format.specs.FileWriting.{Finishes, Starts, WritesChunk}

-- the dictionaries that are told with batches, the latest first
abbrev pub told_with : List Given → List Batch → List Given
told_with told [] = told
told_with told (batch ∷ batches) = told_with (written_after told batch.given) batches

-- a file's bytes so far: its start, and the messages of batches
abbrev pub bytes_so_far : Schema → IdsList → List Batch → List ℕ
bytes_so_far schema ids batches = start_bytes schema ids ++ bytes_of_messages (messages_after [] batches)

-- where the first batch's messages stand
abbrev pub first_place : Schema → IdsList → ℕ
first_place schema ids = place_after (length file_start) (schema_written schema ids)

-- What a device shows of its bytes, where they are known, how often it has failed, and whether devices of its kind are memory alone
module _ {W : Type 0} (contents : W → Option (List ℕ)) (failures : W → ℕ) (in_memory : Bool) where
  -- a writer was started, and has written batches since
  pub record HasWritten (old now : Writer W) (batches : List Batch) : Type 0 where
    pub progress : Progress
    pub phase : now.phase ≡ started progress
    pub schema : now.schema ≡ old.schema
    pub ids : now.ids ≡ old.ids
    pub device : Appends (contents old.device) (contents now.device) (bytes_so_far old.schema (ids_views old.ids) batches)
    pub tells : Tells progress.told (told_with [] batches)
    pub place : progress.place ≡ length (bytes_so_far old.schema (ids_views old.ids) batches)
    pub size : progress.size ≡ 0
    pub blocks : progress.blocks ≡ batch_blocks (first_place old.schema (ids_views old.ids)) [] batches

  -- after a start no batch is written
  abbrev pub StartsNone : Type 0
  StartsNone = (old new : Writer W) → Starts contents failures in_memory old new (Ok tt) → HasWritten old new []

  -- after a write one batch more is
  abbrev pub WritesMore : Type 0
  WritesMore = (old now new : Writer W) (batches : List Batch) (fields : Option (List IpcField)) (columns : List Column)
      → HasWritten old now batches → WritesChunk contents failures in_memory now new fields columns (Ok tt)
      → HasWritten old new (batches ++ batch_of_stored (ids_views (fields_or now.ids fields)) columns ∷ [])

  -- after the finish a file of the batches is
  abbrev pub FinishesFile : Type 0
  FinishesFile = (old now new : Writer W) (batches : List Batch) → HasWritten old now batches → Finishes contents failures in_memory now new (Ok tt)
      → Appends (contents old.device) (contents new.device) (file_bytes old.schema (ids_views old.ids) batches) × (new.phase ≡ finished)

  -- What a run of a start, writes and a finish has written, leaving out the writes that were refused, is the file of the schema and the batches.
  abbrev pub FilesAreWritten : Type 0
  FilesAreWritten = StartsNone × WritesMore × FinishesFile
