-- Writers of files that stand on a device, to which batches are added (Arrow IPC, "IPC File Format"; docs/FORMAT.md, "Appending").
use Rattle.std.specs.Prelude.{◌≡◌, ◌⊎◌, ℕ, ℤ, ◌<◌, ◌≤◌, Bool, List, [], ◌∷◌, ◌++◌, Option, None, Ok, Err, Result}
use Rattle.std.specs.Io.KnownBytes.{Appends}
use Rattle.ipc_format_readers.specs.chunk_writing.Opening.{fields_or}
use Rattle.ipc_format_readers.specs.chunk_writing.Tracking.{Tells}
use Rattle.ipc_format_readers.specs.chunk_writing.columnar_memory.declared.Error.{Error}
use Rattle.ipc_format_readers.specs.chunk_writing.columnar_memory.declared.Error.TheVariants as errors
use Rattle.ipc_format_readers.specs.chunk_writing.columns.StoredColumns.{Column}
use Rattle.ipc_format_readers.specs.chunk_writing.declared.Compression.{Compression}
use Rattle.ipc_format_readers.specs.chunk_writing.grammar.GivenDictionaries.{Given}
use Rattle.ipc_format_readers.specs.chunk_writing.grammar.Limits.{file_limit}
use Rattle.ipc_format_readers.specs.chunk_writing.grammar.WrittenStreams.{Batch, batch_of_stored, bytes_of_messages, messages_after}
use Rattle.ipc_format_readers.specs.chunk_writing.metadata.Views.{ids_views}
use Rattle.ipc_format_readers.specs.chunk_writing.metadata.declared.ipc_schema.IpcField.{IpcField}
use Rattle.ipc_format_readers.specs.declared.file_metadata.FileMetadata.{FileMetadata}
use Rattle.ipc_format.specs.Ends.{end_of, footer_of}
use Rattle.ipc_format.specs.Growing.{EndsMessages, StandBehind, bar_of, grown}
use Rattle.ipc_format.specs.FilePhases.{Progress, Writer, finished, started}
use Rattle.ipc_format.specs.FileWriting.{Finishes, WritesChunk}

-- ---- a writer of a file that stands on a device

-- A writer stands behind the messages of a file, under whose own schema and ids it writes. What its dictionaries are it has read of the device,
-- which has failed as often as before.
pub record IsResumed {W : Type 0} (failures : W → ℕ) (device : W) (writer : Writer W) (metadata : FileMetadata) (compression : Option Compression)
    : Type 0 where
  pub told : List (ℤ × Column)
  pub phase : writer.phase ≡ started (grown metadata told)
  pub schema : writer.schema ≡ metadata.schema
  pub ids : writer.ids ≡ metadata.ipc_schema.fields
  pub same_compression : writer.compression ≡ compression
  pub may : bar_of metadata ≡ None
  pub short : metadata.size < file_limit
  pub count : failures writer.device ≡ failures device

-- Why a writer is not made, where a device had failed so often before: the file is past the limit of files; or the device refused, or its memory
-- ran out. What it holds nobody can tell, so the file's dictionaries may also be out of specification, or compressed, or add to others.
abbrev pub IsLost : {W : Type 0} → (W → ℕ) → W → FileMetadata → Error → Type 0
IsLost {W} failures device metadata (errors.Io what) = (after : W) × (failures device < failures after)
IsLost failures device metadata errors.Overflow = file_limit ≤ metadata.size
IsLost failures device metadata errors.OutOfMemory = Unit {0}
IsLost failures device metadata (errors.OutOfSpec what) = Unit {0}
IsLost failures device metadata (errors.NotYetImplemented what) = Unit {0}
IsLost failures device metadata _ = ⊥

-- A writer is made of a file's metadata; or nothing may be added to the file; or something may, but it is too long, or lost with its device.
abbrev pub Resumes : {W : Type 0} → (W → ℕ) → W → FileMetadata → Option Compression → Result (Writer W) Error → Type 0
Resumes failures device metadata compression (Ok writer) = IsResumed failures device writer metadata compression
Resumes failures device metadata compression (Err error) =
    EndsMessages metadata (Err error) ⊎ ((bar_of metadata ≡ None) × IsLost failures device metadata error)

-- ---- what a run of calls stands for

-- What a device shows of its bytes, where they are known, how often it has failed, and whether devices of its kind are memory alone
module _ {W : Type 0} (contents : W → Option (List ℕ)) (failures : W → ℕ) (in_memory : Bool) where
  -- a writer stood behind what was written of a file, where some dictionaries were told, and has written batches since
  pub record HasAdded (old now : Writer W) (before : Progress) (told : List Given) (batches : List Batch) : Type 0 where
    pub progress : Progress
    pub phase : now.phase ≡ started progress
    pub schema : now.schema ≡ old.schema
    pub ids : now.ids ≡ old.ids
    pub device : Appends (contents old.device) (contents now.device) (bytes_of_messages (messages_after told batches))
    pub stand : StandBehind before progress told batches

  -- before its first write it has added none
  abbrev pub AddsNone : Type 0
  AddsNone = (old : Writer W) (before : Progress) (told : List Given) → old.phase ≡ started before → Tells before.told told
      → HasAdded old old before told []

  -- after a write it has added one batch more
  abbrev pub AddsMore : Type 0
  AddsMore = (old now new : Writer W) (before : Progress) (told : List Given) (batches : List Batch) (fields : Option (List IpcField))
      (columns : List Column) → HasAdded old now before told batches → WritesChunk contents failures in_memory now new fields columns (Ok tt)
      → HasAdded old new before told (batches ++ batch_of_stored (ids_views (fields_or now.ids fields)) columns ∷ [])

  -- after the finish a footer places the file's own messages and those of the batches
  abbrev pub EndsGrown : Type 0
  EndsGrown = (old now new : Writer W) (before : Progress) (told : List Given) (batches : List Batch)
      → (added : HasAdded old now before told batches) → Finishes contents failures in_memory now new (Ok tt)
      → Appends (contents old.device) (contents new.device) (bytes_of_messages (messages_after told batches)
      ++ end_of added.progress (footer_of old.schema (ids_views old.ids) added.progress)) × (new.phase ≡ finished)

  -- What a run of writes and a finish adds to a file, leaving out the writes that were refused: the messages of the batches, zeros where the
  -- file was longer before, and a footer that places its own messages and the new ones.
  abbrev pub FilesGrow : Type 0
  FilesGrow = AddsNone × AddsMore × EndsGrown
