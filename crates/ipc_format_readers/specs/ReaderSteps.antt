-- The steps by which a reader comes to its next batch: its file's dictionaries are read, and then the batch at a block.
use Rattle.std.specs.Prelude.{◌≡◌, ℕ, List, slice_get, Option, Some, None, IsOk, IsSomeAnd, Result, Ok, Err}
use Rattle.ipc_format_chunk_writing.specs.Rooms.{ForBytes, Stays, Told}
use Rattle.ipc_format_chunk_writing.specs.columnar_memory.declared.Error.{Error}
use Rattle.ipc_format_chunk_writing.specs.columns.StoredColumns.{Column}
use Rattle.ipc_format_chunk_writing.specs.grammar.Columns.{Dictionary}
use Rattle.ipc_format_readers.specs.FileReadings.{FileReading, GivesBatch, KeepsStanding}
use Rattle.ipc_format_readers.specs.FileReads.{HasUnreadDictionary, RefusesOf, StandAsIn, dictionaries_of}
use Rattle.ipc_format_readers.specs.FileStarts.{start_view}
use Rattle.ipc_format_readers.specs.declared.file_metadata.FileMetadata.{FileMetadata}

-- Dictionaries that were read stay, and no more is read. Where none were, those of the file are; or it is refused, and none are read then.
abbrev pub TakesDictionaries : {A : Type 0} → FileMetadata → Told → Told → Option (List Dictionary) → Option (List Dictionary) → Result A Error
    → Type 0
TakesDictionaries metadata old new (Some standing) after result = (after ≡ Some standing) × Stays old new × IsOk result
TakesDictionaries metadata old new None after (Ok done) = Stays old new × IsSomeAnd after (λ standing. ForBytes old (StandAsIn metadata standing))
TakesDictionaries metadata old new None after (Err error) =
    (after ≡ None) × RefusesOf old new (HasUnreadDictionary metadata) (dictionaries_of metadata) error

-- What comes of the batch at a place among the blocks: nothing of the reader changes but its room, its dictionaries, and how many rows may still be
-- given.
pub record GivesAt {R : Type 0} (told : R → Told) (old new : FileReading R) (index : ℕ) (result : Result (List Column) Error) : Type 0 where
  pub metadata : new.metadata ≡ old.metadata
  pub columns : new.columns ≡ old.columns
  pub next : new.next ≡ old.next
  pub standing : KeepsStanding told old old.standing new.standing
  pub gives : IsSomeAnd (slice_get (start_view old.metadata).record_batches index) (λ block. GivesBatch told old new block result)
