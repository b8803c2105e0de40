-- What a caller sees of a reader of a file's batches, and what its calls answer (Arrow IPC, "IPC File Format").
use Rattle.std.specs.Prelude.{◌≡◌, ◌⊎◌, ℕ, ◌+◌, List, map, slice_get, Option, Some, None, IsSome, Result, Ok, Err}
use Rattle.ipc_format_chunk_writing.specs.BatchReads.{asked_fields, sized}
use Rattle.ipc_format_chunk_writing.specs.Below.{type_of}
use Rattle.ipc_format_chunk_writing.specs.Rooms.{ForBytes, Stays, Told}
use Rattle.ipc_format_chunk_writing.specs.columnar_memory.Error.{IsOutOfMemory}
use Rattle.ipc_format_chunk_writing.specs.columnar_memory.declared.Error.{Error}
use Rattle.ipc_format_chunk_writing.specs.columns.Slots.{Slot}
use Rattle.ipc_format_chunk_writing.specs.columns.StoredColumns.{Column, column_type, slots}
use Rattle.ipc_format_chunk_writing.specs.flatbuffers.Reading.{◌>>=◌}
use Rattle.ipc_format_chunk_writing.specs.grammar.Columns.{Dictionary}
use Rattle.ipc_format_chunk_writing.specs.grammar.Files.{Block}
use Rattle.ipc_format_chunk_writing.specs.grammar.Tables.{left_of}
use Rattle.ipc_format_chunk_writing.specs.columns.Tables.{rows_of_columns}
use Rattle.ipc_format_readers.specs.BlockMessages.{IsCompressedAt}
use Rattle.ipc_format_readers.specs.FileReads.{HasUnreadDictionary, RefusesOf, StandAsIn, asked_at, dictionaries_of}
use Rattle.ipc_format_readers.specs.FileStarts.{layout_in, start_view}
use Rattle.ipc_format_readers.specs.declared.file_metadata.FileMetadata.{FileMetadata}

-- A reader: the room, what its file's footer says, which columns are asked for, in this order, or all, how many rows may still be given, the
-- dictionaries of the file, once they are read, and the place among the blocks of the next one.
pub record FileReading (R : Type 0) : Type 0 where
  pub room : R
  pub metadata : FileMetadata
  pub columns : Option (List ℕ)
  pub limit : Option ℕ
  pub standing : Option (List Dictionary)
  pub next : ℕ

-- ---- a new reader

-- a reader before the first block
abbrev pub at_first : {R : Type 0} → R → FileMetadata → Option (List ℕ) → Option ℕ → FileReading R
at_first room metadata columns limit =
    record { room = room; metadata = metadata; columns = columns; limit = limit; standing = None; next = 0 }

-- it is made; or memory ran out
abbrev pub OpensReader : {R : Type 0} → R → FileMetadata → Option (List ℕ) → Option ℕ → Result (FileReading R) Error → Type 0
OpensReader room metadata columns limit (Ok reading) = reading ≡ at_first room metadata columns limit
OpensReader room metadata columns limit (Err error) = IsOutOfMemory error

-- ---- the next batch

-- the dictionaries under which a file's batches are read: those that are read, or else the file's
abbrev pub standing_or : FileMetadata → List ℕ → Option (List Dictionary) → Option (List Dictionary)
standing_or metadata bytes None = dictionaries_of metadata bytes
standing_or metadata bytes (Some standing) = Some standing

-- the columns of the batch at a block that are asked for, of as many rows as may still be given
abbrev pub columns_at : {R : Type 0} → FileReading R → Block → List ℕ → Option (List (List Slot))
columns_at reading block bytes = do
  standing ← standing_or reading.metadata bytes reading.standing
  asked_at reading.columns (layout_in reading.metadata) standing reading.limit block bytes

-- a message is compressed that is read for the batch, or is a dictionary that adds to an earlier one
abbrev pub IsUnreadNext : {R : Type 0} → FileReading R → Block → List ℕ → Type 0
IsUnreadNext reading block bytes = HasUnreadDictionary reading.metadata bytes ⊎ IsCompressedAt bytes block

-- the types of the columns that are asked for
abbrev pub HasAskedTypes : {R : Type 0} → FileReading R → List Column → Type 0
HasAskedTypes reading chunk = map column_type chunk ≡ map type_of (asked_fields reading.columns (layout_in reading.metadata).fields)

-- What a room tells of itself
module _ {R : Type 0} (told : R → Told) where
  -- what the room tells, where it has as many bytes as the file
  abbrev pub told_of : FileReading R → Told
  told_of reading = sized reading.metadata.size (told reading.room)

  -- dictionaries that were read stay; others are those of the file, or are still to be read
  abbrev pub KeepsStanding : FileReading R → Option (List Dictionary) → Option (List Dictionary) → Type 0
  KeepsStanding old (Some standing) new = new ≡ Some standing
  KeepsStanding old None None = Unit {0}
  KeepsStanding old None (Some standing) = ForBytes (told_of old) (StandAsIn old.metadata standing)

  -- What comes of the batch at a block: the columns that are asked for, of as many rows as may still be given; or why it is refused, and then as
  -- many rows as before may be given of the next ones. Where it is given, the file's dictionaries are read.
  abbrev pub GivesBatch : FileReading R → FileReading R → Block → Result (List Column) Error → Type 0
  GivesBatch old new block (Ok chunk) = HasAskedTypes old chunk × IsSome new.standing
      × (new.limit ≡ left_of old.limit (rows_of_columns (map slots chunk))) × Stays (told_of old) (told_of new)
      × ForBytes (told_of old) (λ bytes. columns_at old block bytes ≡ Some (map slots chunk))
  GivesBatch old new block (Err error) = (new.limit ≡ old.limit)
      × RefusesOf (told_of old) (told_of new) (IsUnreadNext old block) (columns_at old block) error

  -- The reader stands behind a block. Dictionaries are read anew until they were read whole.
  pub record IsBehindBlock (old new : FileReading R) : Type 0 where
    pub metadata : new.metadata ≡ old.metadata
    pub columns : new.columns ≡ old.columns
    pub next : new.next ≡ old.next + 1
    pub standing : KeepsStanding old old.standing new.standing

  -- what is answered at a block; behind the last one nothing is
  abbrev pub AnswersAt : Option Block → FileReading R → Option (Result (List Column) Error) → FileReading R → Type 0
  AnswersAt None old None new = new ≡ old
  AnswersAt None old (Some result) new = ⊥
  AnswersAt (Some block) old None new = ⊥
  AnswersAt (Some block) old (Some result) new = IsBehindBlock old new × GivesBatch old new block result

  -- What comes next of a file: the batch at the next block, also after a refusal.
  abbrev pub NextGivesBatch : FileReading R → Option (Result (List Column) Error) → FileReading R → Type 0
  NextGivesBatch old result new = AnswersAt (slice_get (start_view old.metadata).record_batches old.next) old result new
