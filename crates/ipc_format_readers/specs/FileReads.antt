-- What is read of a file that stands in a room, against what the format gives (Arrow IPC, "IPC File Format").
use Rattle.std.specs.Prelude.{◌≡◌, ◌⊎◌, ℕ, ℤ, ◌<◌, List, [], ◌∷◌, length, map, nat_le, slice_get}
use Rattle.std.specs.Prelude.{Option, Some, None, IsSomeAnd, Result, Ok, Err}
use Rattle.std.specs.BTreeMap.{BTreeMap}
use Rattle.ipc_format_chunk_writing.specs.ReadArrays.{standing_in}
use Rattle.ipc_format_chunk_writing.specs.Readable.{all_of}
use Rattle.ipc_format_chunk_writing.specs.Rooms.{ForBytes, Stays, Told}
use Rattle.ipc_format_chunk_writing.specs.Standing.{StandAlike}
use Rattle.ipc_format_chunk_writing.specs.columnar_memory.declared.Error.{Error}
use Rattle.ipc_format_chunk_writing.specs.columnar_memory.declared.Error.TheVariants as errors
use Rattle.ipc_format_chunk_writing.specs.columnar_memory.declared.Field.{Field}
use Rattle.ipc_format_chunk_writing.specs.columns.Slots.{Slot}
use Rattle.ipc_format_chunk_writing.specs.columns.StoredColumns.{Column, slots}
use Rattle.ipc_format_chunk_writing.specs.flatbuffers.Reading.{◌>>=◌, guard}
use Rattle.ipc_format_chunk_writing.specs.grammar.Columns.{Dictionary}
use Rattle.ipc_format_chunk_writing.specs.grammar.Dictionaries.{Entry, Layout}
use Rattle.ipc_format_chunk_writing.specs.grammar.Files.{Block, entry_at, is_record_batch}
use Rattle.ipc_format_chunk_writing.specs.grammar.Limits.{most_dictionaries}
use Rattle.ipc_format_chunk_writing.specs.grammar.Messages as message
use Rattle.ipc_format_chunk_writing.specs.grammar.Refusals.{HasFeatherMark, HasFloat}
use Rattle.ipc_format_chunk_writing.specs.grammar.Tables.{chosen_batch_in, file}
use Rattle.ipc_format_readers.specs.BlockMessages.{HasUnread, IsCompressedAt, standing_after}
use Rattle.ipc_format_readers.specs.FileStarts.{layout_in, start_in, start_view}
use Rattle.ipc_format_readers.specs.declared.file_metadata.FileMetadata.{FileMetadata}

-- ---- what calls answer

-- Why a call refuses that reads of a room: the room failed in the call, there was no memory, the format gives nothing, or it gives nothing and
-- what isn't implemented stands in the bytes.
abbrev pub RefusesOf : {A : Type 0} → Told → Told → (List ℕ → Type 0) → (List ℕ → Option A) → Error → Type 0
RefusesOf old new Unread given (errors.Io what) = old.failures < new.failures
RefusesOf old new Unread given errors.OutOfMemory = Unit {0}
RefusesOf old new Unread given (errors.OutOfSpec text) = ForBytes old (λ bytes. given bytes ≡ None)
RefusesOf old new Unread given (errors.NotYetImplemented text) = ForBytes old (λ bytes. (given bytes ≡ None) × Unread bytes)
RefusesOf old new Unread given _ = ⊥

-- What is read is of the bytes, where they are told; or the call is refused.
abbrev pub ReadsOf : {A B : Type 0} → Told → Told → (A → List ℕ → Type 0) → (List ℕ → Type 0) → (List ℕ → Option B) → Result A Error → Type 0
ReadsOf old new Is Unread given (Ok found) = Stays old new × ForBytes old (Is found)
ReadsOf old new Is Unread given (Err error) = RefusesOf old new Unread given error

-- ---- metadata

-- metadata are what a file's footer says, and its size
abbrev pub AreMetadata : FileMetadata → List ℕ → Type 0
AreMetadata metadata bytes = (start_in bytes ≡ Some (start_view metadata)) × (metadata.size ≡ length bytes)

-- The file begins with the mark of Feather, or a float stands in its schema.
abbrev pub IsUnreadFile : List ℕ → Type 0
IsUnreadFile bytes = HasFeatherMark file bytes ⊎ HasFloat file bytes

-- what is read of a file's footer
abbrev pub ReadsMetadata : Told → Told → Result FileMetadata Error → Type 0
ReadsMetadata old new result = ReadsOf old new AreMetadata IsUnreadFile start_in result

-- ---- dictionaries

-- The dictionaries at some blocks, where there is a block of a record batch; else none is read.
abbrev pub dictionaries_before : Layout → List ℕ → List Block → List Block → Option (List Dictionary)
dictionaries_before layout bytes dictionaries [] = Some []
dictionaries_before layout bytes dictionaries (block ∷ blocks) = do
  _ ← guard (nat_le (length dictionaries) most_dictionaries)
  standing_after layout bytes [] dictionaries

-- the dictionaries of a file
abbrev pub dictionaries_of : FileMetadata → List ℕ → Option (List Dictionary)
dictionaries_of metadata bytes =
    dictionaries_before (layout_in metadata) bytes (start_view metadata).dictionaries (start_view metadata).record_batches

-- some dictionaries stand as those of a file do
abbrev pub StandAsIn : FileMetadata → List Dictionary → List ℕ → Type 0
StandAsIn metadata standing bytes = IsSomeAnd (dictionaries_of metadata bytes) (StandAlike standing)

-- the messages of dictionaries of which one is compressed, or adds to an earlier one
abbrev pub HasUnreadDictionary : FileMetadata → List ℕ → Type 0
HasUnreadDictionary metadata bytes = HasUnread bytes (start_view metadata).dictionaries

-- what is read of a file's dictionaries
abbrev pub ReadsDictionaries : FileMetadata → Told → Told → Result (BTreeMap ℤ Column) Error → Type 0
ReadsDictionaries metadata old new result =
    ReadsOf old new (λ dictionaries. StandAsIn metadata (standing_in dictionaries)) (HasUnreadDictionary metadata) (dictionaries_of metadata) result

-- ---- batches

-- the columns that are asked for, or all
abbrev pub asked_or_all : Option (List ℕ) → List Field → List ℕ
asked_or_all None fields = all_of fields
asked_or_all (Some columns) fields = columns

-- the columns of a message's record batch that are asked for, under a limit of rows
abbrev pub asked_by : Option (List ℕ) → Layout → List Dictionary → Option ℕ → Entry → message.Header → Option (List (List Slot))
asked_by asked layout standing limit entry (message.record_batch table) =
    chosen_batch_in layout standing entry limit (asked_or_all asked layout.fields) table
asked_by asked layout standing limit entry _ = None

-- those of the record batch at a block, where some dictionaries stand
abbrev pub asked_at : Option (List ℕ) → Layout → List Dictionary → Option ℕ → Block → List ℕ → Option (List (List Slot))
asked_at asked layout standing limit block bytes = do
  entry ← entry_at is_record_batch bytes block
  asked_by asked layout standing limit entry entry.header

-- those of a file's record batch
abbrev pub batch_of_file : FileMetadata → Option (List ℕ) → List Dictionary → Option ℕ → ℕ → List ℕ → Option (List (List Slot))
batch_of_file metadata asked standing limit index bytes = do
  block ← slice_get (start_view metadata).record_batches index
  asked_at asked (layout_in metadata) standing limit block bytes

-- a file's record batch is compressed
abbrev pub IsCompressedBatch : FileMetadata → ℕ → List ℕ → Type 0
IsCompressedBatch metadata index bytes = IsSomeAnd (slice_get (start_view metadata).record_batches index) (IsCompressedAt bytes)

-- what is read of a file's record batch
abbrev pub ReadsBatchOf : FileMetadata → Option (List ℕ) → List Dictionary → Option ℕ → ℕ → Told → Told → Result (List Column) Error → Type 0
ReadsBatchOf metadata asked standing limit index old new result =
    ReadsOf old new (λ chunk bytes. batch_of_file metadata asked standing limit index bytes ≡ Some (map slots chunk))
    (IsCompressedBatch metadata index) (batch_of_file metadata asked standing limit index) result
