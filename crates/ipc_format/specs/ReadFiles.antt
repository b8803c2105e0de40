-- What is read of a file, against what the format gives (Arrow IPC, "IPC File Format").
use Rattle.std.specs.Prelude.{◌≡◌, ◌⊎◌, ℕ, ℤ, true, List, All, Option, Some, None, IsSomeAnd, Result, Ok, Err}
use Rattle.std.specs.BTreeMap.{BTreeMap}
use Rattle.std.specs.declared.alloc.Global.{Global}
use Rattle.std.specs.declared.vec.Vec.{Vec}
use Rattle.ipc_format_readers.specs.BlockMessages.{AreOfFields, HasCompressed, HasUnread, ReadsColumns, slots_of_batches}
use Rattle.ipc_format_readers.specs.BlockRuns.{batches_by_blocks}
use Rattle.ipc_format_readers.specs.FileReads.{HasUnreadDictionary, StandAsIn, batch_of_file, dictionaries_of}
use Rattle.ipc_format_readers.specs.FileStarts.{layout_in, start_view}
use Rattle.ipc_format_readers.specs.chunk_writing.ReadArrays.{standing_in}
use Rattle.ipc_format_readers.specs.chunk_writing.columnar_memory.declared.Error.{Error}
use Rattle.ipc_format_readers.specs.chunk_writing.columnar_memory.declared.Error.TheVariants as errors
use Rattle.ipc_format_readers.specs.chunk_writing.columns.Slots.{Slot}
use Rattle.ipc_format_readers.specs.chunk_writing.columns.StoredColumns.{Column}
use Rattle.ipc_format_readers.specs.declared.file_metadata.FileMetadata.{FileMetadata}
use Rattle.ipc_format_readers.specs.chunk_writing.grammar.Columns.{Dictionary}
use Rattle.ipc_format_readers.specs.chunk_writing.grammar.Refusals.{HasUnimplemented}
use Rattle.ipc_format_readers.specs.chunk_writing.grammar.Tables.{file, batches_in, contents_of}
use Rattle.ipc_format_readers.specs.chunk_writing.grammar.Writable.{is_writable, normalised}
use Rattle.ipc_format_readers.specs.chunk_writing.metadata.Reading.{Refuses}
use Rattle.ipc_format.specs.declared.whole_files.FileBatches.{FileBatches}

-- ---- parts of a file

-- dictionaries stand like those of the file; or it has none
abbrev pub HasDictionaries : FileMetadata → List ℕ → Result (BTreeMap ℤ Column) Error → Type 0
HasDictionaries metadata bytes (Ok dictionaries) = StandAsIn metadata (standing_in dictionaries) bytes
HasDictionaries metadata bytes (Err error) = Refuses (HasUnreadDictionary metadata bytes) error (dictionaries_of metadata bytes)

-- all columns of a batch, under some dictionaries
abbrev pub batch_of : FileMetadata → List Dictionary → ℕ → List ℕ → Option (List (List Slot))
batch_of metadata standing index bytes = batch_of_file metadata None standing None index bytes

-- what is read of a file's messages, by their blocks: the batches that the format gives of them
abbrev pub ReadsMessages : FileMetadata → List ℕ → Result (Vec (List Column) Global) Error → Type 0
ReadsMessages metadata bytes result = ReadsColumns (layout_in metadata).fields
    (HasUnread bytes (start_view metadata).dictionaries ⊎ HasCompressed bytes (start_view metadata).record_batches)
    (batches_by_blocks None None (start_view metadata) bytes) result

-- ---- the whole

-- What is read is what the format gives, batch by batch: the normalised schema, which may be written and is in its one form, and arrays of the
-- types of its fields. What is refused as out of specification the format doesn't give. In what isn't implemented stands the mark of Feather, a
-- float field, a compressed batch, or a dictionary that adds to an earlier one. Memory may run out anywhere.
abbrev pub ReadsFile : Result FileBatches Error → List ℕ → Type 0
ReadsFile (Ok read) bytes = IsSomeAnd (contents_of file bytes) (λ found. read.schema ≡ normalised found.schema.schema)
    × (batches_in file bytes ≡ Some (slots_of_batches read.chunks.items)) × All (AreOfFields read.schema.fields) read.chunks.items
    × (is_writable read.schema ≡ true) × (normalised read.schema ≡ read.schema)
ReadsFile (Err (errors.OutOfSpec what)) bytes = batches_in file bytes ≡ None
ReadsFile (Err (errors.NotYetImplemented what)) bytes = (batches_in file bytes ≡ None) × HasUnimplemented file bytes
ReadsFile (Err errors.OutOfMemory) bytes = Unit {0}
ReadsFile (Err _) bytes = ⊥
