-- What is read of a room in memory is read of its bytes.
use Rattle.std.proofs.Common.{◌≡◌, ℤ, length, refl}
use Rattle.std.specs.BTreeMap.{BTreeMap}
use Rattle.std.specs.Prelude.{Result, Ok, Err}
use Rattle.ipc_format_readers.specs.chunk_writing.BatchReads.{sized}
use Rattle.ipc_format_readers.specs.FileReads.{HasUnreadDictionary, ReadsDictionaries, dictionaries_of}
use Rattle.ipc_format_readers.specs.chunk_writing.Rooms.{Told}
use Rattle.ipc_format_readers.specs.chunk_writing.columnar_memory.declared.Error.{Error}
use Rattle.ipc_format_readers.specs.chunk_writing.columns.StoredColumns.{Column}
use Rattle.ipc_format_readers.specs.declared.file_metadata.FileMetadata.{FileMetadata}
use Rattle.ipc_format_readers.proofs.RoomReads.{in_memory, sized_whole}
use Rattle.ipc_format.specs.ReadFiles.{HasDictionaries}
use Rattle.ipc_format.proofs.WholeFiles.{of_memory}
use Rattle.ipc_format.proofs.whole_files.dictionaries_of_file.Goals as goal

found_in : (metadata : FileMetadata) (bytes : _) (new : Told) (result : Result (BTreeMap ℤ Column) Error) → metadata.size ≡ length bytes
    → new.failures ≡ 0 → ReadsDictionaries metadata (sized metadata.size (in_memory bytes)) new result → HasDictionaries metadata bytes result
found_in metadata bytes new (Ok dictionaries) same none read = read.1 bytes (sized_whole metadata.size bytes same)
found_in metadata bytes new (Err error) same none refused =
    of_memory (sized metadata.size (in_memory bytes)) new (HasUnreadDictionary metadata) (dictionaries_of metadata) error bytes
    (sized_whole metadata.size bytes same) none refused

pub returns : goal.returns
returns c = found_in c.args.metadata.now c.args.bytes.now _ c.read_file_dictionaries.result c.requires refl c.read_file_dictionaries.ensures
