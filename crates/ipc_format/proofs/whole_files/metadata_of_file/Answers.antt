-- What is read of a room in memory is read of its bytes.
use Rattle.std.proofs.Common.{◌≡◌, length, refl}
use Rattle.std.specs.Prelude.{IfOk, Some, Result, Ok, Err}
use Rattle.ipc_format_readers.specs.FileReads.{AreMetadata, IsUnreadFile, ReadsMetadata}
use Rattle.ipc_format_readers.specs.FileStarts.{start_in, start_view}
use Rattle.ipc_format_readers.specs.chunk_writing.Rooms.{Told}
use Rattle.ipc_format_readers.specs.chunk_writing.columnar_memory.declared.Error.{Error}
use Rattle.ipc_format_readers.specs.declared.file_metadata.FileMetadata.{FileMetadata}
use Rattle.ipc_format_readers.specs.chunk_writing.metadata.Reading.{Reads}
use Rattle.ipc_format_readers.proofs.RoomReads.{in_memory}
use Rattle.ipc_format.proofs.WholeFiles.{of_memory}
use Rattle.ipc_format.proofs.whole_files.metadata_of_file.Goals as goal

found_in : (bytes : _) (new : Told) (result : Result FileMetadata Error) → new.failures ≡ 0 → ReadsMetadata (in_memory bytes) new result
    → Reads start_view (IsUnreadFile bytes) result (start_in bytes)
found_in bytes new (Ok metadata) none read = (read.1 bytes refl).0
found_in bytes new (Err error) none refused = of_memory (in_memory bytes) new IsUnreadFile start_in error bytes refl none refused

sized_in : (bytes : _) (new : Told) (result : Result FileMetadata Error) → ReadsMetadata (in_memory bytes) new result
    → IfOk result (λ metadata. metadata.size ≡ length bytes)
sized_in bytes new (Ok metadata) read = (read.1 bytes refl).1
sized_in bytes new (Err error) refused = tt

pub returns-clause-read : goal.returns-clause-read
returns-clause-read c = found_in c.args.bytes.now _ c.read_file_metadata.result refl c.read_file_metadata.ensures

pub returns-clause-size : goal.returns-clause-size
returns-clause-size c = sized_in c.args.bytes.now _ c.read_file_metadata.result c.read_file_metadata.ensures
