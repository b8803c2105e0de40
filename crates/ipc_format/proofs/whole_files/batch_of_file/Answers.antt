-- What is read of a room in memory is read of its bytes.
use Rattle.std.proofs.Common.{rules, ◌≡◌, ℕ, List, length, map, refl, subst}
use Rattle.std.specs.Prelude.{None, Result, Ok, Err}
use Rattle.ipc_format_readers.specs.chunk_writing.BatchReads.{sized}
use Rattle.ipc_format_readers.specs.FileReads.{IsCompressedBatch, ReadsBatchOf}
use Rattle.ipc_format_readers.specs.chunk_writing.ReadArrays.{standing_in}
use Rattle.ipc_format_readers.specs.chunk_writing.Rooms.{Told}
use Rattle.ipc_format_readers.specs.chunk_writing.columnar_memory.declared.Error.{Error}
use Rattle.ipc_format_readers.specs.chunk_writing.columns.StoredColumns.{Column, slots}
use Rattle.ipc_format_readers.specs.declared.file_metadata.FileMetadata.{FileMetadata}
use Rattle.ipc_format_readers.specs.chunk_writing.grammar.Columns.{Dictionary}
use Rattle.ipc_format_readers.specs.chunk_writing.metadata.Reading.{Reads}
use Rattle.ipc_format_readers.proofs.RoomReads.{in_memory, sized_whole}
use Rattle.ipc_format.specs.ReadFiles.{batch_of}
use Rattle.ipc_format.proofs.WholeFiles.{of_memory}
use Rattle.ipc_format.proofs.whole_files.batch_of_file.Goals as goal

found_in : (metadata : FileMetadata) (standing : List Dictionary) (index : ℕ) (bytes : List ℕ) (new : Told) (result : Result (List Column) Error)
    → metadata.size ≡ length bytes → new.failures ≡ 0
    → ReadsBatchOf metadata None standing None index (sized metadata.size (in_memory bytes)) new result
    → Reads (map slots) (IsCompressedBatch metadata index bytes) result (batch_of metadata standing index bytes)
found_in metadata standing index bytes new (Ok chunk) same none read = read.1 bytes (sized_whole metadata.size bytes same)
found_in metadata standing index bytes new (Err error) same none refused =
    of_memory (sized metadata.size (in_memory bytes)) new (IsCompressedBatch metadata index) (batch_of metadata standing index) error bytes
    (sized_whole metadata.size bytes same) none refused

pub returns-in_err-chunk-clause-read : goal.returns-in_err-chunk-clause-read
returns-in_err-chunk-clause-read c =
    let metadata = c.args.metadata.now in
    let bytes = c.args.bytes.now in
    let standing = standing_in c.args.dictionaries.now in
    let error = c.in_err-chunk.field-0.0 in
    let is : c.read_batch.result ≡ Err error = search rules in
    let whole = found_in metadata standing c.args.index bytes _ c.read_batch.result c.requires.size refl c.read_batch.ensures.read in
    let refused = subst (λ (result : Result (List Column) Error). Reads (map slots) (IsCompressedBatch metadata c.args.index bytes) result
    (batch_of metadata standing c.args.index bytes)) is whole in
    search (rules, refused)

pub returns-clause-read : goal.returns-clause-read
returns-clause-read c =
    let metadata = c.args.metadata.now in
    let bytes = c.args.bytes.now in
    let standing = standing_in c.args.dictionaries.now in
    let is : c.read_batch.result ≡ Ok c.in_ok-chunk.chunk = search rules in
    let whole = found_in metadata standing c.args.index bytes _ c.read_batch.result c.requires.size refl c.read_batch.ensures.read in
    subst (λ (result : Result (List Column) Error). Reads (map slots) (IsCompressedBatch metadata c.args.index bytes) result
    (batch_of metadata standing c.args.index bytes)) is whole
