-- What is read by the footer is read of the whole file.
use Rattle.std.proofs.Common.{rules, ◌≡◌, sym, subst}
use Rattle.std.specs.Prelude.{Some, Ok, Err}
use Rattle.columnar_memory_types.specs.Error.{IsOutOfMemory}
use Rattle.ipc_format_readers.specs.FileReads.{IsUnreadFile}
use Rattle.ipc_format_readers.specs.FileStarts.{start_in, start_view}
use Rattle.ipc_format_readers.specs.chunk_writing.grammar.Writable.{normalised}
use Rattle.ipc_format_readers.specs.chunk_writing.metadata.Reading.{Refuses}
use Rattle.ipc_format.specs.ReadFiles.{ReadsFile, ReadsMessages}
use Rattle.ipc_format.proofs.WholeFiles.{HasOneForm, memory_refused, messages_refused, read_whole, start_form, start_refused}
use Rattle.ipc_format.proofs.whole_files.read_file.Goals as goal

pub returns-in_err-metadata : goal.returns-in_err-metadata
returns-in_err-metadata c =
    let bytes = c.args.bytes.now in
    let error = c.in_err-metadata.field-0.0 in
    let refused : Refuses (IsUnreadFile bytes) error (start_in bytes) = search rules in
    let whole : ReadsFile (Err error) bytes = start_refused error bytes refused in
    search (rules, whole)

pub returns-in_err-schema : goal.returns-in_err-schema
returns-in_err-schema c =
    let error = c.in_err-schema.field-0.0 in
    let refused : IsOutOfMemory error = search rules in
    let whole : ReadsFile (Err error) c.args.bytes.now = memory_refused error c.args.bytes.now refused in
    search (rules, whole)

pub returns-in_err-chunks : goal.returns-in_err-chunks
returns-in_err-chunks c =
    let bytes = c.args.bytes.now in
    let metadata = c.in_ok-metadata.metadata in
    let error = c.in_err-chunks.field-0.0 in
    let found : start_in bytes ≡ Some (start_view metadata) = search rules in
    let there : ReadsMessages metadata bytes (Err error) = search rules in
    let whole : ReadsFile (Err error) bytes =
    messages_refused error bytes metadata found (c.files_are_read_by_blocks.ensures bytes (start_view metadata) found).0 there in
    search (rules, whole)

pub returns : goal.returns
returns c =
    let bytes = c.args.bytes.now in
    let metadata = c.in_ok-metadata.metadata in
    let schema = c.in_ok-schema.schema in
    let chunks = c.in_ok-chunks.chunks in
    let found : start_in bytes ≡ Some (start_view metadata) = search rules in
    let normal : schema ≡ normalised metadata.schema = search rules in
    let there : ReadsMessages metadata bytes (Ok chunks) = search rules in
    let form = subst HasOneForm (sym normal) (start_form bytes (start_view metadata) found c.whole.ensures) in
    read_whole bytes metadata (record { schema = schema; chunks = chunks }) found
    (c.files_are_read_by_blocks.ensures bytes (start_view metadata) found).0 normal form there
