-- What is kept of the file, by what its footer says and by its dictionaries.
use Rattle.std.proofs.Common.{rules, ◌≡◌, refl}
use Rattle.std.specs.Prelude.{Err}
use Rattle.ipc_format_readers.specs.chunk_writing.ReadArrays.{standing_in}
use Rattle.ipc_format.specs.FilePhases.{progress_of}
use Rattle.ipc_format.proofs.FileKept.{in_room, is_barred, is_kept, no_dictionaries, not_grown, not_read}
use Rattle.ipc_format.proofs.appending.file_in.Goals as goal

pub returns-in_err-metadata : goal.returns-in_err-metadata
returns-in_err-metadata c =
    let error = c.in_err-metadata.field-0.0 in
    let is : c.from_residual.result ≡ Err error = search rules in
    rw is (not_read c.args.bytes.now c.read_file_metadata.new.reader.bytes.now error c.in_err-metadata.ensures)

pub returns-in_err-end : goal.returns-in_err-end
returns-in_err-end c =
    let metadata = c.in_ok-metadata.metadata in
    let bytes = c.args.bytes.now in
    let error = c.in_err-end.field-0.0 in
    let is : c.from_residual-in_err-end.result ≡ Err error = search rules in
    rw is (is_barred metadata bytes (c.in_ok-metadata.ensures.1 bytes refl) error c.in_err-end.ensures)

pub returns-in_err-dictionaries : goal.returns-in_err-dictionaries
returns-in_err-dictionaries c =
    let metadata = c.in_ok-metadata.metadata in
    let bytes = c.args.bytes.now in
    let error = c.in_err-dictionaries.field-0.0 in
    let is : c.from_residual-in_err-dictionaries.result ≡ Err error = search rules in
    rw is (no_dictionaries metadata bytes (c.in_ok-metadata.ensures.1 bytes refl) c.in_ok-end.ensures.0 c.read_file_metadata.new.reader.bytes.now
    c.read_file_dictionaries.new.reader.bytes.now error c.in_ok-metadata.ensures.0.0 c.in_err-dictionaries.ensures)

pub progress_of_file-requires : goal.progress_of_file-requires
progress_of_file-requires c =
    record { may = c.in_ok-end.ensures.0; end = c.in_ok-end.ensures.1; within = c.in_ok-end.ensures.2 }

pub returns-in_err-file : goal.returns-in_err-file
returns-in_err-file c =
    let metadata = c.in_ok-metadata.metadata in
    let bytes = c.args.bytes.now in
    let are = c.in_ok-metadata.ensures.1 bytes refl in
    let dictionaries = c.in_ok-dictionaries.dictionaries in
    let error = c.in_err-file.field-0.0 in
    let is : c.from_residual-in_err-file.result ≡ Err error = search rules in
    let stand = c.in_ok-dictionaries.ensures.1 bytes (in_room metadata bytes are c.read_file_metadata.new.reader.bytes.now
    c.in_ok-metadata.ensures.0.0) in
    rw is (not_grown metadata bytes are c.in_ok-end.ensures.0 (standing_in dictionaries) dictionaries.entries error stand c.in_err-file.ensures)

pub returns : goal.returns
returns c =
    let metadata = c.in_ok-metadata.metadata in
    let bytes = c.args.bytes.now in
    let are = c.in_ok-metadata.ensures.1 bytes refl in
    let stand = c.in_ok-dictionaries.ensures.1 bytes (in_room metadata bytes are c.read_file_metadata.new.reader.bytes.now
    c.in_ok-metadata.ensures.0.0) in
    is_kept metadata bytes are c.in_ok-end.ensures.0 c.in_ok-dictionaries.dictionaries c.in_ok-end.end (progress_of c.in_ok-file.file) stand
    c.in_ok-end.ensures.1 c.in_ok-file.ensures.0 c.in_ok-file.ensures.1
