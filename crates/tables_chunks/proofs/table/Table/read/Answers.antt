-- The batches that were read have the types of the fields.
use Rattle.std.proofs.Common.{rules, All}
use Rattle.std.specs.Prelude.{Ok, Err}
use Rattle.ipc_format.specs.ReadFiles.{ReadsFile}
use Rattle.tables_chunks.specs.Faults.{fault_of}
use Rattle.tables_chunks.specs.Messages.{AreOfFields}
use Rattle.tables_chunks.specs.ReadTables.{ReadsFileTable}
use Rattle.tables_chunks.proofs.FileTables.{file_fault, file_made}
use Rattle.tables_chunks.proofs.ReadTables.{fit_fields}
use Rattle.tables_chunks.proofs.table.Table.read.Goals as goal

pub returns-in_err-read-in-File : goal.returns-in_err-read-in-File
returns-in_err-read-in-File c =
    let error = c.in_err-read-in-File.field-0.0 in
    let refused : ReadsFile (Err error) c.args.bytes.now = search rules in
    let whole : ReadsFileTable (Err (fault_of error)) c.args.bytes.now = file_fault error c.args.bytes.now refused in
    search (rules, whole)

pub of_batches-requires-clause-form : goal.of_batches-requires-clause-form
of_batches-requires-clause-form c =
    let read = c.in_ok-read-in-File.read in
    let is : ReadsFile (Ok read) c.args.bytes.now = search rules in
    record { writable = is.3; normal = is.4 }

pub of_batches-requires-clause-fields : goal.of_batches-requires-clause-fields
of_batches-requires-clause-fields c =
    let read = c.in_ok-read-in-File.read in
    let is : ReadsFile (Ok read) c.args.bytes.now = search rules in
    fit_fields read.schema.fields read.chunks.items is.2

pub returns-in_ok-read-in-File : goal.returns-in_ok-read-in-File
returns-in_ok-read-in-File c =
    let read = c.in_ok-read-in-File.read in
    let is : ReadsFile (Ok read) c.args.bytes.now = search rules in
    let whole : ReadsFileTable c.of_batches.result c.args.bytes.now =
    file_made c.args.bytes.now read c.of_batches.result is c.of_batches.ensures in
    search (rules, whole)

pub are_batches-requires-clause-fields : goal.are_batches-requires-clause-fields
are_batches-requires-clause-fields c =
    let read = c.in_ok-read-in-Stream.read in
    let all : All (AreOfFields read.schema.fields) read.chunks.items = c.in_ok-read-in-Stream.ensures.3 in
    let fit = fit_fields read.schema.fields read.chunks.items all in
    search (rules, fit)
