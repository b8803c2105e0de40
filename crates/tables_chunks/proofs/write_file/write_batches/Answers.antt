-- The faults, and what is read again.
use Rattle.std.proofs.Common.{rules}
use Rattle.tables_chunks.specs.WrittenFiles.{StopsAtLongFile, StopsAtReplaced}
use Rattle.tables_chunks.proofs.FileRefused.{file_fault}
use Rattle.tables_chunks.proofs.FileStreams.{file_reads_as_stream}
use Rattle.tables_chunks.proofs.FilesRead.{file_reads_back}
use Rattle.tables_chunks.proofs.write_file.write_batches.Goals as goal

pub returns-in_err-write_whole-clause-written : goal.returns-in_err-write_whole-clause-written
returns-in_err-write_whole-clause-written g c =
    let old = g.W.Write.contents c.args.writer.now in
    let new = g.W.Write.contents c.write_whole.new.writer in
    let schema = c.args.schema.now in
    let batches = c.args.batches.now in
    let refused = c.in_err-write_whole.ensures in
    let why = file_fault (StopsAtLongFile old new schema batches) (StopsAtReplaced old new schema batches) c.in_err-write_whole.field-0.0 _ _ _
    refused.1 in
    let begins = refused.0 in
    search (rules, begins, why)

pub returns-clause-reads_back : goal.returns-clause-reads_back
returns-clause-reads_back g c =
    let is = c.in_ok-write_whole.ensures.0 in
    λ texts small. file_reads_back c.args.schema.now c.args.batches.now c.requires is texts small

pub returns-clause-reads_as_stream : goal.returns-clause-reads_as_stream
returns-clause-reads_as_stream g c =
    let is = c.in_ok-write_whole.ensures.0 in
    λ texts small. file_reads_as_stream c.args.schema.now c.args.batches.now c.requires is texts small
