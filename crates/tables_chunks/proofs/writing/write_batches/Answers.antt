-- The faults, and what is read again.
use Rattle.std.proofs.Common.{rules}
use Rattle.tables_chunks.specs.Refusals.{StopsAtTooLong}
use Rattle.tables_chunks.proofs.RefusedWrites.{fault_is}
use Rattle.tables_chunks.proofs.StreamsRead.{table_reads_back}
use Rattle.tables_chunks.proofs.writing.write_batches.Goals as goal

pub returns-in_err-write_table-clause-written : goal.returns-in_err-write_table-clause-written
returns-in_err-write_table-clause-written g c =
    let old = g.W.Write.contents c.args.writer.now in
    let new = g.W.Write.contents c.write_table.new.writer in
    let refused = c.in_err-write_table.ensures in
    let why = fault_is (StopsAtTooLong old new c.args.schema.now c.args.batches.now) c.in_err-write_table.field-0.0 _ _ _ refused.1 in
    let begins = refused.0 in
    search (rules, begins, why)

pub returns-clause-reads_back : goal.returns-clause-reads_back
returns-clause-reads_back g c =
    let within = c.in_ok-write_table.ensures.0 in
    λ texts small. table_reads_back c.args.schema.now c.args.batches.now c.requires within texts small
