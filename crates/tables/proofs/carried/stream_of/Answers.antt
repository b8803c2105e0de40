-- The stream has a message past its limit.
use Rattle.std.proofs.Common.{◌≡◌, ◌∙◌, ap, subst}
use Rattle.std.specs.Prelude.{Some, true}
use Rattle.tables_rows.specs.chunks.Refusals.{IsWriteFault, StopsAtTooLong}
use Rattle.tables_rows.specs.chunks.declared.fault.Fault.{Fault}
use Rattle.tables_rows.specs.chunks.declared.fault.Fault.TheVariants as faults
use Rattle.tables_rows.specs.chunks.ipc_format.columnar_memory.declared.Error.TheVariants as errors
use Rattle.tables.proofs.LongTables.{is_long}
use Rattle.tables.proofs.carried.stream_of.Goals as goal

pub returns-in-Err-Ipc-Overflow : goal.returns-in-Err-Ipc-Overflow
returns-in-Err-Ipc-Overflow c =
    let table = c.args.table.now in
    let refused = c.in-Err-Ipc-Overflow in
    let old = Some c.new-bytes.result.items in
    let new = Some c.write_stream.new.writer.items in
    let fault : refused.field-0 ≡ faults.Ipc errors.Overflow = refused.field-0-is ∙ ap faults.Ipc refused.field-0-0-is in
    let why = subst (λ (fault : Fault). IsWriteFault (StopsAtTooLong old new table.schema table.batches) true 0 0 fault) fault
    refused.ensures.written.1 in
    is_long old new table why
