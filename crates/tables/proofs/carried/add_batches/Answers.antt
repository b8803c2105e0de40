-- A batch that can't be put behind those before it.
use Rattle.std.proofs.Common.{List, rules, subst}
use Rattle.std.specs.Prelude.{Err}
use Rattle.tables_rows.specs.chunks.StoredTables.{AddsBatch}
use Rattle.tables_rows.specs.chunks.ipc_format.columns.StoredColumns.{Column}
use Rattle.tables.specs.Made.{AddsBatches}
use Rattle.tables.proofs.JoinedRows.{adding_refused}
use Rattle.tables.proofs.carried.add_batches.Goals as goal

pub returns-in_err-push : goal.returns-in_err-push
returns-in_err-push c =
    let batch = c.batch-item.result in
    let joined = c.loop-batch.joined in
    let new = c.push.new.self in
    let fault = c.in_err-push.field-0.0 in
    let refused : AddsBatch joined batch (Err fault) new = search rules in
    let among = adding_refused c.args.joined.now joined new c.batches-batch-items.result.now c.loop-batch.batch-index batch fault
    c.loop-batch.invariant.are c.loop-batch-test.true c.batch-item.is refused in
    let whole : AddsBatches c.args.joined.now c.args.table.now.batches (Err fault) new =
    subst (λ (batches : List (List Column)). AddsBatches c.args.joined.now batches (Err fault) new) c.batches-batch-items.ensures among in
    search (rules, whole)
