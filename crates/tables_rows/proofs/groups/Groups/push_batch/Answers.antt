-- One row more of the batch is pushed.
use Rattle.std.proofs.Common.{rules, ◌<◌, sym, subst, arith}
use Rattle.tables_chunks.specs.Batches.{batch_len}
use Rattle.tables_chunks.proofs.BatchLists.{itself}
use Rattle.tables_chunks.specs.ipc_format.Chunks.{rows_of}
use Rattle.tables_rows.specs.Grouping.{TakesRow}
use Rattle.tables_rows.specs.GroupViews.{grouped}
use Rattle.tables_rows.proofs.ReadyGroups.{row_taken, rows_are_long, row_joins, row_refuses}
use Rattle.tables_rows.proofs.groups.Groups.push_batch.Goals as goal

pub push-requires-clause-takes : goal.push-requires-clause-takes
push-requires-clause-takes c =
    let batch = c.args.batch.now in
    let inside : c.loop-row.row < rows_of itself batch = omega (arith, c.loop-row-test.true, c.len-row-end.ensures) in
    subst (λ arrays. TakesRow c.loop-row.self.columns.items arrays c.loop-row.row) (sym c.arrays.ensures)
    (row_taken c.loop-row.self.columns.items batch c.loop-row.row c.loop-row.invariant.ready.typed c.whole.ensures inside)

pub returns-in_err-push : goal.returns-in_err-push
returns-in_err-push c =
    let batch = c.args.batch.now in
    let inside : c.loop-row.row < batch_len batch = omega (arith, c.loop-row-test.true, c.len-row-end.ensures, rows_are_long batch) in
    let whole = row_refuses c.args.n (grouped c.args.self.now) (grouped c.loop-row.self) batch c.arrays.result.now c.loop-row.row
    c.arrays.ensures c.loop-row.invariant.pushed c.loop-row.invariant.fit inside c.in_err-push.field-0.0 c.in_err-push.ensures in
    search (rules, whole)

pub loop-row-preserved : goal.loop-row-preserved
loop-row-preserved c =
    let more = row_joins c.args.n (grouped c.args.self.now) (grouped c.loop-row.self) (grouped c.push.new.self) c.args.batch.now
    c.arrays.result.now c.loop-row.row c.arrays.ensures c.loop-row.invariant.pushed c.loop-row.invariant.fit c.loop-row.invariant.ready
    c.in_ok-push.ensures.0 c.in_ok-push.ensures.1 in
    record { pushed = more.pushed; fit = more.fit; ready = more.ready }
