-- The rows of one batch more are pushed.
use Rattle.std.proofs.Common.{rules, ◌∙◌, ◌<◌, length, get_or, List, ap, subst}
use Rattle.tables_chunks.specs.ipc_format.columnar_memory.declared.Schema.{Schema}
use Rattle.tables_chunks.specs.ipc_format.columns.StoredColumns.{Column}
use Rattle.tables_rows.specs.Grouping.{IsReady}
use Rattle.tables_rows.specs.GroupViews.{grouped}
use Rattle.tables_rows.proofs.ReadyGroups.{begun_groups, batch_typed, batch_joins, batch_refuses}
use Rattle.tables_rows.proofs.groups.group_rows.Goals as goal

pub loop-batch-init : goal.loop-batch-init
loop-batch-init c =
    let begun = begun_groups c.args.n c.args.table.now.schema.fields c.as_slice.result.now c.new.result.items c.in_ok-columns.columns.items
    c.requires.some c.new.ensures.items c.in_ok-columns.ensures
    (c.as_slice.ensures ∙ ap (λ (schema : Schema). schema.fields) c.schema.ensures) in
    record { pushed = begun.pushed; fit = begun.fit; ready = begun.ready }

pub push_batch-requires : goal.push_batch-requires
push_batch-requires c =
    let table = c.args.table.now in
    let are = c.batches-batch-items.ensures in
    let lt : c.loop-batch.batch-index < length table.batches =
    subst (λ (batches : List (List Column)). c.loop-batch.batch-index < length batches) are c.loop-batch-test.true in
    let is = c.batch-item.is ∙ ap (λ (batches : List (List Column)). get_or batches c.loop-batch.batch-index c.batch-item.result) are in
    subst (λ types. IsReady c.args.n types (grouped c.loop-batch.groups))
    (batch_typed table.schema table.batches c.loop-batch.batch-index c.batch-item.result c.whole.ensures.batches lt is)
    c.loop-batch.invariant.ready

pub returns-in_err-push_batch : goal.returns-in_err-push_batch
returns-in_err-push_batch c =
    let table = c.args.table.now in
    let are = c.batches-batch-items.ensures in
    let lt : c.loop-batch.batch-index < length table.batches =
    subst (λ (batches : List (List Column)). c.loop-batch.batch-index < length batches) are c.loop-batch-test.true in
    let is = c.batch-item.is ∙ ap (λ (batches : List (List Column)). get_or batches c.loop-batch.batch-index c.batch-item.result) are in
    let whole = batch_refuses c.args.n table.schema table.batches (grouped c.loop-batch.groups) c.loop-batch.batch-index c.batch-item.result
    c.whole.ensures.batches c.loop-batch.invariant.pushed c.loop-batch.invariant.fit lt is c.in_err-push_batch.field-0.0
    c.in_err-push_batch.ensures in
    search (rules, whole)

pub loop-batch-preserved : goal.loop-batch-preserved
loop-batch-preserved c =
    let table = c.args.table.now in
    let are = c.batches-batch-items.ensures in
    let lt : c.loop-batch.batch-index < length table.batches =
    subst (λ (batches : List (List Column)). c.loop-batch.batch-index < length batches) are c.loop-batch-test.true in
    let is = c.batch-item.is ∙ ap (λ (batches : List (List Column)). get_or batches c.loop-batch.batch-index c.batch-item.result) are in
    let more = batch_joins c.args.n table.schema table.batches (grouped c.loop-batch.groups) c.loop-batch.batch-index c.batch-item.result
    c.whole.ensures.batches c.loop-batch.invariant.pushed c.loop-batch.invariant.fit lt is (grouped c.push_batch.new.self)
    c.loop-batch.invariant.ready c.in_ok-push_batch.ensures.0 c.in_ok-push_batch.ensures.1 in
    record { pushed = more.pushed; fit = more.fit; ready = more.ready }
