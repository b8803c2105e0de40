-- The schema, the batches and the end mark behind one another.
use Rattle.std.proofs.Common.{rules, ◌∙◌, ap}
use Rattle.ipc_format.specs.Ids.{default_ids}
use Rattle.ipc_format.specs.metadata.Views.{ids_views}
use Rattle.tables_chunks.proofs.PutTables.{batches_stopped, ids_stopped, schema_stopped, table_ended}
use Rattle.tables_chunks.proofs.writing.put_table.Goals as goal

pub returns-in_err-ids : goal.returns-in_err-ids
returns-in_err-ids g c =
    let whole = ids_stopped c.in_err-ids.field-0.0 (g.W.Write.contents c.args.writer.now) c.args.schema.now c.args.batches.now
    c.in_err-ids.ensures in
    search (rules, whole)

pub put_schema-requires-clause-ids : goal.put_schema-requires-clause-ids
put_schema-requires-clause-ids g c = ap ids_views c.deref.ensures.value ∙ c.in_ok-ids.ensures ∙ ap default_ids c.as_slice.ensures

pub returns-in_err-put_schema : goal.returns-in_err-put_schema
returns-in_err-put_schema g c =
    let whole = schema_stopped c.in_err-put_schema.field-0.0 _ _ c.args.schema.now c.args.batches.now c.in_err-put_schema.ensures in
    search (rules, whole)

pub put_batches-requires-clause-ids : goal.put_batches-requires-clause-ids
put_batches-requires-clause-ids g c = ap ids_views c.deref-2.ensures.value ∙ c.in_ok-ids.ensures ∙ ap default_ids c.as_slice.ensures

pub returns-in_err-put_batches : goal.returns-in_err-put_batches
returns-in_err-put_batches g c =
    let whole = batches_stopped c.in_err-put_batches.field-0.0 _ _ _ c.args.schema.now c.args.batches.now c.in_ok-put_schema.ensures
    c.in_err-put_batches.ensures in
    search (rules, whole)

pub returns : goal.returns
returns g c =
    table_ended c.put.result _ _ _ _ c.args.schema.now c.args.batches.now c.in_ok-put_schema.ensures c.in_ok-put_batches.ensures c.put.ensures
