-- The metadata, and no body.
use Rattle.std.proofs.Common.{rules, ◌∙◌}
use Rattle.ipc_format.specs.metadata.Views.{ids_views}
use Rattle.tables_chunks.proofs.PutBatches.{schema_unwritten, schema_prefix, schema_put}
use Rattle.tables_chunks.proofs.putting.put_schema.Goals as goal

pub returns-in_err-metadata : goal.returns-in_err-metadata
returns-in_err-metadata g c =
    let whole = schema_unwritten c.in_err-metadata.field-0.0 (g.W.Write.contents c.args.writer.now) c.args.schema.now (ids_views c.args.ids.now)
    c.requires.writable c.requires.ids c.in_err-metadata.ensures in
    search (rules, whole)

pub put_message-requires : goal.put_message-requires
put_message-requires g c =
    let metadata = c.in_ok-metadata.ensures in
    schema_prefix c.args.schema.now (ids_views c.args.ids.now) c.deref.result.now (metadata.0, metadata.1, c.deref.ensures.value ∙ metadata.2)

pub returns : goal.returns
returns g c =
    let metadata = c.in_ok-metadata.ensures in
    schema_put c.put_message.result _ _ c.args.schema.now (ids_views c.args.ids.now) c.deref.result.now _ c.requires.ids
    (metadata.0, metadata.1, c.deref.ensures.value ∙ metadata.2) (search rules) c.put_message.ensures
