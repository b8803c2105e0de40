-- The mark, and the schema's message behind it.
use Rattle.std.proofs.Common.{rules, ◌≡◌, ◌∙◌, length, refl}
use Rattle.ipc_format.specs.metadata.Views.{ids_views}
use Rattle.tables_chunks.proofs.PutBatches.{schema_prefix}
use Rattle.tables_chunks.proofs.PutFiles.{mark_refused, start_put, start_refused, start_unwritten}
use Rattle.tables_chunks.proofs.write_file.put_file_start.Goals as goal

pub returns-in_err-metadata : goal.returns-in_err-metadata
returns-in_err-metadata g c =
    let whole = start_unwritten c.in_err-metadata.field-0.0 (g.W.Write.contents c.args.writer.now) c.args.schema.now (ids_views c.args.ids.now)
    c.requires.writable c.requires.ids c.in_err-metadata.ensures in
    search (rules, whole)

pub returns-in_err-put : goal.returns-in_err-put
returns-in_err-put g c =
    let whole = mark_refused c.in_err-put.field-0.0 _ _ c.args.schema.now c.in_err-put.ensures in
    search (rules, whole)

pub put_message-requires : goal.put_message-requires
put_message-requires g c =
    let metadata = c.in_ok-metadata.ensures in
    schema_prefix c.args.schema.now (ids_views c.args.ids.now) c.deref.result.now (metadata.0, metadata.1, c.deref.ensures.value ∙ metadata.2)

pub returns-in_err-put_message : goal.returns-in_err-put_message
returns-in_err-put_message g c =
    let metadata = c.in_ok-metadata.ensures in
    let whole = start_refused c.in_err-put_message.field-0.0 _ _ _ c.args.schema.now (ids_views c.args.ids.now) c.deref.result.now _ c.requires.ids
    (metadata.0, metadata.1, c.deref.ensures.value ∙ metadata.2) (search rules) c.in_ok-put.ensures c.in_err-put_message.ensures in
    search (rules, whole)

pub returns : goal.returns
returns g c =
    let metadata = c.in_ok-metadata.ensures in
    let long : c.len.result ≡ length c.deref.result.now = search rules in
    start_put _ _ _ c.args.schema.now (ids_views c.args.ids.now) c.deref.result.now _ c.len.result _ c.requires.ids
    (metadata.0, metadata.1, c.deref.ensures.value ∙ metadata.2) (search rules) c.in_ok-put.ensures c.in_ok-put_message.ensures long refl
