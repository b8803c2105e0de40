use Rattle.std.proofs.Common.{◌≡◌, rules}
use Rattle.std.specs.Prelude.{Err}
use Rattle.ipc_format_messages.specs.flatbuffers.Views.{piece_view}
use Rattle.ipc_format_messages.specs.metadata.Views.{ids_views}
use Rattle.ipc_format_writing.proofs.SchemaMessages.{schema_refused, root_answer, lay_refused}
use Rattle.ipc_format_writing.proofs.schemas.schema_to_bytes.Goals as goal

pub returns-in_err-refuse_unwritten : goal.returns-in_err-refuse_unwritten
returns-in_err-refuse_unwritten c =
    let error = c.in_err-refuse_unwritten.field-0.0 in
    let is : c.from_residual.result ≡ Err error = search rules in
    rw is (schema_refused error c.args.schema.now (ids_views c.args.ipc_fields.now) c.in_err-refuse_unwritten.ensures.answer)

pub returns-in-Ok : goal.returns-in-Ok
returns-in-Ok c =
    let schema = c.args.schema.now in
    let below = ids_views c.args.ipc_fields.now in
    root_answer c.bytes_within.result schema below (piece_view c.in-Ok.root) c.in_ok-refuse_unwritten.ensures.answer (search rules)
    c.bytes_within.ensures

pub returns-in-Err : goal.returns-in-Err
returns-in-Err c =
    let schema = c.args.schema.now in
    let below = ids_views c.args.ipc_fields.now in
    lay_refused c.in-Err.error c.refusal.result schema below c.in_ok-refuse_unwritten.ensures.answer (search rules) c.refusal.ensures
