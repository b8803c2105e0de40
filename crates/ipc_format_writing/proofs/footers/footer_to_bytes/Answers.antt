use Rattle.std.proofs.Common.{◌≡◌, rules}
use Rattle.std.specs.Prelude.{Err}
use Rattle.ipc_format_messages.specs.metadata.Views.{ids_views}
use Rattle.ipc_format_writing.specs.FooterWriting.{blocks_view}
use Rattle.ipc_format_writing.proofs.LaidFooter.{footer-refused, footer-answered}
use Rattle.ipc_format_writing.proofs.footers.footer_to_bytes.Goals as goal

pub returns-in_err-refuse_unwritten : goal.returns-in_err-refuse_unwritten
returns-in_err-refuse_unwritten c =
    let error = c.in_err-refuse_unwritten.field-0.0 in
    let is : c.from_residual.result ≡ Err error = search rules in
    rw is (footer-refused error c.args.schema.now (ids_views c.args.ipc_fields.now)
    (blocks_view c.args.dictionaries.now c.args.record_batches.now) c.in_err-refuse_unwritten.ensures.answer)

pub returns : goal.returns
returns c =
    footer-answered c.finish.result c.lay_footer-laid.result c.args.schema.now (ids_views c.args.ipc_fields.now)
    (blocks_view c.args.dictionaries.now c.args.record_batches.now) c.in_ok-refuse_unwritten.ensures.answer c.lay_footer-laid.ensures
    c.finish.ensures
