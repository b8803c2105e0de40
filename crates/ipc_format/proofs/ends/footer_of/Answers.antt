-- The schema is one that is written, so a footer is refused for its length alone.
use Rattle.std.proofs.Common.{rules}
use Rattle.std.specs.Prelude.{Err}
use Rattle.ipc_format_readers.specs.chunk_writing.metadata.Views.{ids_views}
use Rattle.ipc_format_readers.specs.streams.owned.writing.FooterWriting.{WritesFooter}
use Rattle.ipc_format.specs.FilePhases.{progress_of}
use Rattle.ipc_format.proofs.Footed.{no_footer}
use Rattle.ipc_format.proofs.ends.footer_of.Goals as goal

pub returns-in_err-footer : goal.returns-in_err-footer
returns-in_err-footer c =
    let schema = c.args.schema.now in
    let ids = ids_views c.args.ids.now in
    let progress = progress_of c.args.file.now in
    let error = c.in_err-footer.field-0.0 in
    let why : WritesFooter (Err error) schema ids progress.blocks = search rules in
    let whole = no_footer error schema ids progress c.requires why in
    search (rules, whole)
