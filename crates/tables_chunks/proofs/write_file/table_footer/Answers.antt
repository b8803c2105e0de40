-- The footer, and whether the file has room for it.
use Rattle.std.proofs.Common.{rules}
use Rattle.ipc_format.specs.metadata.Views.{ids_views}
use Rattle.tables_chunks.specs.WrittenFiles.{places_of}
use Rattle.tables_chunks.proofs.PutFiles.{footer_unwritten}
use Rattle.tables_chunks.proofs.write_file.table_footer.Goals as goal

pub returns-in_err-footer : goal.returns-in_err-footer
returns-in_err-footer c =
    let whole = footer_unwritten c.in_err-footer.field-0.0 c.args.schema.now (ids_views c.args.ids.now) (places_of c.args.places.now)
    c.requires.writable c.requires.ids (search rules) in
    search (rules, whole)
