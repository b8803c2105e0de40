-- What the footer's bytes say is what the file's footer says.
use Rattle.std.proofs.Common.{rules, ◌≡◌, List, ℕ, subst}
use Rattle.std.specs.Prelude.{Err}
use Rattle.ipc_format_chunk_writing.specs.metadata.Reading.{Reads}
use Rattle.ipc_format_readers.specs.FileStarts.{start_view}
use Rattle.ipc_format_readers.specs.Footers.{HasFloatIn, start_of_footer}
use Rattle.ipc_format_readers.proofs.MetadataRead.{footer_refused, metadata_read}
use Rattle.ipc_format_readers.proofs.footer.read_file_metadata.Goals as goal

pub returns-in_err-size : goal.returns-in_err-size
returns-in_err-size g c =
    let error = c.in_err-size.field-0.0 in
    let is : c.from_residual.result ≡ Err error = search rules in
    rw is (footer_refused (g.R.Room.told c.args.reader.now) (g.R.Room.told c.take_footer.new.reader) error c.in_err-size.ensures)

pub returns : goal.returns
returns g c =
    let footer = c.take_footer.new.footer.items in
    let same : c.deref.result.now ≡ footer = search rules in
    metadata_read (g.R.Room.told c.args.reader.now) (g.R.Room.told c.take_footer.new.reader) footer c.in_ok-size.size c.metadata_in.result
    c.in_ok-size.ensures
    (subst (λ (f : List ℕ). Reads start_view (HasFloatIn f) c.metadata_in.result (start_of_footer f)) same c.metadata_in.ensures.read)
    c.metadata_in.ensures.size
