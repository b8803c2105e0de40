-- The one form of the one form is itself.
use Rattle.std.proofs.Common.{◌≡◌}
use Rattle.tables_chunks.specs.ipc_format.Writable.{normalised}
use Rattle.tables_rows.proofs.NormalBars.{one_form}
use Rattle.tables_rows.proofs.forms.one_form.Goals as goal

pub returns : goal.returns
returns c =
    let is : c.in_ok-normal.field-0 ≡ normalised c.args.schema = c.in_ok-normal.ensures in
    (is, one_form c.args.schema c.in_ok-normal.field-0 c.whole.ensures is)
