-- The arrays are as long as the first.
use Rattle.std.proofs.Common.{◌≡◌, ◌∙◌, true, ap, sym}
use Rattle.tables_rows.specs.Columns.{are_fitting}
use Rattle.tables_rows.proofs.TakenColumns.{long_arrays}
use Rattle.tables_rows.proofs.taking.take_batch.Goals as goal

pub new-requires : goal.new-requires
new-requires c =
    let columns = c.args.columns.now.items in
    let fit : are_fitting columns ≡ true = ap are_fitting (sym c.deref.ensures.value) ∙ c.are_whole.ensures in
    long_arrays columns c.in-Ok.arrays.items fit c.requires c.in-Ok.ensures.1
