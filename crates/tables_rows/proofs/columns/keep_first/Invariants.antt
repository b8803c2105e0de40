-- The columns so far are cut back.
use Rattle.std.proofs.Common.{◌≡◌}
use Rattle.tables_rows.specs.Columns.{cut_back}
use Rattle.tables_rows.proofs.columns.keep_first.Given as goal

abbrev pub invariant-loop-place : goal.invariant-loop-place
invariant-loop-place l = l.columns.items ≡ cut_back l.place l.held l.fn.columns.items
