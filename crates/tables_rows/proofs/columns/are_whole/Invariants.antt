-- The columns so far fit.
use Rattle.std.proofs.Common.{◌≡◌, true, take}
use Rattle.tables_rows.specs.Columns.{are_fitting}
use Rattle.tables_rows.proofs.columns.are_whole.Given as goal

abbrev pub invariant-loop-column : goal.invariant-loop-column
invariant-loop-column l = are_fitting (take l.column-index l.columns) ≡ true
