-- The first columns have a slot of the row each, and fit.
use Rattle.std.proofs.Common.{◌≡◌, true, take}
use Rattle.tables_chunks.specs.SameRows.{stored_row}
use Rattle.tables_rows.specs.Grouping.{all_fit, with_row}
use Rattle.tables_rows.proofs.groups.push_row.Given as goal

abbrev pub invariant-loop-k : goal.invariant-loop-k
invariant-loop-k l = record {
  pushed : l.columns.items ≡ with_row l.fn.columns.items (take l.k (stored_row l.arrays l.row));
  fits : all_fit (take l.k (with_row l.fn.columns.items (stored_row l.arrays l.row))) ≡ true;
}
