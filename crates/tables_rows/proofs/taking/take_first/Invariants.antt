-- The first columns are left empty, and their arrays are taken.
use Rattle.std.proofs.Common.{◌≡◌, map, take}
use Rattle.nested_arrays_cells.specs.parts.Open.{column_of}
use Rattle.tables_rows.specs.Columns.{cut_back}
use Rattle.tables_rows.proofs.taking.take_first.Given as goal

abbrev pub invariant-loop-place : goal.invariant-loop-place
invariant-loop-place l = record {
  left : l.columns.items ≡ cut_back l.place 0 l.fn.columns.items;
  taken : l.arrays.items ≡ map column_of (take l.place l.fn.columns.items);
}
