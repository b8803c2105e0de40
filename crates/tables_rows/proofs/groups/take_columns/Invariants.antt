-- The first columns are taken, and left empty.
use Rattle.std.proofs.Common.{◌≡◌, take, map}
use Rattle.nested_arrays_cells.specs.parts.Open.{column_of}
use Rattle.tables_rows.proofs.PushedSlots.{emptied_first}
use Rattle.tables_rows.proofs.groups.take_columns.Given as goal

abbrev pub invariant-loop-k : goal.invariant-loop-k
invariant-loop-k l = record {
  emptied : l.columns.items ≡ emptied_first l.k l.fn.columns.items;
  taken : l.arrays.items ≡ map column_of (take l.k l.fn.columns.items);
}
