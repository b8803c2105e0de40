use Rattle.std.proofs.Common.{◌≡◌, take}
use Rattle.nested_arrays_builder_values.proofs.cells.+copies.Given as goal

abbrev pub invariant-copies_of_cells-loop-cell : goal.invariant-copies_of_cells-loop-cell
invariant-copies_of_cells-loop-cell l = l.copied ≡ take l.cell-index l.cells
