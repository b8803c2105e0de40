use Rattle.std.proofs.Common.{◌≡◌, take}
use Rattle.nested_arrays_builder_values.proofs.cells.+sameness.Given as goal

abbrev pub invariant-same_cells-loop-i : goal.invariant-same_cells-loop-i
invariant-same_cells-loop-i l = take l.i l.a ≡ take l.i l.b
