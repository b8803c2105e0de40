use Rattle.std.proofs.Common.{◌≡◌, take}
use Rattle.nested_arrays_cells.specs.parts.Marks.{marks}
use Rattle.nested_arrays_generic_builders.proofs.lists.marks_of.Given as goal

abbrev pub invariant-loop-place : goal.invariant-loop-place
invariant-loop-place l = l.kept ≡ take l.place (marks l.count l.validity)
