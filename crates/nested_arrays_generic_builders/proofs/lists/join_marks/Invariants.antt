use Rattle.std.proofs.Common.{◌≡◌, ◌++◌, take}
use Rattle.nested_arrays_generic_builders.proofs.lists.join_marks.Given as goal

abbrev pub invariant-loop-i : goal.invariant-loop-i
invariant-loop-i l = l.marks ≡ l.initial.marks ++ take l.i l.more
