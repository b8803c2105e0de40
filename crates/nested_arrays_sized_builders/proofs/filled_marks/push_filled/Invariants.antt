use Rattle.std.proofs.Common.{◌≡◌, ◌++◌, take}
use Rattle.nested_arrays_sized_builders.specs.FixedListBuilders.{missing_and}
use Rattle.nested_arrays_sized_builders.proofs.filled_marks.push_filled.Given as goal

-- the marks so far
abbrev pub invariant-loop-i : goal.invariant-loop-i
invariant-loop-i l = l.marks ≡ l.initial.marks ++ take l.i (missing_and l.missing l.more l.count)
