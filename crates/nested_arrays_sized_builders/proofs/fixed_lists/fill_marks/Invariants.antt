use Rattle.std.proofs.Common.{◌≡◌, ◌++◌, replicate, true}
use Rattle.nested_arrays_sized_builders.proofs.fixed_lists.fill_marks.Given as goal

-- the marks so far
abbrev pub invariant-loop : goal.invariant-loop
invariant-loop l = l.marks ≡ l.initial.marks ++ replicate l.counter true
