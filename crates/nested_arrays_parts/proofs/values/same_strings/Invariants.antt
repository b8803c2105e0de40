use Rattle.nested_arrays_parts.specs.Forms.{bare}
use Rattle.nested_arrays_parts.specs.Ranges.{SameRanges}
use Rattle.nested_arrays_parts.proofs.values.same_strings.Given as goal

-- the values before are the same
abbrev pub invariant-loop-k : goal.invariant-loop-k
invariant-loop-k l = SameRanges (bare l.left) l.i (bare l.right) l.j l.k
