use Rattle.nested_arrays_parts.specs.Ranges.{SameRanges}
use Rattle.nested_arrays_parts.proofs.ranges.same_block.Given as goal

-- the slots before are the same
abbrev pub invariant-loop-k : goal.invariant-loop-k
invariant-loop-k l = SameRanges l.left l.i l.right l.j l.k
