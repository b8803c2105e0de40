use Rattle.std.proofs.Common.{◌-◌, ◌≤◌}
use Rattle.nested_arrays_parts.specs.Ranges.{SameRanges}
use Rattle.nested_arrays_parts.proofs.ranges.same_slots.Given as goal

-- the slots before are the same
abbrev pub invariant-loop-k : goal.invariant-loop-k
invariant-loop-k l = (l.k ≤ l.count) × SameRanges l.left l.i l.right l.j l.k

abbrev pub decreases-loop-k : goal.decreases-loop-k
decreases-loop-k l = l.count - l.k
