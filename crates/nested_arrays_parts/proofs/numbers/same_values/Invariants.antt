use Rattle.std.proofs.Common.{◌-◌, ◌≤◌, map}
use Rattle.nested_arrays_parts.specs.Ranges.{SameStored}
use Rattle.nested_arrays_flat.specs.FlatColumns.{stored_numbers}
use Rattle.nested_arrays_parts.proofs.numbers.same_values.Given as goal

-- the numbers before are the same
abbrev pub invariant-loop-k : goal.invariant-loop-k
invariant-loop-k g l = (l.k ≤ l.count) × SameStored (stored_numbers g.T.NativeType.PRIMITIVE (map g.T.NativeType.numbers l.left)) l.i
    (stored_numbers g.T.NativeType.PRIMITIVE (map g.T.NativeType.numbers l.right)) l.j l.k

abbrev pub decreases-loop-k : goal.decreases-loop-k
decreases-loop-k g l = l.count - l.k
