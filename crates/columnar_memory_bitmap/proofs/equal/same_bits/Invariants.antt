use Rattle.std.proofs.Common.{◌≡◌, ◌-◌, ◌≤◌}
use Rattle.columnar_memory_bits.specs.Bits.{bits_of}
use Rattle.columnar_memory_bitmap.proofs.equal.same_bits.Given as goal

abbrev pub invariant-loop-same : goal.invariant-loop-same
invariant-loop-same l = (l.same ≤ l.len) × (bits_of l.left l.left_offset l.same ≡ bits_of l.right l.right_offset l.same)

abbrev pub decreases-loop-same : goal.decreases-loop-same
decreases-loop-same l = l.len - l.same
