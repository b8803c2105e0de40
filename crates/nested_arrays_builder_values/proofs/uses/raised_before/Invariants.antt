use Rattle.std.proofs.Common.{ℕ, ◌<◌, ◌≤◌, length}
use Rattle.std.specs.Prelude.{slice_index_or}
use Rattle.nested_arrays_builder_values.proofs.uses.raised_before.Given as goal

abbrev pub invariant-back : goal.invariant-back
invariant-back l = record {
  within : l.count ≤ length l.raises;
  behind : (i : ℕ) → l.count ≤ i → i < length l.raises → l.len ≤ slice_index_or l.raises i 0;
}

abbrev pub decreases-back : goal.decreases-back
decreases-back l = l.count
