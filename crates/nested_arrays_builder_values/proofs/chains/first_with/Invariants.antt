use Rattle.std.proofs.Common.{◌≡◌, ℕ, ◌-◌, ◌<◌, ◌≤◌}
use Rattle.std.specs.Prelude.{◌≢◌, slice_index_or}
use Rattle.nested_arrays_builder_values.specs.Newest.{bucket_of}
use Rattle.nested_arrays_builder_values.proofs.chains.first_with.Given as goal

abbrev pub invariant-walk : goal.invariant-walk
invariant-walk l = record {
  within : l.place ≤ l.start;
  chained : 0 < l.place → bucket_of l.count (slice_index_or l.hashes (l.place - 1) 0) ≡ bucket_of l.count l.hash;
  none : (i : ℕ) → l.place ≤ i → i < l.start → slice_index_or l.hashes i 0 ≢ l.hash;
}

abbrev pub decreases-walk : goal.decreases-walk
decreases-walk l = l.place
