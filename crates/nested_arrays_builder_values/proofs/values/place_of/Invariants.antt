use Rattle.std.proofs.Common.{◌≡◌, ℕ, ◌-◌, ◌<◌, ◌≤◌, length}
use Rattle.std.specs.Prelude.{◌≢◌, slice_index_or}
use Rattle.nested_arrays_builder_values.specs.Hashes.{cell_hash}
use Rattle.nested_arrays_builder_values.proofs.values.place_of.Given as goal

-- none of the newer ones is it, and the next has its hash
abbrev pub invariant-walk : goal.invariant-walk
invariant-walk l = record {
  within : l.place ≤ length l.cells;
  here : 0 < l.place → slice_index_or l.places (l.place - 1) 0 ≡ cell_hash l.cell;
  none : (k : ℕ) → l.place ≤ k → k < length l.cells → slice_index_or l.cells k l.cell ≢ l.cell;
}

abbrev pub decreases-walk : goal.decreases-walk
decreases-walk l = l.place
