use Rattle.std.proofs.Common.{◌≡◌, ℕ, ◌-◌, ◌+◌, ◌<◌, ◌≤◌, take}
use Rattle.std.specs.Prelude.{◌≢◌, slice_index_or}
use Rattle.std.specs.List.{count_by}
use Rattle.nested_arrays_sized_builders.specs.nulls.columns.StoredColumns.{column_len, slot_at, slots}
use Rattle.nested_arrays_dictionary_builders.specs.SlotHashes.{hashes_as, slot_hash}
use Rattle.nested_arrays_dictionary_builders.proofs.places.place_of.Given as goal

-- none of the newer ones is it, the next has its hash, and a step was counted for each of the newer ones that have it
abbrev pub invariant-walk : goal.invariant-walk
invariant-walk g l = record {
  within : l.place ≤ column_len (g.M.MutableArray.column l.values);
  here : 0 < l.place → slice_index_or l.places (l.place - 1) 0 ≡ slot_hash (g.M.TryPush.slot l.item);
  none : (k : ℕ) → l.place ≤ k → k < column_len (g.M.MutableArray.column l.values)
      → slot_at (g.M.MutableArray.column l.values) k ≢ g.M.TryPush.slot l.item;
  counted : l.steps.count + count_by (hashes_as (g.M.TryPush.slot l.item)) (take l.place (slots (g.M.MutableArray.column l.values)))
      ≤ l.initial.steps.count + count_by (hashes_as (g.M.TryPush.slot l.item)) (slots (g.M.MutableArray.column l.values));
}

abbrev pub decreases-walk : goal.decreases-walk
decreases-walk g l = l.place
