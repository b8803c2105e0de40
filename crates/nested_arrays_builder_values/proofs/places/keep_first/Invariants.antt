use Rattle.std.proofs.Common.{◌≡◌, ◌≤◌, length, take}
use Rattle.nested_arrays_builder_values.specs.Newest.{AreKept}
use Rattle.nested_arrays_builder_values.proofs.places.keep_first.Given as goal

abbrev pub invariant-keep : goal.invariant-keep
invariant-keep l = record {
  first : l.hashes.items ≡ take (length l.hashes.items) l.fn.hashes.items;
  long : l.len ≤ length l.hashes.items;
  within : length l.hashes.items ≤ length l.fn.hashes.items;
  kept : AreKept l.heads.items l.before.items l.hashes.items;
}

abbrev pub decreases-keep : goal.decreases-keep
decreases-keep l = length l.hashes.items
