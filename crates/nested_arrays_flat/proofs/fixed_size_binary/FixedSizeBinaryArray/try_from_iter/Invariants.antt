use Rattle.std.proofs.Common.{◌≡◌, map, option_map}
use Rattle.std.specs.Prelude.{is_some}
use Rattle.nested_arrays_flat.proofs.FixedItems.{AreStored}
use Rattle.nested_arrays_flat.proofs.fixed_size_binary.FixedSizeBinaryArray.try_from_iter.Given as goal

abbrev pub invariant-loop-slot : goal.invariant-loop-slot
invariant-loop-slot g l = record {
  stored : AreStored l.size (map (option_map g.T.AsSlice.items) l.yielded) l.values.items;
  marks : l.mask ≡ map is_some l.yielded;
}
