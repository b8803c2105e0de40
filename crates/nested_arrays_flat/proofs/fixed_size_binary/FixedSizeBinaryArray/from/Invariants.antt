use Rattle.std.proofs.Common.{◌≡◌, map, take}
use Rattle.std.specs.Prelude.{is_some}
use Rattle.nested_arrays_flat.proofs.FixedItems.{AreStored}
use Rattle.nested_arrays_flat.proofs.fixed_size_binary.FixedSizeBinaryArray.from.Given as goal

abbrev pub invariant-loop-slot : goal.invariant-loop-slot
invariant-loop-slot g l = record {
  stored : AreStored g.row.N (take l.slot-index l.slots) l.values.items;
  marks : l.mask ≡ map is_some (take l.slot-index l.slots);
}
