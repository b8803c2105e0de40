use Rattle.std.proofs.Common.{◌≡◌, map}
use Rattle.std.specs.Prelude.{is_some}
use Rattle.flat_arrays_bytes.specs.Texts.{AllTexts}
use Rattle.flat_arrays_bytes.proofs.Gathered.{AreGathered, stored_by}
use Rattle.flat_arrays_bytes.proofs.utf8.Utf8Array.from_iter.Given as goal

abbrev pub invariant-loop-slot : goal.invariant-loop-slot
invariant-loop-slot g l = record {
  gathered : AreGathered g.O.Index.greatest (map (stored_by g.T.AsStr.text) l.yielded) l.offsets l.values.items;
  marks : l.mask ≡ map is_some l.yielded;
  texts : AllTexts (map (stored_by g.T.AsStr.text) l.yielded);
}
