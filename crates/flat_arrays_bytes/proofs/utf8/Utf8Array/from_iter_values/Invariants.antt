use Rattle.std.proofs.Common.{map}
use Rattle.flat_arrays_bytes.specs.Texts.{AllTexts}
use Rattle.flat_arrays_bytes.proofs.Gathered.{AreGathered}
use Rattle.flat_arrays_bytes.proofs.utf8.Utf8Array.from_iter_values.Given as goal

abbrev pub invariant-loop-value : goal.invariant-loop-value
invariant-loop-value g l = record {
  gathered : AreGathered g.O.Index.greatest (map g.T.AsStr.text l.yielded) l.offsets l.bytes.items;
  texts : AllTexts (map g.T.AsStr.text l.yielded);
}
