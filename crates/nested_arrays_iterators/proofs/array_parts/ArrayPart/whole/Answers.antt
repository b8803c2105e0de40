use Rattle.std.proofs.Common.{sym}
use Rattle.nested_arrays_core.proofs.flat_lemmas.ColumnParts.{sound_after}
use Rattle.nested_arrays_iterators.proofs.array_parts.ArrayPart.whole.Goals as goal

pub returns : goal.returns
returns c =
    let it = c.self.inside in
    sound_after it.array.now c.args.self.now it.start it.count c.whole.ensures c.self.invariant.0 (sym c.self.view_is)
