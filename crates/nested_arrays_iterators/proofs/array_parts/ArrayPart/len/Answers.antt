use Rattle.std.proofs.Common.{sym}
use Rattle.nested_arrays_iterators.proofs.ReadSlots.{part_len}
use Rattle.nested_arrays_iterators.proofs.array_parts.ArrayPart.len.Goals as goal

pub returns : goal.returns
returns c =
    sym (part_len c.args.self.now c.self.inside.array.now c.self.inside.start c.self.inside.count c.self.view_is c.whole.ensures c.self.invariant.0)
