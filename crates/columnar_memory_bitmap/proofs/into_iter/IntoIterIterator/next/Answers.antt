use Rattle.std.proofs.Common.{◌∙◌, sym, arith}
use Rattle.columnar_memory_bitmap.proofs.Lists.{range_first}
use Rattle.columnar_memory_bitmap.proofs.into_iter.IntoIterIterator.next.Goals as goal

pub returns-clause-steps : goal.returns-clause-steps
returns-clause-steps c =
    let s = c.self.inside in
    sym c.self.view_is ∙ range_first s.values s.index s.end c.get_bit-bit.result (omega arith) (omega arith) c.get_bit-bit.ensures
