use Rattle.std.proofs.Common.{List, subst, sym}
use Rattle.columnar_memory_buffer.specs.Spans.{AreOffsets}
use Rattle.columnar_memory_buffer.proofs.Runs.{kept, spans_of-AreOffsets}
use Rattle.columnar_memory_buffer.proofs.offsets.OffsetsClone.clone.Goals as goal

pub invariant_of-result : goal.invariant_of-result
invariant_of-result g c =
    kept g.O.Number.value c.in_ok-from_slice.field-0.items c.args.self.now
    (subst (λ (xs : List _). AreOffsets g.O.Number.value xs c.args.self.now) (sym c.in_ok-from_slice.ensures.items) c.as_slice.ensures)

pub returns : goal.returns
returns g c = record {
  cases =
      spans_of-AreOffsets g.O.Number.value c.in_ok-from_slice.field-0.items c.args.self.now
      (subst (λ (xs : List _). AreOffsets g.O.Number.value xs c.args.self.now) (sym c.in_ok-from_slice.ensures.items) c.as_slice.ensures);
}
