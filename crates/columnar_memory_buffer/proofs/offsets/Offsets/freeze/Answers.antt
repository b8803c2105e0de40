use Rattle.std.proofs.Common.{List, subst, sym}
use Rattle.std.proofs.lemmas.Result.{err_from_is_err_and}
use Rattle.columnar_memory_buffer.specs.Spans.{AreOffsets}
use Rattle.columnar_memory_buffer.proofs.Runs.{kept, spans_of-AreOffsets}
use Rattle.columnar_memory_buffer.proofs.offsets.Offsets.freeze.Goals as goal

pub returns-in_err-values : goal.returns-in_err-values
returns-in_err-values g c = let p = err_from_is_err_and c.from_residual.result c.from_residual.ensures.1 in rw (p.1, p.2) c.in_err-values.ensures

pub invariant_of-result : goal.invariant_of-result
invariant_of-result g c =
    kept g.O.Number.value c.in_ok-values.values c.args.self
    (subst (λ (xs : List _). AreOffsets g.O.Number.value xs c.args.self) (sym c.in_ok-values.ensures) c.into_inner.ensures)

pub returns : goal.returns
returns g c =
    spans_of-AreOffsets g.O.Number.value c.in_ok-values.values c.args.self
    (subst (λ (xs : List _). AreOffsets g.O.Number.value xs c.args.self) (sym c.in_ok-values.ensures) c.into_inner.ensures)
