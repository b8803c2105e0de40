use Rattle.std.proofs.lemmas.Slice.Eq.{slice_eq-Decides}
use Rattle.std.specs.Bool.{one_answer}
use Rattle.columnar_memory_buffer.specs.SpansEqual.{spans_eq, spans_eq-Decides}
use Rattle.columnar_memory_buffer.proofs.Runs.{same_spans, values_Decide}
use Rattle.columnar_memory_buffer.proofs.offsets.OffsetsPartialEq.eq.Goals as goal

pub returns-clause-value : goal.returns-clause-value
returns-clause-value g c =
    let decides = values_Decide g.O.Number.value g.O.PartialEq.eq g.met.O.Index.value_law (λ x y. g.met.O.Number.eq_law x y
    g.met.O.Integral.exact_law) in
    one_answer c.eq.result (spans_eq c.args.self.now c.args.other.now)
    (same_spans g.O.Number.value c.as_slice.result.now c.as_slice-2.result.now c.args.self.now c.args.other.now c.eq.result
    g.met.O.Index.value_law c.as_slice.ensures c.as_slice-2.ensures
    (slice_eq-Decides decides c.as_slice.result.now c.as_slice-2.result.now c.eq.result c.eq.ensures)) (spans_eq-Decides c.args.self.now
    c.args.other.now)

pub returns-clause-exact : goal.returns-clause-exact
returns-clause-exact g c =
    let decides = values_Decide g.O.Number.value g.O.PartialEq.eq g.met.O.Index.value_law (λ x y. g.met.O.Number.eq_law x y
    g.met.O.Integral.exact_law) in
    same_spans g.O.Number.value c.as_slice.result.now c.as_slice-2.result.now c.args.self.now c.args.other.now c.eq.result
    g.met.O.Index.value_law c.as_slice.ensures c.as_slice-2.ensures
    (slice_eq-Decides decides c.as_slice.result.now c.as_slice-2.result.now c.eq.result c.eq.ensures)
