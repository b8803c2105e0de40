use Rattle.std.proofs.Common.{◌∙◌, ap, ◌+◌, replicate}
use Rattle.columnar_memory_buffer.specs.Spans.{extended}
use Rattle.columnar_memory_buffer.proofs.Runs.{repeated, kept, spans_of-AreOffsets}
use Rattle.columnar_memory_buffer.proofs.offsets.Offsets.extend_constant.Goals as goal

pub invariant_of-self-2 : goal.invariant_of-self-2
invariant_of-self-2 g c =
    kept g.O.Number.value c.resize.new.self.items (extended c.args.self.now (replicate c.args.additional 0))
    (repeated g.O.Number.value c.self.inside.values.items c.resize.new.self.items c.last-last.result.now c.args.self.now c.args.additional
    c.in-Some.count c.self.inside.values.len
    c.self.invariant c.self.view_is c.in_ok-resize.ensures.items c.self.inside.values.ok.0 (c.in-Some.ensures.1 ∙ ap (λ n. n +
    c.args.additional) c.len.ensures) c.last-last.ensures)

pub returns : goal.returns
returns g c =
    spans_of-AreOffsets g.O.Number.value c.resize.new.self.items (extended c.args.self.now (replicate c.args.additional 0))
    (repeated g.O.Number.value c.self.inside.values.items c.resize.new.self.items c.last-last.result.now c.args.self.now c.args.additional
    c.in-Some.count c.self.inside.values.len
    c.self.invariant c.self.view_is c.in_ok-resize.ensures.items c.self.inside.values.ok.0 (c.in-Some.ensures.1 ∙ ap (λ n. n +
    c.args.additional) c.len.ensures) c.last-last.ensures)
