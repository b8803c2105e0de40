use Rattle.columnar_memory_buffer.specs.Spans.{first_spans}
use Rattle.columnar_memory_buffer.proofs.Runs.{truncated, kept, spans_of-AreOffsets}
use Rattle.columnar_memory_buffer.proofs.offsets.Offsets.truncate.Goals as goal

pub invariant_of-self : goal.invariant_of-self
invariant_of-self g c =
    kept g.O.Number.value c.truncate.new.self.items (first_spans c.args.self.now c.args.spans)
    (truncated g.O.Number.value c.self.inside.values.items c.truncate.new.self.items c.args.self.now c.args.spans c.self.invariant
    c.self.view_is c.truncate.ensures.items)

pub returns : goal.returns
returns g c =
    spans_of-AreOffsets g.O.Number.value c.truncate.new.self.items (first_spans c.args.self.now c.args.spans)
    (truncated g.O.Number.value c.self.inside.values.items c.truncate.new.self.items c.args.self.now c.args.spans c.self.invariant
    c.self.view_is c.truncate.ensures.items)
