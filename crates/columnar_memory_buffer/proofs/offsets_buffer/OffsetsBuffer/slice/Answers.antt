use Rattle.std.proofs.Common.{arith, refl, ◌-◌}
use Rattle.columnar_memory_buffer.specs.Spans.{spans_between}
use Rattle.columnar_memory_buffer.proofs.Runs.{length-seen, windowed, kept, spans_of-AreOffsets}
use Rattle.columnar_memory_buffer.proofs.offsets_buffer.OffsetsBuffer.slice.Goals as goal

pub slice-requires : goal.slice-requires
slice-requires g c =
    let n = length-seen g.O.Number.value c.self.inside.values c.self.inside.values c.args.self.now c.self.invariant c.self.view_is refl in omega
    (arith, n, c.requires.within)

pub invariant_of-self : goal.invariant_of-self
invariant_of-self g c =
    kept g.O.Number.value c.slice.new.self (spans_between c.args.self.now c.args.offset (c.args.count - 1))
    (windowed g.O.Number.value c.self.inside.values c.slice.new.self c.args.self.now c.args.offset c.args.count c.self.invariant c.self.view_is
    c.slice.ensures c.requires.some c.requires.within)

pub returns : goal.returns
returns g c =
    spans_of-AreOffsets g.O.Number.value c.slice.new.self (spans_between c.args.self.now c.args.offset (c.args.count - 1))
    (windowed g.O.Number.value c.self.inside.values c.slice.new.self c.args.self.now c.args.offset c.args.count c.self.invariant c.self.view_is
    c.slice.ensures c.requires.some c.requires.within)
