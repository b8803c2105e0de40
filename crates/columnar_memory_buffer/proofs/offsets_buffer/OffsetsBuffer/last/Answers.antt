use Rattle.std.proofs.Common.{◌≤◌, pos, arith, length, get_or, ◌∙◌, ap}
use Rattle.columnar_memory_buffer.specs.Spans.{offset_at}
use Rattle.columnar_memory_buffer.proofs.Runs.{length-seen, value-seen, offset_at-all}
use Rattle.columnar_memory_buffer.proofs.offsets_buffer.OffsetsBuffer.last.Goals as goal

pub offset_bounds-as_slice-spans : goal.offset_bounds-as_slice-spans
offset_bounds-as_slice-spans g c =
    let n = length-seen g.O.Number.value c.self.inside.values c.as_slice.result.now c.args.self.now c.self.invariant c.self.view_is
    c.as_slice.ensures in omega (arith, n)

pub bounds-as_slice-spans : goal.bounds-as_slice-spans
bounds-as_slice-spans g c =
    let n = length-seen g.O.Number.value c.self.inside.values c.as_slice.result.now c.args.self.now c.self.invariant c.self.view_is
    c.as_slice.ensures in omega (arith, n)

pub returns : goal.returns
returns g c =
    let le : c.len_proxy-spans.result ≤ length c.args.self.now.lengths = omega (arith, c.len_proxy-spans.ensures) in
    value-seen g.O.Number.value c.self.inside.values c.args.self.now c.len_proxy-spans.result c.index-as_slice-spans.result c.self.invariant
    c.self.view_is le (c.index-as_slice-spans.is ∙ ap (λ xs. get_or xs c.len_proxy-spans.result c.index-as_slice-spans.result)
    c.as_slice.ensures) ∙ ap pos (ap (offset_at c.args.self.now) c.len_proxy-spans.ensures ∙ offset_at-all c.args.self.now)
