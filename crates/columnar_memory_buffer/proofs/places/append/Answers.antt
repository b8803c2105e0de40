use Rattle.std.proofs.Common.{◌≡◌, ◌+◌, ◌-◌, ◌<◌, ◌∙◌, List, arith, length, subst, sum, sym, take}
use Rattle.columnar_memory_buffer.specs.Spans.{AreOffsets, extended, last_of, stored}
use Rattle.columnar_memory_buffer.proofs.Runs.{appended}
use Rattle.columnar_memory_buffer.proofs.places.append.Goals as goal

pub loop-index-preserved : goal.loop-index-preserved
loop-index-preserved g c =
    let s = stored g.O.Number.value c.args.values.now.items in
    let ls = (stored g.P.Number.value c.args.offsets.now).lengths in
    let i = c.loop-index.index in
    let lt : i < length ls = omega (arith, c.span_count-index-end.ensures.count) in
    let sums : c.args.last + (c.number_at-next.result - c.number_at-first.result) ≡ last_of s + sum (take (i + 1) ls) =
    omega (arith, c.requires.last, c.number_at-next.ensures.value, c.number_at-first.ensures.value) in
    record {
      grown =
          subst (λ (zs : List _). AreOffsets g.O.Number.value zs (extended s (take (i + 1) ls))) (sym {A = List _} c.push_reserved.ensures.items)
          (appended g.O.Number.value c.loop-index.values.items c.from_as_usize.result s ls i (c.args.last + (c.number_at-next.result -
          c.number_at-first.result)) lt c.loop-index.invariant.grown c.from_as_usize.ensures.0 sums);
      len = omega (arith, c.push_reserved.ensures.len, c.loop-index.invariant.len);
      room = c.push_reserved.ensures.capacity ∙ c.loop-index.invariant.room;
    }
