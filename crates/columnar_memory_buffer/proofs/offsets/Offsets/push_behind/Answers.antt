use Rattle.std.proofs.Common.{◌≡◌, ◌+◌, [], ◌∷◌, arith, ◌∙◌, ap, sym}
use Rattle.columnar_memory_buffer.specs.Spans.{last_of, extended}
use Rattle.columnar_memory_buffer.proofs.Runs.{pushed, kept, spans_of-AreOffsets, last_of-extended, sum-cons}
use Rattle.columnar_memory_buffer.proofs.offsets.Offsets.push_behind.Goals as goal

pub invariant_of-self-2 : goal.invariant_of-self-2
invariant_of-self-2 g c =
    let sums : c.in-Some.next ≡ last_of c.args.self.now + c.args.length = c.in-Some.ensures.1 ∙ ap (λ n. n + c.args.length) c.requires in
    kept g.O.Number.value c.push.new.self.items (extended c.args.self.now (c.args.length ∷ []))
    (pushed g.O.Number.value c.self.inside.values.items c.push.new.self.items c.in-Some-from_usize.offset c.args.self.now c.args.length
    c.in-Some.next c.self.invariant c.self.view_is c.in_ok-push.ensures.items c.in-Some-from_usize.ensures.0 sums)

pub returns-clause-grows : goal.returns-clause-grows
returns-clause-grows g c =
    let sums : c.in-Some.next ≡ last_of c.args.self.now + c.args.length = c.in-Some.ensures.1 ∙ ap (λ n. n + c.args.length) c.requires in (
      spans_of-AreOffsets g.O.Number.value c.push.new.self.items (extended c.args.self.now (c.args.length ∷ []))
          (pushed g.O.Number.value c.self.inside.values.items c.push.new.self.items c.in-Some-from_usize.offset c.args.self.now c.args.length
          c.in-Some.next c.self.invariant c.self.view_is c.in_ok-push.ensures.items c.in-Some-from_usize.ensures.0 sums),
      omega (arith, sums, c.in-Some-from_usize.ensures.1),
    )

pub returns-clause-end : goal.returns-clause-end
returns-clause-end g c =
    let sums : c.in-Some.next ≡ last_of c.args.self.now + c.args.length = c.in-Some.ensures.1 ∙ ap (λ n. n + c.args.length) c.requires in
    let one : last_of (extended c.args.self.now (c.args.length ∷ [])) ≡ last_of c.args.self.now + c.args.length =
    omega (arith, last_of-extended c.args.self.now (c.args.length ∷ []), sum-cons c.args.length []) in
    sums ∙ sym one ∙ sym (ap last_of (returns-clause-grows g c).0)
