use Rattle.std.proofs.Common.{◌≡◌, ◌+ℤ◌, ◌∙◌, ap, sym, subst, pos, arith, rules, Some, None}
use Rattle.std.proofs.lemmas.Int.{ints}
use Rattle.columnar_memory_native.specs.Ranges.{integers-next}
use Rattle.columnar_memory_native.proofs.range.IndexRangeIterator.next.Goals as goal

pub unreachable-requires : goal.unreachable-requires
unreachable-requires g c =
    let law = g.met.I.CheckedAdd.checked_add_law c.self.inside.start c.from_as_usize-one.result None c.in_default.ensures in
    let one : g.I.Number.value c.self.inside.start +ℤ pos 1 ≡ g.I.Number.value c.self.inside.start +ℤ g.I.Number.value c.from_as_usize-one.result =
    ap (λ z. g.I.Number.value c.self.inside.start +ℤ z) (sym c.from_as_usize-one.ensures.0) in
    let between = g.I.Number.between_law (g.I.Number.value c.self.inside.start) (g.I.Number.value c.self.inside.start +ℤ pos 1)
    (g.I.Number.value c.self.inside.start +ℤ pos c.self.inside.left) g.met.I.Integral.exact_law c.self.invariant.0 c.self.invariant.1
    (omega (arith, ints)) (omega (arith, ints, c.if-self-eq0.false)) in
    law (subst g.I.Number.fits one between)

pub returns-clause-steps : goal.returns-clause-steps
returns-clause-steps g c =
    let law = g.met.I.CheckedAdd.checked_add_law c.self.inside.start c.from_as_usize-one.result (Some c.in-Some.next) c.in-Some.ensures in
    let next : g.I.Number.value c.in-Some.next ≡ g.I.Number.value c.self.inside.start +ℤ pos 1 =
    law.1 ∙ ap (λ z. g.I.Number.value c.self.inside.start +ℤ z) c.from_as_usize-one.ensures.0 in
    sym c.self.view_is ∙ integers-next _ _ c.self.inside.left c.if-self-eq0.false next

pub returns-clause-goes : goal.returns-clause-goes
returns-clause-goes g c = let step = returns-clause-steps g c in search rules
