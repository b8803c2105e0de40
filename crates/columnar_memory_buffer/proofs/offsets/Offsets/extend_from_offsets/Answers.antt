use Rattle.std.proofs.Common.{◌≡◌, ◌+◌, ◌≤◌, ◌∙◌, List, ap, arith, refl, subst, sum, sym}
use Rattle.columnar_memory_buffer.specs.Spans.{AreOffsets, IsStored, Spans, extended, last_of, offset_at, stored}
use Rattle.columnar_memory_buffer.proofs.Runs.{kept, offset_at-all, stored-AreOffsets}
use Rattle.columnar_memory_buffer.proofs.offsets.Offsets.extend_from_offsets.Goals as goal

pub append-requires-clause-stand : goal.append-requires-clause-stand
append-requires-clause-stand g c = subst (λ (xs : List _). IsStored g.O.Number.value xs) (sym c.reserve.ensures.items) c.self.invariant

pub append-requires-clause-last : goal.append-requires-clause-last
append-requires-clause-last g c =
    c.number-last.ensures.value ∙ ap (offset_at c.args.self.now) c.len_proxy.ensures ∙ offset_at-all c.args.self.now
    ∙ sym (ap last_of (ap (stored g.O.Number.value) c.reserve.ensures.items ∙ c.self.view_is))

pub append-requires-clause-fit : goal.append-requires-clause-fit
append-requires-clause-fit g c = c.if-not-fit_behind.ensures.0 refl

pub append-requires-clause-room : goal.append-requires-clause-room
append-requires-clause-room g c = omega (arith, c.in-Ok.ensures.ok, c.span_count.ensures.count)

pub invariant_of-self : goal.invariant_of-self
invariant_of-self g c =
    let ls = (stored g.O.Number.value c.args.offsets.now).lengths in
    kept g.O.Number.value c.append.new.values.items (extended c.args.self.now ls)
    (subst (λ (s : Spans). AreOffsets g.O.Number.value c.append.new.values.items (extended s ls)) (ap (stored g.O.Number.value)
    c.reserve.ensures.items ∙ c.self.view_is) c.append.ensures)

pub returns-in-Ok : goal.returns-in-Ok
returns-in-Ok g c =
    let ls = (stored g.O.Number.value c.args.offsets.now).lengths in
    let last : c.number-last.result ≡ last_of c.args.self.now =
    c.number-last.ensures.value ∙ ap (offset_at c.args.self.now) c.len_proxy.ensures ∙ offset_at-all c.args.self.now in (
      stored-AreOffsets g.O.Number.value c.append.new.values.items (extended c.args.self.now ls)
          (subst (λ (s : Spans). AreOffsets g.O.Number.value c.append.new.values.items (extended s ls)) (ap (stored g.O.Number.value)
          c.reserve.ensures.items ∙ c.self.view_is) c.append.ensures),
      subst (λ n. n + sum ls ≤ g.O.Index.greatest) last (c.if-not-fit_behind.ensures.0 refl),
    )
