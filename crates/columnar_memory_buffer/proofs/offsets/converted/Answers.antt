use Rattle.std.proofs.Common.{◌≡◌, ◌+◌, ◌≤◌, ◌∙◌, ℕ, [], ap, arith, refl, subst, sum}
use Rattle.columnar_memory_buffer.specs.Spans.{AreOffsets, Spans, extended, last_of, stored}
use Rattle.columnar_memory_buffer.proofs.Runs.{kept, length-stored, stored-AreOffsets}
use Rattle.columnar_memory_buffer.proofs.offsets.converted.Goals as goal

pub append-requires-clause-stand : goal.append-requires-clause-stand
append-requires-clause-stand g c =
    kept g.O.Number.value c.in-Ok.values.items (record { start = c.number_at-start.result; lengths = [] }) c.in-Ok.ensures.one

pub append-requires-clause-last : goal.append-requires-clause-last
append-requires-clause-last g c =
    let one : stored g.O.Number.value c.in-Ok.values.items ≡ record { start = c.number_at-start.result; lengths = [] } =
    stored-AreOffsets g.O.Number.value c.in-Ok.values.items (record { start = c.number_at-start.result; lengths = [] }) c.in-Ok.ensures.one in
    omega (arith, ap last_of one)

pub append-requires-clause-fit : goal.append-requires-clause-fit
append-requires-clause-fit g c = c.if-not-fit_behind.ensures.0 refl

pub append-requires-clause-room : goal.append-requires-clause-room
append-requires-clause-room g c =
    omega (arith, c.in-Ok.ensures.len, c.in-Ok.ensures.capacity, length-stored g.P.Number.value c.args.offsets.now c.requires)

pub invariant_of-result : goal.invariant_of-result
invariant_of-result g c =
    let o = stored g.P.Number.value c.args.offsets.now in
    let start : c.number_at-start.result ≡ o.start = omega (arith, c.number_at-start.ensures.value) in
    let same : extended (stored g.O.Number.value c.in-Ok.values.items) o.lengths ≡ o =
    ap (λ (s : Spans). extended s o.lengths) (stored-AreOffsets g.O.Number.value c.in-Ok.values.items (record {
      start = c.number_at-start.result;
      lengths = [];
    }) c.in-Ok.ensures.one) ∙ ap (λ (n : ℕ). record { start = n; lengths = o.lengths }) start in
    kept g.O.Number.value c.append.new.values.items o
    (subst (λ (s : Spans). AreOffsets g.O.Number.value c.append.new.values.items s) same c.append.ensures)

pub returns-in-Ok : goal.returns-in-Ok
returns-in-Ok g c =
    let o = stored g.P.Number.value c.args.offsets.now in
    let start : c.number_at-start.result ≡ o.start = omega (arith, c.number_at-start.ensures.value) in
    let same : extended (stored g.O.Number.value c.in-Ok.values.items) o.lengths ≡ o =
    ap (λ (s : Spans). extended s o.lengths) (stored-AreOffsets g.O.Number.value c.in-Ok.values.items (record {
      start = c.number_at-start.result;
      lengths = [];
    }) c.in-Ok.ensures.one) ∙ ap (λ (n : ℕ). record { start = n; lengths = o.lengths }) start in (
      stored-AreOffsets g.O.Number.value c.append.new.values.items o
          (subst (λ (s : Spans). AreOffsets g.O.Number.value c.append.new.values.items s) same c.append.ensures),
      subst (λ (n : ℕ). n + sum o.lengths ≤ g.O.Index.greatest) start (c.if-not-fit_behind.ensures.0 refl),
    )
