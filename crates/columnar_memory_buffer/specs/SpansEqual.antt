-- Whether spans are equal.
use Rattle.std.specs.Prelude.{◌≡◌, ◌==◌, ◌&&◌, Bool, nat_eq}
use Rattle.std.proofs.Common.{refl, sym, ap, ◌∙◌}
use Rattle.std.proofs.lemmas.Slice.Eq.{bytes_eq-Decides}
use Rattle.std.specs.Bool.{Decides, one_answer}
use Rattle.std.specs.Cmp.{IsEquivalence, IsPartialEquivalence, partial_equiv_from_equiv, unsigned_Decides, first_so, second_so}
use Rattle.std.specs.Cmp.Lexicographic.{pointwise}
use Rattle.columnar_memory_buffer.specs.Spans.{Spans}

-- whether they begin at one place and have the same lengths
unfoldable pub spans_eq : Spans → Spans → Bool
spans_eq s t = s.start == t.start && pointwise nat_eq s.lengths t.lengths

pub spans_eq-Decides : (s t : Spans) → Decides (spans_eq s t) (s ≡ t)
unfolding spans_eq
spans_eq-Decides s t = (
  (λ h. λ i. record {
    start = (unsigned_Decides s.start t.start).0 (first_so (s.start == t.start) (pointwise nat_eq s.lengths t.lengths) h) i;
    lengths = (bytes_eq-Decides s.lengths t.lengths).0 (second_so (s.start == t.start) (pointwise nat_eq s.lengths t.lengths) h) i;
  }),
  (λ e. (λ i. (unsigned_Decides s.start t.start).1 (ap (λ (u : Spans). u.start) e) i && pointwise nat_eq s.lengths t.lengths) ∙
      (bytes_eq-Decides s.lengths t.lengths).1 (ap (λ (u : Spans). u.lengths) e)),
)

pub spans_eq_equivalence : IsEquivalence spans_eq
spans_eq_equivalence = record {
  refl = λ s. (spans_eq-Decides s s).1 refl;
  symm = λ s t. one_answer (spans_eq s t) (spans_eq t s) (spans_eq-Decides s t) (
    (λ h. sym ((spans_eq-Decides t s).0 h)),
    (λ e.
        (spans_eq-Decides t s).1 (sym e)),
  );
  congr = λ s t u h. ap (λ v. spans_eq v u) ((spans_eq-Decides s t).0 h);
}

pub spans_eq_partial_equivalence : IsPartialEquivalence spans_eq
spans_eq_partial_equivalence = partial_equiv_from_equiv spans_eq_equivalence
