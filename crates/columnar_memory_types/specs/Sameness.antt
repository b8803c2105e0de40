-- Whether two values are the same, for any type whose values have a code: its answer decides `≡`.
use Rattle.std.specs.Prelude.{◌≡◌, ◌==◌, ◌&&◌, Bool, true, false}
use Rattle.std.proofs.Common.{refl, sym, ap, ◌∙◌}
use Rattle.std.specs.Bool.{Decides, one_answer}
use Rattle.std.specs.Cmp.{IsEquivalence, IsPartialEquivalence, partial_equiv_from_equiv, unsigned_Decides, first_so, second_so}
use Rattle.std.specs.Coded.{Coded}
use mathlib.Core.Bool.{true≢false}
use base.Stored.{Gv, gnil, gnum, gcons}

-- whether two codes are the same, part by part
abbrev pub same_code : Gv → Gv → Bool
same_code gnil gnil = true
same_code gnil (gnum n) = false
same_code gnil (gcons a b) = false
same_code (gnum m) gnil = false
same_code (gnum m) (gnum n) = m == n
same_code (gnum m) (gcons a b) = false
same_code (gcons a b) gnil = false
same_code (gcons a b) (gnum n) = false
same_code (gcons a b) (gcons c d) = same_code a c && same_code b d

same_code-implies : (x y : Gv) → same_code x y ≡ true → x ≡ y
same_code-implies gnil gnil h = refl
same_code-implies gnil (gnum n) h = absurd (true≢false (sym h))
same_code-implies gnil (gcons a b) h = absurd (true≢false (sym h))
same_code-implies (gnum m) gnil h = absurd (true≢false (sym h))
same_code-implies (gnum m) (gnum n) h = ap gnum ((unsigned_Decides m n).0 h)
same_code-implies (gnum m) (gcons a b) h = absurd (true≢false (sym h))
same_code-implies (gcons a b) gnil h = absurd (true≢false (sym h))
same_code-implies (gcons a b) (gnum n) h = absurd (true≢false (sym h))
same_code-implies (gcons a b) (gcons c d) h =
    let heads = first_so (same_code a c) (same_code b d) h in
    let tails = second_so (same_code a c) (same_code b d) h in
    λ i. gcons (same_code-implies a c heads i) (same_code-implies b d tails i)

same_code-itself : (x : Gv) → same_code x x ≡ true
same_code-itself gnil = refl
same_code-itself (gnum n) = (unsigned_Decides n n).1 refl
same_code-itself (gcons a b) = λ i. same_code-itself a i && same_code-itself b i

module _ {A : Type 0} (c : Coded A) where
  -- whether two values are the same
  unfoldable pub same : A → A → Bool
  same x y = same_code (c.code x) (c.code y)

  pub same-Decides : (x y : A) → Decides (same x y) (x ≡ y)
  unfolding same
  same-Decides x y = (
    λ h. c.inj x y (same_code-implies (c.code x) (c.code y) h),
    λ e. (λ i. same_code (c.code x) (c.code (sym e i))) ∙ same_code-itself (c.code x),
  )

-- a test that decides `≡` is an equivalence
pub equivalence_from_Decides : {A : Type 0} (E : A → A → Bool) → ((x y : A) → Decides (E x y) (x ≡ y)) → IsEquivalence E
equivalence_from_Decides E d = record {
  refl = λ x. (d x x).1 refl;
  symm = λ x y. one_answer (E x y) (E y x) (d x y) ((λ h. sym ((d y x).0 h)), (λ e. (d y x).1 (sym e)));
  congr = λ x y z h. ap (λ w. E w z) ((d x y).0 h);
}

pub same_equivalence : {A : Type 0} (c : Coded A) → IsEquivalence (same c)
same_equivalence c = equivalence_from_Decides (same c) (same-Decides c)

pub same_partial_equivalence : {A : Type 0} (c : Coded A) → IsPartialEquivalence (same c)
same_partial_equivalence c = partial_equiv_from_equiv (same_equivalence c)
