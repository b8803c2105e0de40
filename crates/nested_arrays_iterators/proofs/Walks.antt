-- Walks over the places of arrays give each value once.
use Rattle.std.proofs.Common.{◌≡◌, ◌∙◌, ℕ, zero, suc, ◌+◌, ◌-◌, ◌<◌, List, [], ◌∷◌, ◌++◌, refl, sym, ap, arith}
use Rattle.std.specs.Prelude.{Option, Some, None}
use Rattle.std.specs.Iterator.{YieldsFirstBy, YieldsLastBy}
use Rattle.nested_arrays_core.specs.flat_arrays.Places.{PlacesLeft, StepsFirst, StepsLast}
use Rattle.nested_arrays_core.specs.columns.Slots.{window}
use Rattle.nested_arrays_iterators.specs.WalkLaws.{GivesEach, WalksGiveEach, values_left}

-- values at n places and one more
window-last : {V : Type 0} (f : ℕ → V) (o n : ℕ) → window f o (suc n) ≡ window f o n ++ f (o + n) ∷ []
window-last f o zero = ap (λ k. f k ∷ []) (omega arith)
window-last f o (suc n) =
    let at : o + 1 + n ≡ o + suc n = omega arith in
    ap (λ xs. f o ∷ xs) (window-last f (o + 1) n ∙ ap (λ k. window f (o + 1) n ++ f k ∷ []) at)

module _ {A X V : Type 0} (view : X → V) (value : A → ℕ → V) where
  abbrev shows : A → ℕ → X → Type 0
  shows array i x = view x ≡ value array i

  none_left : (s : PlacesLeft A) → s.first ≡ s.stop → values_left value s ≡ []
  none_left s end = let none : s.stop - s.first ≡ 0 = omega arith in ap (window (value s.array) s.first) none

  gives_first : (s : PlacesLeft A) (r : Option X) (t : PlacesLeft A) → StepsFirst shows s r t → YieldsFirstBy view (values_left value) s r t
  gives_first s None t step = (none_left s step.0, ap (values_left value) step.1 ∙ none_left s step.0)
  gives_first s (Some x) t step =
      let some : s.stop - s.first ≡ suc (s.stop - (s.first + 1)) = omega (arith, step.0) in
      ap (window (value s.array) s.first) some
      ∙ (λ j. sym step.1 j ∷ window (value s.array) (s.first + 1) (s.stop - (s.first + 1)))
      ∙ ap (λ w. view x ∷ values_left value w) (sym step.2)

  gives_last : (s : PlacesLeft A) (r : Option X) (t : PlacesLeft A) → StepsLast shows s r t → YieldsLastBy view (values_left value) s r t
  gives_last s None t step = (none_left s step.0, ap (values_left value) step.1 ∙ none_left s step.0)
  gives_last s (Some x) t step =
      let count = s.stop - 1 - s.first in
      let some : s.stop - s.first ≡ suc count = omega (arith, step.0) in
      let place : s.first + count ≡ s.stop - 1 = omega (arith, step.0) in
      ap (window (value s.array) s.first) some ∙ window-last (value s.array) s.first count
      ∙ ap (λ v. window (value s.array) s.first count ++ v ∷ []) (ap (value s.array) place ∙ sym step.1)
      ∙ ap (λ w. values_left value w ++ view x ∷ []) (sym step.2)

pub walks_give_each : {A X V : Type 0} → WalksGiveEach A X V
walks_give_each view value = record { first = gives_first view value; last = gives_last view value }
