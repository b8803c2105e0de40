-- The distinct ones among slots: each slot has a place there, and none stands twice.
use Rattle.std.proofs.Common.{◌≡◌, suc, List, [], ◌∷◌, refl, sym, ap, ◌∙◌, true, false}
use Rattle.std.specs.Prelude.{◌||◌, not, cond, Some, slice_get, if◌then◌else◌}
use Rattle.std.specs.List.{filter}
use Rattle.std.proofs.lemmas.Bool.{and_from, and_parts, or_parts, not-true, or_cases, or_left, or_right, not_from_false, false≢true}
use Rattle.std.proofs.lemmas.Bool.{cases_Bool, both_ways}
use mathlib.Core.Logic.{inl, inr}
use Rattle.nested_arrays_columns.specs.Slots.{Slot}
use Rattle.nested_arrays_columns.specs.SameSlots.{same_slot, distinct, is_among, place_among, are_distinct}
use Rattle.nested_arrays_columns.proofs.SameSlotsDecide.{same_slot-implies, same_slot-itself}

-- the slots that are not one slot
abbrev others_than : Slot → List Slot → List Slot
others_than x slots = filter (λ other. not (same_slot x other)) slots

-- one step of it
step_same : (x y : Slot) (ys : List Slot) → same_slot x y ≡ true → others_than x (y ∷ ys) ≡ others_than x ys
step_same x y ys e = ap (λ b. cond (not b) (y ∷ others_than x ys) (others_than x ys)) e

step_other : (x y : Slot) (ys : List Slot) → same_slot x y ≡ false → others_than x (y ∷ ys) ≡ y ∷ others_than x ys
step_other x y ys e = ap (λ b. cond (not b) (y ∷ others_than x ys) (others_than x ys)) e

-- a slot that is not x stays among those that are not x
among_others : (x slot : Slot) (ys : List Slot) → same_slot x slot ≡ false → is_among slot ys ≡ true → is_among slot (others_than x ys) ≡ true
among_others x slot [] other h = h
among_others x slot (y ∷ ys) other h =
    elim (cases_Bool (same_slot x y)) [
      | inl same ↦ elim (or_cases (same_slot slot y) (is_among slot ys) h) [
        | inl here ↦ absurd (both_ways (same_slot x slot) other (ap (same_slot x) (same_slot-implies slot y here) ∙ same))
        | inr later ↦ ap (is_among slot) (step_same x y ys same) ∙ among_others x slot ys other later
      ]
      | inr differs ↦ elim (or_cases (same_slot slot y) (is_among slot ys) h) [
        | inl here ↦ ap (is_among slot) (step_other x y ys differs) ∙ or_left (same_slot slot y) (is_among slot (others_than x ys)) here
        | inr later ↦ ap (is_among slot) (step_other x y ys differs)
            ∙ or_right (same_slot slot y) (is_among slot (others_than x ys)) (among_others x slot ys other later)
      ]
    ]

-- a slot stands among the distinct ones where it stands among all
pub among_distinct : (slot : Slot) (xs : List Slot) → is_among slot xs ≡ true → is_among slot (distinct xs) ≡ true
among_distinct slot [] h = h
among_distinct slot (x ∷ xs) h =
    elim (or_cases (same_slot slot x) (is_among slot xs) h) [
      | inl here ↦ or_left (same_slot slot x) (is_among slot (others_than x (distinct xs))) here
      | inr later ↦ elim (cases_Bool (same_slot x slot)) [
        | inl same ↦ or_left (same_slot slot x) (is_among slot (others_than x (distinct xs))) (ap (same_slot slot) (same_slot-implies x slot same)
            ∙ same_slot-itself slot)
        | inr differs ↦ or_right (same_slot slot x) (is_among slot (others_than x (distinct xs)))
            (among_others x slot (distinct xs) differs (among_distinct slot xs later))
      ]
    ]

-- what stands at a slot's place is the slot
pub at_place_among : (slot : Slot) (xs : List Slot) → is_among slot xs ≡ true → slice_get xs (place_among slot xs) ≡ Some slot
at_place_among slot [] h = absurd (false≢true h)
at_place_among slot (x ∷ xs) h =
    elim (cases_Bool (same_slot slot x)) [
      | inl here ↦ ap (λ b. slice_get (x ∷ xs) (if b then 0 else suc (place_among slot xs))) here ∙ ap Some (sym (same_slot-implies slot x here))
      | inr differs ↦ elim (or_cases (same_slot slot x) (is_among slot xs) h) [
        | inl here ↦ absurd (both_ways (same_slot slot x) differs here)
        | inr later ↦ ap (λ b. slice_get (x ∷ xs) (if b then 0 else suc (place_among slot xs))) differs ∙ at_place_among slot xs later
      ]
    ]

pub distinct_places : (slots : List Slot) (slot : Slot) → is_among slot slots ≡ true
    → slice_get (distinct slots) (place_among slot (distinct slots)) ≡ Some slot
distinct_places slots slot h = at_place_among slot (distinct slots) (among_distinct slot slots h)

-- a slot is not among those that are not it, nor is one that is not among all
not_among_others : (x slot : Slot) (ys : List Slot) → is_among slot ys ≡ false → is_among slot (others_than x ys) ≡ false
not_among_others x slot [] h = refl
not_among_others x slot (y ∷ ys) h =
    let parts = or_parts (same_slot slot y) (is_among slot ys) h in elim (cases_Bool (same_slot x y)) [
      | inl same ↦ ap (is_among slot) (step_same x y ys same) ∙ not_among_others x slot ys parts.1
      | inr differs ↦ ap (is_among slot) (step_other x y ys differs) ∙ (λ j. parts.0 j || not_among_others x slot ys parts.1 j)
    ]

x_not_among_others : (x : Slot) (ys : List Slot) → is_among x (others_than x ys) ≡ false
x_not_among_others x [] = refl
x_not_among_others x (y ∷ ys) =
    elim (cases_Bool (same_slot x y)) [
      | inl same ↦ ap (is_among x) (step_same x y ys same) ∙ x_not_among_others x ys
      | inr differs ↦ ap (is_among x) (step_other x y ys differs) ∙ (λ j. differs j || x_not_among_others x ys j)
    ]

others_distinct : (x : Slot) (ys : List Slot) → are_distinct ys ≡ true → are_distinct (others_than x ys) ≡ true
others_distinct x [] h = refl
others_distinct x (y ∷ ys) h =
    let parts = and_parts (not (is_among y ys)) (are_distinct ys) h in elim (cases_Bool (same_slot x y)) [
      | inl same ↦ ap are_distinct (step_same x y ys same) ∙ others_distinct x ys parts.1
      | inr differs ↦ ap are_distinct (step_other x y ys differs)
          ∙ and_from (not (is_among y (others_than x ys))) (are_distinct (others_than x ys))
          (not_from_false (is_among y (others_than x ys)) (not_among_others x y ys (not-true (is_among y ys) parts.0)))
          (others_distinct x ys parts.1)
    ]

pub distinct_distinct : (slots : List Slot) → are_distinct (distinct slots) ≡ true
distinct_distinct [] = refl
distinct_distinct (x ∷ xs) =
    and_from (not (is_among x (others_than x (distinct xs)))) (are_distinct (others_than x (distinct xs)))
    (not_from_false (is_among x (others_than x (distinct xs))) (x_not_among_others x (distinct xs)))
    (others_distinct x (distinct xs) (distinct_distinct xs))
