-- The keys of a dictionary's slots stand below the number of its values.
use Rattle.std.proofs.Common.{◌≡◌, ◌∙◌, ℕ, suc, ◌<◌, Bool, true, false, List, [], ◌∷◌, length, refl, sym, ap, arith, cond}
use Rattle.std.specs.Prelude.{if◌then◌else◌, Some, slice_get}
use Rattle.std.specs.List.{list_all, filter}
use Rattle.std.proofs.lemmas.Bool.{and_parts, and_from, or_cases, or_left, or_right, cases_Bool, both_ways, false≢true}
use mathlib.Core.Logic.{inl, inr}
use Rattle.nested_arrays_columns.specs.Children.{dictionary_values}
use Rattle.nested_arrays_columns.specs.FreshColumns.{is_valid, key_among}
use Rattle.nested_arrays_columns.specs.SameSlots.{same_slot, is_among, place_among}
use Rattle.nested_arrays_columns.specs.Slots.{Slot, null}
use Rattle.nested_arrays_columns.proofs.SameSlotsDecide.{same_slot-implies, same_slot-itself}
use Rattle.nested_arrays_columns.proofs.Distinct.{among_distinct, at_place_among}

-- what holds of each slot by one test holds by another that it implies
pub implied : (test other : Slot → Bool) → ((slot : Slot) → test slot ≡ true → other slot ≡ true) → (slots : List Slot)
    → list_all test slots ≡ true → list_all other slots ≡ true
implied test other each [] h = refl
implied test other each (slot ∷ slots) h =
    let parts = and_parts (test slot) (list_all test slots) h in
    and_from (other slot) (list_all other slots) (each slot parts.0) (implied test other each slots parts.1)

-- each slot stands among all
pub all_among : (slots : List Slot) → list_all (λ slot. is_among slot slots) slots ≡ true
all_among [] = refl
all_among (slot ∷ slots) =
    and_from (is_among slot (slot ∷ slots)) (list_all (λ other. is_among other (slot ∷ slots)) slots)
    (or_left (same_slot slot slot) (is_among slot slots) (same_slot-itself slot))
    (implied (λ other. is_among other slots) (λ other. is_among other (slot ∷ slots))
    (λ other h. or_right (same_slot other slot) (is_among other slots) h) slots (all_among slots))

-- a slot that isn't null stays among those that aren't
among_valid : (slot : Slot) (slots : List Slot) → is_valid slot ≡ true → is_among slot slots ≡ true → is_among slot (filter is_valid slots) ≡ true
among_valid slot [] valid h = h
among_valid slot (other ∷ others) valid h =
    elim (cases_Bool (is_valid other)) [
      | inl kept ↦ ap (λ b. is_among slot (cond b (other ∷ filter is_valid others) (filter is_valid others))) kept
          ∙ elim (or_cases (same_slot slot other) (is_among slot others) h) [
            | inl here ↦ or_left (same_slot slot other) (is_among slot (filter is_valid others)) here
            | inr later ↦ or_right (same_slot slot other) (is_among slot (filter is_valid others)) (among_valid slot others valid later)
          ]
      | inr dropped ↦ ap (λ b. is_among slot (cond b (other ∷ filter is_valid others) (filter is_valid others))) dropped
          ∙ elim (or_cases (same_slot slot other) (is_among slot others) h) [
            | inl here ↦ absurd (both_ways (is_valid other) dropped (ap is_valid (sym (same_slot-implies slot other here)) ∙ valid))
            | inr later ↦ among_valid slot others valid later
          ]
    ]

place_below : (slot : Slot) (slots : List Slot) → is_among slot slots ≡ true → place_among slot slots < length slots
place_below slot [] h = absurd (false≢true h)
place_below slot (other ∷ others) h =
    elim (cases_Bool (same_slot slot other)) [
      | inl here ↦ at_first (place_among slot others) (length others) (same_slot slot other) here
      | inr differs ↦ elim (or_cases (same_slot slot other) (is_among slot others) h) [
        | inl here ↦ absurd (both_ways (same_slot slot other) differs here)
        | inr later ↦ behind (place_among slot others) (length others) (same_slot slot other) differs (place_below slot others later)
      ]
    ]
  where
    at_first : (p n : ℕ) (b : Bool) → b ≡ true → (if b then 0 else suc p) < suc n
    at_first p n true e = omega arith
    at_first p n false e = absurd cc

    behind : (p n : ℕ) (b : Bool) → b ≡ false → p < n → (if b then 0 else suc p) < suc n
    behind p n true e h = absurd cc
    behind p n false e h = omega (arith, h)

-- a slot's key among values of which it is one
valid_key : (slot : Slot) (values : List Slot) → is_valid slot ≡ true → key_among values slot ≡ place_among slot values
valid_key null values valid = absurd cc
valid_key _ values valid = refl

pub among_values : (slot : Slot) (slots : List Slot) → is_valid slot ≡ true → is_among slot slots ≡ true
    → is_among slot (dictionary_values slots) ≡ true
among_values slot slots valid h = among_distinct slot (filter is_valid slots) (among_valid slot slots valid h)

pub key_below : (slot : Slot) (slots : List Slot) → is_valid slot ≡ true → is_among slot slots ≡ true
    → key_among (dictionary_values slots) slot < length (dictionary_values slots)
key_below slot slots valid h =
    let same = valid_key slot (dictionary_values slots) valid in
    below (key_among (dictionary_values slots) slot) (place_among slot (dictionary_values slots)) (length (dictionary_values slots)) same
    (place_below slot (dictionary_values slots) (among_values slot slots valid h))
  where
    below : (a b n : ℕ) → a ≡ b → b < n → a < n
    below a b n e h = omega (arith, e, h)

pub at_key : (slot : Slot) (slots : List Slot) → is_valid slot ≡ true → is_among slot slots ≡ true
    → slice_get (dictionary_values slots) (key_among (dictionary_values slots) slot) ≡ Some slot
at_key slot slots valid h =
    ap (slice_get (dictionary_values slots)) (valid_key slot (dictionary_values slots) valid)
    ∙ at_place_among slot (dictionary_values slots) (among_values slot slots valid h)
