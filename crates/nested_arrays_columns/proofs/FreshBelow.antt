-- The slots that fitting slots bring to the types below theirs fit those.
use Rattle.std.proofs.Common.{◌≡◌, ◌∙◌, ℕ, zero, suc, ◌+◌, ◌*◌, Bool, true, List, [], ◌∷◌, ◌++◌, length, replicate, refl, sym, ap}
use Rattle.std.proofs.Common.{arith, length-append, mul-suc, ◌==◌, cond}
use Rattle.std.specs.Prelude.{not}
use Rattle.std.specs.List.{list_all, filter, flat_map}
use Rattle.std.proofs.lemmas.Bool.{and_parts, and_from, eqb-true, cases_Bool}
use Rattle.std.proofs.lemmas.List.{length-replicate}
use Rattle.std.proofs.lemmas.List.Folds.{list_all-append}
use mathlib.Core.Logic.{inl, inr}
use Rattle.nested_arrays_columns.specs.Cells.{is_null, fit_each, is_list_of, is_list_of_size, is_record_of}
use Rattle.nested_arrays_columns.specs.Children.{items_of, fixed_items_of, slot_number, field_of, joined_items, joined_fixed_items, field_slots}
use Rattle.nested_arrays_columns.specs.Children.{dictionary_values}
use Rattle.nested_arrays_columns.specs.SameSlots.{same_slot, distinct}
use Rattle.nested_arrays_columns.specs.Slots.{Slot, Slots, null, items, fields, no_slot, slot_then, slot_list}

-- ---- items

-- what passes for the items of each slot passes for all of them
pub joined_passes : {A : Type 0} (test : Slot → Bool) (fits_item : A → Bool) (below : Slot → List A)
    → ((slot : Slot) → test slot ≡ true → list_all fits_item (below slot) ≡ true) → (slots : List Slot) → list_all test slots ≡ true
    → list_all fits_item (flat_map below slots) ≡ true
joined_passes test fits_item below each [] fits = refl
joined_passes test fits_item below each (slot ∷ slots) fits =
    let parts = and_parts (test slot) (list_all test slots) fits in
    list_all-append fits_item (below slot) (flat_map below slots)
    ∙ and_from (list_all fits_item (below slot)) (list_all fits_item (flat_map below slots)) (each slot parts.0)
    (joined_passes test fits_item below each slots parts.1)

list_items : (fits_item : Slot → Bool) (slot : Slot) → is_list_of fits_item slot ≡ true → list_all fits_item (items_of slot) ≡ true
list_items fits_item null h = refl
list_items fits_item (items slots) h = h
list_items fits_item _ h = absurd cc

pub items_fit : (fits_item : Slot → Bool) (slots : List Slot) → list_all (is_list_of fits_item) slots ≡ true
    → list_all fits_item (joined_items slots) ≡ true
items_fit fits_item slots h = joined_passes (is_list_of fits_item) fits_item items_of (list_items fits_item) slots h

-- nulls alone bring no items
null_items : (slot : Slot) → is_null slot ≡ true → items_of slot ≡ []
null_items null h = refl
null_items _ h = absurd cc

pub no_items : (slots : List Slot) → list_all is_null slots ≡ true → joined_items slots ≡ []
no_items [] h = refl
no_items (slot ∷ slots) h =
    let parts = and_parts (is_null slot) (list_all is_null slots) h in
    λ j. null_items slot parts.0 j ++ no_items slots parts.1 j

nulls_pass : (test : Slot → Bool) → test null ≡ true → (n : ℕ) → list_all test (replicate n null) ≡ true
nulls_pass test takes zero = refl
nulls_pass test takes (suc n) = and_from (test null) (list_all test (replicate n null)) takes (nulls_pass test takes n)

fixed_items : (size : ℕ) (fits_item : Slot → Bool) → fits_item null ≡ true → (slot : Slot) → is_list_of_size size fits_item slot ≡ true
    → list_all fits_item (fixed_items_of size slot) ≡ true
fixed_items size fits_item takes null h = nulls_pass fits_item takes size
fixed_items size fits_item takes (items slots) h = (and_parts (length (slot_list slots) == size) (list_all fits_item (slot_list slots)) h).1
fixed_items size fits_item takes _ h = absurd cc

pub fixed_items_fit : (size : ℕ) (fits_item : Slot → Bool) → fits_item null ≡ true → (slots : List Slot)
    → list_all (is_list_of_size size fits_item) slots ≡ true → list_all fits_item (joined_fixed_items size slots) ≡ true
fixed_items_fit size fits_item takes slots h =
    joined_passes (is_list_of_size size fits_item) fits_item (fixed_items_of size) (fixed_items size fits_item takes) slots h

-- pieces of one size are so many times as long
pub pieces_length : {A : Type 0} (test : Slot → Bool) (piece : Slot → List A) (size : ℕ)
    → ((slot : Slot) → test slot ≡ true → length (piece slot) ≡ size) → (slots : List Slot) → list_all test slots ≡ true
    → length (flat_map piece slots) ≡ size * length slots
pieces_length test piece size each [] h = omega arith
pieces_length test piece size each (slot ∷ slots) h =
    let parts = and_parts (test slot) (list_all test slots) h in
    length-append (piece slot) (flat_map piece slots)
    ∙ (λ j. each slot parts.0 j + pieces_length test piece size each slots parts.1 j)
    ∙ plus (size * length slots) size ∙ sym (mul-suc size (length slots))
  where
    plus : (a b : ℕ) → b + a ≡ a + b
    plus a b = omega arith

pub fixed_piece : (size : ℕ) (fits_item : Slot → Bool) (slot : Slot) → is_list_of_size size fits_item slot ≡ true
    → length (fixed_items_of size slot) ≡ size
fixed_piece size fits_item null h = length-replicate size null
fixed_piece size fits_item (items slots) h =
    eqb-true (length (slot_list slots)) size (and_parts (length (slot_list slots) == size) (list_all fits_item (slot_list slots)) h).0
fixed_piece size fits_item _ h = absurd cc

-- ---- values of dictionaries

filter_passes : (test keeps : Slot → Bool) (slots : List Slot) → list_all test slots ≡ true → list_all test (filter keeps slots) ≡ true
filter_passes test keeps [] h = refl
filter_passes test keeps (slot ∷ slots) h =
    let parts = and_parts (test slot) (list_all test slots) h in
    let rest = filter_passes test keeps slots parts.1 in
    elim (cases_Bool (keeps slot)) [
      | inl kept ↦ ap (λ b. list_all test (cond b (slot ∷ filter keeps slots) (filter keeps slots))) kept
          ∙ and_from (test slot) (list_all test (filter keeps slots)) parts.0 rest
      | inr dropped ↦ ap (λ b. list_all test (cond b (slot ∷ filter keeps slots) (filter keeps slots))) dropped ∙ rest
    ]

distinct_passes : (test : Slot → Bool) (slots : List Slot) → list_all test slots ≡ true → list_all test (distinct slots) ≡ true
distinct_passes test [] h = refl
distinct_passes test (slot ∷ slots) h =
    let parts = and_parts (test slot) (list_all test slots) h in
    let others : List Slot = filter (λ other. not (same_slot slot other)) (distinct slots) in
    and_from (test slot) (list_all test others) parts.0
    (filter_passes test (λ other. not (same_slot slot other)) (distinct slots) (distinct_passes test slots parts.1))

pub values_fit : (test : Slot → Bool) (slots : List Slot) → list_all test slots ≡ true → list_all test (dictionary_values slots) ≡ true
values_fit test slots h =
    distinct_passes test (filter (λ slot. not (is_null slot)) slots) (filter_passes test (λ slot. not (is_null slot)) slots h)

-- ---- fields of records

-- each of some tests, from number k on, passes for the slots of its field
abbrev pub fields_pass : List (Slot → Bool) → List Slot → ℕ → Type 0
fields_pass [] slots k = Unit {0}
fields_pass (test ∷ tests) slots k = (list_all test (field_slots slots k) ≡ true) × fields_pass tests slots (suc k)

-- tests that null passes
abbrev pub TakeNull : List (Slot → Bool) → Type 0
TakeNull [] = Unit {0}
TakeNull (test ∷ tests) = (test null ≡ true) × TakeNull tests

abbrev from_number : List (Slot → Bool) → Slots → ℕ → Type 0
from_number [] slots k = Unit {0}
from_number (test ∷ tests) slots k = (test (slot_number k slots) ≡ true) × from_number tests slots (suc k)

behind_first : (tests : List (Slot → Bool)) (slot : Slot) (slots : Slots) (k : ℕ) → from_number tests slots k
    → from_number tests (slot_then slot slots) (suc k)
behind_first [] slot slots k h = tt
behind_first (test ∷ tests) slot slots k h = (h.0, behind_first tests slot slots (suc k) h.1)

each_fits : (tests : List (Slot → Bool)) (slots : Slots) → fit_each tests slots ≡ true → from_number tests slots 0
each_fits [] no_slot h = tt
each_fits [] (slot_then slot slots) h = absurd cc
each_fits (test ∷ tests) no_slot h = absurd cc
each_fits (test ∷ tests) (slot_then slot slots) h =
    let parts = and_parts (test slot) (fit_each tests slots) h in
    (parts.0, behind_first tests slot slots 0 (each_fits tests slots parts.1))

-- each field of one slot passes, from field k on
abbrev of_slot : List (Slot → Bool) → Slot → ℕ → Type 0
of_slot [] slot k = Unit {0}
of_slot (test ∷ tests) slot k = (test (field_of k slot) ≡ true) × of_slot tests slot (suc k)

of_null : (tests : List (Slot → Bool)) (k : ℕ) → TakeNull tests → of_slot tests null k
of_null [] k takes = tt
of_null (test ∷ tests) k takes = (takes.0, of_null tests (suc k) takes.1)

of_fields : (tests : List (Slot → Bool)) (slots : Slots) (k : ℕ) → from_number tests slots k → of_slot tests (fields slots) k
of_fields [] slots k h = tt
of_fields (test ∷ tests) slots k h = (h.0, of_fields tests slots (suc k) h.1)

slot_fits : (tests : List (Slot → Bool)) (slot : Slot) → TakeNull tests → is_record_of tests slot ≡ true → of_slot tests slot 0
slot_fits tests null takes h = of_null tests 0 takes
slot_fits tests (fields slots) takes h = of_fields tests slots 0 (each_fits tests slots h)
slot_fits tests _ takes h = absurd cc

no_slots_fit : (tests : List (Slot → Bool)) (k : ℕ) → fields_pass tests [] k
no_slots_fit [] k = tt
no_slots_fit (test ∷ tests) k = (refl, no_slots_fit tests (suc k))

one_more : (tests : List (Slot → Bool)) (slot : Slot) (slots : List Slot) (k : ℕ) → of_slot tests slot k → fields_pass tests slots k
    → fields_pass tests (slot ∷ slots) k
one_more [] slot slots k h rest = tt
one_more (test ∷ tests) slot slots k h rest =
    (and_from (test (field_of k slot)) (list_all test (field_slots slots k)) h.0 rest.0, one_more tests slot slots (suc k) h.1 rest.1)

pub fields_fit : (tests : List (Slot → Bool)) (slots : List Slot) → TakeNull tests → list_all (is_record_of tests) slots ≡ true
    → fields_pass tests slots 0
fields_fit tests [] takes h = no_slots_fit tests 0
fields_fit tests (slot ∷ slots) takes h =
    let parts = and_parts (is_record_of tests slot) (list_all (is_record_of tests) slots) h in
    one_more tests slot slots 0 (slot_fits tests slot takes parts.0) (fields_fit tests slots takes parts.1)
