-- Slots that are pushed to several builders, one to each.
use Rattle.std.proofs.Common.{inl, inr, ◌≡◌, ◌∙◌, ℕ, zero, suc, ◌+◌, ◌<◌, ◌≤◌, List, [], ◌∷◌, length, map, take, get_or, true, refl, sym, ap}
use Rattle.std.proofs.Common.{subst, arith, add-one, length-append}
use Rattle.std.specs.Prelude.{slice_set, All}
use Rattle.std.specs.List.{list_all}
use Rattle.std.proofs.lemmas.Bool.{and_parts, and_from, false≢true}
use Rattle.std.proofs.lemmas.List.{take_at, take_all}
use Rattle.std.proofs.lemmas.List.Folds.{list_all_at}
use borrow.Author.Count.{below_more}
use Rattle.nested_arrays_builder_values.specs.parts.arrays.columnar_memory.declared.Error.{Error}
use Rattle.nested_arrays_builder_values.specs.parts.arrays.columns.Cells.{fits_cell, fit_each, is_record_of}
use Rattle.nested_arrays_builder_values.specs.parts.arrays.columns.Children.{field_of, slot_number}
use Rattle.nested_arrays_builder_values.specs.parts.arrays.columns.Slots.{Slot, Slots, null, fields, no_slot, slot_then, window}
use Rattle.nested_arrays_builder_values.proofs.parts_lemmas.arrays_lemmas.columns_lemmas.Fitting.{null_fits}
use Rattle.nested_arrays_builder_values.specs.parts.columns.OpenParts.{fields_of_slot}
use Rattle.nested_arrays_builder_values.specs.parts.Open.{Open, opened, first_slots, with_slot, IsRefusal}
use Rattle.nested_arrays_builders.specs.Parts.{is_fitting, tests_of, with_each, IsShortOfEach}

-- ---- the fields of a slot

field_at_from : (s : Slot) (a n k : ℕ) (d : Slot) → k < n → get_or (window (λ k. field_of k s) a n) k d ≡ field_of (a + k) s
field_at_from s a zero k d lt = absurd (omega arith)
field_at_from s a (suc n) zero d lt = ap (λ m. field_of m s) (omega arith)
field_at_from s a (suc n) (suc k) d lt = field_at_from s (a + 1) n k d (omega (arith, lt)) ∙ ap (λ m. field_of m s) (omega arith)

pub field_at : (s : Slot) (n k : ℕ) (d : Slot) → k < n → get_or (fields_of_slot n s) k d ≡ field_of k s
field_at s n k d lt =
    let here : 0 + k ≡ k = omega arith in
    field_at_from s 0 n k d lt ∙ ap (λ m. field_of m s) here

count_from : (s : Slot) (a n : ℕ) → length (window (λ k. field_of k s) a n) ≡ n
count_from s a zero = refl
count_from s a (suc n) = ap suc (count_from s (a + 1) n)

pub fields_many : (s : Slot) (n : ℕ) → length (fields_of_slot n s) ≡ n
fields_many s n = count_from s 0 n

number_fits : (os : List Open) (ys : Slots) (k : ℕ) (d : Open) → fit_each (tests_of os) ys ≡ true → k < length os
    → fits_cell (get_or os k d).data_type (slot_number k ys) ≡ true
number_fits [] ys k d h lt = absurd (omega arith)
number_fits (o ∷ os) no_slot k d h lt = absurd cc
number_fits (o ∷ os) (slot_then y ys) zero d h lt = (and_parts (fits_cell o.data_type y) (fit_each (tests_of os) ys) h).0
number_fits (o ∷ os) (slot_then y ys) (suc k) d h lt =
    number_fits os ys k d (and_parts (fits_cell o.data_type y) (fit_each (tests_of os) ys) h).1 (omega (arith, lt))

-- each field of a record that fits does
pub field_fits : (os : List Open) (s : Slot) (k : ℕ) (d : Open) → is_record_of (tests_of os) s ≡ true → k < length os
    → fits_cell (get_or os k d).data_type (field_of k s) ≡ true
field_fits os null k d h lt = null_fits (get_or os k d).data_type
field_fits os (fields ys) k d h lt = number_fits os ys k d h lt
field_fits os _ k d h lt = absurd cc

-- ---- one more slot for each of the first builders

pub none_each : (os : List Open) → os ≡ with_each os []
none_each [] = refl
none_each (o ∷ os) = refl

pub each_count : (os : List Open) (ss : List Slot) → length (with_each os ss) ≡ length os
each_count [] ss = refl
each_count (o ∷ os) [] = refl
each_count (o ∷ os) (s ∷ ss) = ap suc (each_count os ss)

-- the next builder is as it was
pub next_is : (os : List Open) (ss : List Slot) (k : ℕ) (d : Open) → k < length os → get_or (with_each os (take k ss)) k d ≡ get_or os k d
next_is [] ss k d lt = absurd (omega arith)
next_is (o ∷ os) ss zero d lt = refl
next_is (o ∷ os) [] (suc k) d lt = refl
next_is (o ∷ os) (s ∷ ss) (suc k) d lt = next_is os ss k d (omega (arith, lt))

each_at : (os : List Open) (ss : List Slot) (k : ℕ) (d : Open) → k < length os → k < length ss
    → get_or (with_each os ss) k d ≡ with_slot (get_or os k d) (get_or ss k null)
each_at [] ss k d lt many = absurd (omega arith)
each_at (o ∷ os) [] k d lt many = absurd (omega (arith, many))
each_at (o ∷ os) (s ∷ ss) zero d lt many = refl
each_at (o ∷ os) (s ∷ ss) (suc k) d lt many = each_at os ss k d (omega (arith, lt)) (omega (arith, many))

set_next : (os : List Open) (ss : List Slot) (k : ℕ) (d : Open) → k < length os → k < length ss
    → slice_set (with_each os (take k ss)) k (with_slot (get_or os k d) (get_or ss k null)) ≡ with_each os (take (suc k) ss)
set_next [] ss k d lt many = absurd (omega arith)
set_next (o ∷ os) [] k d lt many = absurd (omega (arith, many))
set_next (o ∷ os) (s ∷ ss) zero d lt many = ap (λ rest. with_slot o s ∷ rest) (none_each os)
set_next (o ∷ os) (s ∷ ss) (suc k) d lt many = ap (λ rest. with_slot o s ∷ rest) (set_next os ss k d (omega (arith, lt)) (omega (arith, many)))

set_same : (os : List Open) (k : ℕ) (d : Open) → k < length os → slice_set os k (get_or os k d) ≡ os
set_same [] k d lt = absurd (omega arith)
set_same (o ∷ os) zero d lt = refl
set_same (o ∷ os) (suc k) d lt = ap (λ rest. o ∷ rest) (set_same os k d (omega (arith, lt)))

same_default : (os : List Open) (k : ℕ) (e d : Open) → k < length os → get_or os k e ≡ get_or os k d
same_default [] k e d lt = absurd (omega arith)
same_default (o ∷ os) zero e d lt = refl
same_default (o ∷ os) (suc k) e d lt = same_default os k e d (omega (arith, lt))

-- the builder that is next, and the slot that is pushed to it
module _ (os now : List Open) (ss : List Slot) (k : ℕ) (child : Open) (s : Slot) (few : k < length os) (many : length ss ≡ length os)
    (held : now ≡ with_each os (take k ss)) (own : child ≡ get_or now k child) (is : s ≡ get_or ss k null) where
  pub next : child ≡ get_or os k child
  next = own ∙ ap (λ zs. get_or zs k child) held ∙ next_is os ss k child few

  pub one_more_each : (new : Open) → new ≡ with_slot child s → slice_set now k new ≡ with_each os (take (k + 1) ss)
  one_more_each new more =
      let put : new ≡ with_slot (get_or os k child) (get_or ss k null) = more ∙ (λ j. with_slot (next j) (is j)) in
      (λ j. slice_set (held j) k (put j)) ∙ set_next os ss k child few (omega (arith, few, many))
      ∙ ap (λ n. with_each os (take n ss)) (sym (add-one k))

  pub none_more_each : (new : Open) → new ≡ child → slice_set now k new ≡ with_each os (take k ss)
  none_more_each new same =
      let inside : k < length now = omega (arith, few, ap length held, each_count os (take k ss)) in
      ap (slice_set now k) (same ∙ own) ∙ set_same now k child inside ∙ held

  with_it : (e : Open) → get_or (with_each os ss) k e ≡ with_slot child s
  with_it e = each_at os ss k e few (omega (arith, few, many))
      ∙ (λ j. with_slot ((same_default os k e child few ∙ sym next) j) (sym is j))

  pub fits_there : is_fitting (with_slot child s) ≡ true → (e : Open) → is_fitting (get_or (with_each os ss) k e) ≡ true
  fits_there fit e = ap is_fitting (with_it e) ∙ fit

  -- where one is not taken they are short of room
  pub is_short_of_each : (e : Error) → fits_cell child.data_type s ≡ true → IsRefusal child s e → IsShortOfEach os ss e
  is_short_of_each e fit (inl out) = inl out
  is_short_of_each e fit (inr (inl other)) = absurd (false≢true (sym other.1 ∙ fit))
  is_short_of_each e fit (inr (inr over)) =
      let inside : k < length (with_each os ss) = omega (arith, few, each_count os ss) in
      inr (over.0, list_all_at is_fitting (with_each os ss) k child inside (ap is_fitting (with_it child) ∙ over.2))

pub more_of : (F : ℕ → Open → Type 0) (k : ℕ) → ((j : ℕ) (d : Open) → j < k → F j d) → ((d : Open) → F k d) → (j : ℕ) (d : Open) → j < k + 1
    → F j d
more_of F k below here j d lt = below_more (λ (j : ℕ). (d : Open) → F j d) k (λ j less d. below j d less) here j lt d

pub all_fit : (os : List Open) → ((k : ℕ) (d : Open) → k < length os → is_fitting (get_or os k d) ≡ true) → list_all is_fitting os ≡ true
all_fit [] each = refl
all_fit (o ∷ os) each =
    and_from (is_fitting o) (list_all is_fitting os) (each 0 o (omega arith)) (all_fit os (λ k d lt. each (suc k) d (omega (arith, lt))))

pub each_of_them : (os now : List Open) (ss : List Slot) (n : ℕ) → length ss ≡ n → now ≡ with_each os (take n ss) → now ≡ with_each os ss
each_of_them os now ss n many held = held ∙ ap (with_each os) (take_all n ss (omega (arith, many)))

-- ---- the slots go again

all_cons : {A : Type 0} (P : A → Type 0) (x : A) (xs : List A) → P x → All P xs → All P (x ∷ xs)
all_cons P x xs here later zero d lt = here
all_cons P x xs here later (suc k) d lt = later k d (omega (arith, lt))

no_fewer_each : (os : List Open) (ss : List Slot) (n : ℕ) → All (λ (o : Open). length o.slots ≡ n) os
    → All (λ (o : Open). n ≤ length o.slots) (with_each os ss)
no_fewer_each [] ss n held = λ k d lt. absurd (omega arith)
no_fewer_each (o ∷ os) [] n held = λ k d lt. omega (arith, held k d lt)
no_fewer_each (o ∷ os) (s ∷ ss) n held =
    all_cons (λ (o : Open). n ≤ length o.slots) (with_slot o s) (with_each os ss)
    (omega (arith, held 0 o (omega arith), length-append o.slots (s ∷ [])))
    (no_fewer_each os ss n (λ k d lt. held (suc k) d (omega (arith, lt))))

pub long_enough : (os now : List Open) (ss : List Slot) (n : ℕ) → All (λ (o : Open). length o.slots ≡ n) os → now ≡ with_each os ss
    → All (λ (o : Open). n ≤ length o.slots) now
long_enough os now ss n held is = subst (All (λ (o : Open). n ≤ length o.slots)) (sym is) (no_fewer_each os ss n held)

taken_from_each : (os : List Open) (ss : List Slot) (n : ℕ) → All (λ (o : Open). length o.slots ≡ n) os
    → map (λ (o : Open). first_slots o n) (with_each os ss) ≡ os
taken_from_each [] ss n held = refl
taken_from_each (o ∷ os) [] n held = λ j. opened o.data_type (take_all n o.slots (omega (arith, held 0 o (omega arith))) j)
    ∷ (ap (map (λ (o : Open). first_slots o n)) (none_each os) ∙ taken_from_each os [] n (λ k d lt. held (suc k) d (omega (arith, lt)))) j
taken_from_each (o ∷ os) (s ∷ ss) n held = λ j. opened o.data_type (take_at o.slots (s ∷ []) n (held 0 o (omega arith)) j)
    ∷ taken_from_each os ss n (λ k d lt. held (suc k) d (omega (arith, lt))) j

pub taken_back_each : (os now new : List Open) (ss : List Slot) (n : ℕ) → All (λ (o : Open). length o.slots ≡ n) os → now ≡ with_each os ss
    → new ≡ map (λ (o : Open). first_slots o n) now → new ≡ os
taken_back_each os now new ss n held is cut = cut ∙ ap (map (λ (o : Open). first_slots o n)) is ∙ taken_from_each os ss n held
