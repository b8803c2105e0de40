-- Slots of cuts.
use Rattle.std.proofs.Common.{◌≡◌, ◌∙◌, ℕ, zero, suc, ◌+◌, ◌≤◌, Bool, true, false, not, List, [], ◌∷◌, length, map, take, drop, replicate}
use Rattle.std.proofs.Common.{refl, ap, ap₂, sym, arith}
use Rattle.std.proofs.lemmas.List.{take-map, drop-map, length-replicate}
use Rattle.std.proofs.lemmas.List.Sums.{sum_by-cons}
use Rattle.std.specs.Prelude.{Option, Some, None, cond, count_by, is_none}
use Rattle.std.specs.List.{zip}
use Rattle.columnar_memory_core.specs.Bits.{unset_count}
use Rattle.columnar_memory_core.specs.Window.{window}
use Rattle.columnar_memory_core.proofs.buffer_lemmas.Windows.{windows_join}
use Rattle.flat_arrays_values.specs.Flat.{Flat, flat, cut, cut_mask, marks, marks_of, slot_of, slots_of, IsMaskOf}

-- the slots of values and marks
abbrev slots : {V : Type 0} → List V → List Bool → List (Option V)
slots values bits = map slot_of (zip values bits)

drop-slots : {V : Type 0} (offset : ℕ) (values : List V) (bits : List Bool) →
    slots (drop offset values) (drop offset bits) ≡ drop offset (slots values bits)
drop-slots zero values bits = refl
drop-slots (suc offset) [] bits = refl
drop-slots (suc offset) (value ∷ values) [] = slots-none (drop offset values)
  where
    slots-none : {V : Type 0} (values : List V) → slots values [] ≡ []
    slots-none [] = refl
    slots-none (value ∷ values) = refl
drop-slots (suc offset) (value ∷ values) (b ∷ bits) = drop-slots offset values bits

take-slots : {V : Type 0} (count : ℕ) (values : List V) (bits : List Bool) →
    slots (take count values) (take count bits) ≡ take count (slots values bits)
take-slots zero values bits = refl
take-slots (suc count) [] bits = refl
take-slots (suc count) (value ∷ values) [] = refl
take-slots (suc count) (value ∷ values) (b ∷ bits) = ap (λ rest. slot_of (value, b) ∷ rest) (take-slots count values bits)

window-slots : {V : Type 0} (offset count : ℕ) (values : List V) (bits : List Bool) →
    slots (window values offset count) (window bits offset count) ≡ window (slots values bits) offset count
window-slots offset count values bits = take-slots count (drop offset values) (drop offset bits) ∙ ap (take count) (drop-slots offset values bits)

-- without a mask each slot has its value
slots-all : {V : Type 0} (values : List V) → slots values (replicate (length values) true) ≡ map Some values
slots-all [] = refl
slots-all (value ∷ values) = ap (λ rest. Some value ∷ rest) (slots-all values)

window-map : {A B : Type 0} (f : A → B) (offset count : ℕ) (xs : List A) → window (map f xs) offset count ≡ map f (window xs offset count)
window-map f offset count xs = ap (take count) (drop-map f offset xs) ∙ take-map f count (drop offset xs)

cut_slots : {V : Type 0} (values : List V) (validity : Option (List Bool)) (offset count : ℕ) →
    slots (window values offset count) (marks (length (window values offset count)) (cut_mask validity offset count))
    ≡ window (slots values (marks (length values) validity)) offset count
cut_slots values None offset count =
    slots-all (window values offset count) ∙ sym (window-map Some offset count values) ∙ ap (λ xs. window xs offset count) (sym (slots-all values))
cut_slots values (Some mask) offset count = window-slots offset count values mask

pub cuts_slots : {V : Type 0} (a : Flat V) (offset count : ℕ) → slots_of (cut a offset count) ≡ window (slots_of a) offset count
cuts_slots a offset count = cut_slots a.values a.validity offset count

masks_join : (validity : Option (List Bool)) (offset count inner few : ℕ) → inner + few ≤ count
    → cut_mask (cut_mask validity offset count) inner few ≡ cut_mask validity (offset + inner) few
masks_join None offset count inner few within = refl
masks_join (Some mask) offset count inner few within = ap Some (windows_join mask offset count inner few within)

pub cuts_join : {V : Type 0} (a : Flat V) (offset count inner few : ℕ) → inner + few ≤ count
    → cut (cut a offset count) inner few ≡ cut a (offset + inner) few
cuts_join a offset count inner few within =
    ap₂ (λ values validity. flat a.data_type values validity) (windows_join a.values offset count inner few within)
    (masks_join a.validity offset count inner few within)

abbrev one : Bool → ℕ
one b = cond b 1 0

count-cons : {A : Type 0} (p : A → Bool) (x : A) (xs : List A) → count_by p (x ∷ xs) ≡ one (p x) + count_by p xs
count-cons p x xs = sum_by-cons (λ y. cond (p y) 1 0) x xs

one-null : {V : Type 0} (value : V) (b : Bool) → one (is_none (slot_of (value, b))) ≡ one (not b)
one-null value true = refl
one-null value false = refl

count_slots : {V : Type 0} (values : List V) (bits : List Bool) → length bits ≡ length values
    → (length (slots values bits) ≡ length values) × (count_by is_none (slots values bits) ≡ unset_count bits)
count_slots [] [] same = (refl, refl)
count_slots [] (b ∷ bits) same = absurd (omega arith)
count_slots (value ∷ values) [] same = absurd (omega arith)
count_slots (value ∷ values) (b ∷ bits) same =
    let rest = count_slots values bits (omega arith) in (
      ap suc rest.0,
      count-cons is_none (slot_of (value, b)) (slots values bits) ∙ ap₂ (λ (m n : ℕ). m + n) (one-null value b) rest.1
          ∙ sym (count-cons not b bits),
    )

count_marks : {V : Type 0} (values : List V) (validity : Option (List Bool)) → IsMaskOf (length values) validity
    → length (marks (length values) validity) ≡ length values
count_marks values None is = length-replicate (length values) true
count_marks values (Some mask) is = is mask refl

pub length-marks_of : {V : Type 0} (a : Flat V) → IsMaskOf (length a.values) a.validity → length (marks_of a) ≡ length a.values
length-marks_of a is = count_marks a.values a.validity is

pub slots_count : {V : Type 0} (a : Flat V) → IsMaskOf (length a.values) a.validity
    → (length (slots_of a) ≡ length a.values) × (count_by is_none (slots_of a) ≡ unset_count (marks_of a))
slots_count a is = count_slots a.values (marks_of a) (count_marks a.values a.validity is)

pub length-slots_of : {V : Type 0} (a : Flat V) → IsMaskOf (length a.values) a.validity → length (slots_of a) ≡ length a.values
length-slots_of a is = (slots_count a is).0

pub ruleset lengths = (length-slots_of)
