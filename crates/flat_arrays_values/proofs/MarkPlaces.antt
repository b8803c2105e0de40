-- Marks and slots place by place.
use Rattle.std.proofs.Common.{◌≡◌, ◌∙◌, ℕ, zero, suc, ◌+◌, ◌-◌, ◌<◌, ◌≤◌, Bool, true, false, List, [], ◌∷◌, length, map, take, drop, replicate}
use Rattle.std.proofs.Common.{refl, ap, ap₂, sym, arith, rules}
use Rattle.std.specs.Prelude.{Option, Some, None, is_some, unwrap_or, slice_get, slice_range}
use Rattle.std.specs.List.{zip}
use Rattle.columnar_memory_core.specs.declared.DataType.{DataType}
use Rattle.columnar_memory_core.specs.Bits.{unset_count}
use Rattle.columnar_memory_core.specs.Window.{window}
use Rattle.std.proofs.lemmas.Option.{slice_get_past}
use Rattle.flat_arrays_values.proofs.Cuts.{length-slots_of}
use Rattle.flat_arrays_values.specs.Flat.{Flat, flat, mask_of, of_slots, slot_of, slots_of, IsMaskOf}
use Rattle.flat_arrays_values.specs.Results.{AppliesTo}
use Rattle.std.specs.Option.{ForSome}
use mathlib.Core.Bool.{true≢false}

pub replicate-get : {A : Type 0} (n i : ℕ) (x : A) → i < n → slice_get (replicate n x) i ≡ Some x
replicate-get zero i x inside = absurd (omega arith)
replicate-get (suc n) zero x inside = refl
replicate-get (suc n) (suc i) x inside = replicate-get n i x (omega arith)

pub all_set : (n : ℕ) → unset_count (replicate n true) ≡ 0
all_set zero = refl
all_set (suc n) = all_set n

pub range-window : {A : Type 0} (xs : List A) (offset count : ℕ) → slice_range xs offset (offset + count) ≡ window xs offset count
range-window xs offset count =
    let width : offset + count - offset ≡ count = omega arith in
    ap (λ n. take n (drop offset xs)) width

slice_get_inside : {A : Type 0} (xs : List A) (i : ℕ) → i < length xs → (x : A) × (slice_get xs i ≡ Some x)
slice_get_inside [] i inside = absurd (omega arith)
slice_get_inside (x ∷ xs) zero inside = (x, refl)
slice_get_inside (x ∷ xs) (suc i) inside = slice_get_inside xs i (omega arith)

-- the slot at a place is that of the value and the mark there
pub slot-get : {V : Type 0} (values : List V) (bits : List Bool) (i : ℕ) (value : V) (mark : Bool) →
    slice_get values i ≡ Some value → slice_get bits i ≡ Some mark → slice_get (map slot_of (zip values bits)) i ≡ Some (slot_of (value, mark))
slot-get [] bits i value mark is_value is_mark = search rules
slot-get (x ∷ xs) [] i value mark is_value is_mark = search rules
slot-get (x ∷ xs) (b ∷ bs) zero value mark is_value is_mark = search rules
slot-get (x ∷ xs) (b ∷ bs) (suc i) value mark is_value is_mark = slot-get xs bs i value mark is_value is_mark

-- where the mark is false the slot is null
pub null-get : {V : Type 0} (values : List V) (bits : List Bool) (i : ℕ) → i < length values → slice_get bits i ≡ Some false →
    slice_get (map slot_of (zip values bits)) i ≡ Some None
null-get values bits i inside is_mark =
    let found = slice_get_inside values i inside in slot-get values bits i found.0 false found.1 is_mark

-- values and marks that were gathered from slots make the array of these slots
pub gathered_slots : {V : Type 0} (data_type : DataType) (blank : V) (values : List V) (bits : List Bool) (slots items : List (Option V))
    → (values ≡ map (λ slot. unwrap_or slot blank) slots) × (bits ≡ map is_some slots) → items ≡ slots
    → flat data_type values (mask_of bits) ≡ of_slots data_type blank items
gathered_slots data_type blank values bits slots items gathered same =
    ap₂ (λ vs bs. flat data_type vs (mask_of bs)) gathered.0 gathered.1 ∙ ap (λ ss. of_slots data_type blank ss) (sym same)

-- a mask that a call gives for one has as many marks
pub applied_masked : (gives : List Bool → List Bool → Type 0) (old new : Option (List Bool)) (n : ℕ) → AppliesTo gives old new
    → ForSome old (λ mask. (made : List Bool) → gives mask made → length made ≡ length mask) → IsMaskOf n old → IsMaskOf n new
applied_masked gives None new n is keeps masked = λ mask some. absurd (true≢false (sym (ap is_some (sym is ∙ some))))
applied_masked gives (Some mask) None n is keeps masked = absurd is
applied_masked gives (Some mask) (Some made) n is keeps masked = λ other some.
    let same : made ≡ other = ap (λ o. unwrap_or o made) some in
    ap length (sym same) ∙ keeps mask refl made is ∙ masked mask refl

-- the slot at a place that there is
pub slot_there : {V : Type 0} (slots : List (Option V)) (i : ℕ) (slot : Option V) → slice_get slots i ≡ Some slot
    → slot ≡ unwrap_or (slice_get slots i) None
slot_there slots i slot is = sym (ap (λ found. unwrap_or found None) is)

-- behind the last slot there is none
pub slot_past : {V : Type 0} (a : Flat V) (i : ℕ) → IsMaskOf (length a.values) a.validity → length a.values ≤ i
    → None ≡ unwrap_or (slice_get (slots_of a) i) None
slot_past a i masked past =
    let count : length (slots_of a) ≡ length a.values = length-slots_of a masked in
    sym (ap (λ slot. unwrap_or slot None) (slice_get_past (slots_of a) i (omega arith)))

pub ruleset past_slots = (slot_there, slot_past)

pub ruleset applied = (applied_masked)

pub ruleset mask_lemmas = (replicate-get, all_set)

pub ruleset windows = (range-window)

pub ruleset slot_lemmas = (slot-get)
