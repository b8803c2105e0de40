-- The slots of byte strings: how many there are, and the one at a place.
use Rattle.std.proofs.Common.{◌≡◌, ℕ, ◌+◌, ◌<◌, ◌≤◌, List, [], ◌∷◌, length, drop, refl, ap, sym, ◌∙◌, arith, zero, suc}
use Rattle.std.proofs.lemmas.List.{length-map, length-replicate}
use Rattle.std.proofs.lemmas.Option.{slice_get_past}
use Rattle.std.proofs.lemmas.Slice.Zip.{length-zip}
use Rattle.std.specs.Prelude.{Bool, true, false, Option, Some, None, map, replicate, slice_get, slice_range, unwrap_or, if◌then◌else◌}
use Rattle.std.specs.List.{zip}
use Rattle.flat_arrays_values.specs.columnar_memory.Bits.{unset_count}
use Rattle.flat_arrays_values.specs.columnar_memory.Spans.{offset_at}
use Rattle.flat_arrays_bytes.proofs.Places.{value_between}
use Rattle.flat_arrays_bytes.specs.ByteStrings.{ByteStrings, cut_by, len_of, marks, marks_of, slot_of, slots_of, values_of}
use Rattle.flat_arrays_bytes.specs.Fits.{IsMaskOf}

-- where no mask is held, each mark is true
pub marks_all : (n i : ℕ) → i < n → slice_get (replicate n true) i ≡ Some true
marks_all zero i h = absurd (omega arith)
marks_all (suc n) zero h = refl
marks_all (suc n) (suc i) h = let lt : i < n = omega arith in marks_all n i lt

pub none_unset : (n : ℕ) → unset_count (replicate n true) ≡ 0
none_unset zero = refl
none_unset (suc n) = none_unset n

slice_get-zip : {X Y : Type 0} (xs : List X) (ys : List Y) (i : ℕ) (x : X) (y : Y) → slice_get xs i ≡ Some x → slice_get ys i ≡ Some y
    → slice_get (zip xs ys) i ≡ Some (x, y)
slice_get-zip [] ys i x y h k = absurd (cc)
slice_get-zip (a ∷ xs) [] i x y h k = absurd (cc)
slice_get-zip (a ∷ xs) (b ∷ ys) zero x y h k = let first : a ≡ x = cc in let second : b ≡ y = cc in λ i. Some (first i, second i)
slice_get-zip (a ∷ xs) (b ∷ ys) (suc i) x y h k = slice_get-zip xs ys i x y h k

slice_get-map : {X Y : Type 0} (f : X → Y) (xs : List X) (i : ℕ) (x : X) → slice_get xs i ≡ Some x → slice_get (map f xs) i ≡ Some (f x)
slice_get-map f [] i x h = absurd (cc)
slice_get-map f (a ∷ xs) zero x h = let first : a ≡ x = cc in λ i. Some (f (first i))
slice_get-map f (a ∷ xs) (suc i) x h = slice_get-map f xs i x h

-- the slot at a place, by its stored value and its mark
pub slot_at : (a : ByteStrings) (i : ℕ) (value : List ℕ) (mark : Bool) → slice_get (values_of a) i ≡ Some value → slice_get (marks_of a) i ≡ Some mark
    → slice_get (slots_of a) i ≡ Some (if mark then Some value else None)
slot_at a i value mark h k =
    slice_get-map slot_of (zip (values_of a) (marks_of a)) i (value, mark) (slice_get-zip (values_of a) (marks_of a) i value mark h k)

-- the slot at a place whose mark is false
pub null_at : (a : ByteStrings) (i : ℕ) → i < len_of a → slice_get (marks_of a) i ≡ Some false → slice_get (slots_of a) i ≡ Some None
null_at a i h k = slot_at a i (slice_range a.bytes (offset_at a.offsets i) (offset_at a.offsets (i + 1))) false (value_between a i h) k

length-cut_by : (ls bytes : List ℕ) → length (cut_by ls bytes) ≡ length ls
length-cut_by [] bytes = refl
length-cut_by (l ∷ ls) bytes = ap suc (length-cut_by ls (drop l bytes))

-- there is a stored value for each slot
pub length_values : (a : ByteStrings) → length (values_of a) ≡ len_of a
length_values a = length-cut_by a.offsets.lengths (drop a.offsets.start a.bytes)

length-marks : (n : ℕ) (mask : Option (List Bool)) → IsMaskOf n mask → length (marks n mask) ≡ n
length-marks n None h = length-replicate n true
length-marks n (Some mask) h = h

-- there is a slot for each value
pub length_slots : (a : ByteStrings) → IsMaskOf (len_of a) a.validity → length (slots_of a) ≡ len_of a
length_slots a h = omega (
  arith,
  length-map (zip (values_of a) (marks_of a)) slot_of,
  length-zip (values_of a) (marks_of a),
  length_values a,
  length-marks (len_of a) a.validity h,
)

-- lists with the same elements at the same places are the same
pub same_elements : {X : Type 0} (xs ys : List X) → length xs ≡ length ys → ((k : ℕ) → k < length xs → slice_get xs k ≡ slice_get ys k) → xs ≡ ys
same_elements [] [] e h = refl
same_elements [] (y ∷ ys) e h = absurd (omega (arith, e))
same_elements (x ∷ xs) [] e h = absurd (omega (arith, e))
same_elements (x ∷ xs) (y ∷ ys) e h =
    let some : 0 < length (x ∷ xs) = omega arith in
    let heads : Some x ≡ Some y = h 0 some in
    let first : x ≡ y = cc in
    let tails : length xs ≡ length ys = omega (arith, e) in
    let rest : xs ≡ ys = same_elements xs ys tails (λ k lt. h (suc k) (omega arith)) in λ i. first i ∷ rest i

-- arrays with the same slots have as many
pub same_len : (a b : ByteStrings) → IsMaskOf (len_of a) a.validity → IsMaskOf (len_of b) b.validity → slots_of a ≡ slots_of b → len_of a ≡ len_of b
same_len a b h k e = sym (length_slots a h) ∙ ap length e ∙ length_slots b k

-- the slot at a place that there is
pub slot_there : (slots : List (Option (List ℕ))) (i : ℕ) (slot : Option (List ℕ)) → slice_get slots i ≡ Some slot
    → slot ≡ unwrap_or (slice_get slots i) None
slot_there slots i slot is = sym (ap (λ found. unwrap_or found None) is)

-- behind the last slot there is none
pub slot_past : (a : ByteStrings) (i : ℕ) → IsMaskOf (len_of a) a.validity → len_of a ≤ i → None ≡ unwrap_or (slice_get (slots_of a) i) None
slot_past a i masked past =
    let count : length (slots_of a) ≡ len_of a = length_slots a masked in
    sym (ap (λ slot. unwrap_or slot None) (slice_get_past (slots_of a) i (omega arith)))

pub ruleset past_slots = (slot_there, slot_past)
