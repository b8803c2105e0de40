-- The values and keys of a dictionary of slots with one more, and of the first ones.
use Rattle.std.proofs.Common.{◌≡◌, ◌∙◌, ℕ, zero, suc, ◌+◌, ◌<◌, ◌≤◌, List, [], ◌∷◌, ◌++◌, length, map, take, drop, get_or, Bool, true, false, refl}
use Rattle.std.proofs.Common.{sym, ap, arith, cond, length-append}
use Rattle.std.specs.Prelude.{pos, not, max, ◌||◌, if◌then◌else◌}
use Rattle.std.specs.List.{list_all, filter}
use Rattle.std.proofs.Math.ListN.{get_or-map}
use Rattle.std.proofs.lemmas.Bool.{and_parts, or_cases, or_parts, or_left, or_right, or_from, not-true, cases_Bool, both_ways, false≢true}
use Rattle.std.proofs.lemmas.Bool.{false_from_ne_true}
use Rattle.std.proofs.lemmas.List.{append-nil, append_assoc, map-append, length-map, length-take-le, take-map, take-append-drop, take_at}
use Rattle.std.proofs.lemmas.List.{take_more, get_or-take}
use Rattle.std.proofs.lemmas.List.Elements.{filter-append}
use mathlib.Core.Logic.{inl, inr}
use Rattle.nested_arrays_columns.specs.Cells.{is_null}
use Rattle.nested_arrays_columns.specs.Children.{dictionary_values}
use Rattle.nested_arrays_columns.specs.FreshColumns.{is_valid, key_among}
use Rattle.nested_arrays_columns.specs.SameSlots.{same_slot, distinct, is_among, place_among, are_distinct}
use Rattle.nested_arrays_columns.specs.Slots.{Slot, null}
use Rattle.nested_arrays_columns.proofs.Distinct.{among_distinct, distinct_distinct}
use Rattle.nested_arrays_columns.proofs.FreshKeys.{all_among, among_values}
use Rattle.nested_arrays_columns.proofs.FreshParts.{keys_of}
use Rattle.nested_arrays_columns.proofs.SameSlotsDecide.{same_slot-implies, same_slot-itself}
use Rattle.nested_arrays_columns.specs.OpenParts.{marks_of, grown_values, keys_among, used_by, values_used}

-- ---- sameness

same_back : (a b : Slot) → same_slot a b ≡ true → same_slot b a ≡ true
same_back a b h = ap (λ x. same_slot x a) (sym (same_slot-implies a b h)) ∙ same_slot-itself a

other_back : (a b : Slot) → same_slot a b ≡ false → same_slot b a ≡ false
other_back a b h = false_from_ne_true (same_slot b a) (λ same. false≢true (sym h ∙ same_back b a same))

-- ---- among

among_kept : (s : Slot) (keeps : Slot → Bool) (ys : List Slot) → is_among s (filter keeps ys) ≡ true → is_among s ys ≡ true
among_kept s keeps [] h = h
among_kept s keeps (y ∷ ys) h =
    let rest = filter keeps ys in
    let chosen : Bool → Bool = λ b. is_among s (cond b (y ∷ rest) rest) in
    elim (cases_Bool (keeps y)) [
      | inl kept ↦ elim (or_cases (same_slot s y) (is_among s rest) (ap chosen (sym kept) ∙ h)) [
        | inl here ↦ or_left (same_slot s y) (is_among s ys) here
        | inr later ↦ or_right (same_slot s y) (is_among s ys) (among_kept s keeps ys later)
      ]
      | inr dropped ↦ or_right (same_slot s y) (is_among s ys) (among_kept s keeps ys (ap chosen (sym dropped) ∙ h))
    ]

-- what stands among the distinct ones stands among all
distinct_among : (s : Slot) (ys : List Slot) → is_among s (distinct ys) ≡ true → is_among s ys ≡ true
distinct_among s [] h = h
distinct_among s (y ∷ ys) h =
    let test : Slot → Bool = λ other. not (same_slot y other) in
    elim (or_cases (same_slot s y) (is_among s (filter test (distinct ys))) h) [
      | inl here ↦ or_left (same_slot s y) (is_among s ys) here
      | inr later ↦ or_right (same_slot s y) (is_among s ys) (distinct_among s ys (among_kept s test (distinct ys) later))
    ]

-- a slot that a place has is among them
pub among_at : (s : Slot) (ys : List Slot) (k : ℕ) (d : Slot) → k < length ys → same_slot s (get_or ys k d) ≡ true → is_among s ys ≡ true
among_at s [] k d lt same = absurd (omega arith)
among_at s (y ∷ ys) zero d lt same = or_left (same_slot s y) (is_among s ys) same
among_at s (y ∷ ys) (suc k) d lt same = or_right (same_slot s y) (is_among s ys) (among_at s ys k d (omega arith) same)

-- one that no place has is not
pub not_among : (s : Slot) (ys : List Slot) (d : Slot) → ((k : ℕ) → k < length ys → same_slot s (get_or ys k d) ≡ false) → is_among s ys ≡ false
not_among s [] d none = refl
not_among s (y ∷ ys) d none =
    or_from (same_slot s y) (is_among s ys) (none 0 (first (length ys))) (not_among s ys d (λ k lt. none (suc k) (later k (length ys) lt)))
  where
    first : (n : ℕ) → 0 < suc n
    first n = omega arith

    later : (k n : ℕ) → k < n → suc k < suc n
    later k n h = omega arith

-- ---- the distinct ones with one more

distinct_new : (xs : List Slot) (s : Slot) → is_among s xs ≡ false → distinct (xs ++ s ∷ []) ≡ distinct xs ++ s ∷ []
distinct_new [] s absent = refl
distinct_new (x ∷ xs) s absent =
    let test : Slot → Bool = λ other. not (same_slot x other) in
    let parts = or_parts (same_slot s x) (is_among s xs) absent in
    ap (λ ys. x ∷ filter test ys) (distinct_new xs s parts.1)
    ∙ ap (λ ys. x ∷ ys) (filter-append test (distinct xs) (s ∷ [])
    ∙ ap (λ b. filter test (distinct xs) ++ cond (not b) (s ∷ []) []) (other_back s x parts.0))

distinct_kept : (xs : List Slot) (s : Slot) → is_among s xs ≡ true → distinct (xs ++ s ∷ []) ≡ distinct xs
distinct_kept [] s among = absurd (false≢true among)
distinct_kept (x ∷ xs) s among =
    let test : Slot → Bool = λ other. not (same_slot x other) in
    elim (cases_Bool (is_among s xs)) [
      | inl later ↦ ap (λ ys. x ∷ filter test ys) (distinct_kept xs s later)
      | inr absent ↦ elim (or_cases (same_slot s x) (is_among s xs) among) [
        | inl here ↦ ap (λ ys. x ∷ filter test ys) (distinct_new xs s absent)
            ∙ ap (λ ys. x ∷ ys) (filter-append test (distinct xs) (s ∷ [])
            ∙ ap (λ b. filter test (distinct xs) ++ cond (not b) (s ∷ []) []) (same_back s x here) ∙ append-nil (filter test (distinct xs)))
        | inr later ↦ absurd (both_ways (is_among s xs) absent later)
      ]
    ]

-- ---- the values with one more

valid_kept : (xs : List Slot) (s : Slot) → is_null s ≡ false → filter is_valid (xs ++ s ∷ []) ≡ filter is_valid xs ++ s ∷ []
valid_kept xs s some = filter-append is_valid xs (s ∷ []) ∙ ap (λ b. filter is_valid xs ++ cond (not b) (s ∷ []) []) some

null_dropped : (xs : List Slot) (s : Slot) → is_null s ≡ true → filter is_valid (xs ++ s ∷ []) ≡ filter is_valid xs
null_dropped xs s none =
    filter-append is_valid xs (s ∷ []) ∙ ap (λ b. filter is_valid xs ++ cond (not b) (s ∷ []) []) none ∙ append-nil (filter is_valid xs)

pub values_null : (xs : List Slot) (s : Slot) → is_null s ≡ true → dictionary_values (xs ++ s ∷ []) ≡ dictionary_values xs
values_null xs s none = ap distinct (null_dropped xs s none)

pub values_kept : (xs : List Slot) (s : Slot) → is_null s ≡ false → is_among s (dictionary_values xs) ≡ true
    → dictionary_values (xs ++ s ∷ []) ≡ dictionary_values xs
values_kept xs s some among =
    ap distinct (valid_kept xs s some) ∙ distinct_kept (filter is_valid xs) s (distinct_among s (filter is_valid xs) among)

pub values_new : (xs : List Slot) (s : Slot) → is_null s ≡ false → is_among s (dictionary_values xs) ≡ false
    → dictionary_values (xs ++ s ∷ []) ≡ dictionary_values xs ++ s ∷ []
values_new xs s some absent =
    ap distinct (valid_kept xs s some)
    ∙ distinct_new (filter is_valid xs) s (false_from_ne_true (is_among s (filter is_valid xs))
    (λ among. false≢true (sym absent ∙ among_distinct s (filter is_valid xs) among)))

-- a null, one that is among them, or one more value
pub values_grow : (xs : List Slot) (s : Slot) → dictionary_values (xs ++ s ∷ []) ≡ grown_values (dictionary_values xs) s
values_grow xs s =
    let values = dictionary_values xs in
    let choose : Bool → List Slot = λ b. if b then values else values ++ s ∷ [] in
    elim (cases_Bool (is_null s)) [
      | inl none ↦ values_null xs s none ∙ ap choose (sym (or_left (is_null s) (is_among s values) none))
      | inr some ↦ elim (cases_Bool (is_among s values)) [
        | inl among ↦ values_kept xs s some among ∙ ap choose (sym (or_right (is_null s) (is_among s values) among))
        | inr absent ↦ values_new xs s some absent ∙ ap choose (sym (or_from (is_null s) (is_among s values) some absent))
      ]
    ]

-- what one more slot brings behind the values
one_behind : (values : List Slot) (s : Slot) → (rest : List Slot) × (grown_values values s ≡ values ++ rest)
one_behind values s =
    let choose : Bool → List Slot = λ b. if b then values else values ++ s ∷ [] in
    elim (cases_Bool (is_null s || is_among s values)) [
      | inl kept ↦ ([], ap choose kept ∙ sym (append-nil values))
      | inr grown ↦ (s ∷ [], ap choose grown)
    ]

-- the values of the first slots are the first values
pub values_begin : (xs ys : List Slot) → (rest : List Slot) × (dictionary_values (xs ++ ys) ≡ dictionary_values xs ++ rest)
values_begin xs [] = ([], ap dictionary_values (append-nil xs) ∙ sym (append-nil (dictionary_values xs)))
values_begin xs (y ∷ ys) =
    let one = one_behind (dictionary_values xs) y in
    let more = values_begin (xs ++ y ∷ []) ys in (
      one.0 ++ more.0,
      ap dictionary_values (sym (append_assoc xs (y ∷ []) ys)) ∙ more.1 ∙ ap (λ values. values ++ more.0) (values_grow xs y ∙ one.1)
          ∙ append_assoc (dictionary_values xs) one.0 more.0,
    )

pub values_distinct : (xs : List Slot) → are_distinct (dictionary_values xs) ≡ true
values_distinct xs = distinct_distinct (filter is_valid xs)

-- ---- keys

place_stays : (s : Slot) (values rest : List Slot) → is_among s values ≡ true → place_among s (values ++ rest) ≡ place_among s values
place_stays s [] rest among = absurd (false≢true among)
place_stays s (v ∷ values) rest among =
    elim (cases_Bool (same_slot s v)) [
      | inl here ↦ ap (λ b. if b then 0 else suc (place_among s (values ++ rest))) here
          ∙ sym (ap (λ b. if b then 0 else suc (place_among s values)) here)
      | inr differs ↦ elim (or_cases (same_slot s v) (is_among s values) among) [
        | inl here ↦ absurd (both_ways (same_slot s v) differs here)
        | inr later ↦ ap (λ n. if same_slot s v then 0 else suc n) (place_stays s values rest later)
      ]
    ]

pub valid_key : (s : Slot) (values : List Slot) → is_null s ≡ false → key_among values s ≡ place_among s values
valid_key null values some = absurd cc
valid_key _ values some = refl

pub null_key : (s : Slot) (values : List Slot) → is_null s ≡ true → key_among values s ≡ 0
null_key null values none = refl
null_key _ values none = absurd cc

-- a value keeps its key where there are more values behind
pub key_stays : (s : Slot) (values rest : List Slot) → is_among s values ≡ true → key_among (values ++ rest) s ≡ key_among values s
key_stays s values rest among =
    elim (cases_Bool (is_null s)) [
      | inl none ↦ null_key s (values ++ rest) none ∙ sym (null_key s values none)
      | inr some ↦ valid_key s (values ++ rest) some ∙ place_stays s values rest among ∙ sym (valid_key s values some)
    ]

-- and so does each slot whose value stands there
pub slot_key_stays : (s : Slot) (xs rest : List Slot) → is_among s xs ≡ true
    → key_among (dictionary_values xs ++ rest) s ≡ key_among (dictionary_values xs) s
slot_key_stays s xs rest among =
    elim (cases_Bool (is_null s)) [
      | inl none ↦ null_key s (dictionary_values xs ++ rest) none ∙ sym (null_key s (dictionary_values xs) none)
      | inr some ↦ key_stays s (dictionary_values xs) rest (among_values s xs (ap not some) among)
    ]

same_keys : (f g : Slot → ℕ) (test : Slot → Bool) → ((s : Slot) → test s ≡ true → f s ≡ g s) → (xs : List Slot) → list_all test xs ≡ true
    → map f xs ≡ map g xs
same_keys f g test each [] h = refl
same_keys f g test each (x ∷ xs) h =
    let parts = and_parts (test x) (list_all test xs) h in
    λ j. each x parts.0 j ∷ same_keys f g test each xs parts.1 j

-- slots keep their keys where there are more slots behind
pub keys_stay : (xs ys : List Slot) → keys_among (dictionary_values (xs ++ ys)) xs ≡ keys_among (dictionary_values xs) xs
keys_stay xs ys =
    let more = values_begin xs ys in
    ap (λ values. keys_among values xs) more.1
    ∙ same_keys (key_among (dictionary_values xs ++ more.0)) (key_among (dictionary_values xs)) (λ s. is_among s xs)
    (λ s among. slot_key_stays s xs more.0 among) xs (all_among xs)

place_new : (s : Slot) (values : List Slot) → is_among s values ≡ false → place_among s (values ++ s ∷ []) ≡ length values
place_new s [] absent = ap (λ b. if b then 0 else 1) (same_slot-itself s)
place_new s (v ∷ values) absent =
    let parts = or_parts (same_slot s v) (is_among s values) absent in
    ap (λ b. if b then 0 else suc (place_among s (values ++ s ∷ []))) parts.0 ∙ ap suc (place_new s values parts.1)

-- one more value has the last key
pub key_new : (s : Slot) (values : List Slot) → is_null s ≡ false → is_among s values ≡ false → key_among (values ++ s ∷ []) s ≡ length values
key_new s values some absent = valid_key s (values ++ s ∷ []) some ∙ place_new s values absent

place_at : (s : Slot) (values : List Slot) (k : ℕ) (d : Slot) → are_distinct values ≡ true → k < length values
    → same_slot s (get_or values k d) ≡ true → place_among s values ≡ k
place_at s [] k d apart lt same = absurd (omega arith)
place_at s (v ∷ values) zero d apart lt same = ap (λ b. if b then 0 else suc (place_among s values)) same
place_at s (v ∷ values) (suc k) d apart lt same =
    let parts = and_parts (not (is_among v values)) (are_distinct values) apart in
    elim (cases_Bool (same_slot s v)) [
      | inl here ↦ absurd (both_ways (is_among v values) (not-true (is_among v values) parts.0)
          (among_at v values k d (omega arith) (ap (λ x. same_slot x (get_or values k d)) (sym (same_slot-implies s v here)) ∙ same)))
      | inr differs ↦ ap (λ b. if b then 0 else suc (place_among s values)) differs ∙ ap suc (place_at s values k d parts.1 (omega arith) same)
    ]

-- the key of a slot is the place of the value that is the same
pub key_at : (s : Slot) (values : List Slot) (k : ℕ) (d : Slot) → are_distinct values ≡ true → is_null s ≡ false → k < length values
    → same_slot s (get_or values k d) ≡ true → key_among values s ≡ k
key_at s values k d apart some lt same = valid_key s values some ∙ place_at s values k d apart lt same

place_inside : (s : Slot) (values : List Slot) → is_among s values ≡ true → place_among s values < length values
place_inside s [] among = absurd (false≢true among)
place_inside s (v ∷ values) among =
    elim (cases_Bool (same_slot s v)) [
      | inl here ↦ first (place_among s values) (length values) (same_slot s v) here
      | inr differs ↦ elim (or_cases (same_slot s v) (is_among s values) among) [
        | inl here ↦ absurd (both_ways (same_slot s v) differs here)
        | inr later ↦ behind (place_among s values) (length values) (same_slot s v) differs (place_inside s values later)
      ]
    ]
  where
    first : (p n : ℕ) (b : Bool) → b ≡ true → (if b then 0 else suc p) < suc n
    first p n true e = omega arith
    first p n false e = absurd cc

    behind : (p n : ℕ) (b : Bool) → b ≡ false → p < n → (if b then 0 else suc p) < suc n
    behind p n true e h = absurd cc
    behind p n false e h = omega (arith, h)

-- a value's key is below their number
pub key_inside : (s : Slot) (values : List Slot) → is_null s ≡ false → is_among s values ≡ true → key_among values s < length values
key_inside s values some among = omega (arith, valid_key s values some, place_inside s values among)

-- the keys with one more
pub keys_one_more : (xs : List Slot) (s : Slot) → keys_among (dictionary_values (xs ++ s ∷ [])) (xs ++ s ∷ [])
    ≡ keys_among (dictionary_values xs) xs ++ key_among (dictionary_values (xs ++ s ∷ [])) s ∷ []
keys_one_more xs s =
    let values = dictionary_values (xs ++ s ∷ []) in
    map-append (key_among values) xs (s ∷ []) ∙ ap (λ keys. keys ++ key_among values s ∷ []) (keys_stay xs (s ∷ []))

-- keys as numbers
pub keys_are : (xs : List Slot) → keys_of xs ≡ map pos (keys_among (dictionary_values xs) xs)
keys_are xs = twice (key_among (dictionary_values xs)) xs
  where
    twice : (f : Slot → ℕ) (xs : List Slot) → map (λ x. pos (f x)) xs ≡ map pos (map f xs)
    twice f [] = refl
    twice f (x ∷ xs) = ap (λ rest. pos (f x) ∷ rest) (twice f xs)

-- ---- the first ones

-- the values of the first slots are so many of the first values
pub values_first : (n : ℕ) (xs : List Slot) → dictionary_values (take n xs) ≡ take (length (dictionary_values (take n xs))) (dictionary_values xs)
values_first n xs =
    let own = dictionary_values (take n xs) in
    let more = values_begin (take n xs) (drop n xs) in
    sym (ap (λ ys. take (length own) (dictionary_values ys)) (sym (take-append-drop n xs)) ∙ ap (take (length own)) more.1
    ∙ take_at own more.0 (length own) refl)

-- the keys of the first slots
pub keys_first : (n : ℕ) (xs : List Slot) → keys_among (dictionary_values (take n xs)) (take n xs) ≡ take n (keys_among (dictionary_values xs) xs)
keys_first n xs =
    sym (keys_stay (take n xs) (drop n xs)) ∙ ap (λ ys. keys_among (dictionary_values ys) (take n xs)) (take-append-drop n xs)
    ∙ sym (take-map (key_among (dictionary_values xs)) n xs)

-- what keys need with one more
pub used_one_more : (marks : List Bool) (keys : List ℕ) (mark : Bool) (key : ℕ) → length marks ≡ length keys
    → values_used (marks ++ mark ∷ []) (keys ++ key ∷ []) ≡ max (values_used marks keys) (used_by mark key)
used_one_more [] [] mark key long = omega arith
used_one_more [] (k ∷ keys) mark key long = absurd (omega (arith, long))
used_one_more (m ∷ marks) [] mark key long = absurd (omega (arith, long))
used_one_more (m ∷ marks) (k ∷ keys) mark key long =
    let rest = used_one_more marks keys mark key (omega (arith, long)) in
    ap (max (used_by m k)) rest ∙ gather (used_by m k) (values_used marks keys) (used_by mark key)
  where
    gather : (a b c : ℕ) → max a (max b c) ≡ max (max a b) c
    gather a b c = omega arith

-- what the first keys need, with the next one
pub used_next : (marks : List Bool) (keys : List ℕ) (i : ℕ) → length marks ≡ length keys → i < length marks
    → values_used (take (i + 1) marks) (take (i + 1) keys)
    ≡ max (values_used (take i marks) (take i keys)) (used_by (get_or marks i false) (get_or keys i 0))
used_next marks keys i long lt =
    (λ j. values_used (take_more marks i false lt j) (take_more keys i 0 (omega (arith, lt, long)) j))
    ∙ used_one_more (take i marks) (take i keys) (get_or marks i false) (get_or keys i 0)
    (length-take-le i marks (omega (arith, lt)) ∙ sym (length-take-le i keys (omega (arith, lt, long))))

-- how many values one more slot makes
grown_length : (values : List Slot) (s : Slot)
    → length (grown_values values s) ≡ max (length values) (used_by (is_valid s) (key_among (grown_values values s) s))
grown_length values s =
    let choose : Bool → List Slot = λ b. if b then values else values ++ s ∷ [] in
    let size : List Slot → Bool → ℕ = λ ys mark. max (length values) (used_by mark (key_among ys s)) in
    elim (cases_Bool (is_null s)) [
      | inl none ↦
          let kept : grown_values values s ≡ values = ap choose (or_left (is_null s) (is_among s values) none) in
          ap length kept ∙ at_null (length values) (key_among (grown_values values s) s) (is_valid s) (ap not none)
      | inr some ↦ elim (cases_Bool (is_among s values)) [
        | inl among ↦
            let kept : grown_values values s ≡ values = ap choose (or_right (is_null s) (is_among s values) among) in
            ap length kept ∙ at_value (length values) (key_among values s) (is_valid s) (ap not some) (key_inside s values some among)
            ∙ ap (λ ys. size ys (is_valid s)) (sym kept)
        | inr absent ↦
            let grown : grown_values values s ≡ values ++ s ∷ [] = ap choose (or_from (is_null s) (is_among s values) some absent) in
            ap length grown ∙ length-append values (s ∷ [])
            ∙ at_new (length values) (key_among (values ++ s ∷ []) s) (is_valid s) (ap not some) (key_new s values some absent)
            ∙ ap (λ ys. size ys (is_valid s)) (sym grown)
      ]
    ]
  where
    at_null : (n k : ℕ) (mark : Bool) → mark ≡ false → n ≡ max n (used_by mark k)
    at_null n k true is = absurd cc
    at_null n k false is = omega arith

    at_value : (n k : ℕ) (mark : Bool) → mark ≡ true → k < n → n ≡ max n (used_by mark k)
    at_value n k true is lt = omega (arith, lt)
    at_value n k false is lt = absurd cc

    at_new : (n k : ℕ) (mark : Bool) → mark ≡ true → k ≡ n → n + 1 ≡ max n (used_by mark k)
    at_new n k true is e = omega (arith, e)
    at_new n k false is e = absurd cc

-- the first slots use as many values as their keys need
pub used_by_first : (xs : List Slot) (n : ℕ) → n ≤ length xs → length (dictionary_values (take n xs))
    ≡ values_used (take n (marks_of xs)) (take n (keys_among (dictionary_values xs) xs))
used_by_first xs zero le = refl
used_by_first xs (suc n) le =
    let marks = marks_of xs in
    let keys = keys_among (dictionary_values xs) xs in
    let s = get_or xs n null in
    let own = dictionary_values (take n xs) in
    let lt : n < length xs = omega (arith, le) in
    let next : suc n ≡ n + 1 = omega arith in
    let more : take (suc n) xs ≡ take n xs ++ s ∷ [] = ap (λ m. take m xs) next ∙ take_more xs n null lt in
    let grown : dictionary_values (take (suc n) xs) ≡ grown_values own s = ap dictionary_values more ∙ values_grow (take n xs) s in
    let key : key_among (grown_values own s) s ≡ get_or keys n 0 = own_key xs n lt in
    ap length grown ∙ grown_length own s
    ∙ (λ j. max (used_by_first xs n (omega (arith, le)) j) (used_by (sym (get_or-map is_valid xs n null) j) (key j)))
    ∙ sym (ap (λ m. values_used (take m marks) (take m keys)) next ∙ used_next_at xs n lt)
  where
    own_key : (xs : List Slot) (n : ℕ) → n < length xs
        → key_among (grown_values (dictionary_values (take n xs)) (get_or xs n null)) (get_or xs n null)
        ≡ get_or (keys_among (dictionary_values xs) xs) n 0
    own_key xs n lt =
        let own = dictionary_values (take (n + 1) xs) in
        let s = get_or xs n null in
        let grown : own ≡ grown_values (dictionary_values (take n xs)) s =
        ap dictionary_values (take_more xs n null lt) ∙ values_grow (take n xs) s in
        let inside : n < n + 1 = omega arith in
        let here : get_or (keys_among own (take (n + 1) xs)) n 0 ≡ key_among own s =
        get_or-map (key_among own) (take (n + 1) xs) n null ∙ ap (key_among own) (get_or-take (n + 1) xs n null inside) in
        ap (λ values. key_among values s) (sym grown) ∙ sym here ∙ ap (λ keys. get_or keys n 0) (keys_first (n + 1) xs)
        ∙ get_or-take (n + 1) (keys_among (dictionary_values xs) xs) n 0 inside

    used_next_at : (xs : List Slot) (n : ℕ) → n < length xs
        → values_used (take (n + 1) (marks_of xs)) (take (n + 1) (keys_among (dictionary_values xs) xs))
        ≡ max (values_used (take n (marks_of xs)) (take n (keys_among (dictionary_values xs) xs)))
        (used_by (get_or (marks_of xs) n false) (get_or (keys_among (dictionary_values xs) xs) n 0))
    used_next_at xs n lt =
        let values = dictionary_values xs in
        used_next (marks_of xs) (keys_among values xs) n (length-map xs is_valid ∙ sym (length-map xs (key_among values)))
        (omega (arith, lt, length-map xs is_valid))

-- the values that the first slots keep
pub values_cut : (n : ℕ) (xs : List Slot) → n ≤ length xs → dictionary_values (take n xs)
    ≡ take (values_used (take n (marks_of xs)) (take n (keys_among (dictionary_values xs) xs))) (dictionary_values xs)
values_cut n xs le = values_first n xs ∙ ap (λ m. take m (dictionary_values xs)) (used_by_first xs n le)
