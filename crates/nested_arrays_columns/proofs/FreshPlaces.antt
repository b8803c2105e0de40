-- What stands at a place of the column that stores some slots: masks, values, and pieces between offsets.
use Rattle.std.proofs.Common.{◌≡◌, ◌∙◌, ℕ, zero, suc, ◌+◌, ◌-◌, ◌*◌, ◌<◌, ◌≤◌, Bool, true, false, List, [], ◌∷◌, ◌++◌, length, map, take, drop}
use Rattle.std.proofs.Common.{get_or, refl, sym, ap, arith}
use Rattle.std.specs.Prelude.{not, Some, None, if◌then◌else◌}
use Rattle.std.specs.List.{list_all, list_any, flat_map}
use Rattle.std.proofs.Math.ListN.{get_or-map}
use Rattle.std.proofs.Math.Seq.{drop-append-add, take-append_seam}
use Rattle.std.proofs.lemmas.Bool.{and_parts, or_parts, cases_Bool}
use Rattle.std.proofs.lemmas.List.{length-take-le, length-append}
use Rattle.std.proofs.lemmas.List.Folds.{length-flat_map-take}
use mathlib.Core.Logic.{inl, inr}
use Rattle.nested_arrays_columns.specs.Cells.{is_null}
use Rattle.nested_arrays_columns.specs.FreshColumns.{is_valid, mask_of, sums_from}
use Rattle.nested_arrays_columns.specs.Slots.{Slot, null, window}
use Rattle.nested_arrays_columns.specs.StoredColumns.{is_valid_at, unless_null, cut_list}
use Rattle.nested_arrays_columns.proofs.Conditions.{list_all-take}
use Rattle.nested_arrays_columns.proofs.FreshBelow.{pieces_length}

-- ---- windows

pub window_is : {A : Type 0} (f : ℕ → A) (a : ℕ) (xs : List A) (d : A) → ((i : ℕ) → i < length xs → f (a + i) ≡ get_or xs i d)
    → window f a (length xs) ≡ xs
window_is f a [] d same = refl
window_is f a (x ∷ xs) d same =
    let here : f a ≡ x = ap f (this a) ∙ same 0 (first (length xs)) in
    let rest = window_is f (a + 1) xs d (λ i lt. ap f (next a i) ∙ same (suc i) (later i (length xs) lt)) in
    λ j. here j ∷ rest j
  where
    this : (a : ℕ) → a ≡ a + 0
    this a = omega arith

    next : (a i : ℕ) → a + 1 + i ≡ a + suc i
    next a i = omega arith

    first : (n : ℕ) → 0 < suc n
    first n = omega arith

    later : (i n : ℕ) → i < n → suc i < suc n
    later i n h = omega arith

-- the values of a function at the places of a list are the list
pub by_place : {A : Type 0} (f : ℕ → A) (n : ℕ) (xs : List A) (d : A) → n ≡ length xs → ((i : ℕ) → i < length xs → f i ≡ get_or xs i d)
    → window f 0 n ≡ xs
by_place f n xs d size same = ap (window f 0) size ∙ window_is f 0 xs d (λ i lt. ap f (from_0 i) ∙ same i lt)
  where
    from_0 : (i : ℕ) → 0 + i ≡ i
    from_0 i = omega arith

at_window_from : {A : Type 0} (f : ℕ → A) (a n i : ℕ) (d : A) → i < n → get_or (window f a n) i d ≡ f (a + i)
at_window_from f a zero i d lt = absurd (omega arith)
at_window_from f a (suc n) zero d lt = ap f (omega arith)
at_window_from f a (suc n) (suc i) d lt = at_window_from f (a + 1) n i d (omega arith) ∙ ap f (omega arith)

-- what a function has at a place of the list that it makes
pub at_window : {A : Type 0} (f : ℕ → A) (n : ℕ) (xs : List A) (i : ℕ) (d : A) → window f 0 n ≡ xs → i < n → f i ≡ get_or xs i d
at_window f n xs i d same lt = ap f (omega arith) ∙ sym (at_window_from f 0 n i d lt) ∙ ap (λ ys. get_or ys i d) same

pub passes_at : {A : Type 0} (test : A → Bool) (xs : List A) (i : ℕ) (d : A) → list_all test xs ≡ true → i < length xs
    → test (get_or xs i d) ≡ true
passes_at test [] i d h lt = absurd (omega arith)
passes_at test (x ∷ xs) zero d h lt = (and_parts (test x) (list_all test xs) h).0
passes_at test (x ∷ xs) (suc i) d h lt = passes_at test xs i d (and_parts (test x) (list_all test xs) h).1 (omega arith)

-- ---- masks

not_null_at : (xs : List Slot) (i : ℕ) → list_any is_null xs ≡ false → i < length xs → is_valid (get_or xs i null) ≡ true
not_null_at [] i h lt = absurd (omega arith)
not_null_at (x ∷ xs) zero h lt = ap not (or_parts (is_null x) (list_any is_null xs) h).0
not_null_at (x ∷ xs) (suc i) h lt = not_null_at xs i (or_parts (is_null x) (list_any is_null xs) h).1 (omega arith)

-- the mask marks what isn't null
pub mark_at : (xs : List Slot) (i : ℕ) → i < length xs → is_valid_at (mask_of xs) i ≡ is_valid (get_or xs i null)
mark_at xs i lt =
    elim (cases_Bool (list_any is_null xs)) [
      | inl some ↦ ap (λ b. is_valid_at (if b then Some (map is_valid xs) else None) i) some ∙ get_or-map is_valid xs i null
      | inr none ↦ ap (λ b. is_valid_at (if b then Some (map is_valid xs) else None) i) none ∙ sym (not_null_at xs i none lt)
    ]

null_is : (slot : Slot) → is_valid slot ≡ false → null ≡ slot
null_is null h = refl
null_is _ h = absurd cc

-- what stands under the mask is the slot, where that holds of those that are not null
pub masked : (xs : List Slot) (i : ℕ) (slot : Slot) → i < length xs → (is_valid (get_or xs i null) ≡ true → slot ≡ get_or xs i null)
    → unless_null (mask_of xs) i slot ≡ get_or xs i null
masked xs i slot lt same =
    elim (cases_Bool (is_valid (get_or xs i null))) [
      | inl valid ↦ ap (λ b. if b then slot else null) (mark_at xs i lt ∙ valid) ∙ same valid
      | inr invalid ↦ ap (λ b. if b then slot else null) (mark_at xs i lt ∙ invalid) ∙ null_is (get_or xs i null) invalid
    ]

-- ---- pieces

sum_at : {A : Type 0} (piece : Slot → List A) (xs : List Slot) (sum i : ℕ) → i ≤ length xs
    → get_or (sums_from sum (map (λ x. length (piece x)) xs)) i 0 ≡ sum + length (flat_map piece (take i xs))
sum_at piece [] sum zero le = omega arith
sum_at piece [] sum (suc i) le = absurd (omega arith)
sum_at piece (x ∷ xs) sum zero le = omega arith
sum_at piece (x ∷ xs) sum (suc i) le =
    sum_at piece xs (sum + length (piece x)) i (omega arith)
    ∙ gather sum (length (piece x)) (length (flat_map piece (take i xs))) (length (piece x ++ flat_map piece (take i xs)))
    (length-append (piece x) (flat_map piece (take i xs)))
  where
    gather : (a b c d : ℕ) → d ≡ b + c → a + b + c ≡ a + d
    gather a b c d e = omega (arith, e)

-- where the piece of slot i begins, and where it ends
pub begins_at : {A : Type 0} (piece : Slot → List A) (xs : List Slot) (i : ℕ) → i ≤ length xs
    → get_or (sums_from 0 (map (λ x. length (piece x)) xs)) i 0 ≡ length (flat_map piece (take i xs))
begins_at piece xs i le = sum_at piece xs 0 i le ∙ none (length (flat_map piece (take i xs)))
  where
    none : (n : ℕ) → 0 + n ≡ n
    none n = omega arith

one_more_piece : {A : Type 0} (piece : Slot → List A) (xs : List Slot) (i : ℕ) → i < length xs
    → length (flat_map piece (take (suc i) xs)) ≡ length (flat_map piece (take i xs)) + length (piece (get_or xs i null))
one_more_piece piece [] i lt = absurd (omega arith)
one_more_piece piece (x ∷ xs) zero lt = length-append (piece x) [] ∙ omega arith
one_more_piece piece (x ∷ xs) (suc i) lt =
    length-append (piece x) (flat_map piece (take (suc i) xs))
    ∙ ap (λ n. length (piece x) + n) (one_more_piece piece xs i (omega arith))
    ∙ gather (length (piece x)) (length (flat_map piece (take i xs))) (length (piece (get_or xs i null)))
    (length (piece x ++ flat_map piece (take i xs))) (length-append (piece x) (flat_map piece (take i xs)))
  where
    gather : (a b c d : ℕ) → d ≡ a + b → a + (b + c) ≡ d + c
    gather a b c d e = omega (arith, e)

pub ends_at : {A : Type 0} (piece : Slot → List A) (xs : List Slot) (i : ℕ) → i < length xs
    → get_or (sums_from 0 (map (λ x. length (piece x)) xs)) (i + 1) 0
    ≡ length (flat_map piece (take i xs)) + length (piece (get_or xs i null))
ends_at piece xs i lt =
    ap (λ k. get_or (sums_from 0 (map (λ x. length (piece x)) xs)) k 0) (next i) ∙ begins_at piece xs (suc i) (omega arith)
    ∙ one_more_piece piece xs i lt
  where
    next : (i : ℕ) → i + 1 ≡ suc i
    next i = omega arith

piece_first : {A : Type 0} (piece : Slot → List A) (xs : List Slot) (i : ℕ) → i < length xs
    → drop (length (flat_map piece (take i xs))) (flat_map piece xs) ≡ piece (get_or xs i null) ++ flat_map piece (drop (suc i) xs)
piece_first piece [] i lt = absurd (omega arith)
piece_first piece (x ∷ xs) zero lt = none (piece x ++ flat_map piece xs)
  where
    none : {A : Type 0} (ys : List A) → drop 0 ys ≡ ys
    none [] = refl
    none (y ∷ ys) = refl
piece_first piece (x ∷ xs) (suc i) lt =
    ap (λ n. drop n (piece x ++ flat_map piece xs)) (length-append (piece x) (flat_map piece (take i xs)))
    ∙ drop-append-add (piece x) (flat_map piece xs) (length (flat_map piece (take i xs)))
    ∙ piece_first piece xs i (omega arith)

-- the piece of slot i among all
pub piece_at : {A : Type 0} (piece : Slot → List A) (xs : List Slot) (i : ℕ) → i < length xs
    → cut_list (flat_map piece xs) (length (flat_map piece (take i xs))) (length (piece (get_or xs i null))) ≡ piece (get_or xs i null)
piece_at piece xs i lt =
    let own = piece (get_or xs i null) in
    let before : ℕ = length (flat_map piece (take i xs)) in
    ap (λ n. take n (drop before (flat_map piece xs))) (less before (length own))
    ∙ ap (take (length own)) (piece_first piece xs i lt)
    ∙ take-append_seam own (flat_map piece (drop (suc i) xs))
  where
    less : (a b : ℕ) → a + b - a ≡ b
    less a b = omega arith

-- pieces of one size
pub size_at : {A : Type 0} (test : Slot → Bool) (piece : Slot → List A) (size : ℕ)
    → ((slot : Slot) → test slot ≡ true → length (piece slot) ≡ size) → (xs : List Slot) (i : ℕ) → list_all test xs ≡ true → i < length xs
    → length (flat_map piece (take i xs)) ≡ size * i
size_at test piece size each xs i h lt =
    pieces_length test piece size each (take i xs) (list_all-take test i xs h) ∙ ap (λ n. size * n) (length-take-le i xs (omega arith))

-- the pieces up to slot i are not more than all
pub piece_inside : {A : Type 0} (piece : Slot → List A) (xs : List Slot) (i : ℕ) → i < length xs
    → length (flat_map piece (take i xs)) + length (piece (get_or xs i null)) ≤ length (flat_map piece xs)
piece_inside piece xs i lt = length-flat_map-take piece xs i null lt
