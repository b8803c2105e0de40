-- Pieces that slots bring, joined, and the offsets between them: of slots with one more, and of the first ones.
use Rattle.std.proofs.Common.{◌≡◌, ◌∙◌, ℕ, zero, suc, ◌+◌, ◌*◌, ◌≤◌, List, [], ◌∷◌, ◌++◌, length, map, take, drop, Bool, true, refl, sym}
use Rattle.std.proofs.Common.{ap, arith, length-append}
use Rattle.std.specs.Prelude.{sum}
use Rattle.std.specs.List.{flat_map, list_all}
use Rattle.std.proofs.lemmas.Grind.{flat_map-append}
use Rattle.std.proofs.lemmas.List.{append-nil, map-append, take_at, take-append-drop, length-take-le, take-map}
use Rattle.std.proofs.lemmas.List.Concat.{length-flat_map}
use Rattle.std.proofs.lemmas.List.Folds.{fold-map}
use Rattle.nested_arrays_columns.specs.columnar_memory.Spans.{Spans, offsets_of, offset_at, last_of, extended, first_spans}
use Rattle.nested_arrays_columns.specs.Children.{items_of, joined_items}
use Rattle.nested_arrays_columns.specs.FreshColumns.{content_of, content_offsets, item_offsets, sums_from}
use Rattle.nested_arrays_columns.specs.Slots.{Slot, slot_list, in_slots}
use Rattle.nested_arrays_columns.proofs.Conditions.{list_all-take}
use Rattle.nested_arrays_columns.proofs.FreshBelow.{pieces_length}
use Rattle.nested_arrays_columns.specs.OpenParts.{content_spans, item_spans}

-- ---- sums

-- offsets are the sums of lengths
pub offsets_are_sums : (start : ℕ) (ls : List ℕ) → offsets_of (record { start = start; lengths = ls }) ≡ sums_from start ls
offsets_are_sums start [] = refl
offsets_are_sums start (l ∷ ls) = ap (λ rest. start ∷ rest) (offsets_are_sums (start + l) ls)

pub sums_cut : (start n : ℕ) (ls : List ℕ) → sums_from start (take n ls) ≡ take (suc n) (sums_from start ls)
sums_cut start zero [] = refl
sums_cut start zero (l ∷ ls) = refl
sums_cut start (suc n) [] = refl
sums_cut start (suc n) (l ∷ ls) = ap (λ rest. start ∷ rest) (sums_cut (start + l) n ls)

module _ {A : Type 0} (piece : Slot → List A) where
  abbrev pub lengths_in : List Slot → List ℕ
  lengths_in xs = map (λ x. length (piece x)) xs

  abbrev pub offsets_in : List Slot → List ℕ
  offsets_in xs = sums_from 0 (lengths_in xs)

  abbrev pub spans_in : List Slot → Spans
  spans_in xs = record { start = 0; lengths = lengths_in xs }

  -- ---- one more

  pub joined_one_more : (xs : List Slot) (s : Slot) → flat_map piece (xs ++ s ∷ []) ≡ flat_map piece xs ++ piece s
  joined_one_more xs s = flat_map-append piece xs (s ∷ []) ∙ ap (λ ys. flat_map piece xs ++ ys) (append-nil (piece s))

  pub joined_length_one_more : (xs : List Slot) (s : Slot)
      → length (flat_map piece (xs ++ s ∷ [])) ≡ length (flat_map piece xs) + length (piece s)
  joined_length_one_more xs s = ap length (joined_one_more xs s) ∙ length-append (flat_map piece xs) (piece s)

  pub lengths_one_more : (xs : List Slot) (s : Slot) → lengths_in (xs ++ s ∷ []) ≡ lengths_in xs ++ length (piece s) ∷ []
  lengths_one_more xs s = map-append (λ x. length (piece x)) xs (s ∷ [])

  pub spans_one_more : (xs : List Slot) (s : Slot) → spans_in (xs ++ s ∷ []) ≡ extended (spans_in xs) (length (piece s) ∷ [])
  spans_one_more xs s = λ j. record { start = 0; lengths = lengths_one_more xs s j }

  sums_one_more : (start : ℕ) (xs : List Slot) (s : Slot)
      → sums_from start (lengths_in (xs ++ s ∷ [])) ≡ sums_from start (lengths_in xs) ++ (start + length (flat_map piece xs) + length (piece s)) ∷ []
  sums_one_more start [] s =
      let none : start + length (piece s) ≡ start + 0 + length (piece s) = omega arith in
      ap (λ n. start ∷ n ∷ []) none
  sums_one_more start (x ∷ xs) s =
      let all = length-append (piece x) (flat_map piece xs) in
      let end : start + length (piece x) + length (flat_map piece xs) + length (piece s)
      ≡ start + length (piece x ++ flat_map piece xs) + length (piece s) = omega (arith, all) in
      ap (λ rest. start ∷ rest) (sums_one_more (start + length (piece x)) xs s)
      ∙ ap (λ n. start ∷ (sums_from (start + length (piece x)) (lengths_in xs) ++ n ∷ [])) end

  pub offsets_one_more : (xs : List Slot) (s : Slot)
      → offsets_in (xs ++ s ∷ []) ≡ offsets_in xs ++ (length (flat_map piece xs) + length (piece s)) ∷ []
  offsets_one_more xs s =
      let none : 0 + length (flat_map piece xs) + length (piece s) ≡ length (flat_map piece xs) + length (piece s) = omega arith in
      sums_one_more 0 xs s ∙ ap (λ n. offsets_in xs ++ n ∷ []) none

  -- the last offset is the length of all
  pub last_span : (xs : List Slot) → last_of (spans_in xs) ≡ length (flat_map piece xs)
  last_span xs =
      let total : sum (lengths_in xs) ≡ length (flat_map piece xs) =
      fold-map (λ a x. a + x) (λ x. length (piece x)) 0 xs ∙ sym (length-flat_map piece xs) in
      let none : 0 + sum (lengths_in xs) ≡ sum (lengths_in xs) = omega arith in
      none ∙ total

  -- ---- the first ones

  -- what the first slots bring comes first
  pub joined_splits : (n : ℕ) (xs : List Slot) → flat_map piece xs ≡ flat_map piece (take n xs) ++ flat_map piece (drop n xs)
  joined_splits n xs = ap (flat_map piece) (sym (take-append-drop n xs)) ∙ flat_map-append piece (take n xs) (drop n xs)

  pub joined_cut : (n : ℕ) (xs : List Slot) → flat_map piece (take n xs) ≡ take (length (flat_map piece (take n xs))) (flat_map piece xs)
  joined_cut n xs =
      let first = flat_map piece (take n xs) in
      sym (ap (take (length first)) (joined_splits n xs) ∙ take_at first (flat_map piece (drop n xs)) (length first) refl)

  pub joined_cut_length : (n : ℕ) (xs : List Slot) → length (flat_map piece (take n xs)) ≤ length (flat_map piece xs)
  joined_cut_length n xs =
      let first = flat_map piece (take n xs) in
      let rest = flat_map piece (drop n xs) in
      omega (arith, ap length (joined_splits n xs), length-append first rest)

  pub lengths_cut : (n : ℕ) (xs : List Slot) → lengths_in (take n xs) ≡ take n (lengths_in xs)
  lengths_cut n xs = sym (take-map (λ x. length (piece x)) n xs)

  pub spans_cut : (n : ℕ) (xs : List Slot) → spans_in (take n xs) ≡ first_spans (spans_in xs) n
  spans_cut n xs = λ j. record { start = 0; lengths = lengths_cut n xs j }

  pub offsets_cut : (n : ℕ) (xs : List Slot) → offsets_in (take n xs) ≡ take (suc n) (offsets_in xs)
  offsets_cut n xs = ap (sums_from 0) (lengths_cut n xs) ∙ sums_cut 0 n (lengths_in xs)

  -- where the first ones end
  pub span_at : (n : ℕ) (xs : List Slot) → offset_at (spans_in xs) n ≡ length (flat_map piece (take n xs))
  span_at n xs = ap (λ ls. 0 + sum ls) (sym (lengths_cut n xs)) ∙ last_span (take n xs)

  -- the joined pieces of the first ones end at their offset
  pub joined_cut_at : (n : ℕ) (xs : List Slot) → flat_map piece (take n xs) ≡ take (offset_at (spans_in xs) n) (flat_map piece xs)
  joined_cut_at n xs = joined_cut n xs ∙ ap (λ m. take m (flat_map piece xs)) (sym (span_at n xs))

  -- ---- pieces of one size

  module _ (test : Slot → Bool) (size : ℕ) (each : (slot : Slot) → test slot ≡ true → length (piece slot) ≡ size) where
    pub sized_length : (xs : List Slot) → list_all test xs ≡ true → length (flat_map piece xs) ≡ size * length xs
    sized_length xs fits = pieces_length test piece size each xs fits

    pub sized_cut : (n : ℕ) (xs : List Slot) → list_all test xs ≡ true → n ≤ length xs
        → flat_map piece (take n xs) ≡ take (size * n) (flat_map piece xs)
    sized_cut n xs fits le =
        let long = pieces_length test piece size each (take n xs) (list_all-take test n xs fits) ∙ ap (λ m. size * m) (length-take-le n xs le) in
        joined_cut n xs ∙ ap (λ m. take m (flat_map piece xs)) long

-- ---- items and bytes

-- slots that stand in a list or a struct, read back
pub listed : (ys : List Slot) → slot_list (in_slots ys) ≡ ys
listed [] = refl
listed (y ∷ ys) = ap (λ rest. y ∷ rest) (listed ys)

pub item_spans_are : (xs : List Slot) → offsets_of (item_spans xs) ≡ item_offsets xs
item_spans_are xs = offsets_are_sums 0 (map (λ x. length (items_of x)) xs)

pub item_spans_one_more : (xs : List Slot) (s : Slot) → item_spans (xs ++ s ∷ []) ≡ extended (item_spans xs) (length (items_of s) ∷ [])
item_spans_one_more xs s = spans_one_more items_of xs s

pub item_spans_last : (xs : List Slot) → last_of (item_spans xs) ≡ length (joined_items xs)
item_spans_last xs = last_span items_of xs

pub item_spans_cut : (n : ℕ) (xs : List Slot) → item_spans (take n xs) ≡ first_spans (item_spans xs) n
item_spans_cut n xs = spans_cut items_of n xs

pub item_span_at : (n : ℕ) (xs : List Slot) → offset_at (item_spans xs) n ≡ length (joined_items (take n xs))
item_span_at n xs = span_at items_of n xs

pub content_spans_are : (xs : List Slot) → offsets_of (content_spans xs) ≡ content_offsets xs
content_spans_are xs = offsets_are_sums 0 (map (λ x. length (content_of x)) xs)

pub content_spans_one_more : (xs : List Slot) (s : Slot)
    → content_spans (xs ++ s ∷ []) ≡ extended (content_spans xs) (length (content_of s) ∷ [])
content_spans_one_more xs s = spans_one_more content_of xs s

pub content_spans_last : (xs : List Slot) → last_of (content_spans xs) ≡ length (flat_map content_of xs)
content_spans_last xs = last_span content_of xs

pub content_spans_cut : (n : ℕ) (xs : List Slot) → content_spans (take n xs) ≡ first_spans (content_spans xs) n
content_spans_cut n xs = spans_cut content_of n xs

pub content_span_at : (n : ℕ) (xs : List Slot) → offset_at (content_spans xs) n ≡ length (flat_map content_of (take n xs))
content_span_at n xs = span_at content_of n xs
