-- What follows from fitting: lengths within their limit, the first ones, and what does not fit with more behind.
use Rattle.std.proofs.Common.{◌≡◌, ◌∙◌, ℕ, ◌+◌, ◌≤◌, List, [], ◌∷◌, ◌++◌, length, map, take, drop, Bool, true, false, refl, sym, ap}
use Rattle.std.proofs.Common.{length-append}
use Rattle.std.specs.Prelude.{◌&&◌, nat_le, sum_by}
use Rattle.std.specs.List.{flat_map, list_all}
use Rattle.std.proofs.lemmas.Bool.{and_parts, leb-true, false≢true, false_from_ne_true}
use Rattle.std.proofs.lemmas.List.{take-append-drop, length_push}
use Rattle.std.proofs.lemmas.List.Folds.{list_all-append}
use Rattle.std.proofs.lemmas.List.Sums.{sum_by-cons}
use Rattle.nested_arrays_columns.specs.columnar_memory.declared.DataType.{DataType, map-DataType}
use Rattle.nested_arrays_columns.specs.columnar_memory.declared.DataType.TheOpen as layer
use Rattle.nested_arrays_columns.specs.Cells.{fits_cell}
use Rattle.nested_arrays_columns.specs.FreshColumns.{content_of}
use Rattle.nested_arrays_columns.specs.Kinds.{most_slots, most_values}
use Rattle.nested_arrays_columns.specs.Children.{joined_items, joined_fixed_items, dictionary_values}
use Rattle.nested_arrays_columns.specs.OpenBatch.{byte_count, most_short, most_long, is_length, fields_within, within_step, is_within, fits}
use Rattle.nested_arrays_columns.specs.Slots.{Slot, text, bytes}
use Rattle.nested_arrays_columns.proofs.Fitting.{beginnings_fit}
use Rattle.nested_arrays_columns.proofs.Folds.{fold_keeps}

-- ---- beginnings

-- what does not fit does not with more behind
pub fits_not_with_more : (t : DataType) (xs ys : List Slot) → fits t xs ≡ false → fits t (xs ++ ys) ≡ false
fits_not_with_more t xs ys unfit = false_from_ne_true (fits t (xs ++ ys)) (λ h. false≢true (sym unfit ∙ beginnings_fit t xs ys h))

-- the first ones of what fits fit
pub first_ones_fit : (t : DataType) (n : ℕ) (xs : List Slot) → fits t xs ≡ true → fits t (take n xs) ≡ true
first_ones_fit t n xs h = beginnings_fit t (take n xs) (drop n xs) (ap (fits t) (take-append-drop n xs) ∙ h)

-- each of what fits fits by itself
pub fits_each : (t : DataType) (xs : List Slot) → fits t xs ≡ true → list_all (fits_cell t) xs ≡ true
fits_each t xs h = (and_parts (list_all (fits_cell t) xs) (is_within t xs) h).0

-- ---- lengths

abbrev Bounded : (List Slot → Bool) → Type 0
Bounded test = (xs : List Slot) → test xs ≡ true → is_length xs ≡ true

abbrev Bounding : Type 0
Bounding = (test : List Slot → Bool) × Bounded test

first_of_2 : (a b : Bool) → (a && b) ≡ true → a ≡ true
first_of_2 a b h = (and_parts a b h).0

first_of_3 : (a b c : Bool) → (a && b && c) ≡ true → a ≡ true
first_of_3 a b c h = first_of_2 a b (first_of_2 (a && b) c h)

bounded_step : (z : layer.DataType-F Bounding Bounding)
    → Bounded (within_step (map-DataType Bounding Bounding (List Slot → Bool) (List Slot → Bool) (λ e. e.0) (λ e. e.0) z))
bounded_step layer.Binary = λ xs h. first_of_2 (is_length xs) (nat_le (sum_by byte_count xs) most_short) h
bounded_step layer.Utf8 = λ xs h. first_of_2 (is_length xs) (nat_le (sum_by byte_count xs) most_short) h
bounded_step layer.LargeBinary = λ xs h. first_of_2 (is_length xs) (nat_le (sum_by byte_count xs) most_long) h
bounded_step layer.LargeUtf8 = λ xs h. first_of_2 (is_length xs) (nat_le (sum_by byte_count xs) most_long) h
bounded_step (layer.List item) =
    λ xs h. first_of_3 (is_length xs) (nat_le (length (joined_items xs)) most_short) (item.0 (joined_items xs)) h
bounded_step (layer.Map entry is_sorted) =
    λ xs h. first_of_3 (is_length xs) (nat_le (length (joined_items xs)) most_short) (entry.0 (joined_items xs)) h
bounded_step (layer.LargeList item) =
    λ xs h. first_of_3 (is_length xs) (nat_le (length (joined_items xs)) most_long) (item.0 (joined_items xs)) h
bounded_step (layer.FixedSizeList item size) = λ xs h. first_of_2 (is_length xs) (item.0 (joined_fixed_items size xs)) h
bounded_step (layer.Struct children) = λ xs h. first_of_2 (is_length xs) (fields_within (map (λ (e : Bounding). e.0) children) xs 0) h
bounded_step (layer.Dictionary key value is_ordered) =
    λ xs h. first_of_3 (is_length xs) (nat_le (length (dictionary_values xs)) (most_values key)) (value.0 (dictionary_values xs)) h
bounded_step (layer.Extension name inner metadata) = inner.1
bounded_step _ = λ xs h. h

within_bounded : (t : DataType) → Bounded (is_within t)
within_bounded = fold_keeps within_step (λ field. field.data_type) Bounded Bounded bounded_step (λ z. z.data_type.1)

-- no more slots fit than an array may have
pub fits_length : (t : DataType) (xs : List Slot) → fits t xs ≡ true → length xs ≤ most_slots
fits_length t xs h =
    leb-true (length xs) most_slots (within_bounded t xs (and_parts (list_all (fits_cell t) xs) (is_within t xs) h).1)

-- ---- tests of slots with one more

and_true : (b : Bool) → (b && true) ≡ b
and_true true = refl
and_true false = refl

pub all_one_more : {A : Type 0} (test : A → Bool) (xs : List A) (s : A) → list_all test xs ≡ true → list_all test (xs ++ s ∷ []) ≡ test s
all_one_more test xs s h = list_all-append test xs (s ∷ []) ∙ ap (λ b. b && (test s && true)) h ∙ and_true (test s)

pub length_one_more : (xs : List Slot) (s : Slot) → is_length (xs ++ s ∷ []) ≡ nat_le (length xs + 1) most_slots
length_one_more xs s = ap (λ n. nat_le n most_slots) (length_push xs s)

-- the bytes of texts and bytes are those that are stored
own_bytes : (x : Slot) → byte_count x ≡ length (content_of x)
own_bytes (text content) = refl
own_bytes (bytes content) = refl
own_bytes _ = refl

pub bytes_counted : (xs : List Slot) → sum_by byte_count xs ≡ length (flat_map content_of xs)
bytes_counted [] = refl
bytes_counted (x ∷ xs) =
    sum_by-cons byte_count x xs ∙ (λ j. own_bytes x j + bytes_counted xs j) ∙ sym (length-append (content_of x) (flat_map content_of xs))
