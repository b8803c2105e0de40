-- The parts of the column that stores some slots are sound: masks, offsets, values and keys.
use Rattle.std.proofs.Common.{◌≡◌, ◌∙◌, ℕ, zero, suc, ◌+◌, ◌-◌, ◌*◌, ◌/◌, ◌<◌, ◌≤◌, Bool, true, List, [], ◌∷◌, length, map}
use Rattle.std.proofs.Common.{get_or, replicate, refl, sym, ap, arith, ◌==◌, min, length-append}
use Rattle.std.specs.Prelude.{ℤ, pos, ◌^◌, ◌&&◌, not, nat_le, nat_lt, int_le, Some, None, if◌then◌else◌, sum_by, slice_index}
use Rattle.std.specs.List.{list_all, list_any, flat_map}
use Rattle.std.specs.Str.{is_utf8}
use Rattle.std.proofs.Math.ListN.{get_or-map}
use Rattle.std.proofs.lemmas.Bool.{and_parts, and_from, or_left, or_right, cases_Bool, le-leb, leb-true, lt-ltb, eq-eqb}
use Rattle.std.proofs.lemmas.List.{length-map}
use Rattle.std.proofs.lemmas.List.Folds.{list_all-map}
use Rattle.std.proofs.lemmas.List.Sums.{sum_by-cons}
use Rattle.std.proofs.lemmas.Str.{is_utf8-from_IsUtf8}
use mathlib.Core.Logic.{inl, inr}
use Rattle.columnar_memory_core.specs.declared.IntegerType.{IntegerType}
use Rattle.columnar_memory_core.specs.declared.IntegerType.TheVariants as integers
use Rattle.columnar_memory_core.specs.declared.PhysicalType.{PhysicalType}
use Rattle.columnar_memory_core.specs.declared.PrimitiveType.{PrimitiveType}
use Rattle.columnar_memory_core.specs.declared.PrimitiveType.TheVariants as kinds
use Rattle.nested_arrays_columns.specs.Cells.{is_null, is_number_of, is_days_and_ms, is_months_days_and_ns, is_text, is_bytes, is_bytes_of}
use Rattle.nested_arrays_columns.specs.Children.{dictionary_values}
use Rattle.nested_arrays_columns.specs.FreshColumns.{is_valid, number_of, pair_of, triple_of, content_of, fixed_content_of, key_among, mask_of}
use Rattle.nested_arrays_columns.specs.FreshColumns.{sums_from}
use Rattle.nested_arrays_columns.specs.FreshColumns.{content_offsets}
use Rattle.nested_arrays_columns.specs.Kinds.{is_signed, in_kind, same_kind, is_key, most_values, most_offset}
use Rattle.nested_arrays_columns.specs.OpenBatch.{byte_count, is_length, bytes_within}
use Rattle.nested_arrays_columns.specs.SameSlots.{is_among}
use Rattle.nested_arrays_columns.specs.Slots.{Slot, null, number, pair, triple, text, bytes}
use Rattle.nested_arrays_columns.specs.SoundColumns.{holds_below, is_byte, mask_fits, rises_at, are_offsets, are_strings, is_text_at, are_pairs}
use Rattle.nested_arrays_columns.specs.SoundColumns.{are_triples, are_pieces, has_value_at}
use Rattle.nested_arrays_columns.specs.StoredColumns.{place_of, is_valid_at}
use Rattle.nested_arrays_columns.proofs.Conditions.{holds_from, parts_of_3}
use Rattle.nested_arrays_columns.proofs.FreshBelow.{joined_passes}
use Rattle.nested_arrays_columns.proofs.FreshKeys.{implied, all_among, key_below}
use Rattle.nested_arrays_columns.proofs.FreshLengths.{sums_length, offsets_count, of_size}
use Rattle.nested_arrays_columns.proofs.FreshPlaces.{passes_at, mark_at, begins_at, ends_at}
use Rattle.nested_arrays_columns.proofs.FreshSlots.{string_is}
use Rattle.nested_arrays_columns.proofs.SameSlotsDecide.{same_kind-implies}
use Rattle.nested_arrays_columns.proofs.TextBytes.{text_bytes}

-- ---- masks

pub mask_sound : (xs : List Slot) (n : ℕ) → n ≡ length xs → mask_fits (mask_of xs) n ≡ true
mask_sound xs n size =
    elim (cases_Bool (list_any is_null xs)) [
      | inl some ↦ ap (λ b. mask_fits (if b then Some (map is_valid xs) else None) n) some
          ∙ eq-eqb (length (map is_valid xs)) n (length-map xs is_valid ∙ sym size)
      | inr none ↦ ap (λ b. mask_fits (if b then Some (map is_valid xs) else None) n) none
    ]

-- ---- offsets

sums_within : {A : Type 0} (piece : Slot → List A) (xs : List Slot) (sum limit : ℕ) → sum + length (flat_map piece xs) ≤ limit
    → list_all (λ offset. nat_le offset limit) (sums_from sum (map (λ x. length (piece x)) xs)) ≡ true
sums_within piece [] sum limit h = and_from (nat_le sum limit) true (le-leb sum limit (omega (arith, h))) refl
sums_within piece (x ∷ xs) sum limit h =
    let long = length-append (piece x) (flat_map piece xs) in
    and_from (nat_le sum limit) (list_all (λ offset. nat_le offset limit) (sums_from (sum + length (piece x)) (map (λ x. length (piece x)) xs)))
    (le-leb sum limit (omega (arith, h)))
    (sums_within piece xs (sum + length (piece x)) limit (omega (arith, h, long)))

pub offsets_sound : {A : Type 0} (piece : Slot → List A) (xs : List Slot) (limit : ℕ) → length (flat_map piece xs) ≤ limit
    → are_offsets (sums_from 0 (map (λ x. length (piece x)) xs)) limit ≡ true
offsets_sound piece xs limit h =
    let offsets : List ℕ = sums_from 0 (map (λ x. length (piece x)) xs) in
    let size = offsets_count (λ x. length (piece x)) xs in
    and_from (nat_le 1 (length offsets) && holds_below (length offsets - 1) (rises_at offsets)) (list_all (λ offset. nat_le offset limit) offsets)
    (and_from (nat_le 1 (length offsets)) (holds_below (length offsets - 1) (rises_at offsets))
    (le-leb 1 (length offsets) (omega (arith, sums_length 0 (map (λ x. length (piece x)) xs))))
    (holds_from (length offsets - 1) (rises_at offsets) (λ i lt. rises i (omega (arith, lt, size)))))
    (sums_within piece xs 0 limit (omega (arith, h)))
  where
    rises : (i : ℕ) → i < length xs → rises_at (sums_from 0 (map (λ x. length (piece x)) xs)) i ≡ true
    rises i lt =
        let offsets : List ℕ = sums_from 0 (map (λ x. length (piece x)) xs) in
        le-leb (slice_index offsets i) (slice_index offsets (i + 1))
        (omega (arith, begins_at piece xs i (omega (arith, lt)), ends_at piece xs i lt))

-- ---- texts and bytes

counted : (xs : List Slot) → sum_by byte_count xs ≡ length (flat_map content_of xs)
counted [] = refl
counted (x ∷ xs) =
    sum_by-cons byte_count x xs ∙ (λ j. own x j + counted xs j) ∙ sym (length-append (content_of x) (flat_map content_of xs))
  where
    own : (x : Slot) → byte_count x ≡ length (content_of x)
    own (text content) = refl
    own (bytes content) = refl
    own _ = refl

-- a column of strings whose bytes are within a limit that its layout has
pub strings_sound : (layout : PhysicalType) (limit : ℕ) → most_offset layout ≡ limit → (test : Slot → Bool)
    → ((x : Slot) → test x ≡ true → list_all is_byte (content_of x) ≡ true) → (xs : List Slot) → list_all test xs ≡ true
    → bytes_within limit xs ≡ true → are_strings layout (content_offsets xs) (flat_map content_of xs) ≡ true
strings_sound layout limit most test each xs fits within =
    let content : List ℕ = flat_map content_of xs in
    let few : sum_by byte_count xs ≤ limit = leb-true (sum_by byte_count xs) limit (and_parts (is_length xs) (nat_le
    (sum_by byte_count xs) limit) within).1 in
    and_from (are_offsets (content_offsets xs) (min (most_offset layout) (length content))) (list_all is_byte content)
    (offsets_sound content_of xs (min (most_offset layout) (length content)) (to_min (length content) (most_offset layout)
    (omega (arith, few, counted xs, most))))
    (joined_passes test is_byte content_of each xs fits)
  where
    to_min : (n m : ℕ) → n ≤ m → n ≤ min m n
    to_min n m h = omega (arith, h)

pub text_is_bytes : (x : Slot) → is_text x ≡ true → list_all is_byte (content_of x) ≡ true
text_is_bytes null h = refl
text_is_bytes (text content) h = text_bytes content h
text_is_bytes _ h = absurd cc

pub bytes_are_bytes : (x : Slot) → is_bytes x ≡ true → list_all is_byte (content_of x) ≡ true
bytes_are_bytes null h = refl
bytes_are_bytes (bytes content) h = h
bytes_are_bytes _ h = absurd cc

text_is_text : (x : Slot) → is_text x ≡ true → is_utf8 (content_of x) ≡ true
text_is_text null h = is_utf8-from_IsUtf8 [] ([], (refl, refl))
text_is_text (text content) h = h
text_is_text _ h = absurd cc

pub texts_sound : (xs : List Slot) → list_all is_text xs ≡ true
    → holds_below (length (content_offsets xs) - 1) (is_text_at (content_offsets xs) (flat_map content_of xs)) ≡ true
texts_sound xs fits =
    holds_from (length (content_offsets xs) - 1) (is_text_at (content_offsets xs) (flat_map content_of xs))
    (λ i lt. at_place i (omega (arith, lt, offsets_count (λ x. length (content_of x)) xs)))
  where
    at_place : (i : ℕ) → i < length xs → is_text_at (content_offsets xs) (flat_map content_of xs) i ≡ true
    at_place i lt = ap is_utf8 (string_is xs i lt) ∙ text_is_text (get_or xs i null) (passes_at is_text xs i null fits lt)

zeros_are_bytes : (n : ℕ) → list_all is_byte (replicate n 0) ≡ true
zeros_are_bytes zero = refl
zeros_are_bytes (suc n) = zeros_are_bytes n

pub fixed_is_bytes : (size : ℕ) (x : Slot) → is_bytes_of size x ≡ true → list_all is_byte (fixed_content_of size x) ≡ true
fixed_is_bytes size null h = zeros_are_bytes size
fixed_is_bytes size (bytes content) h = (and_parts (length content == size) (list_all is_byte content) h).1
fixed_is_bytes size _ h = absurd cc

-- so many pieces of a size
pub pieces_sound : (size n k : ℕ) → nat_le 1 size ≡ true → n ≡ size * k → are_pieces size n ≡ true
pieces_sound size n k at_least e =
    and_from (nat_le 1 size) (size * (n / size) == n) at_least
    (eq-eqb (size * (n / size)) n (ap (λ m. size * m) (of_size size n k at_least e) ∙ sym e))

-- ---- numbers

pub numbers_sound : (kind : PrimitiveType) → in_kind kind (pos 0) ≡ true → (xs : List Slot) → list_all (is_number_of kind) xs ≡ true
    → list_all (in_kind kind) (map number_of xs) ≡ true
numbers_sound kind zero_fits xs fits =
    list_all-map (in_kind kind) number_of xs ∙ implied (is_number_of kind) (λ x. in_kind kind (number_of x)) each xs fits
  where
    each : (x : Slot) → is_number_of kind x ≡ true → in_kind kind (number_of x) ≡ true
    each null h = zero_fits
    each (number own n) h =
        let parts = and_parts (same_kind kind own) (in_kind own n) h in ap (λ k. in_kind k n) (same_kind-implies kind own parts.0) ∙ parts.1
    each _ h = absurd cc

pub pairs_sound : (xs : List Slot) → list_all is_days_and_ms xs ≡ true → are_pairs (map pair_of xs) ≡ true
pairs_sound xs fits =
    list_all-map (λ (v : ℤ × ℤ). is_signed 32 v.0 && is_signed 32 v.1) pair_of xs
    ∙ implied is_days_and_ms (λ x. is_signed 32 (pair_of x).0 && is_signed 32 (pair_of x).1) each xs fits
  where
    each : (x : Slot) → is_days_and_ms x ≡ true → (is_signed 32 (pair_of x).0 && is_signed 32 (pair_of x).1) ≡ true
    each null h = refl
    each (pair own days ms) h =
        let parts = parts_of_3 (same_kind kinds.DaysMs own) (is_signed 32 days) (is_signed 32 ms) h in
        and_from (is_signed 32 days) (is_signed 32 ms) parts.1 parts.2
    each _ h = absurd cc

pub triples_sound : (xs : List Slot) → list_all is_months_days_and_ns xs ≡ true → are_triples (map triple_of xs) ≡ true
triples_sound xs fits =
    list_all-map (λ (v : ℤ × ℤ × ℤ). is_signed 32 v.0 && is_signed 32 v.1 && is_signed 64 v.2) triple_of xs
    ∙ implied is_months_days_and_ns (λ x. is_signed 32 (triple_of x).0 && is_signed 32 (triple_of x).1 && is_signed 64 (triple_of x).2) each xs fits
  where
    each : (x : Slot) → is_months_days_and_ns x ≡ true
        → (is_signed 32 (triple_of x).0 && is_signed 32 (triple_of x).1 && is_signed 64 (triple_of x).2) ≡ true
    each null h = refl
    each (triple own months days ns) h =
        let outer = and_parts (same_kind kinds.MonthDayNano own && is_signed 32 months && is_signed 32 days) (is_signed 64 ns) h in
        let parts = parts_of_3 (same_kind kinds.MonthDayNano own) (is_signed 32 months) (is_signed 32 days) outer.0 in
        and_from (is_signed 32 months && is_signed 32 days) (is_signed 64 ns)
        (and_from (is_signed 32 months) (is_signed 32 days) parts.1 parts.2) outer.1
    each _ h = absurd cc

-- ---- keys

key_fits : (key : IntegerType) (k n : ℕ) → k < n → n ≤ most_values key → is_key key (pos k) ≡ true
key_fits integers.Int8 k n h g = lt-ltb k (2 ^ 7) (omega (arith, h, g))
key_fits integers.Int16 k n h g = lt-ltb k (2 ^ 15) (omega (arith, h, g))
key_fits integers.Int32 k n h g = lt-ltb k (2 ^ 31) (omega (arith, h, g))
key_fits integers.Int64 k n h g = lt-ltb k (2 ^ 63) (omega (arith, h, g))
key_fits integers.UInt8 k n h g = lt-ltb k (2 ^ 8) (omega (arith, h, g))
key_fits integers.UInt16 k n h g = lt-ltb k (2 ^ 16) (omega (arith, h, g))
key_fits integers.UInt32 k n h g = lt-ltb k (2 ^ 32) (omega (arith, h, g))
key_fits integers.UInt64 k n h g = lt-ltb k (2 ^ 64) (omega (arith, h, g))

zero_fits : (key : IntegerType) → is_key key (pos 0) ≡ true
zero_fits integers.Int8 = refl
zero_fits integers.Int16 = refl
zero_fits integers.Int32 = refl
zero_fits integers.Int64 = refl
zero_fits integers.UInt8 = refl
zero_fits integers.UInt16 = refl
zero_fits integers.UInt32 = refl
zero_fits integers.UInt64 = refl

abbrev pub keys_of : List Slot → List ℤ
keys_of xs = map (λ x. pos (key_among (dictionary_values xs) x)) xs

pub keys_fit : (key : IntegerType) (xs : List Slot) → length (dictionary_values xs) ≤ most_values key → list_all (is_key key) (keys_of xs) ≡ true
keys_fit key xs few =
    list_all-map (is_key key) (λ x. pos (key_among (dictionary_values xs) x)) xs
    ∙ implied (λ x. is_among x xs) (λ x. is_key key (pos (key_among (dictionary_values xs) x))) each xs (all_among xs)
  where
    valid_key_fits : (x : Slot) → is_valid x ≡ true → is_among x xs ≡ true → is_key key (pos (key_among (dictionary_values xs) x)) ≡ true
    valid_key_fits x valid h =
        key_fits key (key_among (dictionary_values xs) x) (length (dictionary_values xs)) (key_below x xs valid h) few

    each : (x : Slot) → is_among x xs ≡ true → is_key key (pos (key_among (dictionary_values xs) x)) ≡ true
    each null h = zero_fits key
    each x h = valid_key_fits x refl h

not_negative : (k : ℕ) → int_le (pos 0) (pos k) ≡ true
not_negative k = le-leb 0 k (omega arith)

pub keys_stand : (xs : List Slot) (count : ℕ) → count ≡ length (dictionary_values xs)
    → holds_below (length (keys_of xs)) (has_value_at (mask_of xs) (keys_of xs) count) ≡ true
keys_stand xs count size =
    holds_from (length (keys_of xs)) (has_value_at (mask_of xs) (keys_of xs) count)
    (λ i lt. at_place i (omega (arith, lt, length-map xs (λ x. pos (key_among (dictionary_values xs) x)))))
  where
    values : List Slot
    values = dictionary_values xs

    valid_at : (i : ℕ) → i < length xs → is_valid (get_or xs i null) ≡ true → (k : ℤ) → k ≡ pos (key_among values (get_or xs i null))
        → (int_le (pos 0) k && nat_lt (place_of k) count) ≡ true
    valid_at i lt valid k e =
        let x = get_or xs i null in
        ap (λ k. int_le (pos 0) k && nat_lt (place_of k) count) e
        ∙ and_from (int_le (pos 0) (pos (key_among values x))) (nat_lt (key_among values x) count) (not_negative (key_among values x))
        (lt-ltb (key_among values x) count (omega (arith, key_below x xs valid (passes_at (λ x. is_among x xs) xs i null (all_among xs) lt), size)))

    at_place : (i : ℕ) → i < length xs → has_value_at (mask_of xs) (keys_of xs) count i ≡ true
    at_place i lt =
        let key = get_or (keys_of xs) i (pos 0) in
        let has : Bool = int_le (pos 0) key && nat_lt (place_of key) count in
        elim (cases_Bool (is_valid (get_or xs i null))) [
          | inl valid ↦ or_right (not (is_valid_at (mask_of xs) i)) has (valid_at i lt valid key (get_or-map (λ x. pos
              (key_among values x)) xs i null))
          | inr invalid ↦ or_left (not (is_valid_at (mask_of xs) i)) has (ap not (mark_at xs i lt ∙ invalid))
        ]
