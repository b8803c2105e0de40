-- Columns of byte strings and of texts: one null more, the first slots, and none.
use Rattle.std.proofs.Common.{◌≡◌, ◌∙◌, ◌<◌, ◌≤◌, ◌+◌, ◌-◌, ℕ, zero, suc, List, [], ◌∷◌, ◌++◌, length, map, take, drop, min, Bool, true, false}
use Rattle.std.proofs.Common.{refl, sym, ap, subst, arith}
use Rattle.std.specs.Prelude.{Option, Some, None, ◌&&◌, ◌⊎◌, nat_le, slice_range, sum, sum_by, MatchResult, Result, Ok, Err}
use Rattle.std.specs.List.{flat_map, list_all}
use Rattle.std.specs.Str.{is_utf8}
use Rattle.std.proofs.lemmas.Bool.{and_from, and_parts, cases_eq, eq-eqb, le-leb, leb-true}
use Rattle.std.proofs.lemmas.List.{append-nil, drop-take, get_or_at, length-take-le, length_push, take-append-le}
use Rattle.std.proofs.lemmas.List.Sums.{sum_by-append, sum_by-take-drop}
use Rattle.std.proofs.lemmas.Str.{is_utf8-from_IsUtf8}
use Rattle.std.proofs.Math.Nat.{le-min}
use mathlib.Core.Logic.{inl, inr}
use Rattle.nested_arrays_builders.specs.arrays.flat.FlatColumns.{binary_column, text_column}
use Rattle.nested_arrays_builders.specs.flat_arrays.ByteStrings as strings
use Rattle.nested_arrays_builders.specs.flat_arrays.ByteStrings.{ByteStrings, len_of}
use Rattle.nested_arrays_builders.specs.flat_arrays.Fits.{IsMaskOf, binary_layout, text_layout}
use Rattle.nested_arrays_builders.specs.flat_arrays.Flat as arrays
use Rattle.nested_arrays_builders.specs.flat_arrays.Flat.{needed_mask}
use Rattle.nested_arrays_builders.specs.flat_arrays.Growing.{IsGrown, first_slots, tidied, with_slot}
use Rattle.nested_arrays_builders.specs.flat_arrays.Growth.{with_marks}
use Rattle.nested_arrays_builders.specs.columnar_memory.declared.DataType.{DataType}
use Rattle.nested_arrays_builders.specs.columnar_memory.declared.DataType.TheOpen as layer
use Rattle.nested_arrays_builders.specs.columnar_memory.declared.Error.{Error}
use Rattle.nested_arrays_builders.specs.columnar_memory.declared.PhysicalType.{PhysicalType}
use Rattle.nested_arrays_builders.specs.columnar_memory.declared.PhysicalType.TheVariants as physical
use Rattle.nested_arrays_builders.specs.columnar_memory.Error.{IsOutOfMemory, IsOverflow}
use Rattle.nested_arrays_builders.specs.columnar_memory.Layouts.{physical_type}
use Rattle.nested_arrays_builders.specs.columnar_memory.Spans.{Spans, ends_from, last_of, no_spans, offset_at, offsets_of, spans_of}
use Rattle.nested_arrays_builders.specs.columns.Cells.{is_bytes, is_text}
use Rattle.nested_arrays_builders.specs.columns.FreshColumns.{content_of, content_offsets, fresh, mask_of}
use Rattle.nested_arrays_builders.specs.columns.Kinds.{most_offset, most_slots}
use Rattle.nested_arrays_builders.specs.columns.OpenBatch.{byte_count, bytes_within, fits, is_length, most_long, most_short}
use Rattle.nested_arrays_builders.specs.columns.Slots.{Slot, null, bytes, text}
use Rattle.nested_arrays_builders.specs.columns.SoundColumns.{are_offsets, are_strings, has_size, holds_below, is_byte, is_sound, is_stored_as}
use Rattle.nested_arrays_builders.specs.columns.SoundColumns.{is_text_at, mask_fits, rises_at}
use Rattle.nested_arrays_builders.specs.columns.StoredColumns.{Column, Stored, byte_strings, column_type, flat, stored_at, stored_len, string_at}
use Rattle.nested_arrays_builders.specs.columns.StoredColumns.{texts, type_layer}
use Rattle.nested_arrays_builders.proofs.arrays_lemmas.columnar_memory_lemmas.buffer_lemmas.Runs.{offset_at-more, spans_of-offsets_of, sum-cons}
use Rattle.nested_arrays_builders.proofs.arrays_lemmas.flat_lemmas.Offsets.{get_or-offsets_of, spans_count}
use Rattle.nested_arrays_builders.proofs.arrays_lemmas.flat_lemmas.SoundStrings.{spans_sound}
use Rattle.nested_arrays_builders.proofs.columns_lemmas.Conditions.{holds_at, holds_from, list_all-take, parts_of_3}
use Rattle.nested_arrays_builders.proofs.columns_lemmas.FreshLengths.{Layer}
use Rattle.nested_arrays_builders.proofs.columns_lemmas.Fits.{fits_binary, fits_large_binary, fits_large_texts, fits_texts}
use Rattle.nested_arrays_builders.proofs.columns_lemmas.LayerParts.{fresh_binary, fresh_large_binary, fresh_large_texts, fresh_texts}
use Rattle.nested_arrays_builders.proofs.columns_lemmas.Limits.{bytes_counted}
use Rattle.nested_arrays_builders.proofs.columns_lemmas.OneMore.{binary_fits_one_more, large_binary_fits_one_more, large_texts_fit_one_more}
use Rattle.nested_arrays_builders.proofs.columns_lemmas.OneMore.{texts_fit_one_more}
use Rattle.nested_arrays_builders.proofs.columns_lemmas.Pieces.{content_spans_are, joined_cut_at, joined_one_more, lengths_cut, lengths_one_more}
use Rattle.nested_arrays_builders.proofs.parts_lemmas.FlatLayers.{at_layout, binary_layer, large_binary_layer, large_text_layer, text_layer}
use Rattle.nested_arrays_builders.specs.values.ByteBuilders.{AddsByteNull, LeavesNoBytes, from_zero}
use Rattle.nested_arrays_builder_arrays.specs.OpenColumns.{AddsNull, Becomes, IsEmptied, KeepsFirst, slots_and}
use Rattle.nested_arrays_builder_arrays.proofs.FlatSlots.{Keeps, first_kept, first_marks, none_left, null_added, null_unfit, pushed_null}

-- ---- offsets from 0 on

abbrev spans : List ℕ → Spans
spans ls = record { start = 0; lengths = ls }

abbrev offsets : List ℕ → List ℕ
offsets ls = offsets_of (spans ls)

first_sum : (ls : List ℕ) (n : ℕ) → sum (take n ls) ≤ sum ls
first_sum ls n = omega (arith, sum_by-take-drop (λ x. x) ls n)

-- the first of the first ones
take_within : {A : Type 0} (n m : ℕ) (xs : List A) → n ≤ m → take n (take m xs) ≡ take n xs
take_within zero m xs h = refl
take_within (suc n) zero xs h = absurd (omega arith)
take_within (suc n) (suc m) [] h = refl
take_within (suc n) (suc m) (x ∷ xs) h = ap (λ rest. x ∷ rest) (take_within n m xs (omega (arith, h)))

sum_rises : (ls : List ℕ) (i n : ℕ) → i ≤ n → sum (take i ls) ≤ sum (take n ls)
sum_rises ls i n h = omega (arith, ap sum (take_within i n ls h), first_sum (take n ls) i)

-- offsets within a limit end within it
ends_within : (before : ℕ) (ls : List ℕ) (limit : ℕ) → list_all (λ offset. nat_le offset limit) (before ∷ ends_from before ls) ≡ true
    → before + sum ls ≤ limit
ends_within before [] limit h = omega (arith, leb-true before limit (and_parts (nat_le before limit) true h).0)
ends_within before (l ∷ ls) limit h =
    let more = (and_parts (nat_le before limit) (list_all (λ offset. nat_le offset limit) ((before + l) ∷ ends_from (before + l) ls)) h).1 in
    omega (arith, sum-cons l ls, ends_within (before + l) ls limit more)

last_within : (ls : List ℕ) (limit : ℕ) → are_offsets (offsets ls) limit ≡ true → last_of (spans ls) ≤ limit
last_within ls limit h =
    ends_within 0 ls limit (parts_of_3 (nat_le 1 (length (offsets ls))) (holds_below (length (offsets ls) - 1) (rises_at (offsets ls)))
    (list_all (λ offset. nat_le offset limit) (offsets ls)) h).2

-- ---- strings by offsets

string_is : (ls content : List ℕ) (i : ℕ) → i < length ls
    → string_at (offsets ls) content i ≡ slice_range content (offset_at (spans ls) i) (offset_at (spans ls) (i + 1))
string_is ls content i h =
    let from = get_or-offsets_of (spans ls) i (omega (arith, h)) in
    let to = get_or-offsets_of (spans ls) (i + 1) (omega (arith, h)) in λ j. slice_range content (from j) (to j)

-- bytes among the first ones
inner_range : (content : List ℕ) (m a b : ℕ) → a ≤ b → b ≤ m → slice_range (take m content) a b ≡ slice_range content a b
inner_range content m a b rises within =
    let at : a + (m - a) ≡ m = omega (arith, rises, within) in
    ap (take (b - a)) (sym (ap (λ k. drop a (take k content)) at) ∙ drop-take a (m - a) content)
    ∙ take_within (b - a) (m - a) (drop a content) (omega (arith, within))

no_range : (content : List ℕ) (a b : ℕ) → b ≤ a → slice_range content a b ≡ []
no_range content a b h =
    let none : b - a ≡ 0 = omega (arith, h) in
    ap (λ n. take n (drop a content)) none

-- a string among the first ones
first_string : (ls content : List ℕ) (n i : ℕ) → n ≤ length ls → i < n
    → string_at (offsets (take n ls)) (take (offset_at (spans ls) n) content) i ≡ string_at (offsets ls) content i
first_string ls content n i le lt =
    let m = offset_at (spans ls) n in
    let from : offset_at (spans (take n ls)) i ≡ offset_at (spans ls) i = ap (λ ks. 0 + sum ks) (take_within i n ls (omega (arith, lt))) in
    let to : offset_at (spans (take n ls)) (i + 1) ≡ offset_at (spans ls) (i + 1) =
    ap (λ ks. 0 + sum ks) (take_within (i + 1) n ls (omega (arith, lt))) in
    string_is (take n ls) (take m content) i (omega (arith, lt, length-take-le n ls le))
    ∙ (λ j. slice_range (take m content) (from j) (to j))
    ∙ inner_range content m (offset_at (spans ls) i) (offset_at (spans ls) (i + 1)) (omega (arith, sum_rises ls i (i + 1) (omega arith)))
    (omega (arith, sum_rises ls (i + 1) n (omega (arith, lt))))
    ∙ sym (string_is ls content i (omega (arith, le, lt)))

-- a string before one that is empty
string_before : (ls content : List ℕ) (i : ℕ) → i < length ls → string_at (offsets (ls ++ 0 ∷ [])) content i ≡ string_at (offsets ls) content i
string_before ls content i lt =
    let from : offset_at (spans (ls ++ 0 ∷ [])) i ≡ offset_at (spans ls) i =
    ap (λ ks. 0 + sum ks) (take-append-le i ls (0 ∷ []) (omega (arith, lt))) in
    let to : offset_at (spans (ls ++ 0 ∷ [])) (i + 1) ≡ offset_at (spans ls) (i + 1) =
    ap (λ ks. 0 + sum ks) (take-append-le (i + 1) ls (0 ∷ []) (omega (arith, lt))) in
    string_is (ls ++ 0 ∷ []) content i (omega (arith, lt, length_push ls 0)) ∙ (λ j. slice_range content (from j) (to j))
    ∙ sym (string_is ls content i lt)

last_string : (ls content : List ℕ) → string_at (offsets (ls ++ 0 ∷ [])) content (length ls) ≡ []
last_string ls content =
    let more = ls ++ 0 ∷ [] in
    let within : length ls < length more = omega (arith, length_push ls 0) in
    let ends = offset_at-more (spans more) (length ls) within in
    let none = get_or_at ls 0 [] 0 (length ls) refl in
    string_is more content (length ls) within
    ∙ no_range content (offset_at (spans more) (length ls)) (offset_at (spans more) (length ls + 1)) (omega (arith, ends, none))

-- ---- sound strings

last_more : (ls : List ℕ) → last_of (spans (ls ++ 0 ∷ [])) ≡ last_of (spans ls)
last_more ls = let all = sum_by-append (λ x. x) ls (0 ∷ []) in omega (arith, all)

more_are : (layout : PhysicalType) (ls content : List ℕ) → are_strings layout (offsets ls) content ≡ true
    → are_strings layout (offsets (ls ++ 0 ∷ [])) content ≡ true
more_are layout ls content h =
    let limit = min (most_offset layout) (length content) in
    let parts = and_parts (are_offsets (offsets ls) limit) (list_all is_byte content) h in
    and_from (are_offsets (offsets (ls ++ 0 ∷ [])) limit) (list_all is_byte content)
    (spans_sound (spans (ls ++ 0 ∷ [])) limit (omega (arith, last_within ls limit parts.0, last_more ls))) parts.1

first_are : (layout : PhysicalType) (ls content : List ℕ) (n : ℕ) → are_strings layout (offsets ls) content ≡ true
    → are_strings layout (offsets (take n ls)) (take (offset_at (spans ls) n) content) ≡ true
first_are layout ls content n h =
    let most = most_offset layout in
    let m = offset_at (spans ls) n in
    let parts = and_parts (are_offsets (offsets ls) (min most (length content))) (list_all is_byte content) h in
    let last : last_of (spans ls) ≤ min most (length content) = last_within ls (min most (length content)) parts.0 in
    let small : m ≤ most = omega (arith, last, first_sum ls n) in
    let within : m ≤ length content = omega (arith, last, first_sum ls n) in
    let long : length (take m content) ≡ m = length-take-le m content within in
    let limit = min most (length (take m content)) in
    and_from (are_offsets (offsets (take n ls)) limit) (list_all is_byte (take m content))
    (spans_sound (spans (take n ls)) limit (le-min {k = m} {a = most} {b = length (take m content)} small (omega (arith, long))))
    (list_all-take is_byte m content parts.1)

-- each string passes a test
abbrev pub Each : (List ℕ → Bool) → List ℕ → List ℕ → Type 0
Each test os content = (i : ℕ) → i < length os - 1 → test (string_at os content i) ≡ true

more_each : (test : List ℕ → Bool) (ls content : List ℕ) → test [] ≡ true → Each test (offsets ls) content
    → Each test (offsets (ls ++ 0 ∷ [])) content
more_each test ls content none each = λ i lt.
    let within : i < length ls + 1 = omega (arith, lt, spans_count (spans (ls ++ 0 ∷ [])), length_push ls 0) in
    elim (cases_eq i (length ls)) [
      | inl last ↦ ap (λ k. test (string_at (offsets (ls ++ 0 ∷ [])) content k)) last ∙ ap test (last_string ls content) ∙ none
      | inr other ↦ ap test (string_before ls content i (omega (arith, within, other)))
          ∙ each i (omega (arith, within, other, spans_count (spans ls)))
    ]

first_each : (test : List ℕ → Bool) (ls content : List ℕ) (n : ℕ) → n ≤ length ls → Each test (offsets ls) content
    → Each test (offsets (take n ls)) (take (offset_at (spans ls) n) content)
first_each test ls content n le each = λ i lt.
    let within : i < n = omega (arith, lt, spans_count (spans (take n ls)), length-take-le n ls le) in
    ap test (first_string ls content n i le within) ∙ each i (omega (arith, within, le, spans_count (spans ls)))

-- ---- how strings are stored

-- How strings are stored by their offsets, what is shown of each, and which of them may be stored; and that columns of the type store slots so.
pub record KeepsStrings (t : DataType) (make : List ℕ → List ℕ → Stored) (parts : Stored → List ℕ × List ℕ) (shown : List ℕ → Slot)
    (layout : PhysicalType) (test : List ℕ → Bool) : Type 0 where
  pub long : (os content : List ℕ) → stored_len (make os content) ≡ length os - 1
  pub seen : (os content : List ℕ) (i : ℕ) → stored_at (make os content) i ≡ shown (string_at os content i)
  pub back : (os content : List ℕ) → parts (make os content) ≡ (os, content)
  pub sized : (os content : List ℕ) → has_size (type_layer t) (make os content) ≡ true
  pub told : (os content : List ℕ) → is_stored_as (physical_type t) (make os content) ≡ true
      → (are_strings layout os content ≡ true) × Each test os content
  pub tells : (os content : List ℕ) → are_strings layout os content ≡ true → Each test os content
      → is_stored_as (physical_type t) (make os content) ≡ true
  pub none : test [] ≡ true
  pub stores : (xs : List Slot) → fresh t xs ≡ flat t (mask_of xs) (make (content_offsets xs) (flat_map content_of xs))
  pub room : (xs : List Slot) → fits t xs ≡ true → length xs < most_slots → fits t (xs ++ null ∷ []) ≡ true

-- the lengths of strings, and their bytes
abbrev Strings : Type 0
Strings = List ℕ × List ℕ

abbrev with_none : Strings → Strings
with_none x = (x.0 ++ 0 ∷ [], x.1)

abbrev firsts : ℕ → Strings → Strings
firsts n x = (take n x.0, take (offset_at (spans x.0) n) x.1)

abbrev count : Strings → ℕ
count x = length x.0

abbrev strings_in : List Slot → Strings
strings_in xs = (map (λ x. length (content_of x)) xs, flat_map content_of xs)

abbrev stored_by : (List ℕ → List ℕ → Stored) → Strings → Stored
stored_by make x = make (offsets x.0) x.1

abbrev parts_by : (Stored → List ℕ × List ℕ) → Stored → Strings
parts_by parts s = ((spans_of (parts s).0).lengths, (parts s).1)

module _ (t : DataType) (make : List ℕ → List ℕ → Stored) (parts : Stored → List ℕ × List ℕ) (shown : List ℕ → Slot)
    (layout : PhysicalType) (test : List ℕ → Bool) (k : KeepsStrings t make parts shown layout test) where
  strings_back : (x : Strings) → parts_by parts (stored_by make x) ≡ x
  strings_back x =
      (λ j. ((spans_of (k.back (offsets x.0) x.1 j).0).lengths, (k.back (offsets x.0) x.1 j).1))
      ∙ (λ j. ((spans_of-offsets_of (spans x.0) j).lengths, x.1))

  strings_kept : Keeps t (stored_by make) (parts_by parts) count with_none firsts strings_in
  strings_kept = record {
    long = λ x. k.long (offsets x.0) x.1 ∙ spans_count (spans x.0);
    back = strings_back;
    sized = λ x. k.sized (offsets x.0) x.1;
    one_more = λ x. length_push x.0 0;
    same_before = λ x i h.
        k.seen (offsets (x.0 ++ 0 ∷ [])) x.1 i ∙ ap shown (string_before x.0 x.1 i h) ∙ sym (k.seen (offsets x.0) x.1 i);
    more_sound = λ x h. let own = k.told (offsets x.0) x.1 h in
        k.tells (offsets (x.0 ++ 0 ∷ [])) x.1 (more_are layout x.0 x.1 own.0) (more_each test x.0 x.1 k.none own.1);
    as_many = λ x n le. length-take-le n x.0 le;
    same_among = λ x n i le h.
        k.seen (offsets (take n x.0)) (take (offset_at (spans x.0) n) x.1) i ∙ ap shown (first_string x.0 x.1 n i le h)
        ∙ sym (k.seen (offsets x.0) x.1 i);
    first_sound = λ x n le h. let own = k.told (offsets x.0) x.1 h in
        k.tells (offsets (take n x.0)) (take (offset_at (spans x.0) n) x.1) (first_are layout x.0 x.1 n own.0)
        (first_each test x.0 x.1 n le own.1);
    stores = λ xs. k.stores xs ∙ ap (λ (os : List ℕ). flat t (mask_of xs) (make os (flat_map content_of xs))) (sym (content_spans_are xs));
    of_more = λ xs. λ j. (
      sym (lengths_one_more content_of xs null) j,
      sym (joined_one_more content_of xs null ∙ append-nil (flat_map content_of xs)) j,
    );
    of_first = λ n xs. λ j. (sym (lengths_cut content_of n xs) j, sym (joined_cut_at content_of n xs) j);
    room = k.room;
  }

-- ---- what is stored of byte strings and of texts

-- strings with a null more are within their limit
room_for : (t : DataType) (test : Slot → Bool) (limit : ℕ) → ((xs : List Slot) → fits t xs ≡ (list_all test xs && bytes_within limit xs))
    → ((xs : List Slot) → fits t xs ≡ true → fits t (xs ++ null ∷ [])
    ≡ (test null && (nat_le (length xs + 1) most_slots && nat_le (length (flat_map content_of xs) + length (content_of null)) limit)))
    → test null ≡ true → (xs : List Slot) → fits t xs ≡ true → length xs < most_slots → fits t (xs ++ null ∷ []) ≡ true
room_for t test limit is one_more takes xs fit few =
    let all = length (flat_map content_of xs) in
    let own = (and_parts (list_all test xs) (bytes_within limit xs) (sym (is xs) ∙ fit)).1 in
    let within : sum_by byte_count xs ≤ limit = leb-true (sum_by byte_count xs) limit
    (and_parts (is_length xs) (nat_le (sum_by byte_count xs) limit) own).1 in
    one_more xs fit
    ∙ and_from (test null) (nat_le (length xs + 1) most_slots && nat_le (all + length (content_of null)) limit) takes
    (and_from (nat_le (length xs + 1) most_slots) (nat_le (all + length (content_of null)) limit)
    (le-leb (length xs + 1) most_slots (omega (arith, few))) (le-leb (all + length (content_of null)) limit
    (omega (arith, within, bytes_counted xs))))

abbrev binary_parts : Stored → List ℕ × List ℕ
binary_parts (byte_strings os content) = (os, content)
binary_parts _ = ([], [])

abbrev text_parts : Stored → List ℕ × List ℕ
text_parts (texts os content) = (os, content)
text_parts _ = ([], [])

sized_binary : (x : Layer) (os content : List ℕ) → has_size x (byte_strings os content) ≡ true
sized_binary (layer.FixedSizeBinary size) os content = refl
sized_binary _ os content = refl

sized_texts : (x : Layer) (os content : List ℕ) → has_size x (texts os content) ≡ true
sized_texts (layer.FixedSizeBinary size) os content = refl
sized_texts _ os content = refl

-- what a layout says of stored values, of a type that lies in memory so
at_type : (t : DataType) (layout : PhysicalType) (s : Stored) → physical_type t ≡ layout → is_stored_as (physical_type t) s ≡ is_stored_as layout s
at_type t layout s lies = ap (λ (l : PhysicalType). is_stored_as l s) lies

binary_keep : (is_large : Bool) (t : DataType) → physical_type t ≡ binary_layout is_large
    → KeepsStrings t byte_strings binary_parts bytes (binary_layout is_large) (λ content. true)
binary_keep true t lies =
    let is = at_layout t physical.LargeBinary layer.LargeBinary large_binary_layer lies in record {
      long = λ os content. refl;
      seen = λ os content i. refl;
      back = λ os content. refl;
      sized = sized_binary (type_layer t);
      told = λ os content h. (sym (at_type t physical.LargeBinary (byte_strings os content) lies) ∙ h, λ i lt. refl);
      tells = λ os content h each. at_type t physical.LargeBinary (byte_strings os content) lies ∙ h;
      none = refl;
      stores = fresh_large_binary t is;
      room = room_for t is_bytes most_long (fits_large_binary t is) (λ xs. large_binary_fits_one_more t is xs null) refl;
    }
binary_keep false t lies =
    let is = at_layout t physical.Binary layer.Binary binary_layer lies in record {
      long = λ os content. refl;
      seen = λ os content i. refl;
      back = λ os content. refl;
      sized = sized_binary (type_layer t);
      told = λ os content h. (sym (at_type t physical.Binary (byte_strings os content) lies) ∙ h, λ i lt. refl);
      tells = λ os content h each. at_type t physical.Binary (byte_strings os content) lies ∙ h;
      none = refl;
      stores = fresh_binary t is;
      room = room_for t is_bytes most_short (fits_binary t is) (λ xs. binary_fits_one_more t is xs null) refl;
    }

-- texts are strings that are UTF-8 each
abbrev are_texts : PhysicalType → List ℕ → List ℕ → Bool
are_texts layout os content = are_strings layout os content && holds_below (length os - 1) (is_text_at os content)

texts_told : (layout : PhysicalType) (os content : List ℕ) → are_texts layout os content ≡ true
    → (are_strings layout os content ≡ true) × Each is_utf8 os content
texts_told layout os content h =
    let own = and_parts (are_strings layout os content) (holds_below (length os - 1) (is_text_at os content)) h in
    (own.0, λ i lt. holds_at (length os - 1) (is_text_at os content) i own.1 lt)

texts_tell : (layout : PhysicalType) (os content : List ℕ) → are_strings layout os content ≡ true → Each is_utf8 os content
    → are_texts layout os content ≡ true
texts_tell layout os content h each =
    and_from (are_strings layout os content) (holds_below (length os - 1) (is_text_at os content)) h
    (holds_from (length os - 1) (is_text_at os content) each)

text_keep : (is_large : Bool) (t : DataType) → physical_type t ≡ text_layout is_large
    → KeepsStrings t texts text_parts text (text_layout is_large) is_utf8
text_keep true t lies =
    let is = at_layout t physical.LargeUtf8 layer.LargeUtf8 large_text_layer lies in record {
      long = λ os content. refl;
      seen = λ os content i. refl;
      back = λ os content. refl;
      sized = sized_texts (type_layer t);
      told = λ os content h. texts_told physical.LargeUtf8 os content (sym (at_type t physical.LargeUtf8 (texts os content) lies) ∙ h);
      tells = λ os content h each. at_type t physical.LargeUtf8 (texts os content) lies ∙ texts_tell physical.LargeUtf8 os content h each;
      none = is_utf8-from_IsUtf8 [] ([], (refl, refl));
      stores = fresh_large_texts t is;
      room = room_for t is_text most_long (fits_large_texts t is) (λ xs. large_texts_fit_one_more t is xs null) refl;
    }
text_keep false t lies =
    let is = at_layout t physical.Utf8 layer.Utf8 text_layer lies in record {
      long = λ os content. refl;
      seen = λ os content i. refl;
      back = λ os content. refl;
      sized = sized_texts (type_layer t);
      told = λ os content h. texts_told physical.Utf8 os content (sym (at_type t physical.Utf8 (texts os content) lies) ∙ h);
      tells = λ os content h each. at_type t physical.Utf8 (texts os content) lies ∙ texts_tell physical.Utf8 os content h each;
      none = is_utf8-from_IsUtf8 [] ([], (refl, refl));
      stores = fresh_texts t is;
      room = room_for t is_text most_short (fits_texts t is) (λ xs. texts_fit_one_more t is xs null) refl;
    }

-- ---- what a builder of byte strings or of texts does to its column

-- What becomes of the column of byte strings with a null more, of which the first slots are kept, or none is left.
pub record ByteLaws (column : ByteStrings → Column) (before : ByteStrings) : Type 0 where
  pub added : len_of before < most_slots
      → Becomes (column (from_zero before)) (slots_and (column (from_zero before)) null) (column (from_zero (with_slot before None)))
  pub full : most_slots ≤ len_of before
      → fits (column_type (column (from_zero before))) (slots_and (column (from_zero before)) null) ≡ false
  pub first : (n : ℕ) → n ≤ len_of before
      → KeepsFirst (column (from_zero before)) n (column (from_zero (tidied (first_slots before n))))
  pub none : IsEmptied (column (from_zero before)) (column (strings.byte_strings before.data_type no_spans [] None))

fits_mask : (mask : Option (List Bool)) (n : ℕ) → IsMaskOf n mask → mask_fits mask n ≡ true
fits_mask None n h = refl
fits_mask (Some marks) n h = eq-eqb (length marks) n h

module _ (before : ByteStrings) (make : List ℕ → List ℕ → Stored) (parts : Stored → List ℕ × List ℕ) (shown : List ℕ → Slot)
    (layout : PhysicalType) (test : List ℕ → Bool) (k : KeepsStrings before.data_type make parts shown layout test)
    (marked : IsMaskOf (len_of before) before.validity) where
  abbrev t : DataType
  t = before.data_type

  abbrev start : ℕ
  start = before.offsets.start

  abbrev column_by : ByteStrings → Column
  column_by a = flat a.data_type a.validity (make (offsets_of a.offsets) a.bytes)

  abbrev held : Strings
  held = (before.offsets.lengths, drop start before.bytes)

  kept : Keeps t (stored_by make) (parts_by parts) count with_none firsts strings_in
  kept = strings_kept t make parts shown layout test k

  masked : mask_fits before.validity (len_of before) ≡ true
  masked = fits_mask before.validity (len_of before) marked

  no_more_bytes : drop start before.bytes ≡ drop start (before.bytes ++ [])
  no_more_bytes = sym (ap (drop start) (append-nil before.bytes))

  first_bytes : (n : ℕ)
      → take (offset_at (spans before.offsets.lengths) n) (drop start before.bytes)
      ≡ drop start (take (offset_at before.offsets n) before.bytes)
  first_bytes n =
      let own = sum (take n before.offsets.lengths) in
      let same : own ≡ 0 + own = omega arith in
      sym (drop-take start own before.bytes ∙ ap (λ m. take m (drop start before.bytes)) same)

  pub laws_by : ByteLaws column_by before
  laws_by = record {
    added = λ few.
        subst (λ (content : List ℕ). Becomes (column_by (from_zero before)) (slots_and (column_by (from_zero before)) null)
        (flat t (with_marks (len_of before) before.validity (false ∷ [])) (make (offsets (before.offsets.lengths ++ 0 ∷ [])) content)))
        no_more_bytes
        (null_added t (stored_by make) (parts_by parts) count with_none firsts strings_in kept
        before.validity held masked few);
    full = null_unfit t (stored_by make) (parts_by parts) count with_none firsts strings_in kept
        before.validity held masked;
    first = λ n le.
        subst (λ (content : List ℕ). KeepsFirst (column_by (from_zero before)) n
        (flat t (needed_mask (first_marks n before.validity)) (make (offsets (take n before.offsets.lengths)) content)))
        (first_bytes n)
        (first_kept t (stored_by make) (parts_by parts) count with_none firsts strings_in kept
        before.validity held masked n le);
    none = none_left t (stored_by make) (parts_by parts) count with_none firsts strings_in kept
        before.validity held refl;
  }

pub binary_laws : (is_large : Bool) (before : ByteStrings) → IsGrown (binary_layout is_large) before → ByteLaws binary_column before
binary_laws is_large before whole =
    laws_by before byte_strings binary_parts bytes (binary_layout is_large) (λ content. true) (binary_keep is_large before.data_type whole.fits)
    whole.whole.masked

pub text_laws : (is_large : Bool) (before : ByteStrings) → IsGrown (text_layout is_large) before → ByteLaws text_column before
text_laws is_large before whole =
    laws_by before texts text_parts text (text_layout is_large) is_utf8 (text_keep is_large before.data_type whole.fits) whole.whole.masked

module _ {column : ByteStrings → Column} {before : ByteStrings} (laws : ByteLaws column before) where
  abbrev now : ByteStrings → Column
  now a = column (from_zero a)

  pub law_of_push : {U : Type 0} (after : ByteStrings) (r : Result U Error) → AddsByteNull before after r → AddsNull (now before) (now after) r
  law_of_push after r h =
      pushed_null (now before) (now (with_slot before None)) (now after) (len_of before < most_slots) (most_slots ≤ len_of before) r
      laws.added laws.full (as_columns r h)
    where
      as_columns : {U : Type 0} (r : Result U Error) → AddsByteNull before after r → MatchResult r
          (λ _. (now after ≡ now (with_slot before None)) × (len_of before < most_slots))
          (λ e. (now after ≡ now before) × (IsOutOfMemory e ⊎ (IsOverflow e × (most_slots ≤ len_of before))))
      as_columns (Ok u) h = (ap now h.0, h.1)
      as_columns (Err e) h = (ap now h.0, h.1)

  pub law_of_cut : (after : ByteStrings) (n : ℕ) → n ≤ len_of before → after ≡ tidied (first_slots before n)
      → KeepsFirst (now before) n (now after)
  law_of_cut after n le is = subst (λ (a : ByteStrings). KeepsFirst (now before) n (now a)) (sym is) (laws.first n le)

  pub law_of_taking : (after : ByteStrings) → LeavesNoBytes before after → IsEmptied (now before) (now after)
  law_of_taking after is = subst (λ (a : ByteStrings). IsEmptied (now before) (column a)) (sym is) laws.none

-- ---- marks

-- the marks of byte strings are those of other values
pub same_marks : (n : ℕ) (mask : Option (List Bool)) → strings.marks n mask ≡ arrays.marks n mask
same_marks n None = refl
same_marks n (Some given) = refl

-- as many slots as strings
pub binary_count : (a : ByteStrings) → stored_len (byte_strings (offsets_of (from_zero a).offsets) (from_zero a).bytes) ≡ len_of a
binary_count a = spans_count (from_zero a).offsets

pub text_count : (a : ByteStrings) → stored_len (texts (offsets_of (from_zero a).offsets) (from_zero a).bytes) ≡ len_of a
text_count a = spans_count (from_zero a).offsets
