-- Columns of texts and of byte strings with one more, by the lengths and the bytes of those that are stored.
use Rattle.std.proofs.Common.{◌≡◌, ◌∙◌, ◌<◌, ◌≤◌, ◌+◌, ◌-◌, ℕ, zero, suc, List, [], ◌∷◌, ◌++◌, length, map, take, drop, min, sum, Bool, true, false}
use Rattle.std.proofs.Common.{refl, sym, ap, arith}
use Rattle.std.specs.Prelude.{Option, ◌&&◌, if◌then◌else◌, nat_le, slice_range, sum_by}
use Rattle.std.specs.List.{flat_map, list_all}
use Rattle.std.proofs.Math.Nat.{le-min}
use Rattle.std.proofs.lemmas.Bool.{and_from, and_parts, cases_eq, false_from_ne_true, le-leb, leb-true}
use Rattle.std.proofs.lemmas.List.{drop_at, drop-take, get_or_at, length-append, length_push, take_all, take_at, take-append-le}
use Rattle.std.proofs.lemmas.List.Folds.{list_all-append}
use Rattle.std.proofs.lemmas.List.Sums.{sum_by-append, sum_by-take-drop}
use mathlib.Core.Logic.{inl, inr}
use Rattle.nested_arrays_sized_builders.specs.nulls.columnar_memory.declared.DataType.{DataType}
use Rattle.nested_arrays_sized_builders.specs.nulls.columnar_memory.declared.PhysicalType.{PhysicalType}
use Rattle.nested_arrays_sized_builders.specs.nulls.columnar_memory.Layouts.{physical_type}
use Rattle.nested_arrays_sized_builders.specs.nulls.columnar_memory.Spans.{Spans, ends_from, last_of, offset_at, offsets_of, spans_of}
use Rattle.nested_arrays_sized_builders.specs.nulls.columns.Cells.{is_null}
use Rattle.nested_arrays_sized_builders.specs.nulls.columns.FreshColumns.{content_of, content_offsets, fresh, is_valid, mask_of}
use Rattle.nested_arrays_sized_builders.specs.nulls.columns.Kinds.{most_offset, most_slots}
use Rattle.nested_arrays_sized_builders.specs.nulls.columns.OpenBatch.{byte_count, bytes_within, fits, is_length}
use Rattle.nested_arrays_sized_builders.specs.nulls.columns.Slots.{Slot, null, window}
use Rattle.nested_arrays_sized_builders.specs.nulls.columns.SoundColumns.{are_offsets, are_strings, has_size, is_byte, is_sound, is_stored_as}
use Rattle.nested_arrays_sized_builders.specs.nulls.columns.SoundColumns.{mask_fits}
use Rattle.nested_arrays_sized_builders.specs.nulls.columns.StoredColumns.{Column, Stored, bits, flat, slot_at, slots, stored_at, stored_len}
use Rattle.nested_arrays_sized_builders.specs.nulls.columns.StoredColumns.{string_at, type_layer}
use Rattle.nested_arrays_sized_builders.specs.nulls.flat.ColumnMasks.{column_mask}
use Rattle.nested_arrays_sized_builders.specs.flat_arrays.Growth.{with_marks}
use Rattle.nested_arrays_sized_builders.specs.cells.taken.OpenColumns.{Becomes, IsFresh, slots_and}
use Rattle.nested_arrays_sized_builders.proofs.columns_lemmas.Limits.{bytes_counted, fits_length}
use Rattle.nested_arrays_sized_builders.proofs.columns_lemmas.Pieces.{content_spans_are, joined_length_one_more, joined_one_more, lengths_one_more}
use Rattle.nested_arrays_sized_builders.proofs.nulls_lemmas.arrays_lemmas.columns_lemmas.ColumnSizes.{slots_lengths}
use Rattle.nested_arrays_sized_builders.proofs.nulls_lemmas.arrays_lemmas.columns_lemmas.Conditions.{parts_of_3}
use Rattle.nested_arrays_sized_builders.proofs.nulls_lemmas.arrays_lemmas.columns_lemmas.Windows.{window_same}
use Rattle.nested_arrays_sized_builders.proofs.nulls_lemmas.columnar_memory_lemmas.buffer_lemmas.Runs.{offset_at-more, spans_of-offsets_of, sum-cons}
use Rattle.nested_arrays_sized_builders.proofs.nulls_lemmas.flat_lemmas.Offsets.{get_or-offsets_of, spans_count}
use Rattle.nested_arrays_sized_builders.proofs.nulls_lemmas.flat_lemmas.SoundStrings.{spans_sound}
use Rattle.nested_arrays_sized_builders.proofs.taken_lemmas.FlatSlots.{window_more}
use Rattle.nested_arrays_dictionary_builders.proofs.OpenParts.{mask_with_value, marks_before, marks_more, value_marked}

-- ---- offsets from 0 on

abbrev pub spans : List ℕ → Spans
spans ls = record { start = 0; lengths = ls }

abbrev pub offsets : List ℕ → List ℕ
offsets ls = offsets_of (spans ls)

-- the first of the first ones
take_within : {A : Type 0} (n m : ℕ) (xs : List A) → n ≤ m → take n (take m xs) ≡ take n xs
take_within zero m xs h = refl
take_within (suc n) zero xs h = absurd (omega arith)
take_within (suc n) (suc m) [] h = refl
take_within (suc n) (suc m) (x ∷ xs) h = ap (λ rest. x ∷ rest) (take_within n m xs (omega (arith, h)))

pub first_sum : (ls : List ℕ) (n : ℕ) → sum (take n ls) ≤ sum ls
first_sum ls n = omega (arith, sum_by-take-drop (λ x. x) ls n)

pub sum_rises : (ls : List ℕ) (i n : ℕ) → i ≤ n → sum (take i ls) ≤ sum (take n ls)
sum_rises ls i n h = omega (arith, ap sum (take_within i n ls h), first_sum (take n ls) i)

pub last_more : (ls : List ℕ) (n : ℕ) → last_of (spans (ls ++ n ∷ [])) ≡ sum ls + n
last_more ls n = omega (arith, sum_by-append (λ x. x) ls (n ∷ []), sum-cons n [])

-- offsets within a limit end within it
ends_within : (before : ℕ) (ls : List ℕ) (limit : ℕ) → list_all (λ offset. nat_le offset limit) (before ∷ ends_from before ls) ≡ true
    → before + sum ls ≤ limit
ends_within before [] limit h = omega (arith, leb-true before limit (and_parts (nat_le before limit) true h).0)
ends_within before (l ∷ ls) limit h =
    let more = (and_parts (nat_le before limit) (list_all (λ offset. nat_le offset limit) ((before + l) ∷ ends_from (before + l) ls)) h).1 in
    omega (arith, sum-cons l ls, ends_within (before + l) ls limit more)

-- ---- strings by offsets

pub string_is : (ls content : List ℕ) (i : ℕ) → i < length ls
    → string_at (offsets ls) content i ≡ slice_range content (offset_at (spans ls) i) (offset_at (spans ls) (i + 1))
string_is ls content i h =
    let from = get_or-offsets_of (spans ls) i (omega (arith, h)) in
    let to = get_or-offsets_of (spans ls) (i + 1) (omega (arith, h)) in λ j. slice_range content (from j) (to j)

-- bytes among the first ones
inner_range : (content : List ℕ) (m a b : ℕ) → a ≤ b → b ≤ m → slice_range (take m content) a b ≡ slice_range content a b
inner_range content m a b rises within =
    let at : a + (m - a) ≡ m = omega (arith, rises, within) in
    ap (take (b - a)) (sym (ap (λ k. drop a (take k content)) at) ∙ drop-take a (m - a) content)
    ∙ take_within (b - a) (m - a) (drop a content) (omega (arith, within))

pub range_before : (content item : List ℕ) (a b : ℕ) → a ≤ b → b ≤ length content → slice_range (content ++ item) a b ≡ slice_range content a b
range_before content item a b rises within =
    sym (inner_range (content ++ item) (length content) a b rises within)
    ∙ ap (λ (xs : List ℕ). slice_range xs a b) (take_at content item (length content) refl)

range_last : (content item : List ℕ) (a b : ℕ) → a ≡ length content → b ≡ length content + length item → slice_range (content ++ item) a b ≡ item
range_last content item a b from to =
    ap (take (b - a)) (ap (λ k. drop k (content ++ item)) from ∙ drop_at content item (length content) refl)
    ∙ take_all (b - a) item (omega (arith, from, to))

module _ (ls content item : List ℕ) (full : length content ≡ sum ls) where
  abbrev longer : List ℕ
  longer = ls ++ length item ∷ []

  -- a string before the last one
  string_before : (i : ℕ) → i < length ls → string_at (offsets longer) (content ++ item) i ≡ string_at (offsets ls) content i
  string_before i lt =
      let from : offset_at (spans longer) i ≡ offset_at (spans ls) i =
      ap (λ ks. 0 + sum ks) (take-append-le i ls (length item ∷ []) (omega (arith, lt))) in
      let to : offset_at (spans longer) (i + 1) ≡ offset_at (spans ls) (i + 1) =
      ap (λ ks. 0 + sum ks) (take-append-le (i + 1) ls (length item ∷ []) (omega (arith, lt))) in
      string_is longer (content ++ item) i (omega (arith, lt, length_push ls (length item)))
      ∙ (λ j. slice_range (content ++ item) (from j) (to j))
      ∙ range_before content item (offset_at (spans ls) i) (offset_at (spans ls) (i + 1))
      (omega (arith, sum_rises ls i (i + 1) (omega arith))) (omega (arith, full, first_sum ls (i + 1)))
      ∙ sym (string_is ls content i lt)

  string_last : string_at (offsets longer) (content ++ item) (length ls) ≡ item
  string_last =
      let within : length ls < length longer = omega (arith, length_push ls (length item)) in
      let start : offset_at (spans longer) (length ls) ≡ length content =
      omega (arith, full, ap sum (take_at ls (length item ∷ []) (length ls) refl)) in
      let wide = get_or_at ls (length item) [] 0 (length ls) refl in
      string_is longer (content ++ item) (length ls) within
      ∙ range_last content item (offset_at (spans longer) (length ls)) (offset_at (spans longer) (length ls + 1)) start
      (omega (arith, offset_at-more (spans longer) (length ls) within, start, wide))

  more_are : (layout : PhysicalType) → are_strings layout (offsets ls) content ≡ true → list_all is_byte item ≡ true
      → sum ls + length item ≤ most_offset layout → are_strings layout (offsets longer) (content ++ item) ≡ true
  more_are layout h each small =
      let limit = min (most_offset layout) (length (content ++ item)) in
      let own = and_parts (are_offsets (offsets ls) (min (most_offset layout) (length content))) (list_all is_byte content) h in
      let last = last_more ls (length item) in
      and_from (are_offsets (offsets longer) limit) (list_all is_byte (content ++ item))
      (spans_sound (spans longer) limit (le-min {k = last_of (spans longer)} {a = most_offset layout} {b = length (content ++ item)}
      (omega (arith, last, small)) (omega (arith, last, full, length-append content item))))
      (list_all-append is_byte content item ∙ and_from (list_all is_byte content) (list_all is_byte item) own.1 each)

-- each string passes a test
abbrev pub Each : (List ℕ → Bool) → List ℕ → List ℕ → Type 0
Each test os content = (i : ℕ) → i < length os - 1 → test (string_at os content i) ≡ true

more_each : (test : List ℕ → Bool) (ls content item : List ℕ) → length content ≡ sum ls → test item ≡ true → Each test (offsets ls) content
    → Each test (offsets (ls ++ length item ∷ [])) (content ++ item)
more_each test ls content item full own each = λ i lt.
    let more = ls ++ length item ∷ [] in
    let within : i < length ls + 1 = omega (arith, lt, spans_count (spans more), length_push ls (length item)) in
    elim (cases_eq i (length ls)) [
      | inl last ↦ ap (λ k. test (string_at (offsets more) (content ++ item) k)) last ∙ ap test (string_last ls content item full) ∙ own
      | inr other ↦ ap test (string_before ls content item full i (omega (arith, within, other)))
          ∙ each i (omega (arith, within, other, spans_count (spans ls)))
    ]

-- ---- how strings are stored

-- How strings are stored by their offsets, what is shown of each, and which of them may be stored; that columns of the type store slots so, and
-- which slots fit.
pub record StoresStrings (t : DataType) (make : List ℕ → List ℕ → Stored) (parts : Stored → List ℕ × List ℕ) (shown : List ℕ → Slot)
    (layout : PhysicalType) (test : List ℕ → Bool) (takes : Slot → Bool) : Type 0 where
  pub long : (os content : List ℕ) → stored_len (make os content) ≡ length os - 1
  pub seen : (os content : List ℕ) (i : ℕ) → stored_at (make os content) i ≡ shown (string_at os content i)
  pub back : (os content : List ℕ) → parts (make os content) ≡ (os, content)
  pub sized : (os content : List ℕ) → has_size (type_layer t) (make os content) ≡ true
  pub told : (os content : List ℕ) → is_stored_as (physical_type t) (make os content) ≡ true
      → (are_strings layout os content ≡ true) × Each test os content
  pub tells : (os content : List ℕ) → are_strings layout os content ≡ true → Each test os content
      → is_stored_as (physical_type t) (make os content) ≡ true
  pub some : (item : List ℕ) → is_null (shown item) ≡ false
  pub valid : (item : List ℕ) → is_valid (shown item) ≡ true
  pub held : (item : List ℕ) → content_of (shown item) ≡ item
  pub stores : (xs : List Slot) → fresh t xs ≡ flat t (mask_of xs) (make (content_offsets xs) (flat_map content_of xs))
  pub room : (xs : List Slot) → fits t xs ≡ (list_all takes xs && bytes_within (most_offset layout) xs)

-- the lengths of the strings of slots
abbrev pub lengths_of : List Slot → List ℕ
lengths_of xs = map (λ x. length (content_of x)) xs

abbrev stored_in : Column → Stored
stored_in (flat t mask stored) = stored
stored_in _ = bits []

module _ (t : DataType) (make : List ℕ → List ℕ → Stored) (parts : Stored → List ℕ × List ℕ) (shown : List ℕ → Slot)
    (layout : PhysicalType) (test : List ℕ → Bool) (takes : Slot → Bool) (k : StoresStrings t make parts shown layout test takes) where
  abbrev pub stored_by : List ℕ → List ℕ → Stored
  stored_by ls content = make (offsets ls) content

  abbrev pub col : Option (List Bool) → List ℕ → List ℕ → Column
  col mask ls content = flat t mask (stored_by ls content)

  abbrev pub parts_by : Stored → List ℕ × List ℕ
  parts_by s = ((spans_of (parts s).0).lengths, (parts s).1)

  pub strings_back : (ls content : List ℕ) → parts_by (stored_by ls content) ≡ (ls, content)
  strings_back ls content =
      (λ j. ((spans_of (k.back (offsets ls) content j).0).lengths, (k.back (offsets ls) content j).1))
      ∙ (λ j. ((spans_of-offsets_of (spans ls) j).lengths, content))

  pub counted : (ls content : List ℕ) → stored_len (stored_by ls content) ≡ length ls
  counted ls content = k.long (offsets ls) content ∙ spans_count (spans ls)

  pub fresh_by : (xs : List Slot) → fresh t xs ≡ col (mask_of xs) (lengths_of xs) (flat_map content_of xs)
  fresh_by xs = k.stores xs ∙ ap (λ (os : List ℕ). flat t (mask_of xs) (make os (flat_map content_of xs))) (sym (content_spans_are xs))

  sound_by : (mask : Option (List Bool)) (ls content : List ℕ) → is_stored_as (physical_type t) (stored_by ls content) ≡ true
      → mask_fits mask (length ls) ≡ true → is_sound (col mask ls content) ≡ true
  sound_by mask ls content stored masked =
      let s = stored_by ls content in
      and_from (is_stored_as (physical_type t) s && has_size (type_layer t) s) (mask_fits mask (stored_len s))
      (and_from (is_stored_as (physical_type t) s) (has_size (type_layer t) s) stored (k.sized (offsets ls) content))
      (ap (mask_fits mask) (counted ls content) ∙ masked)

  -- without strings
  none_stored : (ls content : List ℕ) → length ls ≡ 0 → length content ≡ sum ls → is_stored_as (physical_type t) (stored_by ls content) ≡ true
  none_stored [] [] none full =
      k.tells (offsets []) []
      (and_from (are_offsets (offsets []) (min (most_offset layout) 0)) true (spans_sound (spans []) (min (most_offset layout) 0) (omega arith)) refl)
      (λ i lt. absurd (omega (arith, lt, spans_count (spans []))))
  none_stored [] (c ∷ cs) none full = absurd (omega (arith, full))
  none_stored (l ∷ ls) content none full = absurd (omega (arith, none))

  pub none_sound : (mask : Option (List Bool)) (ls content : List ℕ) → mask_fits mask (length ls) ≡ true → length ls ≡ 0
      → length content ≡ sum ls → is_sound (col mask ls content) ≡ true
  none_sound mask ls content masked none full = sound_by mask ls content (none_stored ls content none full) masked

  module _ (mask : Option (List Bool)) (ls content item : List ℕ) (full : length content ≡ sum ls) where
    abbrev old : Column
    old = col mask ls content

    abbrev last_slot : Slot
    last_slot = shown item

    abbrev more : List ℕ
    more = ls ++ length item ∷ []

    slots_counted : length (slots old) ≡ length ls
    slots_counted = slots_lengths old ∙ counted ls content

    fresh_parts : IsFresh old → old ≡ col (mask_of (slots old)) (lengths_of (slots old)) (flat_map content_of (slots old))
    fresh_parts f = f.stored ∙ fresh_by (slots old)

    fresh_strings : IsFresh old → ◌≡◌ {A = List ℕ × List ℕ} (ls, content) (lengths_of (slots old), flat_map content_of (slots old))
    fresh_strings f =
        sym (strings_back ls content) ∙ ap (λ (c : Column). parts_by (stored_in c)) (fresh_parts f)
        ∙ strings_back (lengths_of (slots old)) (flat_map content_of (slots old))

    fresh_content : IsFresh old → content ≡ flat_map content_of (slots old)
    fresh_content f = ap (λ (p : List ℕ × List ℕ). p.1) (fresh_strings f)

    -- how many bytes there are with the item
    bytes_more : IsFresh old → length (flat_map content_of (slots old ++ last_slot ∷ [])) ≡ sum ls + length item
    bytes_more f =
        omega (
          arith,
          joined_length_one_more content_of (slots old) last_slot,
          ap length (fresh_content f),
          ap length (k.held item),
          full,
        )

    -- ---- refusals

    pub string_unfit : most_offset layout < sum ls + length item → IsFresh old → fits t (slots_and old last_slot) ≡ false
    string_unfit past f = false_from_ne_true (fits t (slots_and old last_slot)) (λ fit.
        let xs = slots old ++ last_slot ∷ [] in
        let own = (and_parts (list_all takes xs) (bytes_within (most_offset layout) xs) (sym (k.room xs) ∙ fit)).1 in
        let within = leb-true (sum_by byte_count xs) (most_offset layout)
        (and_parts (is_length xs) (nat_le (sum_by byte_count xs) (most_offset layout)) own).1 in
        omega (arith, within, bytes_counted xs, bytes_more f, past))

    pub too_many : most_slots ≤ length ls → fits t (slots_and old last_slot) ≡ false
    too_many many = false_from_ne_true (fits t (slots_and old last_slot)) (λ fit.
        omega (arith, fits_length t (slots_and old last_slot) fit, length-append (slots old) (last_slot ∷ []), slots_counted, many))

    -- ---- a string more

    module _ (masked : mask_fits mask (length ls) ≡ true) (each : list_all is_byte item ≡ true) (own : test item ≡ true)
        (taken : takes last_slot ≡ true) (small : sum ls + length item ≤ most_offset layout) where
      abbrev marked : Option (List Bool)
      marked = with_marks (length ls) mask (true ∷ [])

      abbrev new : Column
      new = col marked more (content ++ item)

      more_slots : slots new ≡ slots_and old last_slot
      more_slots =
          let n = length ls in
          let one : stored_len (stored_by more (content ++ item)) ≡ suc n =
          counted more (content ++ item) ∙ length_push ls (length item) ∙ omega arith in
          let from : 0 + n ≡ n = omega arith in
          let there = k.seen (offsets more) (content ++ item) n ∙ ap shown (string_last ls content item full) in
          let last : slot_at new (0 + n) ≡ last_slot = ap (slot_at new) from ∙ (λ j. if value_marked n mask masked j then there j else null) in
          ap (window (slot_at new) 0) one ∙ window_more (slot_at new) 0 n
          ∙ (λ j. window_same (slot_at new) (slot_at old) 0 0 n (λ i h. before (0 + i) (omega (arith, h))) j ++ last j ∷ [])
          ∙ ap (λ (xs : List Slot). xs ++ last_slot ∷ []) (sym (ap (window (slot_at old) 0) (counted ls content)))
        where
          before : (i : ℕ) → i < length ls → slot_at new i ≡ slot_at old i
          before i h =
              let mark = marks_before (length ls) mask i masked h in
              let here = k.seen (offsets more) (content ++ item) i ∙ ap shown (string_before ls content item full i h)
              ∙ sym (k.seen (offsets ls) content i) in
              λ j. if mark j then here j else null

      more_sound : is_sound old ≡ true → is_sound new ≡ true
      more_sound h =
          let stored = (parts_of_3 (is_stored_as (physical_type t) (stored_by ls content)) (has_size (type_layer t) (stored_by ls content))
          (mask_fits mask (stored_len (stored_by ls content))) h).0 in
          let held = k.told (offsets ls) content stored in
          sound_by marked more (content ++ item)
          (k.tells (offsets more) (content ++ item) (more_are ls content item full layout held.0 each small)
          (more_each test ls content item full own held.1))
          (ap (mask_fits marked) (length_push ls (length item)) ∙ marks_more (length ls) mask masked)

      more_fits : length ls < most_slots → IsFresh old → fits t (slots old ++ last_slot ∷ []) ≡ true
      more_fits few f =
          let xs = slots old in
          let ys = xs ++ last_slot ∷ [] in
          let all = and_parts (list_all takes xs) (bytes_within (most_offset layout) xs) (sym (k.room xs) ∙ f.fit) in
          k.room ys
          ∙ and_from (list_all takes ys) (bytes_within (most_offset layout) ys)
          (list_all-append takes xs (last_slot ∷ [])
          ∙ and_from (list_all takes xs) (list_all takes (last_slot ∷ [])) all.0 (and_from (takes last_slot) true taken refl))
          (and_from (is_length ys) (nat_le (sum_by byte_count ys) (most_offset layout))
          (le-leb (length ys) most_slots (omega (arith, length-append xs (last_slot ∷ []), slots_counted, few)))
          (le-leb (sum_by byte_count ys) (most_offset layout) (omega (arith, bytes_counted ys, bytes_more f, small))))

      more_fresh : length ls < most_slots → IsFresh old → IsFresh new
      more_fresh few f =
          let xs = slots old in
          let masks : marked ≡ mask_of (xs ++ last_slot ∷ []) =
          mask_with_value (length ls) mask xs last_slot (k.valid item) (ap column_mask (fresh_parts f)) in
          let widths : more ≡ lengths_of (xs ++ last_slot ∷ []) =
          (λ j. (fresh_strings f j).0 ++ length (sym (k.held item) j) ∷ []) ∙ sym (lengths_one_more content_of xs last_slot) in
          let bytes : content ++ item ≡ flat_map content_of (xs ++ last_slot ∷ []) =
          (λ j. fresh_content f j ++ sym (k.held item) j) ∙ sym (joined_one_more content_of xs last_slot) in
          let stored : new ≡ fresh t (xs ++ last_slot ∷ []) =
          (λ j. col (masks j) (widths j) (bytes j)) ∙ sym (fresh_by (xs ++ last_slot ∷ [])) in record {
            stored = stored ∙ ap (fresh t) (sym more_slots);
            fit = ap (fits t) more_slots ∙ more_fits few f;
            can = f.can;
          }

      pub string_added : length ls < most_slots → Becomes old (slots_and old last_slot) new
      string_added few = record {
        typed = refl;
        long = sym (slots_lengths new) ∙ ap length more_slots;
        sound = λ h. (more_sound h, more_slots);
        fresh = more_fresh few;
      }
