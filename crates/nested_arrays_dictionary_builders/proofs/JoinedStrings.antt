-- Columns of texts and of byte strings whose slots stand one behind the other.
use Rattle.std.proofs.Common.{◌≡◌, ◌∙◌, ◌<◌, ◌≤◌, ◌+◌, ◌-◌, ℕ, List, ◌++◌, length, map, take, drop, min, sum, Bool, true, false}
use Rattle.std.proofs.Common.{sym, ap, subst, arith}
use Rattle.std.specs.Prelude.{◌⊎◌, nat_le, slice_range, sum_by, MatchResult, Result, Ok, Err}
use Rattle.std.specs.List.{flat_map, list_all}
use Rattle.std.specs.Str.{is_utf8}
use Rattle.std.proofs.Math.Nat.{le-min}
use Rattle.std.proofs.Math.Seq.{drop-append-add, take-append-add}
use Rattle.std.proofs.lemmas.Bool.{and_from, and_parts, cases_lt, false_from_ne_true, le-leb, leb-true}
use Rattle.std.proofs.lemmas.Grind.{flat_map-append}
use Rattle.std.proofs.lemmas.List.{length-append, length-drop, map-append, take-append-le}
use Rattle.std.proofs.lemmas.List.Sums.{sum_by-append}
use mathlib.Core.Logic.{inl, inr}
use Rattle.nested_arrays_sized_builders.specs.nulls.columnar_memory.declared.DataType.{DataType}
use Rattle.nested_arrays_sized_builders.specs.nulls.columnar_memory.declared.Error.{Error}
use Rattle.nested_arrays_sized_builders.specs.nulls.columnar_memory.declared.PhysicalType.{PhysicalType}
use Rattle.nested_arrays_sized_builders.specs.nulls.columnar_memory.Error.{IsOutOfMemory, IsOverflow}
use Rattle.nested_arrays_sized_builders.specs.nulls.columnar_memory.Layouts.{physical_type}
use Rattle.nested_arrays_sized_builders.specs.nulls.columnar_memory.Spans.{last_of, offset_at, offsets_of}
use Rattle.nested_arrays_sized_builders.specs.nulls.columns.Cells.{is_bytes, is_text}
use Rattle.nested_arrays_sized_builders.specs.nulls.columns.FreshColumns.{content_of}
use Rattle.nested_arrays_sized_builders.specs.nulls.columns.Kinds.{most_offset, most_slots}
use Rattle.nested_arrays_sized_builders.specs.nulls.columns.OpenBatch.{byte_count, bytes_within, fits, is_length}
use Rattle.nested_arrays_sized_builders.specs.nulls.columns.Slots.{Slot, bytes, text}
use Rattle.nested_arrays_sized_builders.specs.nulls.columns.SoundColumns.{are_offsets, are_strings, is_byte, mask_fits}
use Rattle.nested_arrays_sized_builders.specs.nulls.columns.StoredColumns.{Column, Stored, byte_strings as stored_bytes, column_type, flat, slots}
use Rattle.nested_arrays_sized_builders.specs.nulls.columns.StoredColumns.{string_at, texts}
use Rattle.nested_arrays_sized_builders.specs.flat_arrays.ByteStrings.{ByteStrings, len_of}
use Rattle.nested_arrays_sized_builders.specs.flat_arrays.Fits.{binary_layout, text_layout}
use Rattle.nested_arrays_sized_builders.specs.flat_arrays.Growing.{IsFilled, IsGrown, joined}
use Rattle.nested_arrays_sized_builders.specs.cells.taken.builders.values.ByteBuilders.{from_zero, open_binary, open_text}
use Rattle.nested_arrays_sized_builders.specs.cells.taken.OpenColumns.{IsFresh}
use Rattle.nested_arrays_sized_builders.proofs.columns_lemmas.Limits.{bytes_counted}
use Rattle.nested_arrays_sized_builders.proofs.columns_lemmas.Pieces.{last_span}
use Rattle.nested_arrays_sized_builders.proofs.nulls_lemmas.flat_lemmas.Offsets.{spans_count}
use Rattle.nested_arrays_sized_builders.proofs.nulls_lemmas.flat_lemmas.SoundStrings.{greatest_of, spans_sound}
use Rattle.nested_arrays_dictionary_builders.specs.JoinedArrays.{JoinsBytes}
use Rattle.nested_arrays_dictionary_builders.specs.JoinedColumns.{AddsColumn, AreAlike, Joins}
use Rattle.nested_arrays_dictionary_builders.proofs.ByteColumns.{Each, StoresStrings, counted, first_sum, fresh_by, lengths_of, offsets, parts_by}
use Rattle.nested_arrays_dictionary_builders.proofs.ByteColumns.{range_before, spans, string_is, strings_back, sum_rises}
use Rattle.nested_arrays_dictionary_builders.proofs.ByteItems.{binary_most, binary_parts, binary_stores, fits_mask, text_most}
use Rattle.nested_arrays_dictionary_builders.proofs.ByteItems.{text_parts, text_stores}
use Rattle.nested_arrays_dictionary_builders.proofs.JoinedFlats.{all_both}
use Rattle.nested_arrays_dictionary_builders.proofs.JoinedSlots.{JoinsStored, both_join, column_added, fresh_values, too_many}

-- ---- strings by offsets

pub range_behind : (content more : List ℕ) (a b : ℕ) → slice_range (content ++ more) (length content + a) (length content + b) ≡ slice_range more a b
range_behind content more a b =
    let wide : length content + b - (length content + a) ≡ b - a = omega arith in
    λ j. take (wide j) (drop-append-add content more a j)

module _ (ls ms content more : List ℕ) (full : length content ≡ sum ls) (other_full : length more ≡ sum ms) where
  abbrev both : List ℕ
  both = ls ++ ms

  at_first : (i : ℕ) → i ≤ length ls → offset_at (spans both) i ≡ offset_at (spans ls) i
  at_first i le = ap (λ (ks : List ℕ). 0 + sum ks) (take-append-le i ls ms le)

  at_second : (i : ℕ) → offset_at (spans both) (length ls + i) ≡ length content + offset_at (spans ms) i
  at_second i = omega (arith, full, ap sum (take-append-add ls ms i), sum_by-append (λ x. x) ls (take i ms))

  string_first : (i : ℕ) → i < length ls → string_at (offsets both) (content ++ more) i ≡ string_at (offsets ls) content i
  string_first i lt =
      let from = at_first i (omega (arith, lt)) in
      let to = at_first (i + 1) (omega (arith, lt)) in
      string_is both (content ++ more) i (omega (arith, lt, length-append ls ms))
      ∙ (λ j. slice_range (content ++ more) (from j) (to j))
      ∙ range_before content more (offset_at (spans ls) i) (offset_at (spans ls) (i + 1))
      (omega (arith, sum_rises ls i (i + 1) (omega arith))) (omega (arith, full, first_sum ls (i + 1)))
      ∙ sym (string_is ls content i lt)

  string_second : (i : ℕ) → i < length ms → string_at (offsets both) (content ++ more) (length ls + i) ≡ string_at (offsets ms) more i
  string_second i lt =
      let next : length ls + i + 1 ≡ length ls + (i + 1) = omega arith in
      let from = at_second i in
      let to = ap (offset_at (spans both)) next ∙ at_second (i + 1) in
      string_is both (content ++ more) (length ls + i) (omega (arith, lt, length-append ls ms))
      ∙ (λ j. slice_range (content ++ more) (from j) (to j))
      ∙ range_behind content more (offset_at (spans ms) i) (offset_at (spans ms) (i + 1))
      ∙ sym (string_is ms more i lt)

  both_last : last_of (spans both) ≡ sum ls + sum ms
  both_last = omega (arith, sum_by-append (λ x. x) ls ms)

  both_are : (layout : PhysicalType) → are_strings layout (offsets ls) content ≡ true → are_strings layout (offsets ms) more ≡ true
      → sum ls + sum ms ≤ most_offset layout → are_strings layout (offsets both) (content ++ more) ≡ true
  both_are layout h g small =
      let limit = min (most_offset layout) (length (content ++ more)) in
      let own = and_parts (are_offsets (offsets ls) (min (most_offset layout) (length content))) (list_all is_byte content) h in
      let other = and_parts (are_offsets (offsets ms) (min (most_offset layout) (length more))) (list_all is_byte more) g in
      and_from (are_offsets (offsets both) limit) (list_all is_byte (content ++ more))
      (spans_sound (spans both) limit (le-min {k = last_of (spans both)} {a = most_offset layout} {b = length (content ++ more)}
      (omega (arith, both_last, small)) (omega (arith, both_last, full, other_full, length-append content more))))
      (all_both is_byte content more own.1 other.1)

  both_each : (test : List ℕ → Bool) → Each test (offsets ls) content → Each test (offsets ms) more → Each test (offsets both) (content ++ more)
  both_each test h g = λ i lt.
      let within : i < length ls + length ms = omega (arith, lt, spans_count (spans both), length-append ls ms) in
      elim (cases_lt i (length ls)) [
        | inl first ↦ ap test (string_first i first) ∙ h i (omega (arith, first, spans_count (spans ls)))
        | inr second ↦
            let n = i - length ls in
            let at : i ≡ length ls + n = omega (arith, second) in
            ap (λ (p : ℕ). test (string_at (offsets both) (content ++ more) p)) at
            ∙ ap test (string_second n (omega (arith, second, within)))
            ∙ g n (omega (arith, second, within, spans_count (spans ms)))
      ]

-- ---- how strings are stored

-- lengths and bytes
abbrev Strings : Type 0
Strings = List ℕ × List ℕ

abbrev strings_of : List Slot → Strings
strings_of xs = (lengths_of xs, flat_map content_of xs)

abbrev IsFull : Strings → Type 0
IsFull x = length x.1 ≡ sum x.0

abbrev join : Strings → Strings → Strings
join x y = (x.0 ++ y.0, x.1 ++ y.1)

abbrev count : Strings → ℕ
count x = length x.0

module _ (t : DataType) (make : List ℕ → List ℕ → Stored) (parts : Stored → List ℕ × List ℕ) (shown : List ℕ → Slot)
    (layout : PhysicalType) (test : List ℕ → Bool) (takes : Slot → Bool) (k : StoresStrings t make parts shown layout test takes) where
  abbrev stored_as : Strings → Stored
  stored_as x = make (offsets x.0) x.1

  abbrev HasRoom : Strings → Strings → Type 0
  HasRoom x y = sum x.0 + sum y.0 ≤ most_offset layout

  -- the bytes of the slots of both
  bytes_of_both : (xs ys : List Slot) → sum_by byte_count (xs ++ ys) ≡ length (flat_map content_of xs) + length (flat_map content_of ys)
  bytes_of_both xs ys =
      bytes_counted (xs ++ ys) ∙ ap length (flat_map-append content_of xs ys) ∙ length-append (flat_map content_of xs) (flat_map content_of ys)

  both_fit : (xs ys : List Slot) → fits t xs ≡ true → fits t ys ≡ true → length xs + length ys ≤ most_slots
      → HasRoom (strings_of xs) (strings_of ys) → fits t (xs ++ ys) ≡ true
  both_fit xs ys h g few room =
      let limit = most_offset layout in
      let own = and_parts (list_all takes xs) (bytes_within limit xs) (sym (k.room xs) ∙ h) in
      let other = and_parts (list_all takes ys) (bytes_within limit ys) (sym (k.room ys) ∙ g) in
      k.room (xs ++ ys)
      ∙ and_from (list_all takes (xs ++ ys)) (bytes_within limit (xs ++ ys)) (all_both takes xs ys own.0 other.0)
      (and_from (is_length (xs ++ ys)) (nat_le (sum_by byte_count (xs ++ ys)) limit)
      (le-leb (length (xs ++ ys)) most_slots (omega (arith, few, length-append xs ys)))
      (le-leb (sum_by byte_count (xs ++ ys)) limit
      (omega (arith, room, bytes_of_both xs ys, last_span content_of xs, last_span content_of ys))))

  strings_join : JoinsStored t stored_as (parts_by t make parts shown layout test takes k) count join strings_of IsFull HasRoom
  strings_join = record {
    long = λ x full. counted t make parts shown layout test takes k x.0 x.1;
    back = λ x. strings_back t make parts shown layout test takes k x.0 x.1;
    sized = λ x. k.sized (offsets x.0) x.1;
    whole = λ x y full other. omega (arith, full, other, length-append x.1 y.1, sum_by-append (λ n. n) x.0 y.0);
    both = λ x y full other. length-append x.0 y.0;
    before = λ x y full other i h.
        k.seen (offsets (x.0 ++ y.0)) (x.1 ++ y.1) i ∙ ap shown (string_first x.0 y.0 x.1 y.1 full other i h) ∙ sym (k.seen (offsets x.0) x.1 i);
    behind = λ x y full other i h.
        k.seen (offsets (x.0 ++ y.0)) (x.1 ++ y.1) (length x.0 + i) ∙ ap shown (string_second x.0 y.0 x.1 y.1 full other i h)
        ∙ sym (k.seen (offsets y.0) y.1 i);
    sound = λ x y full other room h g.
        let own = k.told (offsets x.0) x.1 h in
        let more = k.told (offsets y.0) y.1 g in
        k.tells (offsets (x.0 ++ y.0)) (x.1 ++ y.1) (both_are x.0 y.0 x.1 y.1 full other layout own.0 more.0 room)
        (both_each x.0 y.0 x.1 y.1 full other test own.1 more.1);
    stores = fresh_by t make parts shown layout test takes k;
    of_both = λ xs ys j. (sym (map-append (λ x. length (content_of x)) xs ys) j, sym (flat_map-append content_of xs ys) j);
    room = both_fit;
  }

-- ---- builders as columns

module _ (old other : ByteStrings) (make : List ℕ → List ℕ → Stored) (parts : Stored → List ℕ × List ℕ) (shown : List ℕ → Slot)
    (layout : PhysicalType) (test : List ℕ → Bool) (takes : Slot → Bool)
    (k : StoresStrings old.data_type make parts shown layout test takes) (filled : IsFilled old) (other_filled : IsFilled other)
    (same : physical_type other.data_type ≡ physical_type old.data_type) where
  abbrev t : DataType
  t = old.data_type

  abbrev column_by : ByteStrings → Column
  column_by a = flat a.data_type a.validity (make (offsets_of a.offsets) a.bytes)

  abbrev parts_in : ByteStrings → Strings
  parts_in a = (a.offsets.lengths, drop a.offsets.start a.bytes)

  abbrev before : Column
  before = column_by (from_zero old)

  abbrev second : Column
  second = column_by (from_zero other)

  abbrev grown : ByteStrings
  grown = joined (from_zero old) other

  abbrev make_by : Strings → Stored
  make_by = stored_as t make parts shown layout test takes k

  abbrev unmake_by : Stored → Strings
  unmake_by = parts_by t make parts shown layout test takes k

  abbrev Room : Strings → Strings → Type 0
  Room = HasRoom t make parts shown layout test takes k

  joining : JoinsStored old.data_type make_by unmake_by count join strings_of IsFull Room
  joining = strings_join t make parts shown layout test takes k

  full : IsFull (parts_in old)
  full = omega (arith, length-drop old.offsets.start old.bytes, filled.filled)

  other_full : IsFull (parts_in other)
  other_full = omega (arith, length-drop other.offsets.start other.bytes, other_filled.filled)

  masked : mask_fits old.validity (len_of old) ≡ true
  masked = fits_mask old.validity (len_of old) filled.masked

  other_masked : mask_fits other.validity (len_of other) ≡ true
  other_masked = fits_mask other.validity (len_of other) other_filled.masked

  last_is : last_of grown.offsets ≡ sum old.offsets.lengths + sum other.offsets.lengths
  last_is = both_last old.offsets.lengths other.offsets.lengths (parts_in old).1 (parts_in other).1 full other_full

  module _ (greatest : ℕ) (most : greatest ≡ most_offset layout) where
    abbrev Few : Type 0
    Few = (len_of old + len_of other ≤ most_slots) × (last_of grown.offsets ≤ greatest)

    abbrev Many : Type 0
    Many = (most_slots < len_of old + len_of other) ⊎ (greatest < last_of grown.offsets)

    all_joined : Few → Joins before second (column_by grown)
    all_joined few =
        both_join t make_by unmake_by count join strings_of IsFull Room joining other.data_type same old.validity other.validity (parts_in old)
        (parts_in other) full other_full masked other_masked (omega (arith, few.1, most, last_is)) few.0

    -- bytes past the greatest offset
    past_unfit : greatest < last_of grown.offsets → AreAlike before second → fits t (slots before ++ slots second) ≡ false
    past_unfit past alike =
        let xs = slots before in
        let ys = slots second in
        let own = fresh_values t make_by unmake_by count join strings_of IsFull Room joining old.validity (parts_in old) alike.0 in
        let of_type = subst (λ (d : DataType). IsFresh (flat d other.validity (make_by (parts_in other)))) alike.2 alike.1 in
        let its = fresh_values t make_by unmake_by count join strings_of IsFull Room joining other.validity (parts_in other) of_type in
        let own_bytes : sum old.offsets.lengths ≡ length (flat_map content_of xs) = sym full ∙ ap (λ (x : Strings). length x.1) own in
        let its_bytes : sum other.offsets.lengths ≡ length (flat_map content_of ys) = sym other_full ∙ ap (λ (x : Strings). length x.1) its in
        let all = bytes_of_both t make parts shown layout test takes k xs ys in
        false_from_ne_true (fits t (xs ++ ys)) (λ fit.
        let within = and_parts (list_all takes (xs ++ ys)) (bytes_within (most_offset layout) (xs ++ ys)) (sym (k.room (xs ++ ys)) ∙ fit) in
        let least = leb-true (sum_by byte_count (xs ++ ys)) (most_offset layout)
        (and_parts (is_length (xs ++ ys)) (nat_le (sum_by byte_count (xs ++ ys)) (most_offset layout)) within.1).1 in
        omega (arith, least, all, own_bytes, its_bytes, last_is, past, most))

    unfit : Many → AreAlike before second → fits (column_type before) (slots before ++ slots second) ≡ false
    unfit (inl many) alike =
        too_many t make_by unmake_by count join strings_of IsFull Room joining other.data_type same old.validity other.validity (parts_in old)
        (parts_in other) full other_full masked other_masked many
    unfit (inr past) alike = past_unfit past alike

    joined_by : {U : Type 0} (after : ByteStrings) (r : Result U Error) → JoinsBytes greatest (from_zero old) other after r
        → AddsColumn before second (column_by after) r
    joined_by after r h = column_added before second (column_by grown) (column_by after) Few Many r all_joined unfit (as_columns r h)
      where
        as_columns : {U : Type 0} (r : Result U Error) → JoinsBytes greatest (from_zero old) other after r → MatchResult r
            (λ _. (column_by after ≡ column_by grown) × Few)
            (λ e. (column_by after ≡ before) × (IsOutOfMemory e ⊎ (IsOverflow e × Many)))
        as_columns (Ok u) h = (ap column_by h.0, (h.1, h.2))
        as_columns (Err e) h = (ap column_by h.0, h.1)

pub binary_joined : {U : Type 0} (is_large : Bool) (old other : ByteStrings) → IsGrown (binary_layout is_large) old
    → IsGrown (binary_layout is_large) other → (greatest : ℕ) (after : ByteStrings) (r : Result U Error) → greatest ≡ greatest_of is_large
    → JoinsBytes greatest (from_zero old) other (from_zero after) r → AddsColumn (open_binary old) (open_binary other) (open_binary after) r
binary_joined is_large old other whole other_whole greatest after r most h =
    joined_by old other stored_bytes binary_parts bytes (binary_layout is_large) (λ content. true) is_bytes
    (binary_stores is_large old.data_type whole.fits) whole.whole other_whole.whole (other_whole.fits ∙ sym whole.fits) greatest
    (most ∙ binary_most is_large) (from_zero after) r h

pub texts_joined : {U : Type 0} (is_large : Bool) (old other : ByteStrings) → IsGrown (text_layout is_large) old
    → IsGrown (text_layout is_large) other → (greatest : ℕ) (after : ByteStrings) (r : Result U Error) → greatest ≡ greatest_of is_large
    → JoinsBytes greatest (from_zero old) other (from_zero after) r → AddsColumn (open_text old) (open_text other) (open_text after) r
texts_joined is_large old other whole other_whole greatest after r most h =
    joined_by old other texts text_parts text (text_layout is_large) is_utf8 is_text
    (text_stores is_large old.data_type whole.fits) whole.whole other_whole.whole (other_whole.fits ∙ sym whole.fits) greatest
    (most ∙ text_most is_large) (from_zero after) r h
