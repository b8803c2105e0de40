-- Builders of texts and of byte strings as columns with one more, and which slot one is.
use Rattle.std.proofs.Common.{◌≡◌, ◌∙◌, ◌<◌, ◌-◌, ℕ, List, [], ◌∷◌, length, drop, sum, get_or, Bool, true, false, refl, sym, ap, subst, arith}
use Rattle.std.specs.Prelude.{Option, Some, None, ◌↔◌, ◌⊎◌, ◌&&◌, IsTrue, if◌then◌else◌, slice_get, Result, Ok, Err}
use Rattle.std.specs.List.{list_all}
use Rattle.std.specs.Str.{IsUtf8, is_utf8}
use Rattle.std.proofs.lemmas.Bool.{and_from, and_parts, cases_Bool, eq-eqb, false≢true}
use Rattle.std.proofs.lemmas.List.{get_or-replicate, length-drop, length-replicate}
use Rattle.std.proofs.lemmas.Option.{get_or_from_slice_get, same_Some, slice_get-get_or}
use Rattle.std.proofs.lemmas.Str.{is_utf8-from_IsUtf8}
use mathlib.Core.Logic.{inl, inr}
use Rattle.nested_arrays_sized_builders.specs.nulls.columnar_memory.declared.DataType.{DataType}
use Rattle.nested_arrays_sized_builders.specs.nulls.columnar_memory.declared.DataType.TheOpen as layer
use Rattle.nested_arrays_sized_builders.specs.nulls.columnar_memory.declared.Error.{Error}
use Rattle.nested_arrays_sized_builders.specs.nulls.columnar_memory.declared.PhysicalType.{PhysicalType}
use Rattle.nested_arrays_sized_builders.specs.nulls.columnar_memory.declared.PhysicalType.TheVariants as physical
use Rattle.nested_arrays_sized_builders.specs.nulls.columnar_memory.Error.{IsInvalidArgument, IsOutOfMemory, IsOverflow}
use Rattle.nested_arrays_sized_builders.specs.nulls.columnar_memory.Layouts.{physical_type}
use Rattle.nested_arrays_sized_builders.specs.nulls.columnar_memory.Spans.{offsets_of}
use Rattle.nested_arrays_sized_builders.specs.nulls.columns.Cells.{fits_cell, is_bytes, is_null, is_text}
use Rattle.nested_arrays_sized_builders.specs.nulls.columns.FreshColumns.{content_of}
use Rattle.nested_arrays_sized_builders.specs.nulls.columns.Kinds.{most_offset}
use Rattle.nested_arrays_sized_builders.specs.nulls.columns.OpenBatch.{fits}
use Rattle.nested_arrays_sized_builders.specs.nulls.columns.Slots.{Slot, null, bytes, text}
use Rattle.nested_arrays_sized_builders.specs.nulls.columns.SoundColumns.{are_strings, has_size, holds_below, is_byte, is_sound}
use Rattle.nested_arrays_sized_builders.specs.nulls.columns.SoundColumns.{is_stored_as, is_text_at, mask_fits}
use Rattle.nested_arrays_sized_builders.specs.nulls.columns.StoredColumns.{Column, Stored, byte_strings as stored_bytes, column_len, flat}
use Rattle.nested_arrays_sized_builders.specs.nulls.columns.StoredColumns.{is_valid_at, slot_at, string_at, texts, type_layer}
use Rattle.nested_arrays_sized_builders.specs.flat_arrays.ByteStrings.{ByteStrings, cut_by, len_of, marks, marks_of, values_of}
use Rattle.nested_arrays_sized_builders.specs.flat_arrays.Fits.{IsMaskOf, binary_layout, text_layout}
use Rattle.nested_arrays_sized_builders.specs.flat_arrays.Growing.{IsFilled, IsGrown, with_slot}
use Rattle.nested_arrays_sized_builders.specs.cells.taken.builders.values.ByteBuilders.{from_zero, open_binary, open_text}
use Rattle.nested_arrays_sized_builders.specs.cells.taken.OpenColumns.{Becomes, IsFresh, slots_and}
use Rattle.nested_arrays_sized_builders.specs.MarkedSlots.{AddsSlot}
use Rattle.nested_arrays_sized_builders.proofs.columns_lemmas.Fits.{fits_binary, fits_large_binary, fits_large_texts, fits_texts}
use Rattle.nested_arrays_sized_builders.proofs.columns_lemmas.LayerParts.{fresh_binary, fresh_large_binary, fresh_large_texts, fresh_texts}
use Rattle.nested_arrays_sized_builders.proofs.nulls_lemmas.arrays_lemmas.columns_lemmas.Conditions.{holds_at, holds_from}
use Rattle.nested_arrays_sized_builders.proofs.nulls_lemmas.arrays_lemmas.columns_lemmas.FreshLengths.{Layer}
use Rattle.nested_arrays_sized_builders.proofs.nulls_lemmas.arrays_lemmas.columns_lemmas.TextBytes.{text_bytes}
use Rattle.nested_arrays_sized_builders.proofs.nulls_lemmas.flat_arrays_lemmas.bytes_lemmas.Places.{value_between}
use Rattle.nested_arrays_sized_builders.proofs.nulls_lemmas.flat_lemmas.SoundStrings.{greatest_of}
use Rattle.nested_arrays_sized_builders.proofs.values_lemmas.parts_lemmas.FlatLayers.{at_layout, binary_layer, large_binary_layer, large_text_layer}
use Rattle.nested_arrays_sized_builders.proofs.values_lemmas.parts_lemmas.FlatLayers.{text_layer}
use Rattle.nested_arrays_dictionary_builders.specs.ByteItems.{AddsBytes, HoldsAt, IsPast}
use Rattle.nested_arrays_dictionary_builders.proofs.ByteColumns.{Each, StoresStrings, counted, last_more, none_sound, offsets, string_added}
use Rattle.nested_arrays_dictionary_builders.proofs.ByteColumns.{string_is, string_unfit, too_many}

drop_none : {A : Type 0} (xs : List A) → drop 0 xs ≡ xs
drop_none [] = refl
drop_none (x ∷ xs) = refl

-- ---- what is stored of byte strings and of texts

abbrev pub binary_parts : Stored → List ℕ × List ℕ
binary_parts (stored_bytes os content) = (os, content)
binary_parts _ = ([], [])

abbrev pub text_parts : Stored → List ℕ × List ℕ
text_parts (texts os content) = (os, content)
text_parts _ = ([], [])

sized_binary : (x : Layer) (os content : List ℕ) → has_size x (stored_bytes os content) ≡ true
sized_binary (layer.FixedSizeBinary size) os content = refl
sized_binary _ os content = refl

sized_texts : (x : Layer) (os content : List ℕ) → has_size x (texts os content) ≡ true
sized_texts (layer.FixedSizeBinary size) os content = refl
sized_texts _ os content = refl

-- what a layout says of stored values, of a type that lies in memory so
at_type : (t : DataType) (layout : PhysicalType) (s : Stored) → physical_type t ≡ layout → is_stored_as (physical_type t) s ≡ is_stored_as layout s
at_type t layout s lies = ap (λ (l : PhysicalType). is_stored_as l s) lies

pub binary_stores : (is_large : Bool) (t : DataType) → physical_type t ≡ binary_layout is_large
    → StoresStrings t stored_bytes binary_parts bytes (binary_layout is_large) (λ content. true) is_bytes
binary_stores true t lies =
    let is = at_layout t physical.LargeBinary layer.LargeBinary large_binary_layer lies in record {
      long = λ os content. refl;
      seen = λ os content i. refl;
      back = λ os content. refl;
      sized = sized_binary (type_layer t);
      told = λ os content h. (sym (at_type t physical.LargeBinary (stored_bytes os content) lies) ∙ h, λ i lt. refl);
      tells = λ os content h each. at_type t physical.LargeBinary (stored_bytes os content) lies ∙ h;
      some = λ item. refl;
      valid = λ item. refl;
      held = λ item. refl;
      stores = fresh_large_binary t is;
      room = fits_large_binary t is;
    }
binary_stores false t lies =
    let is = at_layout t physical.Binary layer.Binary binary_layer lies in record {
      long = λ os content. refl;
      seen = λ os content i. refl;
      back = λ os content. refl;
      sized = sized_binary (type_layer t);
      told = λ os content h. (sym (at_type t physical.Binary (stored_bytes os content) lies) ∙ h, λ i lt. refl);
      tells = λ os content h each. at_type t physical.Binary (stored_bytes os content) lies ∙ h;
      some = λ item. refl;
      valid = λ item. refl;
      held = λ item. refl;
      stores = fresh_binary t is;
      room = fits_binary t is;
    }

-- texts are strings that are UTF-8 each
abbrev are_texts : PhysicalType → List ℕ → List ℕ → Bool
are_texts layout os content = are_strings layout os content && holds_below (length os - 1) (is_text_at os content)

texts_told : (layout : PhysicalType) (os content : List ℕ) → are_texts layout os content ≡ true
    → (are_strings layout os content ≡ true) × Each is_utf8 os content
texts_told layout os content h =
    let own = and_parts (are_strings layout os content) (holds_below (length os - 1) (is_text_at os content)) h in
    (own.0, λ i lt. holds_at (length os - 1) (is_text_at os content) i own.1 lt)

texts_tell : (layout : PhysicalType) (os content : List ℕ) → are_strings layout os content ≡ true → Each is_utf8 os content
    → are_texts layout os content ≡ true
texts_tell layout os content h each =
    and_from (are_strings layout os content) (holds_below (length os - 1) (is_text_at os content)) h
    (holds_from (length os - 1) (is_text_at os content) each)

pub text_stores : (is_large : Bool) (t : DataType) → physical_type t ≡ text_layout is_large
    → StoresStrings t texts text_parts text (text_layout is_large) is_utf8 is_text
text_stores true t lies =
    let is = at_layout t physical.LargeUtf8 layer.LargeUtf8 large_text_layer lies in record {
      long = λ os content. refl;
      seen = λ os content i. refl;
      back = λ os content. refl;
      sized = sized_texts (type_layer t);
      told = λ os content h. texts_told physical.LargeUtf8 os content (sym (at_type t physical.LargeUtf8 (texts os content) lies) ∙ h);
      tells = λ os content h each. at_type t physical.LargeUtf8 (texts os content) lies ∙ texts_tell physical.LargeUtf8 os content h each;
      some = λ item. refl;
      valid = λ item. refl;
      held = λ item. refl;
      stores = fresh_large_texts t is;
      room = fits_large_texts t is;
    }
text_stores false t lies =
    let is = at_layout t physical.Utf8 layer.Utf8 text_layer lies in record {
      long = λ os content. refl;
      seen = λ os content i. refl;
      back = λ os content. refl;
      sized = sized_texts (type_layer t);
      told = λ os content h. texts_told physical.Utf8 os content (sym (at_type t physical.Utf8 (texts os content) lies) ∙ h);
      tells = λ os content h each. at_type t physical.Utf8 (texts os content) lies ∙ texts_tell physical.Utf8 os content h each;
      some = λ item. refl;
      valid = λ item. refl;
      held = λ item. refl;
      stores = fresh_texts t is;
      room = fits_texts t is;
    }

-- ---- builders as columns

pub fits_mask : (mask : Option (List Bool)) (n : ℕ) → IsMaskOf n mask → mask_fits mask n ≡ true
fits_mask None n h = refl
fits_mask (Some given) n h = eq-eqb (length given) n h

-- the mark of a place
mark_is : (n : ℕ) (mask : Option (List Bool)) (i : ℕ) → i < n → is_valid_at mask i ≡ get_or (marks n mask) i false
mark_is n None i lt = sym (get_or-replicate n i true false lt)
mark_is n (Some given) i lt = refl

mark_counted : (n : ℕ) (mask : Option (List Bool)) → IsMaskOf n mask → length (marks n mask) ≡ n
mark_counted n None h = length-replicate n true
mark_counted n (Some given) h = h

module _ (before : ByteStrings) (make : List ℕ → List ℕ → Stored) (parts : Stored → List ℕ × List ℕ) (shown : List ℕ → Slot)
    (layout : PhysicalType) (test : List ℕ → Bool) (takes : Slot → Bool)
    (k : StoresStrings before.data_type make parts shown layout test takes) (filled : IsFilled before) where
  abbrev t : DataType
  t = before.data_type

  abbrev ls : List ℕ
  ls = before.offsets.lengths

  abbrev content : List ℕ
  content = drop before.offsets.start before.bytes

  abbrev column_by : ByteStrings → Column
  column_by a = flat a.data_type a.validity (make (offsets_of a.offsets) a.bytes)

  abbrev old : Column
  old = column_by (from_zero before)

  full : length content ≡ sum ls
  full = omega (arith, length-drop before.offsets.start before.bytes, filled.filled)

  masked : mask_fits before.validity (length ls) ≡ true
  masked = fits_mask before.validity (length ls) filled.masked

  pub pushed_by : {U : Type 0} (greatest : ℕ) (item : List ℕ) (after : ByteStrings) (r : Result U Error) → greatest ≡ most_offset layout
      → list_all is_byte item ≡ true → test item ≡ true → takes (shown item) ≡ true → AddsBytes greatest item (from_zero before) after r
      → AddsSlot old (shown item) (column_by after) r
  pushed_by greatest item after (Ok u) most each own taken h =
      let last = last_more ls (length item) in
      subst (λ (a : ByteStrings). Becomes old (slots_and old (shown item)) (column_by a)) (sym h.0)
      (string_added t make parts shown layout test takes k before.validity ls content item full masked each own taken
      (omega (arith, most, last, h.2)) h.1)
  pushed_by greatest item after (Err e) most each own taken h = (ap column_by h.0, why h.1)
    where
      unfit : IsPast greatest (from_zero before) (with_slot (from_zero before) (Some item)) → IsFresh old
          → fits t (slots_and old (shown item)) ≡ false
      unfit (inl many) f = too_many t make parts shown layout test takes k before.validity ls content item full many
      unfit (inr past) f =
          let last = last_more ls (length item) in
          string_unfit t make parts shown layout test takes k before.validity ls content item full (omega (arith, most, past, last)) f

      why : IsOutOfMemory e ⊎ (IsOverflow e × IsPast greatest (from_zero before) (with_slot (from_zero before) (Some item)))
          → IsOutOfMemory e ⊎ (IsInvalidArgument e × (fits_cell t (shown item) ≡ false))
          ⊎ (IsOverflow e × (IsFresh old → fits t (slots_and old (shown item)) ≡ false))
      why (inl memory) = inl memory
      why (inr over) = inr (inr (over.0, λ f. unfit over.1 f))

  -- without slots
  pub whole_by : column_len old ≡ 0 → is_sound old ≡ true
  whole_by none =
      let nothing : length ls ≡ 0 = sym (counted t make parts shown layout test takes k ls content) ∙ none in
      none_sound t make parts shown layout test takes k before.validity ls content masked nothing full

  -- ---- slots

  value_is : (i : ℕ) → i < length ls → slice_get (values_of before) i ≡ Some (string_at (offsets ls) content i)
  value_is i lt =
      ap (λ (xs : List ℕ). slice_get (cut_by ls xs) i) (sym (drop_none content)) ∙ value_between (from_zero before) i lt
      ∙ ap Some (sym (string_is ls content i lt))

  -- the slot at a place, by its mark
  shown_at : (i : ℕ) (b : Bool) → is_valid_at before.validity i ≡ b → slot_at old i ≡ (if b then shown (string_at (offsets ls) content i) else null)
  shown_at i b mark = λ j. if mark j then k.seen (offsets ls) content i j else null

  pub slot_same : (i : ℕ) (item : List ℕ) → i < len_of before
      → HoldsAt before i item ↔ (slot_at old i ≡ shown item)
  slot_same i item lt = (there, back)
    where
      there : HoldsAt before i item → slot_at old i ≡ shown item
      there h =
          let mark = mark_is (length ls) before.validity i lt ∙ get_or_from_slice_get (marks_of before) i true false h.0 in
          shown_at i true mark ∙ ap shown (same_Some (string_at (offsets ls) content i) item (sym (value_is i lt) ∙ h.1))

      marked : is_valid_at before.validity i ≡ true → slice_get (marks_of before) i ≡ Some true
      marked mark =
          let counts = mark_counted (length ls) before.validity filled.masked in
          slice_get-get_or (marks_of before) i false (omega (arith, lt, counts))
          ∙ ap Some (sym (mark_is (length ls) before.validity i lt) ∙ mark)

      same : slot_at old i ≡ shown item → is_valid_at before.validity i ≡ true → string_at (offsets ls) content i ≡ item
      same e mark =
          sym (k.held (string_at (offsets ls) content i)) ∙ ap content_of (sym (shown_at i true mark) ∙ e) ∙ k.held item

      back : slot_at old i ≡ shown item → HoldsAt before i item
      back e =
          elim (cases_Bool (is_valid_at before.validity i)) [
            | inl mark ↦ (marked mark, value_is i lt ∙ ap Some (same e mark))
            | inr mark ↦ absurd (false≢true (sym (k.some item) ∙ ap is_null (sym e ∙ shown_at i false mark)))
          ]

-- what a test of a builder's slot says of a column
pub told_by : (i : ℕ) (found own : ByteStrings) (given item : List ℕ) (r : Bool) (Shown : Type 0) → found ≡ own → given ≡ item
    → (IsTrue r ↔ HoldsAt found i given) → (HoldsAt own i item ↔ Shown) → IsTrue r ↔ Shown
told_by i found own given item r Shown same alike tested shows =
    let held = subst (λ (a : ByteStrings). IsTrue r ↔ HoldsAt a i item) same
    (subst (λ (x : List ℕ). IsTrue r ↔ HoldsAt found i x) alike tested) in (
      λ is. shows.0 (held.0 is),
      λ e. held.1 (shows.1 e),
    )

-- ---- byte strings

pub binary_most : (is_large : Bool) → greatest_of is_large ≡ most_offset (binary_layout is_large)
binary_most true = refl
binary_most false = refl

module _ (is_large : Bool) (before : ByteStrings) (grown : IsGrown (binary_layout is_large) before) where
  abbrev binary_kept : StoresStrings before.data_type stored_bytes binary_parts bytes (binary_layout is_large) (λ content. true) is_bytes
  binary_kept = binary_stores is_large before.data_type grown.fits

  pub binary_pushed : {U : Type 0} (greatest : ℕ) (item : List ℕ) (after : ByteStrings) (r : Result U Error) → greatest ≡ greatest_of is_large
      → list_all is_byte item ≡ true → AddsBytes greatest item (from_zero before) (from_zero after) r
      → AddsSlot (open_binary before) (bytes item) (open_binary after) r
  binary_pushed greatest item after r most each h =
      pushed_by before stored_bytes binary_parts bytes (binary_layout is_large) (λ content. true) is_bytes binary_kept grown.whole
      greatest item (from_zero after) r (most ∙ binary_most is_large) each refl each h

  pub binary_whole : column_len (open_binary before) ≡ 0 → is_sound (open_binary before) ≡ true
  binary_whole none =
      whole_by before stored_bytes binary_parts bytes (binary_layout is_large) (λ content. true) is_bytes binary_kept grown.whole none

  pub binary_same : (i : ℕ) (item : List ℕ) → i < len_of before
      → HoldsAt before i item ↔ (slot_at (open_binary before) i ≡ bytes item)
  binary_same i item lt =
      slot_same before stored_bytes binary_parts bytes (binary_layout is_large) (λ content. true) is_bytes binary_kept grown.whole i item lt

-- ---- texts

pub text_most : (is_large : Bool) → greatest_of is_large ≡ most_offset (text_layout is_large)
text_most true = refl
text_most false = refl

module _ (is_large : Bool) (before : ByteStrings) (grown : IsGrown (text_layout is_large) before) where
  abbrev text_kept : StoresStrings before.data_type texts text_parts text (text_layout is_large) is_utf8 is_text
  text_kept = text_stores is_large before.data_type grown.fits

  pub text_pushed : {U : Type 0} (greatest : ℕ) (item : List ℕ) (after : ByteStrings) (r : Result U Error) → greatest ≡ greatest_of is_large
      → IsUtf8 item → AddsBytes greatest item (from_zero before) (from_zero after) r → AddsSlot (open_text before) (text item) (open_text after) r
  text_pushed greatest item after r most utf8 h =
      let is = is_utf8-from_IsUtf8 item utf8 in
      pushed_by before texts text_parts text (text_layout is_large) is_utf8 is_text text_kept grown.whole
      greatest item (from_zero after) r (most ∙ text_most is_large) (text_bytes item is) is is h

  pub text_whole : column_len (open_text before) ≡ 0 → is_sound (open_text before) ≡ true
  text_whole none = whole_by before texts text_parts text (text_layout is_large) is_utf8 is_text text_kept grown.whole none

  pub text_same : (i : ℕ) (item : List ℕ) → i < len_of before
      → HoldsAt before i item ↔ (slot_at (open_text before) i ≡ text item)
  text_same i item lt = slot_same before texts text_parts text (text_layout is_large) is_utf8 is_text text_kept grown.whole i item lt
