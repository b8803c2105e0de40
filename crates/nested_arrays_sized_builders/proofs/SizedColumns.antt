-- What pushes, cuts and taking out make of the column of a builder of byte strings of one size.
use Rattle.std.proofs.Common.{◌≡◌, ◌∙◌, ◌<◌, ◌≤◌, ◌+◌, ◌-◌, ◌*◌, ℕ, List, [], ◌∷◌, ◌++◌, length, take, drop, Bool, true, false, refl, sym, ap}
use Rattle.std.proofs.Common.{arith}
use Rattle.std.specs.Prelude.{Option, Some, None, ◌&&◌, ◌==◌, ◌/◌, if◌then◌else◌, is_some, nat_le, slice_range, Result, Ok, Err}
use Rattle.std.specs.List.{flat_map, list_all}
use Rattle.std.proofs.Math.Nat.{mul-add, mul-div_cancel_left, mul-le-mul_left}
use Rattle.std.proofs.lemmas.Bool.{and_from, and_parts, eqb-true, false≢true, le-leb}
use Rattle.std.proofs.lemmas.List.{drop-append-le, drop_at, length-append, length-drop, length-replicate, length-take-le, take-append-drop}
use Rattle.std.proofs.lemmas.List.{take-append-le, take_all}
use Rattle.std.proofs.lemmas.List.Folds.{list_all-append}
use mathlib.Core.Logic.{inl}
use denote.Hole.Carrier
use Rattle.nested_arrays_generic_builders.specs.nulls.columnar_memory.declared.DataType.{DataType}
use Rattle.nested_arrays_generic_builders.specs.nulls.columnar_memory.declared.DataType.TheOpen as layer
use Rattle.nested_arrays_generic_builders.specs.nulls.columnar_memory.declared.DataType.TheViews.{roll-DataType}
use Rattle.nested_arrays_generic_builders.specs.nulls.columnar_memory.declared.Error.{Error}
use Rattle.nested_arrays_generic_builders.specs.nulls.columnar_memory.Results.{OrOutOfMemory}
use Rattle.nested_arrays_generic_builders.specs.nulls.columns.Cells.{is_bytes_of}
use Rattle.nested_arrays_generic_builders.specs.nulls.columns.FreshColumns.{fixed_content_of, fresh, is_valid, mask_of}
use Rattle.nested_arrays_generic_builders.specs.nulls.columns.Kinds.{most_slots}
use Rattle.nested_arrays_generic_builders.specs.nulls.columns.OpenBatch.{fits}
use Rattle.nested_arrays_generic_builders.specs.nulls.columns.Slots.{Slot, null, bytes, window}
use Rattle.nested_arrays_generic_builders.specs.nulls.columns.SoundColumns.{is_byte, is_sound}
use Rattle.nested_arrays_generic_builders.specs.nulls.columns.StoredColumns.{Column, fixed_bytes, flat, slot_at, slots, type_layer}
use Rattle.nested_arrays_generic_builders.specs.nulls.flat.ColumnMasks.{column_mask}
use Rattle.nested_arrays_generic_builders.specs.nulls.flat.FlatColumns.{byte_width, fixed_column, layer_width}
use Rattle.nested_arrays_generic_builders.specs.cells.parts.Marks.{mask_of_marks}
use Rattle.nested_arrays_generic_builders.specs.cells.parts.columns.OpenParts.{marks_of}
use Rattle.nested_arrays_generic_builders.specs.cells.taken.OpenColumns.{Becomes, IsEmptied, IsFresh, KeepsFirst, TakesColumn, slots_and}
use Rattle.nested_arrays_generic_builders.proofs.ListsStored.{marks_fit}
use Rattle.nested_arrays_generic_builders.proofs.cells_lemmas.columns_lemmas.ColumnSizes.{slots_lengths}
use Rattle.nested_arrays_generic_builders.proofs.cells_lemmas.columns_lemmas.Conditions.{list_all-take}
use Rattle.nested_arrays_generic_builders.proofs.cells_lemmas.columns_lemmas.FreshLengths.{Layer}
use Rattle.nested_arrays_generic_builders.proofs.cells_lemmas.columns_lemmas.TypeLayers.{layer_itself}
use Rattle.nested_arrays_generic_builders.proofs.cells_lemmas.columns_lemmas.Windows.{window_same}
use Rattle.nested_arrays_generic_builders.proofs.cells_lemmas.columns_lemmas.FirstOnes.{fixed_contents_cut}
use Rattle.nested_arrays_generic_builders.proofs.cells_lemmas.columns_lemmas.Fits.{fits_fixed_binary}
use Rattle.nested_arrays_generic_builders.proofs.cells_lemmas.columns_lemmas.LayerParts.{fresh_fixed_binary}
use Rattle.nested_arrays_generic_builders.proofs.cells_lemmas.columns_lemmas.Limits.{first_ones_fit}
use Rattle.nested_arrays_generic_builders.proofs.cells_lemmas.columns_lemmas.Masks.{marks_cut, marks_one_more}
use Rattle.nested_arrays_generic_builders.proofs.cells_lemmas.columns_lemmas.OneMore.{fixed_binary_fits_one_more}
use Rattle.nested_arrays_generic_builders.proofs.cells_lemmas.columns_lemmas.Pieces.{joined_one_more}
use Rattle.nested_arrays_generic_builders.proofs.nulls_lemmas.flat_lemmas.FixedWidths.{fixed_sound}
use Rattle.nested_arrays_sized_builders.specs.SizedStrings.{is_sized, sized_type, stored_for, string_slot}
use Rattle.nested_arrays_sized_builders.proofs.MarkedSlots.{first_marked, marks_by_mask, marks_masked, masked_at, one_more_marked, valid_mark}

-- ---- the bytes of one string

-- the string at a place, by its bytes
abbrev pub content_at : ℕ → List ℕ → ℕ → Slot
content_at size content i = bytes (slice_range content (size * i) (size * i + size))

-- it ends within the bytes of the strings up to a place behind it
pub ends_within : (size i n : ℕ) → i < n → size * i + size ≤ size * n
ends_within size i n h =
    let next : i + 1 ≤ n = omega (arith, h) in
    omega (arith, mul-add size i 1, mul-le-mul_left {m = i + 1} {n = n} size next)

part_is : (size o : ℕ) → o + size - o ≡ size
part_is size o = omega arith

-- it is the same with more bytes behind
pub same_with_more : (size n : ℕ) (content more : List ℕ) (i : ℕ) → length content ≡ size * n → i < n
    → content_at size (content ++ more) i ≡ content_at size content i
same_with_more size n content more i long h =
    let o = size * i in
    let ends = ends_within size i n h in
    let rest : drop o (content ++ more) ≡ drop o content ++ more = drop-append-le o content more (omega (arith, ends, long)) in
    let behind : o + size - o ≤ length (drop o content) = omega (arith, ends, long, length-drop o content) in
    ap bytes (ap (take (o + size - o)) rest ∙ take-append-le (o + size - o) (drop o content) more behind)

-- one that stands behind the others
last_string : (size n : ℕ) (content more : List ℕ) → length content ≡ size * n → length more ≡ size
    → content_at size (content ++ more) n ≡ bytes more
last_string size n content more long wide =
    let o = size * n in
    ap bytes (ap (take (o + size - o)) (drop_at content more o long) ∙ take_all (o + size - o) more (omega (arith, wide)))

-- it is the same among the first ones
same_among_first : (size k : ℕ) (content : List ℕ) (i : ℕ) → size * k ≤ length content → i < k
    → content_at size (take (size * k) content) i ≡ content_at size content i
same_among_first size k content i long h =
    let o = size * i in
    let ends = ends_within size i k h in
    let all : take (size * k) content ++ drop (size * k) content ≡ content = take-append-drop (size * k) content in
    let first : length (take (size * k) content) ≡ size * k = length-take-le (size * k) content long in
    sym (same_with_more size k (take (size * k) content) (drop (size * k) content) i first h) ∙ ap (λ (xs : List ℕ). content_at size xs i) all

-- ---- types

-- the size of the type of byte strings of a size
pub type_width : (size : ℕ) → byte_width (sized_type size) ≡ size
unfolding roll-DataType denote.Hole.Carrier.roll
type_width size = ap layer_width (layer_itself (layer.FixedSizeBinary size) refl)

pub sized_layer : (x : Layer) → 0 < layer_width x → x ≡ layer.FixedSizeBinary (layer_width x)
sized_layer (layer.FixedSizeBinary size) some = refl
sized_layer _ some = absurd (omega (arith, some))

abbrev bytes_in : Column → List ℕ
bytes_in (flat t mask (fixed_bytes size content)) = content
bytes_in _ = []

-- ---- values

module _ (size : ℕ) where
  pub value_marked : (value : Option (List ℕ)) → is_some value ≡ is_valid (string_slot value)
  value_marked None = refl
  value_marked (Some content) = refl

  pub value_stored : (value : Option (List ℕ)) → stored_for size value ≡ fixed_content_of size (string_slot value)
  value_stored None = refl
  value_stored (Some content) = refl

  pub value_shown : (value : Option (List ℕ)) → (if is_some value then bytes (stored_for size value) else null) ≡ string_slot value
  value_shown None = refl
  value_shown (Some content) = refl

  pub value_wide : (value : Option (List ℕ)) → is_sized size value ≡ true → length (stored_for size value) ≡ size
  value_wide None h = length-replicate size 0
  value_wide (Some content) h = eqb-true (length content) size h

  pub value_fits : (value : Option (List ℕ)) → is_sized size value ≡ true → list_all is_byte (stored_for size value) ≡ true
      → is_bytes_of size (string_slot value) ≡ true
  value_fits None h each = refl
  value_fits (Some content) h each = and_from (length content == size) (list_all is_byte content) h each

  pub other_unfit : (value : Option (List ℕ)) → is_sized size value ≡ false → is_bytes_of size (string_slot value) ≡ false
  other_unfit None h = absurd (false≢true (sym h))
  other_unfit (Some content) h = ap (λ b. b && list_all is_byte content) h

-- ---- strings

module _ (t : DataType) (ms : List Bool) (content : List ℕ) (some : 0 < byte_width t) (counted : length content ≡ byte_width t * length ms) where
  abbrev size : ℕ
  size = byte_width t

  abbrev old : Column
  old = fixed_column t size content (mask_of_marks ms)

  pub layered : type_layer t ≡ layer.FixedSizeBinary size
  layered = sized_layer (type_layer t) some

  -- there are as many strings as marks
  pub strings_count : length content / size ≡ length ms
  strings_count = ap (λ n. n / size) counted ∙ mul-div_cancel_left (length ms) {n = size} some

  pub strings_sound : list_all is_byte content ≡ true → is_sound old ≡ true
  strings_sound each =
      fixed_sound t size content (mask_of_marks ms) refl some (ap (λ n. size * n) strings_count ∙ sym counted) each
      (marks_fit ms (length content / size) (sym strings_count))

  string_slots : slots old ≡ window (masked_at (content_at size content) ms) 0 (length ms)
  string_slots =
      ap (window (slot_at old) 0) strings_count
      ∙ window_same (slot_at old) (masked_at (content_at size content) ms) 0 0 (length ms) (λ i h. here (0 + i) (omega (arith, h)))
    where
      here : (i : ℕ) → i < length ms → slot_at old i ≡ masked_at (content_at size content) ms i
      here i h =
          let mark = valid_mark ms i h in
          λ j. if mark j then content_at size content i else null

  pub strings_long : length (slots old) ≡ length ms
  strings_long = slots_lengths old ∙ strings_count

  module _ (f : IsFresh old) where
    fresh_parts : old ≡ flat t (mask_of (slots old)) (fixed_bytes size (flat_map (fixed_content_of size) (slots old)))
    fresh_parts = f.stored ∙ fresh_fixed_binary t size layered (slots old)

    pub fresh_marks : ms ≡ marks_of (slots old)
    fresh_marks = marks_by_mask ms (slots old) (ap column_mask fresh_parts) (sym strings_long)

    pub fresh_content : content ≡ flat_map (fixed_content_of size) (slots old)
    fresh_content = ap bytes_in fresh_parts

-- the column that stores some slots, by their marks and bytes
slots_stored : (t : DataType) (xs : List Slot) → type_layer t ≡ layer.FixedSizeBinary (byte_width t)
    → fixed_column t (byte_width t) (flat_map (fixed_content_of (byte_width t)) xs) (mask_of_marks (marks_of xs)) ≡ fresh t xs
slots_stored t xs layered =
    ap (fixed_column t (byte_width t) (flat_map (fixed_content_of (byte_width t)) xs)) (marks_masked xs)
    ∙ sym (fresh_fixed_binary t (byte_width t) layered xs)

-- ---- a string more

module _ (t : DataType) (ms : List Bool) (content : List ℕ) (some : 0 < byte_width t) (counted : length content ≡ byte_width t * length ms)
    (value : Option (List ℕ)) (wide : is_sized (byte_width t) value ≡ true) where
  abbrev before : Column
  before = fixed_column t (byte_width t) content (mask_of_marks ms)

  abbrev more : List ℕ
  more = content ++ stored_for (byte_width t) value

  abbrev marked : List Bool
  marked = ms ++ is_some value ∷ []

  abbrev after : Column
  after = fixed_column t (byte_width t) more (mask_of_marks marked)

  pub more_counted : length more ≡ byte_width t * length marked
  more_counted =
      omega (
        arith,
        length-append content (stored_for (byte_width t) value),
        value_wide (byte_width t) value wide,
        counted,
        ap (λ n. byte_width t * n) (length-append ms (is_some value ∷ [])),
        mul-add (byte_width t) (length ms) 1,
      )

  one_longer : length marked ≡ length ms + 1
  one_longer = length-append ms (is_some value ∷ [])

  more_slots : slots after ≡ slots_and before (string_slot value)
  more_slots =
      let last : (if is_some value then content_at (byte_width t) more (length ms) else null) ≡ string_slot value =
      ap (λ (s : Slot). if is_some value then s else null)
      (last_string (byte_width t) (length ms) content (stored_for (byte_width t) value) counted (value_wide (byte_width t) value wide))
      ∙ value_shown (byte_width t) value in
      string_slots t marked more some more_counted ∙ ap (window (masked_at (content_at (byte_width t) more) marked) 0) one_longer
      ∙ one_more_marked (content_at (byte_width t) content) (content_at (byte_width t) more) ms (is_some value) (length ms) refl
      (λ i h. same_with_more (byte_width t) (length ms) content (stored_for (byte_width t) value) i counted h)
      ∙ (λ j. sym (string_slots t ms content some counted) j ++ last j ∷ [])

  pub string_added : list_all is_byte content ≡ true → list_all is_byte (stored_for (byte_width t) value) ≡ true → length ms < most_slots
      → Becomes before (slots_and before (string_slot value)) after
  string_added each more_bytes few = record {
    typed = refl;
    long = sym (slots_lengths after) ∙ ap length more_slots;
    sound = λ _. (sound, more_slots);
    fresh = freshly;
  }
    where
      sound : is_sound after ≡ true
      sound =
          strings_sound t marked more some more_counted
          (list_all-append is_byte content (stored_for (byte_width t) value)
          ∙ and_from (list_all is_byte content) (list_all is_byte (stored_for (byte_width t) value)) each more_bytes)

      freshly : IsFresh before → IsFresh after
      freshly f =
          let xs = slots before in
          let s = string_slot value in
          let layer = layered t ms content some counted in
          let marks_more : marks_of (xs ++ s ∷ []) ≡ marked =
          marks_one_more xs s
          ∙ (λ j. sym (fresh_marks t ms content some counted f) j ++ sym (value_marked (byte_width t) value) j ∷ []) in
          let bytes_more : flat_map (fixed_content_of (byte_width t)) (xs ++ s ∷ []) ≡ more =
          joined_one_more (fixed_content_of (byte_width t)) xs s
          ∙ (λ j. sym (fresh_content t ms content some counted f) j ++ sym (value_stored (byte_width t) value) j) in
          let long : length xs ≡ length ms = strings_long t ms content some counted in
          let stored : after ≡ fresh t (xs ++ s ∷ []) =
          (λ j. fixed_column t (byte_width t) (sym bytes_more j) (mask_of_marks (sym marks_more j)))
          ∙ slots_stored t (xs ++ s ∷ []) layer in
          let fit : fits t (xs ++ s ∷ []) ≡ true =
          fixed_binary_fits_one_more t (byte_width t) layer xs s f.fit
          ∙ and_from (is_bytes_of (byte_width t) s) (nat_le (length xs + 1) most_slots) (value_fits (byte_width t) value wide more_bytes)
          (le-leb (length xs + 1) most_slots (omega (arith, few, long))) in record {
            stored = stored ∙ ap (fresh t) (sym more_slots);
            fit = ap (fits t) more_slots ∙ fit;
            can = f.can;
          }

-- ---- the first strings

module _ (t : DataType) (ms : List Bool) (content : List ℕ) (some : 0 < byte_width t) (counted : length content ≡ byte_width t * length ms)
    (k : ℕ) (le : k ≤ length ms) where
  abbrev whole : Column
  whole = fixed_column t (byte_width t) content (mask_of_marks ms)

  abbrev first : Column
  first = fixed_column t (byte_width t) (take (byte_width t * k) content) (mask_of_marks (take k ms))

  pub first_within : byte_width t * k ≤ length content
  first_within = omega (arith, counted, mul-le-mul_left {m = k} {n = length ms} (byte_width t) le)

  pub first_counted : length (take (byte_width t * k) content) ≡ byte_width t * length (take k ms)
  first_counted =
      length-take-le (byte_width t * k) content first_within ∙ ap (λ n. byte_width t * n) (sym (length-take-le k ms le))

  first_slots : slots first ≡ take k (slots whole)
  first_slots =
      string_slots t (take k ms) (take (byte_width t * k) content) some first_counted
      ∙ ap (window (masked_at (content_at (byte_width t) (take (byte_width t * k) content)) (take k ms)) 0) (length-take-le k ms le)
      ∙ first_marked (content_at (byte_width t) content) (content_at (byte_width t) (take (byte_width t * k) content)) ms (length ms) k le
      (λ i h. same_among_first (byte_width t) k content i first_within h)
      ∙ ap (take k) (sym (string_slots t ms content some counted))

  pub first_left : list_all is_byte content ≡ true → KeepsFirst whole k first
  first_left each = record {
    typed = refl;
    long = sym (slots_lengths first) ∙ ap length first_slots;
    sound = λ _. (
      strings_sound t (take k ms) (take (byte_width t * k) content) some first_counted (list_all-take is_byte (byte_width t * k) content each),
      first_slots,
    );
    fresh = freshly;
  }
    where
      freshly : IsFresh whole → IsFresh first
      freshly f =
          let xs = slots whole in
          let layer = layered t ms content some counted in
          let long : length xs ≡ length ms = strings_long t ms content some counted in
          let own = (and_parts (list_all (is_bytes_of (byte_width t)) xs) (nat_le (length xs) most_slots)
          (sym (fits_fixed_binary t (byte_width t) layer xs) ∙ f.fit)).0 in
          let marks_first : marks_of (take k xs) ≡ take k ms =
          marks_cut k xs ∙ ap (take k) (sym (fresh_marks t ms content some counted f)) in
          let bytes_first : flat_map (fixed_content_of (byte_width t)) (take k xs) ≡ take (byte_width t * k) content =
          fixed_contents_cut (byte_width t) k xs own (omega (arith, le, long))
          ∙ ap (take (byte_width t * k)) (sym (fresh_content t ms content some counted f)) in
          let stored : first ≡ fresh t (take k xs) =
          (λ j. fixed_column t (byte_width t) (sym bytes_first j) (mask_of_marks (sym marks_first j)))
          ∙ slots_stored t (take k xs) layer in record {
            stored = stored ∙ ap (fresh t) (sym first_slots);
            fit = ap (fits t) first_slots ∙ first_ones_fit t k xs f.fit;
            can = f.can;
          }

-- ---- none left

module _ (t : DataType) (ms : List Bool) (content : List ℕ) (some : 0 < byte_width t) (counted : length content ≡ byte_width t * length ms) where
  abbrev full : Column
  full = fixed_column t (byte_width t) content (mask_of_marks ms)

  abbrev empty : Column
  empty = fixed_column t (byte_width t) [] (mask_of_marks [])

  pub none_left : IsEmptied full empty
  none_left = record {
    typed = refl;
    long = strings_count t [] [] some (omega arith);
    begun = λ _. slots_stored t [] (layered t ms content some counted);
  }

  pub strings_taken : list_all is_byte content ≡ true → (r : Result Column Error) → OrOutOfMemory r (λ (array : Column). array ≡ full)
      → TakesColumn full empty (λ (array : Column). array) r
  strings_taken each (Ok array) is = (none_left, (is, strings_sound t ms content some counted each))
  strings_taken each (Err e) memory = (none_left, inl memory)
