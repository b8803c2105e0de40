-- The columns of arrays of byte strings and of texts are sound, and what is cut out of an array is cut out of its column.
use Rattle.std.proofs.Common.{◌≡◌, ℕ, ℤ, pos, ◌+◌, ◌-◌, ◌≤◌, ◌<◌, Bool, true, refl, ap, ◌∙◌, sym, arith, List, [], ◌∷◌, length, get_or, sum}
use Rattle.std.specs.Prelude.{◌&&◌, ◌≤ℤ◌, false, nat_le, min, Option, Some, None, slice_range, if◌then◌else◌}
use Rattle.std.specs.List.{list_all}
use Rattle.std.specs.Str.{is_utf8}
use Rattle.std.proofs.lemmas.Bool.{and_from, le-leb, eq-eqb}
use Rattle.std.proofs.lemmas.Str.{is_utf8-from_IsUtf8}
use Rattle.std.proofs.Math.Nat.{le-min}
use Rattle.flat_arrays_core.specs.columnar_memory.Layouts.{physical_type}
use Rattle.flat_arrays_core.specs.columnar_memory.Spans.{Spans, ends_from, offsets_of, offset_at, last_of}
use Rattle.flat_arrays_core.specs.columnar_memory.declared.DataType.TheOpen as layer
use Rattle.flat_arrays_core.specs.columnar_memory.declared.PhysicalType.{PhysicalType}
use Rattle.flat_arrays_core.specs.columnar_memory.declared.PhysicalType.TheVariants as physical
use Rattle.flat_arrays_core.proofs.bytes_lemmas.columnar_memory_lemmas.buffer_lemmas.Runs.{sum-cons, offset_at-more, nonnegative}
use Rattle.flat_arrays_core.proofs.bytes_lemmas.Places.{value_between, text_among}
use Rattle.flat_arrays_core.specs.ByteStrings as arrays
use Rattle.flat_arrays_core.specs.ByteStrings.{ByteStrings, len_of, values_of}
use Rattle.flat_arrays_core.specs.Fits.{IsBinary, IsMaskOf, IsText, binary_layout, text_layout}
use Rattle.nested_arrays_columns.proofs.Conditions.{holds_from}
use Rattle.nested_arrays_columns.specs.Kinds.{most_offset}
use Rattle.nested_arrays_columns.specs.SoundColumns.{are_offsets, are_strings, has_size, holds_below, is_byte, is_sound, is_stored_as, is_text_at}
use Rattle.nested_arrays_columns.specs.SoundColumns.{mask_fits, rises_at}
use Rattle.nested_arrays_columns.specs.StoredColumns as StoredColumns
use Rattle.nested_arrays_columns.specs.StoredColumns.{byte_strings, cut, cut_list, cut_mask, place_of, stored_len, texts, type_layer}
use Rattle.nested_arrays_flat.proofs.CutMasks.{cut_window}
use Rattle.nested_arrays_flat.proofs.Layers.{Layer}
use Rattle.nested_arrays_flat.proofs.Offsets.{cut_offsets, get_or-offsets_of, length-offsets_of, spans_count}
use Rattle.nested_arrays_flat.specs.FlatColumns.{binary_column, text_column}

-- ---- offsets

-- where spans end is within a limit that the last end is within
ends_below : (before : ℕ) (ls : List ℕ) (limit : ℕ) → before + sum ls ≤ limit → list_all (λ offset. nat_le offset limit) (ends_from before ls) ≡ true
ends_below before [] limit h = refl
ends_below before (l ∷ ls) limit h =
    and_from (nat_le (before + l) limit) (list_all (λ offset. nat_le offset limit) (ends_from (before + l) ls))
    (le-leb (before + l) limit (omega (arith, sum-cons l ls, h))) (ends_below (before + l) ls limit (omega (arith, sum-cons l ls, h)))

-- offsets of spans do not fall
rising : (s : Spans) (i : ℕ) → i < length s.lengths → rises_at (offsets_of s) i ≡ true
rising s i h =
    le-leb (get_or (offsets_of s) i 0) (get_or (offsets_of s) (i + 1) 0)
    (omega (arith, get_or-offsets_of s i (omega arith), get_or-offsets_of s (i + 1) (omega arith), offset_at-more s i h))

-- the offsets of spans that end within a limit
pub spans_sound : (s : Spans) (limit : ℕ) → last_of s ≤ limit → are_offsets (offsets_of s) limit ≡ true
spans_sound s limit h =
    let offsets = offsets_of s in
    and_from (nat_le 1 (length offsets) && holds_below (length offsets - 1) (rises_at offsets)) (list_all (λ offset. nat_le offset limit) offsets)
    (and_from (nat_le 1 (length offsets)) (holds_below (length offsets - 1) (rises_at offsets))
    (le-leb 1 (length offsets) (omega (arith, length-offsets_of s)))
    (holds_from (length offsets - 1) (rises_at offsets) (λ i small. rising s i (omega (arith, spans_count s)))))
    (and_from (nat_le s.start limit) (list_all (λ offset. nat_le offset limit) (ends_from s.start s.lengths))
    (le-leb s.start limit (omega (arith, h))) (ends_below s.start s.lengths limit h))

-- ---- parts of columns

sized_strings : (x : Layer) (offsets content : List ℕ) → has_size x (byte_strings offsets content) ≡ true
sized_strings (layer.FixedSizeBinary size) offsets content = refl
sized_strings _ offsets content = refl

sized_texts : (x : Layer) (offsets content : List ℕ) → has_size x (texts offsets content) ≡ true
sized_texts (layer.FixedSizeBinary size) offsets content = refl
sized_texts _ offsets content = refl

masked : (mask : Option (List Bool)) (n : ℕ) → IsMaskOf n mask → mask_fits mask n ≡ true
masked None n h = refl
masked (Some marks) n h = eq-eqb (length marks) n h

-- the greatest offset, by whether offsets are large
abbrev pub greatest_of : Bool → ℕ
greatest_of is_large = if is_large then 0x7fff_ffff_ffff_ffff else 0x7fff_ffff

strings_sound : (layout : PhysicalType) (a : ByteStrings) → last_of a.offsets ≤ most_offset layout → last_of a.offsets ≤ length a.bytes
    → list_all is_byte a.bytes ≡ true → are_strings layout (offsets_of a.offsets) a.bytes ≡ true
strings_sound layout a small within bytes =
    let limit = min (most_offset layout) (length a.bytes) in
    and_from (are_offsets (offsets_of a.offsets) limit) (list_all is_byte a.bytes)
    (spans_sound a.offsets limit (le-min {k = last_of a.offsets} {a = most_offset layout} {b = length a.bytes} small within)) bytes

-- ---- byte strings

stored_binary : (is_large : Bool) (a : ByteStrings) → last_of a.offsets ≤ greatest_of is_large → last_of a.offsets ≤ length a.bytes
    → list_all is_byte a.bytes ≡ true → is_stored_as (binary_layout is_large) (byte_strings (offsets_of a.offsets) a.bytes) ≡ true
stored_binary true a small within bytes = strings_sound physical.LargeBinary a small within bytes
stored_binary false a small within bytes = strings_sound physical.Binary a small within bytes

-- an array of byte strings has a sound column
pub binary_sound : (is_large : Bool) (greatest : ℕ) (a : ByteStrings) → greatest ≡ greatest_of is_large → IsBinary is_large a
    → last_of a.offsets ≤ greatest → list_all is_byte a.bytes ≡ true → is_sound (binary_column a) ≡ true
binary_sound is_large greatest a most fits small bytes =
    let stored = byte_strings (offsets_of a.offsets) a.bytes in
    let t = a.data_type in
    and_from (is_stored_as (physical_type t) stored && has_size (type_layer t) stored) (mask_fits a.validity (stored_len stored))
    (and_from (is_stored_as (physical_type t) stored) (has_size (type_layer t) stored)
    (ap (λ layout. is_stored_as layout stored) fits.fits ∙ stored_binary is_large a (omega (arith, small, most)) fits.within bytes)
    (sized_strings (type_layer t) (offsets_of a.offsets) a.bytes))
    (ap (mask_fits a.validity) (spans_count a.offsets) ∙ masked a.validity (len_of a) fits.masked)

-- ---- texts

-- the text at a place is UTF-8
text_there : (a : ByteStrings) (is_large : Bool) (i : ℕ) → IsText is_large a → i < len_of a → is_text_at (offsets_of a.offsets) a.bytes i ≡ true
text_there a is_large i fits h =
    let from = get_or-offsets_of a.offsets i (omega arith) in
    let to = get_or-offsets_of a.offsets (i + 1) (omega arith) in
    let same : slice_range a.bytes (get_or (offsets_of a.offsets) i 0) (get_or (offsets_of a.offsets) (i + 1) 0)
    ≡ slice_range a.bytes (offset_at a.offsets i) (offset_at a.offsets (i + 1)) = λ j. slice_range a.bytes (from j) (to j) in
    ap is_utf8 same
    ∙ is_utf8-from_IsUtf8 (slice_range a.bytes (offset_at a.offsets i) (offset_at a.offsets (i + 1)))
    (text_among (values_of a) i (slice_range a.bytes (offset_at a.offsets i) (offset_at a.offsets (i + 1))) fits.1 (value_between a i h))

texts_there : (a : ByteStrings) (is_large : Bool) → IsText is_large a
    → holds_below (length (offsets_of a.offsets) - 1) (is_text_at (offsets_of a.offsets) a.bytes) ≡ true
texts_there a is_large fits = holds_from (length (offsets_of a.offsets) - 1) (is_text_at (offsets_of a.offsets) a.bytes)
    (λ i small. text_there a is_large i fits (omega (arith, spans_count a.offsets)))

stored_texts : (is_large : Bool) (a : ByteStrings) → IsText is_large a → last_of a.offsets ≤ greatest_of is_large
    → list_all is_byte a.bytes ≡ true → is_stored_as (text_layout is_large) (texts (offsets_of a.offsets) a.bytes) ≡ true
stored_texts true a fits small bytes =
    and_from (are_strings physical.LargeUtf8 (offsets_of a.offsets) a.bytes)
    (holds_below (length (offsets_of a.offsets) - 1) (is_text_at (offsets_of a.offsets) a.bytes))
    (strings_sound physical.LargeUtf8 a small fits.0.within bytes) (texts_there a true fits)
stored_texts false a fits small bytes =
    and_from (are_strings physical.Utf8 (offsets_of a.offsets) a.bytes)
    (holds_below (length (offsets_of a.offsets) - 1) (is_text_at (offsets_of a.offsets) a.bytes))
    (strings_sound physical.Utf8 a small fits.0.within bytes) (texts_there a false fits)

-- an array of texts has a sound column
pub text_sound : (is_large : Bool) (greatest : ℕ) (a : ByteStrings) → greatest ≡ greatest_of is_large → IsText is_large a
    → last_of a.offsets ≤ greatest → list_all is_byte a.bytes ≡ true → is_sound (text_column a) ≡ true
text_sound is_large greatest a most fits small bytes =
    let stored = texts (offsets_of a.offsets) a.bytes in
    let t = a.data_type in
    and_from (is_stored_as (physical_type t) stored && has_size (type_layer t) stored) (mask_fits a.validity (stored_len stored))
    (and_from (is_stored_as (physical_type t) stored) (has_size (type_layer t) stored)
    (ap (λ layout. is_stored_as layout stored) fits.0.fits ∙ stored_texts is_large a fits (omega (arith, small, most)) bytes)
    (sized_texts (type_layer t) (offsets_of a.offsets) a.bytes))
    (ap (mask_fits a.validity) (spans_count a.offsets) ∙ masked a.validity (len_of a) fits.0.masked)

-- ---- what calls know of the last offset

-- a value that is a number is not below zero
pub not_below : (z : ℤ) (n : ℕ) → z ≡ pos n → pos 0 ≤ℤ z
not_below z n is = nonnegative z n is

-- it is the number that a call gives for it
pub end_number : (z : ℤ) (last end greatest : ℕ) → z ≡ pos last → (z ≡ pos end) × (end ≤ greatest) → last ≤ greatest
end_number z last end greatest is number =
    let same : last ≡ end = ap place_of (sym is ∙ number.0) in
    omega (arith, same, number.1)

pub ruleset end_fitting = (not_below, end_number)

-- ---- cuts

cut_masks : (mask : Option (List Bool)) (o n : ℕ) → arrays.cut_mask mask o n ≡ cut_mask mask o n
cut_masks None o n = refl
cut_masks (Some marks) o n = ap Some (sym (cut_window marks o n))

-- a part of an array of byte strings has the part of its column
pub binary_cut : (a : ByteStrings) (o n : ℕ) → o + n ≤ len_of a → binary_column (arrays.cut a o n) ≡ cut (binary_column a) o n
binary_cut a o n within = λ j. StoredColumns.flat a.data_type (cut_masks a.validity o n j) (byte_strings (cut_offsets a.offsets o n within j) a.bytes)

-- and so of texts
pub text_cut : (a : ByteStrings) (o n : ℕ) → o + n ≤ len_of a → text_column (arrays.cut a o n) ≡ cut (text_column a) o n
text_cut a o n within = λ j. StoredColumns.flat a.data_type (cut_masks a.validity o n j) (texts (cut_offsets a.offsets o n within j) a.bytes)

-- as many slots as spans
pub strings_len : (a : ByteStrings) → StoredColumns.column_len (binary_column a) ≡ len_of a
strings_len a = spans_count a.offsets

pub texts_len : (a : ByteStrings) → StoredColumns.column_len (text_column a) ≡ len_of a
texts_len a = spans_count a.offsets
