-- What ranges of flat arrays are written as.
use Rattle.std.proofs.Common.{◌≡◌, ◌∙◌, ℕ, ◌+◌, ◌-◌, ◌≤◌, Bool, true, false, List, [], ◌∷◌, length, map, take, drop, sum, get_or}
use Rattle.std.proofs.Common.{refl, sym, ap, arith, subst}
use Rattle.std.specs.Int.{Width}
use Rattle.std.specs.List.{flat_map}
use Rattle.std.specs.Option.{ForSome}
use Rattle.std.specs.Prelude.{ℤ, Option, Some, None, slice_index, slice_range, unwrap_or}
use Rattle.std.proofs.lemmas.List.{append-nil, drop-map, length-drop, length-map, length-take-le, take-map}
use Rattle.std.proofs.lemmas.List.Folds.{flat_map-map}
use Rattle.flat_arrays_core.specs.ByteStrings.{ByteStrings}
use Rattle.flat_arrays_core.specs.Fits.{binary_layout, text_layout}
use Rattle.flat_arrays_core.specs.Fits as fits
use Rattle.flat_arrays_core.specs.Flat as flats
use Rattle.flat_arrays_core.specs.Flat.{Flat}
use Rattle.ipc_format_streams.specs.columnar_memory.Layouts.{physical_type}
use Rattle.ipc_format_streams.specs.columnar_memory.Numbers.{Numbers, first_number}
use Rattle.ipc_format_streams.specs.columnar_memory.Spans.{Spans, ends_from, last_of, offset_at, offsets_of, spans_between}
use Rattle.ipc_format_streams.specs.columnar_memory.declared.DataType.{DataType}
use Rattle.ipc_format_streams.specs.columnar_memory.declared.PrimitiveType.{PrimitiveType}
use Rattle.ipc_format_streams.specs.columnar_memory.declared.PrimitiveType.TheVariants as kinds
use Rattle.ipc_format_streams.specs.columns.Slots.{number, pair, triple}
use Rattle.ipc_format_streams.specs.columns.StoredColumns.{Stored, flat, bits, texts, byte_strings}
use Rattle.ipc_format_streams.specs.columns.StoredColumns.{column_len, cut_list, cut_mask, cut_stored, stored_len, type_layer}
use Rattle.ipc_format_streams.specs.grammar.Buffers.{bitmap_bytes}
use Rattle.ipc_format_streams.specs.grammar.StoredEncoding.{between_offsets, encode_range, last_offset, mask_bytes, moved_bytes}
use Rattle.ipc_format_streams.specs.grammar.StoredEncoding.{node_over, offset_width, ordered_value, stored_buffers}
use Rattle.ipc_format_streams.proofs.columnar_memory_lemmas.buffer_lemmas.Runs.{length-ends_from, offset_at-all, offset_at-le-last_of, sum-cons}
use Rattle.ipc_format_streams.proofs.columnar_memory_lemmas.buffer_lemmas.Slices.{offset_at-spans_between}
use Rattle.ipc_format_column_bytes.specs.Bodies.{both, of_buffers, of_slots}
use Rattle.ipc_format_column_bytes.specs.FlatColumns.{binary_column, boolean_column, pair_of, primitive_column}
use Rattle.ipc_format_column_bytes.specs.FlatColumns.{stored_numbers, text_column, triple_of}
use Rattle.ipc_format_column_bytes.specs.Numbers.{value_bytes, width_of}
use Rattle.ipc_format_column_bytes.proofs.LayerWidths.{layout_width, width_is}
use Rattle.ipc_format_column_bytes.proofs.Moved.{cut_offsets}

-- ---- numbers

cut-map : {A B : Type 0} (f : A → B) (xs : List A) (o n : ℕ) → cut_list (map f xs) o n ≡ map f (cut_list xs o n)
cut-map f xs o n = ap (take (o + n - o)) (drop-map f o xs) ∙ take-map f (o + n - o) (drop o xs)

one_map : {A B : Type 0} (h : B → List ℕ) (f : A → B) (xs : List A) (o n : ℕ)
    → flat_map (λ x. h (f x)) (cut_list xs o n) ≡ flat_map h (cut_list (map f xs) o n)
one_map h f xs o n = sym (flat_map-map h f (cut_list xs o n)) ∙ ap (flat_map h) (sym (cut-map f xs o n))

two_maps : {A B C : Type 0} (h : C → List ℕ) (g : B → C) (f : A → B) (xs : List A) (o n : ℕ)
    → flat_map (λ x. h (g (f x))) (cut_list xs o n) ∷ [] ≡ flat_map h (cut_list (map g (map f xs)) o n) ∷ []
two_maps h g f xs o n = ap (λ (bytes : List ℕ). bytes ∷ []) (one_map (λ y. h (g y)) f xs o n ∙ one_map h g (map f xs) o n)

-- values of a kind, each by itself
number_buffers : {T : Type 0} (little : Bool) (w : Width) (kind : PrimitiveType) (numbers : T → Numbers) (xs : List T) (o n : ℕ)
    → flat_map (λ v. value_bytes little kind (numbers v)) (cut_list xs o n) ∷ []
    ≡ stored_buffers little w (cut_stored (stored_numbers kind (map numbers xs)) o n)
number_buffers little w kinds.DaysMs f xs o n =
    two_maps (λ (v : ℤ × ℤ). ordered_value little kinds.DaysMs (pair kinds.DaysMs v.0 v.1)) pair_of f xs o n
number_buffers little w kinds.MonthDayNano f xs o n =
    two_maps (λ (v : ℤ × ℤ × ℤ). ordered_value little kinds.MonthDayNano (triple kinds.MonthDayNano v.0 v.1 v.2)) triple_of f xs o n
number_buffers little w kinds.Int8 f xs o n = two_maps (λ z. ordered_value little kinds.Int8 (number kinds.Int8 z)) first_number f xs o n
number_buffers little w kinds.Int16 f xs o n = two_maps (λ z. ordered_value little kinds.Int16 (number kinds.Int16 z)) first_number f xs o n
number_buffers little w kinds.Int32 f xs o n = two_maps (λ z. ordered_value little kinds.Int32 (number kinds.Int32 z)) first_number f xs o n
number_buffers little w kinds.Int64 f xs o n = two_maps (λ z. ordered_value little kinds.Int64 (number kinds.Int64 z)) first_number f xs o n
number_buffers little w kinds.Int128 f xs o n = two_maps (λ z. ordered_value little kinds.Int128 (number kinds.Int128 z)) first_number f xs o n
number_buffers little w kinds.Int256 f xs o n = two_maps (λ z. ordered_value little kinds.Int256 (number kinds.Int256 z)) first_number f xs o n
number_buffers little w kinds.UInt8 f xs o n = two_maps (λ z. ordered_value little kinds.UInt8 (number kinds.UInt8 z)) first_number f xs o n
number_buffers little w kinds.UInt16 f xs o n = two_maps (λ z. ordered_value little kinds.UInt16 (number kinds.UInt16 z)) first_number f xs o n
number_buffers little w kinds.UInt32 f xs o n = two_maps (λ z. ordered_value little kinds.UInt32 (number kinds.UInt32 z)) first_number f xs o n
number_buffers little w kinds.UInt64 f xs o n = two_maps (λ z. ordered_value little kinds.UInt64 (number kinds.UInt64 z)) first_number f xs o n
number_buffers little w kinds.Float16 f xs o n = two_maps (λ z. ordered_value little kinds.Float16 (number kinds.Float16 z)) first_number f xs o n
number_buffers little w kinds.Float32 f xs o n = two_maps (λ z. ordered_value little kinds.Float32 (number kinds.Float32 z)) first_number f xs o n
number_buffers little w kinds.Float64 f xs o n = two_maps (λ z. ordered_value little kinds.Float64 (number kinds.Float64 z)) first_number f xs o n

-- ---- columns

-- the node and the mask, and the buffers of the values
pub flat_range : (little : Bool) (t : DataType) (mask : Option (List Bool)) (stored : Stored) (o n : ℕ) (buffers : List (List ℕ))
    → buffers ≡ stored_buffers little (offset_width (type_layer t)) (cut_stored stored o n)
    → both (of_slots n (cut_mask mask o n)) (of_buffers buffers) ≡ encode_range little (flat t mask stored) o n
flat_range little t mask stored o n buffers is =
    let all = is ∙ sym (append-nil (stored_buffers little (offset_width (type_layer t)) (cut_stored stored o n))) in
    λ i. record { nodes = node_over n (cut_mask mask o n) ∷ []; buffers = mask_bytes (cut_mask mask o n) ∷ all i }

pub primitive_range : {T : Type 0} (little : Bool) (kind : PrimitiveType) (numbers : T → Numbers) (a : Flat T) (mask : Option (List Bool))
    (values part : List T) (o n : ℕ) → mask ≡ a.validity → values ≡ a.values → part ≡ cut_list values o n
    → both (of_slots n (cut_mask mask o n)) (of_buffers (flat_map (λ v. value_bytes little kind (numbers v)) part ∷ []))
    ≡ encode_range little (primitive_column kind numbers a) o n
primitive_range {T} little kind f a mask values part o n is_mask is_values is =
    let at : part ≡ cut_list a.values o n = is ∙ ap (λ (xs : List T). cut_list xs o n) is_values in
    (λ i. both (of_slots n (cut_mask (is_mask i) o n)) (of_buffers (flat_map (λ v. value_bytes little kind (f v)) (at i) ∷ [])))
    ∙ flat_range little a.data_type a.validity (stored_numbers kind (map f a.values)) o n _
    (number_buffers little (offset_width (type_layer a.data_type)) kind f a.values o n)

pub boolean_range : (little : Bool) (a : Flat Bool) (mask : Option (List Bool)) (values : List Bool) (o n : ℕ) → mask ≡ a.validity
    → values ≡ a.values
    → both (of_slots n (cut_mask mask o n)) (of_buffers (bitmap_bytes (cut_list values o n) ∷ [])) ≡ encode_range little (boolean_column a) o n
boolean_range little a mask values o n is_mask is_values =
    (λ i. both (of_slots n (cut_mask (is_mask i) o n)) (of_buffers (bitmap_bytes (cut_list (is_values i) o n) ∷ [])))
    ∙ flat_range little a.data_type a.validity (bits a.values) o n _ refl

-- ---- byte strings

-- an offset taken first is where the spans begin
pub taken_first : (s : Spans) (o n : ℕ) → o + n ≤ length s.lengths → offset_at s o ≡ slice_index (cut_list (offsets_of s) o (n + 1)) 0
taken_first s o n within = ap (λ (xs : List ℕ). slice_index xs 0) (cut_offsets s o n within)

end_from : (before : ℕ) (lengths : List ℕ) → get_or (before ∷ ends_from before lengths) (length lengths) 0 ≡ before + sum lengths
end_from before [] = omega arith
end_from before (l ∷ ls) = end_from (before + l) ls ∙ omega (arith, sum-cons l ls)

last_offset-offsets_of : (s : Spans) → last_offset (offsets_of s) ≡ last_of s
last_offset-offsets_of s =
    let size : length (offsets_of s) - 1 ≡ length s.lengths = omega (arith, length-ends_from s.start s.lengths) in
    ap (slice_index (offsets_of s)) size ∙ end_from s.start s.lengths

length-cut_spans : (s : Spans) (o n : ℕ) → o + n ≤ length s.lengths → length (spans_between s o n).lengths ≡ n
length-cut_spans s o n within = length-take-le n (drop o s.lengths) (omega (arith, length-drop o s.lengths))

last_between : (s : Spans) (o n : ℕ) → o + n ≤ length s.lengths → last_of (spans_between s o n) ≡ offset_at s (o + n)
last_between s o n within =
    let size : length (spans_between s o n).lengths ≡ n = length-cut_spans s o n within in
    sym (offset_at-all (spans_between s o n)) ∙ ap (offset_at (spans_between s o n)) size ∙ offset_at-spans_between s o n n (omega arith)

-- one taken last is where they end
pub taken_last : (s : Spans) (o n : ℕ) → o + n ≤ length s.lengths → offset_at s (o + n) ≡ last_offset (cut_list (offsets_of s) o (n + 1))
taken_last s o n within =
    sym (last_between s o n within) ∙ sym (last_offset-offsets_of (spans_between s o n)) ∙ ap last_offset (cut_offsets s o n within)

-- and is not below the first one, nor past the end
pub taken_rise : (s : Spans) (o n : ℕ) → o + n ≤ length s.lengths → offset_at s o ≤ offset_at s (o + n)
taken_rise s o n within =
    let from : offset_at s o ≤ last_of (spans_between s o n) = omega arith in omega (arith, from, last_between s o n within)

pub taken_within : (s : Spans) (place limit : ℕ) → last_of s ≤ limit → offset_at s place ≤ limit
taken_within s place limit within = omega (arith, within, offset_at-le-last_of s place)

pub between_taken : (s : Spans) (bytes part : List ℕ) (o n start end : ℕ) → o + n ≤ length s.lengths → start ≡ offset_at s o
    → end ≡ offset_at s (o + n) → part ≡ slice_range bytes start end
    → part ≡ between_offsets (cut_list (offsets_of s) o (n + 1)) bytes
between_taken s bytes part o n start end within is_start is_end is =
    let first = is_start ∙ taken_first s o n within in
    let last = is_end ∙ taken_last s o n within in
    is ∙ (λ i. slice_range bytes (first i) (last i))

binary_width : (large : Bool) → layout_width (binary_layout large) ≡ width_of large
binary_width true = refl
binary_width false = refl

text_width : (large : Bool) → layout_width (text_layout large) ≡ width_of large
text_width true = refl
text_width false = refl

abbrev taken_of : Spans → ℕ → ℕ → List ℕ
taken_of s o n = cut_list (offsets_of s) o (n + 1)

pub binary_range : (little large : Bool) (a : ByteStrings) (mask : Option (List Bool)) (s : Spans) (bytes : List ℕ) (o n : ℕ)
    → physical_type a.data_type ≡ binary_layout large → mask ≡ a.validity → s ≡ a.offsets → bytes ≡ a.bytes
    → both (of_slots n (cut_mask mask o n))
    (of_buffers (moved_bytes little (width_of large) (cut_list (offsets_of s) o (n + 1)) ∷ between_offsets (cut_list (offsets_of s) o (n + 1)) bytes
    ∷ []))
    ≡ encode_range little (binary_column a) o n
binary_range little large a mask s bytes o n lies is_mask is_spans is_bytes =
    let wide : width_of large ≡ offset_width (type_layer a.data_type) =
    sym (binary_width large) ∙ sym (width_is a.data_type (binary_layout large) lies) in
    (λ i. both (of_slots n (cut_mask (is_mask i) o n)) (of_buffers (moved_bytes little (wide i) (taken_of (is_spans i) o n)
    ∷ between_offsets (taken_of (is_spans i) o n) (is_bytes i) ∷ [])))
    ∙ flat_range little a.data_type a.validity (byte_strings (offsets_of a.offsets) a.bytes) o n _ refl

pub text_range : (little large : Bool) (a : ByteStrings) (mask : Option (List Bool)) (s : Spans) (bytes : List ℕ) (o n : ℕ)
    → physical_type a.data_type ≡ text_layout large → mask ≡ a.validity → s ≡ a.offsets → bytes ≡ a.bytes
    → both (of_slots n (cut_mask mask o n))
    (of_buffers (moved_bytes little (width_of large) (cut_list (offsets_of s) o (n + 1)) ∷ between_offsets (cut_list (offsets_of s) o (n + 1)) bytes
    ∷ []))
    ≡ encode_range little (text_column a) o n
text_range little large a mask s bytes o n lies is_mask is_spans is_bytes =
    let wide : width_of large ≡ offset_width (type_layer a.data_type) =
    sym (text_width large) ∙ sym (width_is a.data_type (text_layout large) lies) in
    (λ i. both (of_slots n (cut_mask (is_mask i) o n)) (of_buffers (moved_bytes little (wide i) (taken_of (is_spans i) o n)
    ∷ between_offsets (taken_of (is_spans i) o n) (is_bytes i) ∷ [])))
    ∙ flat_range little a.data_type a.validity (texts (offsets_of a.offsets) a.bytes) o n _ refl

-- ---- masks and lengths

held : (mask : Option (List Bool)) (len n : ℕ) → flats.IsMaskOf len mask → n ≤ len → ForSome mask (λ marks. n ≤ length marks)
held None len n fits within = λ marks is. absurd cc
held (Some marks) len n fits within = λ other is.
    let same : length marks ≡ length other = ap (λ (m : Option (List Bool)). length (unwrap_or m [])) is in
    omega (arith, same, within, fits marks refl)

held_strings : (mask : Option (List Bool)) (len n : ℕ) → fits.IsMaskOf len mask → n ≤ len → ForSome mask (λ marks. n ≤ length marks)
held_strings None len n long within = λ marks is. absurd cc
held_strings (Some marks) len n long within = λ other is.
    let same : length marks ≡ length other = ap (λ (m : Option (List Bool)). length (unwrap_or m [])) is in
    omega (arith, same, within, long)

-- a mask holds the marks of some of the slots
pub flat_marks : (copied mask : Option (List Bool)) (len n : ℕ) → copied ≡ mask → flats.IsMaskOf len mask → n ≤ len
    → ForSome copied (λ marks. n ≤ length marks)
flat_marks copied mask len n is fits within =
    subst (λ (m : Option (List Bool)). ForSome m (λ marks. n ≤ length marks)) (sym is) (held mask len n fits within)

pub string_marks : (copied mask : Option (List Bool)) (len n : ℕ) → copied ≡ mask → fits.IsMaskOf len mask → n ≤ len
    → ForSome copied (λ marks. n ≤ length marks)
string_marks copied mask len n is long within =
    subst (λ (m : Option (List Bool)). ForSome m (λ marks. n ≤ length marks)) (sym is) (held_strings mask len n long within)

stored_count : (kind : PrimitiveType) (values : List Numbers) → stored_len (stored_numbers kind values) ≡ length values
stored_count kinds.DaysMs values = length-map values pair_of
stored_count kinds.MonthDayNano values = length-map values triple_of
stored_count _ values = length-map values first_number

-- how many slots the column of an array of numbers has
pub primitive_len : {T : Type 0} (kind : PrimitiveType) (numbers : T → Numbers) (a : Flat T)
    → length a.values ≡ column_len (primitive_column kind numbers a)
primitive_len kind f a = sym (stored_count kind (map f a.values) ∙ length-map a.values f)

pub strings_len : (s : Spans) → length s.lengths ≡ length (offsets_of s) - 1
strings_len s = omega (arith, length-ends_from s.start s.lengths)
