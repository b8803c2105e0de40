-- Parts and children of which no array is made: of a layer that stores others, or of a type that has no arrays.
use Rattle.std.proofs.Common.{◌≡◌, ◌∙◌, ℕ, ◌-◌, ◌*◌, ◌/◌, ℤ, Bool, true, false, ◌&&◌, List, [], ◌∷◌, length, refl, sym}
use Rattle.std.proofs.Common.{ap, arith, ◌==◌, nat_le, nat_lt}
use Rattle.std.specs.Prelude.{Option, Some, None, if◌then◌else◌, min}
use Rattle.std.specs.List.{list_all}
use Rattle.std.proofs.lemmas.Bool.{and_left, and_right, false≢true, lt-leb, ltb-false}
use Rattle.ipc_format_array_reading.specs.columnar_memory.Equality.{same_type}
use Rattle.ipc_format_array_reading.specs.columnar_memory.Layouts.{physical_type}
use Rattle.ipc_format_array_reading.specs.columnar_memory.declared.DataType.{DataType}
use Rattle.ipc_format_array_reading.specs.columnar_memory.declared.DataType.TheOpen as layer
use Rattle.ipc_format_array_reading.specs.columnar_memory.declared.DataType.TheViews.{out-DataType}
use Rattle.ipc_format_array_reading.specs.columnar_memory.declared.UnionMode.TheVariants as modes
use Rattle.ipc_format_array_reading.specs.columns.Kinds.{is_signed, most_offset}
use Rattle.ipc_format_array_reading.specs.columns.SoundColumns.{are_offsets, are_pieces, are_sound, has_an_id_each, has_child_at, has_child_types, has_field_types}
use Rattle.ipc_format_array_reading.specs.columns.SoundColumns.{has_fixed_item_type, has_item_type, has_places, have_len, have_types, holds_below, is_entry}
use Rattle.ipc_format_array_reading.specs.columns.SoundColumns.{is_sound, mask_fits}
use Rattle.ipc_format_array_reading.specs.columns.StoredColumns.{Column, column_len, column_type, fixed_lists, in_columns, lists, records, type_layer, unions}
use Rattle.ipc_format_array_reading.proofs.TypeLayers.{Layer}
use Rattle.ipc_format_array_reading.specs.flatbuffers.Reading.{◌>>=◌}
use Rattle.ipc_format_array_reading.specs.grammar.Columns.{last_of}
use Rattle.ipc_format_array_reading.specs.ArrayReads.{fields_below}
use Rattle.ipc_format_array_reading.specs.Parts.{Parts, choices, cut_under, if_long, made_column, marked_column, marks, single}
use Rattle.ipc_format_array_reading.specs.Parts.{sound_column, spans}
use Rattle.ipc_format_reading.proofs.JoinedSlots.{AreTyped, layer_arrays}

-- ---- columns that are not sound

-- what is unsound is not made
unsound_gone : (limit : Option ℕ) (parts : Parts) (whole : Column) → is_sound whole ≡ false → sound_column limit parts whole ≡ None
unsound_gone limit parts whole unsound = ap (λ (b : Bool). if b then Some (cut_under limit parts whole) else None) unsound

pub unsound_long : (limit : Option ℕ) (parts : Parts) (long : Bool) (whole : Column) → is_sound whole ≡ false
    → (if_long long whole >>= sound_column limit parts) ≡ None
unsound_long limit parts true whole unsound = unsound_gone limit parts whole unsound
unsound_long limit parts false whole unsound = refl

first_of_4 : (a b c d : Bool) → a ≡ false → (a && b && c && d) ≡ false
first_of_4 a b c d fails = and_left (a && b && c) d (and_left (a && b) c (and_left a b fails))

first_of_5 : (a b c d e : Bool) → a ≡ false → (a && b && c && d && e) ≡ false
first_of_5 a b c d e fails = and_left (a && b && c && d) e (first_of_4 a b c d fails)

pub lists_unsound : (t : DataType) (mask : Option (List Bool)) (offsets : List ℕ) (c : Column)
    → has_item_type (type_layer t) (column_type c) ≡ false → is_sound (lists t mask offsets c) ≡ false
lists_unsound t mask offsets c other =
    first_of_4 (has_item_type (type_layer t) (column_type c)) (are_offsets offsets (min (most_offset (physical_type t)) (column_len c)))
    (mask_fits mask (length offsets - 1)) (is_sound c) other

pub unions_unsound : (t : DataType) (ids : List ℤ) (places : Option (List ℤ)) (cs : List Column)
    → has_child_types (type_layer t) places (in_columns cs) ≡ false → is_sound (unions t ids places (in_columns cs)) ≡ false
unions_unsound t ids places cs other =
    first_of_5 (has_child_types (type_layer t) places (in_columns cs)) (list_all (is_signed 8) ids) (has_places ids places (in_columns cs))
    (holds_below (length ids) (has_child_at (type_layer t) ids places (in_columns cs))) (are_sound (in_columns cs)) other

records_unsound : (t : DataType) (mask : Option (List Bool)) (n : ℕ) (cs : List Column)
    → has_field_types (type_layer t) (in_columns cs) ≡ false → is_sound (records t mask n (in_columns cs)) ≡ false
records_unsound t mask n cs other =
    first_of_4 (has_field_types (type_layer t) (in_columns cs)) (have_len (in_columns cs) n) (mask_fits mask n) (are_sound (in_columns cs)) other

fixed_unsound : (t : DataType) (mask : Option (List Bool)) (size : ℕ) (c : Column) → nat_lt 0 size ≡ false
    → is_sound (fixed_lists t mask size c) ≡ false
fixed_unsound t mask size c none =
    let few : nat_le 1 size ≡ false = lt-leb 1 size (omega (arith, ltb-false 0 size none)) in
    let pieces : are_pieces size (column_len c) ≡ false = and_left (nat_le 1 size) (size * (column_len c / size) == column_len c) few in
    let typed : Bool = has_fixed_item_type (type_layer t) size (column_type c) in
    let fits : Bool = mask_fits mask (column_len c / size) in
    and_left (typed && are_pieces size (column_len c) && fits) (is_sound c)
    (and_left (typed && are_pieces size (column_len c)) fits (and_right typed (are_pieces size (column_len c)) pieces))

-- ---- parts of another layer

-- a layer that has no items by offsets
abbrev pub NoItems : Layer → List Column → Type 0
NoItems x cs = (c : Column) → single cs ≡ Some c → has_item_type x (column_type c) ≡ false

pub spans_gone : (t : DataType) (limit : Option ℕ) (taken : ℕ) (mask : Option (List Bool)) (offsets : List ℕ) (cs : List Column)
    → NoItems (type_layer t) cs → made_column t limit (spans taken mask offsets) cs ≡ None
spans_gone t limit taken mask offsets [] none = refl
spans_gone t limit taken mask offsets (c ∷ []) none =
    unsound_long limit (spans taken mask offsets) (column_len c == last_of offsets) (lists t mask offsets c)
    (lists_unsound t mask offsets c (none c refl))
spans_gone t limit taken mask offsets (c ∷ d ∷ cs) none = refl

pub choices_gone : (t : DataType) (limit : Option ℕ) (ids : List ℤ) (places : Option (List ℤ)) (cs : List Column)
    → has_child_types (type_layer t) places (in_columns cs) ≡ false → made_column t limit (choices ids places) cs ≡ None
choices_gone t limit ids places cs other =
    unsound_gone limit (choices ids places) (unions t ids places (in_columns cs)) (unions_unsound t ids places cs other)

-- ---- types that have no arrays

no_items : (x : Layer) (c : Column) → layer_arrays x ≡ false → AreTyped (fields_below x) (c ∷ []) → has_item_type x (column_type c) ≡ false
no_items (layer.List item) c bare typed = absurd (false≢true (sym bare))
no_items (layer.LargeList item) c bare typed = absurd (false≢true (sym bare))
no_items (layer.Map entry is_sorted) c bare typed =
    let same : column_type c ≡ entry.data_type = cc in
    and_right (same_type entry.data_type (column_type c)) (is_entry (out-DataType (column_type c)))
    (ap (λ (t : DataType). is_entry (out-DataType t)) same ∙ bare)
no_items _ c bare typed = refl

no_choices : (x : Layer) (places : Option (List ℤ)) (cs : List Column) → layer_arrays x ≡ false → has_child_types x places (in_columns cs) ≡ false
no_choices (layer.Union us numbers modes.Sparse) None cs bare = and_left (has_an_id_each numbers (length us)) (have_types us (in_columns cs)) bare
no_choices (layer.Union us numbers modes.Sparse) (Some places) cs bare = refl
no_choices (layer.Union us numbers modes.Dense) None cs bare = refl
no_choices (layer.Union us numbers modes.Dense) (Some places) cs bare =
    and_left (has_an_id_each numbers (length us)) (have_types us (in_columns cs)) bare
no_choices _ places cs bare = refl

no_fields : (x : Layer) (cs : List Column) → layer_arrays x ≡ false → has_field_types x (in_columns cs) ≡ false
no_fields (layer.Struct []) cs bare = refl
no_fields (layer.Struct (u ∷ us)) cs bare = absurd (false≢true (sym bare))
no_fields _ cs bare = refl

fixed_gone : (t : DataType) (limit : Option ℕ) (size taken : ℕ) (mask : Option (List Bool)) (cs : List Column) → nat_lt 0 size ≡ false
    → ((single cs >>= (λ items. if_long (column_len items == taken * size) (fixed_lists t mask size items)))
    >>= sound_column limit (marks taken mask)) ≡ None
fixed_gone t limit size taken mask [] none = refl
fixed_gone t limit size taken mask (c ∷ []) none =
    unsound_long limit (marks taken mask) (column_len c == taken * size) (fixed_lists t mask size c) (fixed_unsound t mask size c none)
fixed_gone t limit size taken mask (c ∷ d ∷ cs) none = refl

marks_gone : (x : Layer) (t : DataType) (limit : Option ℕ) (taken : ℕ) (mask : Option (List Bool)) (cs : List Column) → layer_arrays x ≡ false
    → has_field_types (type_layer t) (in_columns cs) ≡ false
    → (marked_column x t taken mask cs >>= sound_column limit (marks taken mask)) ≡ None
marks_gone (layer.FixedSizeList item size) t limit taken mask cs bare other = fixed_gone t limit size taken mask cs bare
marks_gone (layer.Struct us) t limit taken mask cs bare other =
    unsound_long limit (marks taken mask) (list_all (λ column. column_len column == taken) cs) (records t mask taken (in_columns cs))
    (records_unsound t mask taken cs other)
marks_gone _ t limit taken mask cs bare other = refl

-- no array is made of a type that has none
pub made_none : (t : DataType) (limit : Option ℕ) (parts : Parts) (cs : List Column) → layer_arrays (type_layer t) ≡ false
    → AreTyped (fields_below (type_layer t)) cs → made_column t limit parts cs ≡ None
made_none t limit (marks taken mask) cs bare typed =
    marks_gone (type_layer t) t limit taken mask cs bare (no_fields (type_layer t) cs bare)
made_none t limit (spans taken mask offsets) cs bare typed =
    spans_gone t limit taken mask offsets cs (of_single cs typed)
  where
    of_single : (cs : List Column) → AreTyped (fields_below (type_layer t)) cs → NoItems (type_layer t) cs
    of_single [] typed c is = absurd cc
    of_single (d ∷ []) typed c is =
        let same : d ≡ c = cc in
        ap (λ (c : Column). has_item_type (type_layer t) (column_type c)) (sym same) ∙ no_items (type_layer t) d bare typed
    of_single (d ∷ e ∷ cs) typed c is = absurd cc
made_none t limit (choices ids places) cs bare typed = choices_gone t limit ids places cs (no_choices (type_layer t) places cs bare)
