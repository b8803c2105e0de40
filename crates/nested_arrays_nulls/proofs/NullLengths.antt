-- How many slots the column of so many nulls has.
use Rattle.std.proofs.Common.{◌≡◌, ◌∙◌, refl, sym, ap, subst, arith, ℕ, ◌-◌, ◌≤◌, List, [], ◌∷◌, length, map, Bool, true, false}
use Rattle.std.specs.Prelude.{ℤ, pos, replicate, All, Option, ◌/◌}
use Rattle.std.proofs.lemmas.Bool.{and_parts, eqb-true}
use Rattle.std.proofs.lemmas.List.{length-replicate}
use Rattle.std.proofs.lemmas.List.Elements.{All-cons, All-nil}
use Rattle.nested_arrays_iterators.specs.columnar_memory.Layouts.{physical_type}
use Rattle.nested_arrays_iterators.specs.columnar_memory.declared.DataType.{DataType, map-DataType}
use Rattle.nested_arrays_iterators.specs.columnar_memory.declared.DataType.TheFolds.{ind-DataType}
use Rattle.nested_arrays_iterators.specs.columnar_memory.declared.DataType.TheOpen as layer
use Rattle.nested_arrays_iterators.specs.columnar_memory.declared.DataType.TheViews.{roll-DataType}
use Rattle.nested_arrays_iterators.specs.columnar_memory.declared.Field.{Field}
use Rattle.nested_arrays_iterators.specs.columnar_memory.declared.PhysicalType.{PhysicalType}
use Rattle.nested_arrays_iterators.specs.columnar_memory.declared.PhysicalType.TheVariants as physical
use Rattle.nested_arrays_iterators.specs.columns.SoundColumns.{is_sound, are_sound, mask_fits}
use Rattle.nested_arrays_iterators.specs.columns.StoredColumns.{Column, nulls, flat, lists, fixed_lists, records, unions, dictionary, column_len, in_columns}
use Rattle.nested_arrays_iterators.specs.columns.StoredColumns.{stored_len}
use Rattle.nested_arrays_iterators.proofs.flat_lemmas.ColumnParts.{sound_mask}
use Rattle.nested_arrays_nulls.proofs.NullLayers.{Layer, with_makers, roll_makes}
use Rattle.nested_arrays_nulls.specs.Lengths.{marks_length, most_length}
use Rattle.nested_arrays_nulls.specs.NullColumns.{Maker, no_marks, no_items, first_id, flat_nulls, null_step, nulls_as, null_column, null_columns}

-- a column says of so many slots that they are null, or is a union of so many
abbrev pub HasSlots : ℕ → Column → Type 0
HasSlots n (nulls t k) = k ≡ n
HasSlots n (flat t mask stored) = mask ≡ no_marks n
HasSlots n (lists t mask offsets child) = (mask ≡ no_marks n) × (offsets ≡ no_items n)
HasSlots n (fixed_lists t mask size child) = mask ≡ no_marks n
HasSlots n (records t mask k children) = (k ≡ n) × (mask ≡ no_marks n)
HasSlots n (unions t ids offsets children) = length ids ≡ n
HasSlots n (dictionary t mask keys values) = (mask ≡ no_marks n) × (keys ≡ replicate n (pos 0))

flat_slots : (layout : PhysicalType) (t : DataType) (n : ℕ) → HasSlots n (flat_nulls layout t n)
flat_slots physical.Null t n = refl
flat_slots layout t n = refl

abbrev pub HaveSlots : DataType → Type 0
HaveSlots t = (whole : DataType) (n : ℕ) → HasSlots n (nulls_as t whole n)

abbrev D : Type 0
D = (t : DataType) × HaveSlots t

abbrev F : Type 0
F = (u : Field) × Unit {0}

abbrev plain_layer : layer.DataType-F D F → Layer
plain_layer y = map-DataType D F DataType Field (λ e. e.0) (λ e. e.0) y

at_roll : (x : Layer) → ((whole : DataType) (n : ℕ) → HasSlots n (null_step (with_makers x) whole n)) → HaveSlots (roll-DataType x)
at_roll x h whole n = subst (λ (make : Maker). HasSlots n (make whole n)) (sym (roll_makes x)) (h whole n)

layer_slots : (y : layer.DataType-F D F) → HaveSlots (roll-DataType (plain_layer y))
layer_slots (layer.List item) = at_roll (layer.List item.0) (λ whole n. (refl, refl))
layer_slots (layer.LargeList item) = at_roll (layer.LargeList item.0) (λ whole n. (refl, refl))
layer_slots (layer.Map entry is_sorted) = at_roll (layer.Map entry.0 is_sorted) (λ whole n. (refl, refl))
layer_slots (layer.FixedSizeList item size) = at_roll (layer.FixedSizeList item.0 size) (λ whole n. refl)
layer_slots (layer.Struct fields) = at_roll (layer.Struct (map (λ (e : F). e.0) fields)) (λ whole n. (refl, refl))
layer_slots (layer.Union fields ids mode) =
    at_roll (layer.Union (map (λ (e : F). e.0) fields) ids mode) (λ whole n. length-replicate n (first_id ids))
layer_slots (layer.Dictionary key value is_ordered) = at_roll (layer.Dictionary key value.0 is_ordered) (λ whole n. (refl, refl))
layer_slots (layer.Extension name inner more) = at_roll (layer.Extension name inner.0 more) inner.1
layer_slots y = at_roll (plain_layer y) (λ whole n. flat_slots (physical_type whole) whole n)

pub have_slots : (t : DataType) → HaveSlots t
have_slots = ind-DataType HaveSlots (λ u. Unit {0}) (λ x y is. subst (λ (x : Layer). HaveSlots (roll-DataType x)) is (layer_slots y)) (λ x y is. tt)

-- ---- what follows of such a column

marks_count : (mask : Option (List Bool)) (n : ℕ) → mask ≡ no_marks n → marks_length mask ≡ n
marks_count mask n is = ap marks_length is ∙ length-replicate n false

-- the longest part has a place for each slot
most_of_slots : (n : ℕ) (c : Column) → HasSlots n c → n ≤ most_length c
most_of_slots n (nulls t k) h = omega (arith, h)
most_of_slots n (flat t mask stored) h = omega (arith, marks_count mask n h)
most_of_slots n (lists t mask offsets child) h = omega (arith, ap (λ (xs : List ℕ). length xs) h.1, length-replicate {A = ℕ} n 0)
most_of_slots n (fixed_lists t mask size child) h = omega (arith, marks_count mask n h)
most_of_slots n (records t mask k children) h = omega (arith, h.0)
most_of_slots n (unions t ids offsets children) h = omega (arith, h)
most_of_slots n (dictionary t mask keys values) h = omega (arith, ap (λ (xs : List ℤ). length xs) h.1, length-replicate n (pos 0))

pub most_of_nulls : (t : DataType) (n : ℕ) → n ≤ most_length (null_column t n)
most_of_nulls t n = most_of_slots n (null_column t n) (have_slots t t n)

masked_len : (mask : Option (List Bool)) (n len : ℕ) → mask ≡ no_marks n → mask_fits mask len ≡ true → len ≡ n
masked_len mask n len is fits =
    let same : length (replicate n false) ≡ len = eqb-true (length (replicate n false)) len (ap (λ m. mask_fits m len) (sym is) ∙ fits) in
    sym same ∙ length-replicate n false

-- a sound one has so many slots
len_of_slots : (n : ℕ) (c : Column) → HasSlots n c → is_sound c ≡ true → column_len c ≡ n
len_of_slots n (nulls t k) h sound = h
len_of_slots n (flat t mask stored) h sound = masked_len mask n (stored_len stored) h (sound_mask (flat t mask stored) sound)
len_of_slots n (lists t mask offsets child) h sound = masked_len mask n (length offsets - 1) h.0 (sound_mask (lists t mask offsets child) sound)
len_of_slots n (fixed_lists t mask size child) h sound =
    masked_len mask n (column_len child / size) h (sound_mask (fixed_lists t mask size child) sound)
len_of_slots n (records t mask k children) h sound = h.0
len_of_slots n (unions t ids offsets children) h sound = h
len_of_slots n (dictionary t mask keys values) h sound = ap (λ (xs : List ℤ). length xs) h.1 ∙ length-replicate n (pos 0)

pub len_of_nulls : (t : DataType) (n : ℕ) → is_sound (null_column t n) ≡ true → column_len (null_column t n) ≡ n
len_of_nulls t n sound = len_of_slots n (null_column t n) (have_slots t t n) sound

-- so does each of several
pub lens_of_nulls : (fields : List Field) (n : ℕ) → are_sound (in_columns (null_columns fields n)) ≡ true
    → All (λ c. column_len c ≡ n) (null_columns fields n)
lens_of_nulls [] n sound = All-nil (λ (c : Column). column_len c ≡ n)
lens_of_nulls (u ∷ fields) n sound =
    let parts = and_parts (is_sound (null_column u.data_type n)) (are_sound (in_columns (null_columns fields n))) sound in
    All-cons (λ (c : Column). column_len c ≡ n) (null_column u.data_type n) (null_columns fields n) (len_of_nulls u.data_type n parts.0)
    (lens_of_nulls fields n parts.1)
