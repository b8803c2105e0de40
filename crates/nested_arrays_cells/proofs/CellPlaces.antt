-- Slots of sound columns that are cells.
use Rattle.std.proofs.Common.{◌≡◌, ◌∙◌, ℕ, zero, suc, ◌+◌, ◌-◌, ◌<◌, ◌≤◌, ℤ, pos, List, Bool, true, false, refl, sym, ap, subst, arith, length}
use Rattle.std.specs.Prelude.{◌/◌, Option, min, nat_lt, slice_index, slice_index_or}
use Rattle.std.specs.List.{list_all}
use Rattle.std.proofs.lemmas.Bool.{and_parts, ltb-true}
use Rattle.nested_arrays_builder_arrays.specs.arrays.columnar_memory.Layouts.{physical_type}
use Rattle.nested_arrays_builder_arrays.specs.arrays.columnar_memory.declared.DataType.{DataType}
use Rattle.nested_arrays_builder_arrays.specs.arrays.columnar_memory.declared.PhysicalType.TheVariants as physical
use Rattle.nested_arrays_builder_arrays.specs.arrays.columns.Cells.{is_null}
use Rattle.nested_arrays_builder_arrays.specs.arrays.columns.Kinds.{is_signed, most_offset}
use Rattle.nested_arrays_builder_arrays.specs.arrays.columns.Slots.{Slot, null, items, in_slots, window}
use Rattle.nested_arrays_builder_arrays.specs.arrays.columns.SoundColumns.{are_offsets, are_pieces, are_sound, column_lens, has_child_at}
use Rattle.nested_arrays_builder_arrays.specs.arrays.columns.SoundColumns.{has_child_types}
use Rattle.nested_arrays_builder_arrays.specs.arrays.columns.SoundColumns.{has_field_types, has_fixed_item_type, has_item_type, has_places, has_size}
use Rattle.nested_arrays_builder_arrays.specs.arrays.columns.SoundColumns.{has_value_at, has_value_type, have_len, holds_below, is_sound}
use Rattle.nested_arrays_builder_arrays.specs.arrays.columns.SoundColumns.{is_stored_as, mask_fits}
use Rattle.nested_arrays_builder_arrays.specs.arrays.columns.StoredColumns.{Column, Columns, nulls, flat, lists, fixed_lists, records, unions}
use Rattle.nested_arrays_builder_arrays.specs.arrays.columns.StoredColumns.{no_column, column_then}
use Rattle.nested_arrays_builder_arrays.specs.arrays.columns.StoredColumns.{child_number, column_len, column_type, in_columns, is_valid_at}
use Rattle.nested_arrays_builder_arrays.specs.arrays.columns.StoredColumns.{picked_at, place_of}
use Rattle.nested_arrays_builder_arrays.specs.arrays.columns.StoredColumns.{slot_at, stored_len, type_layer, union_place}
use Rattle.nested_arrays_builder_arrays.specs.arrays.flat.ColumnMasks.{column_mask}
use Rattle.nested_arrays_builder_arrays.specs.arrays.parts.Forms.{bare, column_form}
use Rattle.nested_arrays_builder_arrays.specs.arrays.parts.Keys.{keyed, numbers_in}
use Rattle.nested_arrays_builder_arrays.specs.arrays.parts.Widths.{layout_of}
use Rattle.nested_arrays_builder_arrays.specs.arrays.parts.declared.offsets.ListOffsets.{ListOffsets}
use Rattle.nested_arrays_builder_arrays.specs.arrays.parts.declared.offsets.ListOffsets.TheVariants as width
use Rattle.nested_arrays_builder_arrays.specs.arrays.Places.{AreFields, AreItems}
use Rattle.nested_arrays_builder_arrays.proofs.arrays_lemmas.KeyPlaces.{key_within}
use Rattle.nested_arrays_builder_arrays.proofs.arrays_lemmas.SlotPlaces.{struct_fields}
use Rattle.nested_arrays_builder_arrays.proofs.arrays_lemmas.columns_lemmas.Conditions.{holds_at, parts_of_3, parts_of_4, parts_of_5}
use Rattle.nested_arrays_builder_arrays.proofs.arrays_lemmas.parts_lemmas.SameForms.{valid_slot}
use Rattle.nested_arrays_builder_arrays.proofs.parts_lemmas.columns_lemmas.TypeSteps.{layout_by_layer}
use Rattle.nested_arrays_cells.specs.ArrayCells.{has_cell, has_cell_at}
use Rattle.nested_arrays_cells.specs.Inside.{AreCellFields, AreCellItems, IsCellValue}
use Rattle.nested_arrays_cells.proofs.HasCells.{fixed_has, list_has, list_lies, map_has, map_lies, null_has, stored_has, struct_has}
use Rattle.nested_arrays_cells.proofs.HasCells.{union_has, value_has}

-- ---- null, and columns without children

pub null_is_cell : (c : Column) (i : ℕ) → slot_at c i ≡ null → has_cell_at i c ≡ true
null_is_cell c i is = ap (has_cell (column_type c)) is ∙ null_has (column_type c)

pub flat_is_cell : (c : Column) (i : ℕ) → is_sound c ≡ true → column_form c ≤ 4 → has_cell_at i c ≡ true
flat_is_cell (nulls t n) i sound few = null_has t
flat_is_cell (flat t mask stored) i sound few =
    let parts = parts_of_3 (is_stored_as (physical_type t) stored) (has_size (type_layer t) stored) (mask_fits mask (stored_len stored)) sound in
    stored_has t stored (slot_at (flat t mask stored) i) parts.0
flat_is_cell _ i sound few = absurd (omega arith)

-- ---- lists

list_typed : (t : DataType) (mask : Option (List Bool)) (offsets : List ℕ) (child : Column) → is_sound (lists t mask offsets child) ≡ true
    → has_item_type (type_layer t) (column_type child) ≡ true
list_typed t mask offsets child sound =
    let limit = min (most_offset (physical_type t)) (column_len child) in
    (parts_of_4 (has_item_type (type_layer t) (column_type child)) (are_offsets offsets limit) (mask_fits mask (length offsets - 1))
    (is_sound child) sound).0

pub list_cells : (t : DataType) (mask : Option (List Bool)) (offsets : List ℕ) (child : Column) (i start len : ℕ)
    → is_sound (lists t mask offsets child) ≡ true → (physical_type t ≡ physical.Map → ⊥)
    → AreItems (lists t mask offsets child) i child start len → AreCellItems (lists t mask offsets child) i child start len
list_cells t mask offsets child i start len sound other own =
    let typed = list_typed t mask offsets child sound in
    let plain = list_lies (type_layer t) (column_type child) typed (λ is. other (layout_by_layer t (type_layer t) refl ∙ is)) in record {
      items = own;
      cell = ap (has_cell t) own.shown ∙ list_has t (column_type child) (window (slot_at child) start len) typed plain;
    }

-- lists by offsets of either width do not lie in memory as maps
pub no_map : (t : DataType) (offsets : ListOffsets) → physical_type t ≡ layout_of offsets → physical_type t ≡ physical.Map → ⊥
no_map t (width.Small offsets) lies is = let both : physical.List ≡ physical.Map = sym lies ∙ is in cc
no_map t (width.Large offsets) lies is = let both : physical.LargeList ≡ physical.Map = sym lies ∙ is in cc

fixed_lists_cells : (t : DataType) (mask : Option (List Bool)) (size : ℕ) (child : Column) (i start len : ℕ)
    → is_sound (fixed_lists t mask size child) ≡ true → AreItems (fixed_lists t mask size child) i child start len
    → AreCellItems (fixed_lists t mask size child) i child start len
fixed_lists_cells t mask size child i start len sound own =
    let typed = (parts_of_4 (has_fixed_item_type (type_layer t) size (column_type child)) (are_pieces size (column_len child))
    (mask_fits mask (column_len child / size)) (is_sound child) sound).0 in record {
      items = own;
      cell = ap (has_cell t) own.shown ∙ fixed_has t size (column_type child) (window (slot_at child) start len) typed;
    }

pub fixed_cells : (c : Column) (t : DataType) (mask : Option (List Bool)) (size : ℕ) (child : Column) (i start len : ℕ)
    → c ≡ fixed_lists t mask size child → is_sound c ≡ true → AreItems c i child start len → AreCellItems c i child start len
fixed_cells c t mask size child i start len is sound own =
    subst (λ (d : Column). AreCellItems d i child start len) (sym is)
    (fixed_lists_cells t mask size child i start len (ap is_sound (sym is) ∙ sound) (subst (λ (d : Column). AreItems d i child start len) is own))

-- ---- structs

records_cells : (t : DataType) (mask : Option (List Bool)) (n : ℕ) (children : List Column) (i : ℕ)
    → is_sound (records t mask n (in_columns children)) ≡ true → AreFields (records t mask n (in_columns children)) i (in_columns children)
    → AreCellFields (records t mask n (in_columns children)) i children
records_cells t mask n children i sound own =
    let all = in_columns children in
    let typed = (parts_of_4 (has_field_types (type_layer t) all) (have_len all n) (mask_fits mask n) (are_sound all) sound).0 in record {
      fields = own;
      cell = ap (has_cell t) own.shown ∙ struct_has t children i typed;
    }

pub field_cells : (c : Column) (t : DataType) (mask : Option (List Bool)) (n : ℕ) (children : List Column) (i : ℕ)
    → c ≡ records t mask n (in_columns children) → is_sound c ≡ true → i < column_len c → is_valid_at (column_mask c) i ≡ true
    → AreCellFields c i children
field_cells c t mask n children i is sound h valid =
    let own = struct_fields c t mask n (in_columns children) i is sound h valid in
    subst (λ (d : Column). AreCellFields d i children) (sym is)
    (records_cells t mask n children i (ap is_sound (sym is) ∙ sound) (subst (λ (d : Column). AreFields d i (in_columns children)) is own))

-- ---- maps

pub map_is_none : (c : Column) (t : DataType) (mask : Option (List Bool)) (offsets : List ℕ) (child : Column) (i : ℕ)
    → c ≡ lists t mask offsets child → is_sound c ≡ true → physical_type (column_type c) ≡ physical.Map → is_valid_at (column_mask c) i ≡ true
    → has_cell_at i c ≡ false
map_is_none c t mask offsets child i is sound lies valid =
    let typed = list_typed t mask offsets child (ap is_sound (sym is) ∙ sound) in
    let lying : physical_type t ≡ physical.Map = ap (λ d. physical_type (column_type d)) (sym is) ∙ lies in
    let map = map_lies (type_layer t) (column_type child) typed (sym (layout_by_layer t (type_layer t) refl) ∙ lying) in
    let set : is_valid_at mask i ≡ true = ap (λ d. is_valid_at (column_mask d) i) (sym is) ∙ valid in
    ap (has_cell_at i) is ∙ map_has t (slot_at (lists t mask offsets child) i) map
    ∙ ap is_null (valid_slot (lists t mask offsets child) i set)

-- ---- unions

picked_some : (children : Columns) (k i : ℕ) → i < slice_index (column_lens children) k → is_null (picked_at children k i) ≡ false
picked_some no_column k i h = absurd (omega arith)
picked_some (column_then column columns) zero i h = refl
picked_some (column_then column columns) (suc k) i h = picked_some columns k i h

unions_are_none : (t : DataType) (ids : List ℤ) (offsets : Option (List ℤ)) (children : Columns) (i : ℕ)
    → is_sound (unions t ids offsets children) ≡ true → i < length ids → has_cell_at i (unions t ids offsets children) ≡ false
unions_are_none t ids offsets children i sound h =
    let x = type_layer t in
    let parts = parts_of_5 (has_child_types x offsets children) (list_all (is_signed 8) ids) (has_places ids offsets children)
    (holds_below (length ids) (has_child_at x ids offsets children)) (are_sound children) sound in
    let k = child_number x (slice_index_or ids i (pos 0)) in
    let there = holds_at (length ids) (has_child_at x ids offsets children) i parts.3 h in
    union_has t offsets children (slot_at (unions t ids offsets children) i) parts.0
    ∙ picked_some children k (union_place offsets i) (ltb-true (union_place offsets i) (slice_index (column_lens children) k) there)

pub union_is_none : (c : Column) (t : DataType) (ids : List ℤ) (offsets : Option (List ℤ)) (children : Columns) (i : ℕ)
    → c ≡ unions t ids offsets children → is_sound c ≡ true → i < column_len c → has_cell_at i c ≡ false
union_is_none c t ids offsets children i is sound h =
    let len : column_len c ≡ length ids = ap column_len is in
    ap (has_cell_at i) is ∙ unions_are_none t ids offsets children i (ap is_sound (sym is) ∙ sound) (omega (arith, h, len))

-- ---- dictionaries

pub value_cell : (t : DataType) (keys values : Column) (i place : ℕ) → is_sound (keyed t keys values) ≡ true → i < length (numbers_in keys)
    → is_valid_at (column_mask keys) i ≡ true → place ≡ place_of (slice_index_or (numbers_in keys) i (pos 0))
    → IsCellValue (keyed t keys values) i values place
value_cell t keys values i place sound h valid is =
    let mask = column_mask keys in
    let numbers = numbers_in keys in
    let typed = (parts_of_4 (has_value_type (type_layer t) numbers (column_type values)) (mask_fits mask (length numbers))
    (holds_below (length numbers) (has_value_at mask numbers (column_len values))) (is_sound values) sound).0 in
    let shown : slot_at (keyed t keys values) i ≡ slot_at values place =
    valid_slot (keyed t keys values) i valid ∙ ap (slot_at values) (sym is) in record {
      shown = shown;
      within = key_within t keys values i place sound h valid is;
      smaller = omega arith;
      cell = ap (has_cell t) shown ∙ value_has t numbers (column_type values) (slot_at values place) typed;
    }
