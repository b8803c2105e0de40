-- Which slots of a type are cells, by one layer of the type.
use Rattle.std.proofs.Common.{◌≡◌, ◌∙◌, ℕ, ℤ, List, [], ◌∷◌, map, Bool, true, false, refl, sym, ap}
use Rattle.std.specs.Prelude.{◌&&◌, ◌==◌, Option}
use Rattle.std.specs.List.{list_all}
use Rattle.std.proofs.lemmas.Bool.{and_parts, false≢true}
use Rattle.nested_arrays_builder_arrays.specs.arrays.columnar_memory.Equality.{same_type, same_type-Decides}
use Rattle.nested_arrays_builder_arrays.specs.arrays.columnar_memory.Layouts.{physical_type}
use Rattle.nested_arrays_builder_arrays.specs.arrays.columnar_memory.declared.DataType.{DataType, map-DataType}
use Rattle.nested_arrays_builder_arrays.specs.arrays.columnar_memory.declared.DataType.TheFolds.{fold-Field, fold-roll-DataType, fold-roll-Field}
use Rattle.nested_arrays_builder_arrays.specs.arrays.columnar_memory.declared.DataType.TheOpen as layer
use Rattle.nested_arrays_builder_arrays.specs.arrays.columnar_memory.declared.DataType.TheViews.{out-DataType, roll-DataType}
use Rattle.nested_arrays_builder_arrays.specs.arrays.columnar_memory.declared.Field.{Field}
use Rattle.nested_arrays_builder_arrays.specs.arrays.columnar_memory.declared.PhysicalType.TheVariants as physical
use denote.Hole.Carrier
use Rattle.nested_arrays_builder_arrays.specs.arrays.columns.Cells.{fit_each, is_null}
use Rattle.nested_arrays_builder_arrays.specs.arrays.columns.Kinds.{is_key}
use Rattle.nested_arrays_builder_arrays.specs.arrays.columns.Slots.{Slot, null, items, fields, in_slots, slot_list}
use Rattle.nested_arrays_builder_arrays.specs.arrays.columns.SoundColumns.{has_child_types, has_field_types, has_fixed_item_type, has_item_type}
use Rattle.nested_arrays_builder_arrays.specs.arrays.columns.SoundColumns.{has_value_type, have_types}
use Rattle.nested_arrays_builder_arrays.specs.arrays.columns.SoundColumns.{is_entry, is_stored_as}
use Rattle.nested_arrays_builder_arrays.specs.arrays.columns.StoredColumns.{Column, Columns, Stored, column_type, in_columns, slot_at, slots_at}
use Rattle.nested_arrays_builder_arrays.specs.arrays.columns.StoredColumns.{type_layer}
use Rattle.nested_arrays_builder_arrays.proofs.arrays_lemmas.columns_lemmas.FreshLengths.{Layer}
use Rattle.nested_arrays_builder_arrays.proofs.arrays_lemmas.columns_lemmas.Folds.{fold_keeps}
use Rattle.nested_arrays_builder_arrays.proofs.arrays_lemmas.columns_lemmas.TypeLayers.{is_extension, layer_layout}
use Rattle.nested_arrays_builder_arrays.proofs.parts_lemmas.columns_lemmas.Pieces.{listed}
use Rattle.nested_arrays_builder_arrays.proofs.parts_lemmas.columns_lemmas.TypeSteps.{by_layer, layout_by_layer, not_extended}
use Rattle.nested_arrays_cells.specs.ArrayCells.{has_cell, has_cell_at, has_cell_step}

-- ---- null

abbrev TakesNull : (Slot → Bool) → Type 0
TakesNull test = test null ≡ true

null_step : (z : layer.DataType-F ((t : Slot → Bool) × TakesNull t) ((t : Slot → Bool) × TakesNull t))
    → TakesNull (has_cell_step (map-DataType ((t : Slot → Bool) × TakesNull t) ((t : Slot → Bool) × TakesNull t) (Slot → Bool) (Slot
    → Bool) (λ e. e.0) (λ e. e.0) z))
null_step (layer.Dictionary key value is_ordered) = value.1
null_step (layer.Extension name inner metadata) = inner.1
null_step _ = refl

pub null_has : (t : DataType) → has_cell t null ≡ true
null_has = fold_keeps has_cell_step (λ field. field.data_type) TakesNull TakesNull null_step (λ z. z.data_type.1)

-- ---- types by their layers

abbrev has_field : Field → Slot → Bool
has_field = fold-Field (Slot → Bool) (Slot → Bool) has_cell_step (λ field. field.data_type)

abbrev has_layer : Layer → Slot → Bool
has_layer x = has_cell_step (map-DataType DataType Field (Slot → Bool) (Slot → Bool) has_cell has_field x)

has_is : (t : DataType) → has_cell t ≡ has_layer (type_layer t)
has_is = by_layer has_cell has_layer (fold-roll-DataType (Slot → Bool) (Slot → Bool) has_cell_step (λ field. field.data_type))
    (λ name inner metadata. refl)

abbrev field_layer : Field → layer.Field-F DataType Field
field_layer u = record { name = u.name; data_type = u.data_type; is_nullable = u.is_nullable; metadata = u.metadata }

has_field_is : (u : Field) → has_field u ≡ has_cell u.data_type
unfolding roll-DataType denote.Hole.Carrier.roll
has_field_is u = fold-roll-Field (Slot → Bool) (Slot → Bool) has_cell_step (λ field. field.data_type) (field_layer u)

-- a slot of a type is a cell where it is one of the type's layer
at_layer : (t : DataType) (slot : Slot) (b : Bool) → has_layer (type_layer t) slot ≡ b → has_cell t slot ≡ b
at_layer t slot b is = ap (λ (f : Slot → Bool). f slot) (has_is t) ∙ is

-- the test of a field whose type is another's
same_tests : (u : Field) (child : DataType) → same_type u.data_type child ≡ true → has_field u ≡ has_cell child
same_tests u child same = has_field_is u ∙ ap has_cell ((same_type-Decides u.data_type child).0 same)

item_tests : (u : Field) (child : DataType) (slots : List Slot) → same_type u.data_type child ≡ true
    → list_all (has_field u) (slot_list (in_slots slots)) ≡ list_all (has_cell child) slots
item_tests u child slots same = λ j. list_all (same_tests u child same j) (listed slots j)

-- ---- lists

-- whether a layer is one of maps
abbrev pub is_map : Layer → Bool
is_map (layer.Map entry is_sorted) = true
is_map _ = false

list_layer : (x : Layer) (child : DataType) (slots : List Slot) → has_item_type x child ≡ true → is_map x ≡ false
    → has_layer x (items (in_slots slots)) ≡ list_all (has_cell child) slots
list_layer (layer.List item) child slots h other = item_tests item child slots h
list_layer (layer.LargeList item) child slots h other = item_tests item child slots h
list_layer (layer.Map entry is_sorted) child slots h other = absurd cc
list_layer _ child slots h other = absurd (false≢true h)

pub list_has : (t child : DataType) (slots : List Slot) → has_item_type (type_layer t) child ≡ true → is_map (type_layer t) ≡ false
    → has_cell t (items (in_slots slots)) ≡ list_all (has_cell child) slots
list_has t child slots h other = at_layer t _ _ (list_layer (type_layer t) child slots h other)

fixed_layer : (x : Layer) (size : ℕ) (child : DataType) (slots : List Slot) → has_fixed_item_type x size child ≡ true
    → has_layer x (items (in_slots slots)) ≡ list_all (has_cell child) slots
fixed_layer (layer.FixedSizeList item own) size child slots h =
    item_tests item child slots (and_parts (own == size) (same_type item.data_type child) h).1
fixed_layer _ size child slots h = absurd (false≢true h)

pub fixed_has : (t : DataType) (size : ℕ) (child : DataType) (slots : List Slot) → has_fixed_item_type (type_layer t) size child ≡ true
    → has_cell t (items (in_slots slots)) ≡ list_all (has_cell child) slots
fixed_has t size child slots h = at_layer t _ _ (fixed_layer (type_layer t) size child slots h)

-- ---- structs

each_field : (us : List Field) (children : List Column) (i : ℕ) → have_types us (in_columns children) ≡ true
    → fit_each (map has_field us) (slots_at (in_columns children) i) ≡ list_all (has_cell_at i) children
each_field [] [] i h = refl
each_field [] (child ∷ children) i h = absurd (false≢true h)
each_field (u ∷ us) [] i h = absurd (false≢true h)
each_field (u ∷ us) (child ∷ children) i h =
    let parts = and_parts (same_type u.data_type (column_type child)) (have_types us (in_columns children)) h in
    λ j. same_tests u (column_type child) parts.0 j (slot_at child i) && each_field us children i parts.1 j

struct_layer : (x : Layer) (children : List Column) (i : ℕ) → has_field_types x (in_columns children) ≡ true
    → has_layer x (fields (slots_at (in_columns children) i)) ≡ list_all (has_cell_at i) children
struct_layer (layer.Struct []) children i h = absurd (false≢true h)
struct_layer (layer.Struct (u ∷ us)) children i h = each_field (u ∷ us) children i h
struct_layer _ children i h = absurd (false≢true h)

pub struct_has : (t : DataType) (children : List Column) (i : ℕ) → has_field_types (type_layer t) (in_columns children) ≡ true
    → has_cell t (fields (slots_at (in_columns children) i)) ≡ list_all (has_cell_at i) children
struct_has t children i h = at_layer t _ _ (struct_layer (type_layer t) children i h)

-- ---- maps and unions

map_layer : (x : Layer) (slot : Slot) → is_map x ≡ true → has_layer x slot ≡ is_null slot
map_layer (layer.Map entry is_sorted) slot h = refl
map_layer _ slot h = absurd (false≢true h)

pub map_has : (t : DataType) (slot : Slot) → is_map (type_layer t) ≡ true → has_cell t slot ≡ is_null slot
map_has t slot h = at_layer t slot _ (map_layer (type_layer t) slot h)

union_layer : (x : Layer) (offsets : Option (List ℤ)) (children : Columns) (slot : Slot) → has_child_types x offsets children ≡ true
    → has_layer x slot ≡ is_null slot
union_layer (layer.Union us ids mode) offsets children slot h = refl
union_layer _ offsets children slot h = absurd (false≢true h)

pub union_has : (t : DataType) (offsets : Option (List ℤ)) (children : Columns) (slot : Slot)
    → has_child_types (type_layer t) offsets children ≡ true → has_cell t slot ≡ is_null slot
union_has t offsets children slot h = at_layer t slot _ (union_layer (type_layer t) offsets children slot h)

-- types of lists lie in memory as maps where they are such
pub map_lies : (x : Layer) (child : DataType) → has_item_type x child ≡ true → layer_layout x ≡ physical.Map → is_map x ≡ true
map_lies (layer.Map entry is_sorted) child h is = refl
map_lies (layer.List item) child h is = absurd cc
map_lies (layer.LargeList item) child h is = absurd cc
map_lies _ child h is = absurd (false≢true h)

pub list_lies : (x : Layer) (child : DataType) → has_item_type x child ≡ true → (layer_layout x ≡ physical.Map → ⊥) → is_map x ≡ false
list_lies (layer.Map entry is_sorted) child h other = absurd (other refl)
list_lies (layer.List item) child h other = refl
list_lies (layer.LargeList item) child h other = refl
list_lies _ child h other = absurd (false≢true h)

-- ---- dictionaries

value_layer : (x : Layer) (keys : List ℤ) (value : DataType) (slot : Slot) → has_value_type x keys value ≡ true
    → has_layer x slot ≡ has_cell value slot
value_layer (layer.Dictionary key own is_ordered) keys value slot h =
    ap (λ (t : DataType). has_cell t slot)
    ((same_type-Decides own value).0 (and_parts (same_type own value) (list_all (is_key key) keys) h).0)
value_layer _ keys value slot h = absurd (false≢true h)

pub value_has : (t : DataType) (keys : List ℤ) (value : DataType) (slot : Slot) → has_value_type (type_layer t) keys value ≡ true
    → has_cell t slot ≡ has_cell value slot
value_has t keys value slot h = at_layer t slot _ (value_layer (type_layer t) keys value slot h)

-- ---- types without children

stored_layer : (x : Layer) (stored : Stored) (slot : Slot) → is_extension x ≡ false → is_stored_as (layer_layout x) stored ≡ true
    → has_layer x slot ≡ true
stored_layer (layer.List item) stored slot plain h = absurd (false≢true h)
stored_layer (layer.LargeList item) stored slot plain h = absurd (false≢true h)
stored_layer (layer.FixedSizeList item size) stored slot plain h = absurd (false≢true h)
stored_layer (layer.Struct us) stored slot plain h = absurd (false≢true h)
stored_layer (layer.Map entry is_sorted) stored slot plain h = absurd (false≢true h)
stored_layer (layer.Union us ids mode) stored slot plain h = absurd (false≢true h)
stored_layer (layer.Dictionary key value is_ordered) stored slot plain h = absurd (false≢true h)
stored_layer (layer.Extension name inner metadata) stored slot plain h = absurd cc
stored_layer _ stored slot plain h = refl

pub stored_has : (t : DataType) (stored : Stored) (slot : Slot) → is_stored_as (physical_type t) stored ≡ true → has_cell t slot ≡ true
stored_has t stored slot h =
    let lies : physical_type t ≡ layer_layout (type_layer t) = layout_by_layer t (type_layer t) refl in
    at_layer t slot true
    (stored_layer (type_layer t) stored slot (not_extended t) (ap (λ layout. is_stored_as layout stored) (sym lies) ∙ h))
