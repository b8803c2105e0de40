-- Columns without columns below them.
use Rattle.std.proofs.Common.{◌≡◌, ◌∙◌, ℕ, ◌-◌, ◌/◌, ◌==◌, Bool, true, false, ◌&&◌, List, [], ◌∷◌, length, refl, sym, ap}
use Rattle.std.specs.Prelude.{ℤ, Option, Some, None, min, nat_lt}
use Rattle.std.specs.List.{list_all}
use Rattle.std.proofs.lemmas.Bool.{and_parts, false≢true}
use Rattle.ipc_format_batch_reading.proofs.Conditions.{parts_of_4, parts_of_5}
use Rattle.ipc_format_batch_reading.proofs.TypeLayers.{Layer, layer_layout, layout_is}
use Rattle.columnar_memory_types.specs.Layouts.{physical_type}
use Rattle.ipc_format_batch_reading.specs.columnar_memory.declared.DataType.{DataType}
use Rattle.ipc_format_batch_reading.specs.columnar_memory.declared.DataType.TheOpen as layer
use Rattle.ipc_format_batch_reading.specs.columnar_memory.declared.UnionMode.TheVariants as modes
use Rattle.ipc_format_batch_reading.specs.columns.Kinds.{most_offset, is_signed}
use Rattle.ipc_format_batch_reading.specs.columns.SoundColumns.{are_offsets, are_pieces, are_sound, has_child_at, has_child_types, has_field_types}
use Rattle.ipc_format_batch_reading.specs.columns.SoundColumns.{has_fixed_item_type, has_item_type, has_places, has_value_at, has_value_type, have_len, holds_below}
use Rattle.ipc_format_batch_reading.specs.columns.SoundColumns.{is_sound, mask_fits}
use Rattle.ipc_format_batch_reading.specs.columns.StoredColumns.{Column, Columns, nulls, flat, lists, fixed_lists, records, unions, dictionary}
use Rattle.ipc_format_batch_reading.specs.columns.StoredColumns.{column_len, column_type, type_layer, no_column, column_then}
use Rattle.ipc_format_batch_reading.specs.grammar.GivenDictionaries.{Given, given_stored}
use Rattle.ipc_format_batch_reading.specs.grammar.Schemas.{Ids}
use Rattle.ipc_format_batch_reading.specs.nested_arrays.Childless.{is_childless}

-- a layer of such a type has no items, no fields and no values
no_items : (x : Layer) (child : DataType) → is_childless (layer_layout x) ≡ true → has_item_type x child ≡ false
no_items (layer.List item) child none = absurd (false≢true none)
no_items (layer.LargeList item) child none = absurd (false≢true none)
no_items (layer.Map entry is_sorted) child none = absurd (false≢true none)
no_items _ child none = refl

no_fixed_items : (x : Layer) (size : ℕ) (child : DataType) → is_childless (layer_layout x) ≡ true → has_fixed_item_type x size child ≡ false
no_fixed_items (layer.FixedSizeList item count) size child none = absurd (false≢true none)
no_fixed_items _ size child none = refl

no_fields : (x : Layer) (children : Columns) → is_childless (layer_layout x) ≡ true → has_field_types x children ≡ false
no_fields (layer.Struct []) children none = refl
no_fields (layer.Struct (field ∷ fields)) children none = absurd (false≢true none)
no_fields _ children none = refl

no_union : (x : Layer) (offsets : Option (List ℤ)) (children : Columns) → is_childless (layer_layout x) ≡ true
    → has_child_types x offsets children ≡ false
no_union (layer.Union fields ids mode) offsets children none = absurd (false≢true none)
no_union _ offsets children none = refl

no_values : (x : Layer) (keys : List ℤ) (values : DataType) → is_childless (layer_layout x) ≡ true → has_value_type x keys values ≡ false
no_values (layer.Dictionary key value is_ordered) keys values none = absurd (false≢true none)
no_values _ keys values none = refl

of_layer : (t : DataType) → is_childless (physical_type t) ≡ true → is_childless (layer_layout (type_layer t)) ≡ true
of_layer t none = ap is_childless (sym (layout_is t)) ∙ none

-- a column that is stored alone
abbrev pub IsBare : Column → Type 0
IsBare (nulls t n) = Unit {0}
IsBare (flat t mask stored) = Unit {0}
IsBare _ = ⊥

pub bare : (c : Column) → is_sound c ≡ true → is_childless (physical_type (column_type c)) ≡ true → IsBare c
bare (nulls t n) sound none = tt
bare (flat t mask stored) sound none = tt
bare (lists t mask offsets child) sound none =
    false≢true (sym (no_items (type_layer t) (column_type child) (of_layer t none))
    ∙ (parts_of_4 (has_item_type (type_layer t) (column_type child))
    (are_offsets offsets (min (most_offset (physical_type t)) (column_len child))) (mask_fits mask (length offsets - 1)) (is_sound child) sound).0)
bare (fixed_lists t mask size child) sound none =
    false≢true (sym (no_fixed_items (type_layer t) size (column_type child) (of_layer t none))
    ∙ (parts_of_4 (has_fixed_item_type (type_layer t) size (column_type child)) (are_pieces size (column_len child))
    (mask_fits mask (column_len child / size)) (is_sound child) sound).0)
bare (records t mask n children) sound none =
    false≢true (sym (no_fields (type_layer t) children (of_layer t none))
    ∙ (parts_of_4 (has_field_types (type_layer t) children) (have_len children n) (mask_fits mask n) (are_sound children) sound).0)
bare (unions t type_ids offsets children) sound none =
    false≢true (sym (no_union (type_layer t) offsets children (of_layer t none))
    ∙ (parts_of_5 (has_child_types (type_layer t) offsets children) (list_all (is_signed 8) type_ids) (has_places type_ids offsets children)
    (holds_below (length type_ids) (has_child_at (type_layer t) type_ids offsets children)) (are_sound children) sound).0)
bare (dictionary t mask keys values) sound none =
    false≢true (sym (no_values (type_layer t) keys (column_type values) (of_layer t none))
    ∙ (parts_of_4 (has_value_type (type_layer t) keys (column_type values)) (mask_fits mask (length keys))
    (holds_below (length keys) (has_value_at mask keys (column_len values))) (is_sound values) sound).0)

given_bare : (here : Ids) (c : Column) → IsBare c → given_stored here c ≡ []
given_bare here (nulls t n) alone = refl
given_bare here (flat t mask stored) alone = refl
given_bare here _ alone = absurd alone

-- it brings no dictionary
pub none_given : (here : Ids) (c : Column) → is_sound c ≡ true → is_childless (physical_type (column_type c)) ≡ true → given_stored here c ≡ []
none_given here c sound none = given_bare here c (bare c sound none)
