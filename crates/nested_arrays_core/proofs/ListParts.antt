-- Lists are sound where their parts are.
use Rattle.std.proofs.Common.{◌≡◌, ◌∙◌, sym, ap, ◌≤◌, ℕ, List, true, false, Bool, arith, refl, length}
use Rattle.std.specs.Prelude.{Option, if◌then◌else◌}
use Rattle.std.proofs.lemmas.Bool.{false≢true}
use Rattle.nested_arrays_access.specs.columnar_memory.Layouts.{physical_type}
use Rattle.nested_arrays_access.specs.columnar_memory.Spans.{Spans, offsets_of, last_of}
use Rattle.nested_arrays_access.specs.columnar_memory.declared.DataType.{DataType}
use Rattle.nested_arrays_access.specs.columnar_memory.declared.DataType.TheOpen as layer
use Rattle.nested_arrays_access.specs.columns.Kinds.{most_offset}
use Rattle.nested_arrays_access.specs.columns.SoundColumns.{has_item_type, mask_fits, is_sound}
use Rattle.nested_arrays_access.specs.columns.StoredColumns.{Column, column_len, column_type, lists, type_layer}
use Rattle.nested_arrays_access.specs.arrays.Answers.{LiesAs}
use Rattle.nested_arrays_access.proofs.arrays_lemmas.ListParts.{lists_whole, lists_parts}
use Rattle.nested_arrays_access.proofs.flat_lemmas.Layers.{Layer, layer_layout, type_lies}
use Rattle.nested_arrays_core.specs.ListTypes.{has_list_item_type, list_layout}

-- types of lists with such offsets are those that lie in memory so and have items
list_layer : (is_large : Bool) (x : Layer) (child : DataType) → has_list_item_type is_large x child ≡ true
    → (has_item_type x child ≡ true) × (layer_layout x ≡ list_layout is_large)
list_layer false (layer.List item) child h = (h, refl)
list_layer true (layer.LargeList item) child h = (h, refl)
list_layer false (layer.LargeList item) child h = absurd (false≢true h)
list_layer true (layer.List item) child h = absurd (false≢true h)
list_layer false _ child h = absurd (false≢true h)
list_layer true _ child h = absurd (false≢true h)

layer_list : (is_large : Bool) (x : Layer) (child : DataType) → has_item_type x child ≡ true → layer_layout x ≡ list_layout is_large
    → has_list_item_type is_large x child ≡ true
layer_list false (layer.List item) child h is = h
layer_list true (layer.LargeList item) child h is = h
layer_list false (layer.LargeList item) child h is = absurd cc
layer_list true (layer.List item) child h is = absurd cc
layer_list false (layer.Map entry is_sorted) child h is = absurd cc
layer_list true (layer.Map entry is_sorted) child h is = absurd cc
layer_list false _ child h is = absurd (false≢true h)
layer_list true _ child h is = absurd (false≢true h)

most_of_lists : (is_large : Bool) (greatest : ℕ) → greatest ≡ (if is_large then 0x7fff_ffff_ffff_ffff else 0x7fff_ffff)
    → most_offset (list_layout is_large) ≡ greatest
most_of_lists true greatest is = sym is
most_of_lists false greatest is = sym is

pub list_whole : (is_large : Bool) (greatest : ℕ) (data_type : DataType) (mask : Option (List Bool)) (s : Spans) (child : Column)
    → greatest ≡ (if is_large then 0x7fff_ffff_ffff_ffff else 0x7fff_ffff)
    → has_list_item_type is_large (type_layer data_type) (column_type child) ≡ true → last_of s ≤ greatest → last_of s ≤ column_len child
    → mask_fits mask (length s.lengths) ≡ true → is_sound child ≡ true
    → LiesAs (list_layout is_large) (lists data_type mask (offsets_of s) child)
list_whole is_large greatest data_type mask s child is typed small within masked sound =
    let both = list_layer is_large (type_layer data_type) (column_type child) typed in
    let lies : physical_type data_type ≡ list_layout is_large = (type_lies data_type).0 ∙ both.1 in
    let most : most_offset (physical_type data_type) ≡ greatest = ap most_offset lies ∙ most_of_lists is_large greatest is in
    (lists_whole data_type mask s child both.0 (omega (arith, most, small)) within masked sound, lies)

pub list_parts : (is_large : Bool) (data_type : DataType) (mask : Option (List Bool)) (s : Spans) (child : Column)
    → LiesAs (list_layout is_large) (lists data_type mask (offsets_of s) child)
    → (has_list_item_type is_large (type_layer data_type) (column_type child) ≡ true) × (last_of s ≤ column_len child)
    × (mask_fits mask (length s.lengths) ≡ true)
list_parts is_large data_type mask s child lies =
    let parts = lists_parts data_type mask s child lies.0 in
    (layer_list is_large (type_layer data_type) (column_type child) parts.0 (sym (type_lies data_type).0 ∙ lies.1), parts.1, parts.2)
