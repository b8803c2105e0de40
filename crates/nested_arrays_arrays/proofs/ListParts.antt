-- Lists and maps are sound where their parts are.
use Rattle.std.proofs.Common.{◌≡◌, ◌∙◌, sym, ap, ◌≤◌, ◌-◌, ◌^◌, List, true, Bool, arith, refl, length}
use Rattle.std.specs.Prelude.{◌&&◌, min, Option}
use Rattle.std.proofs.lemmas.Bool.{and_from, false≢true}
use Rattle.nested_arrays_parts.specs.columnar_memory.Layouts.{physical_type}
use Rattle.nested_arrays_parts.specs.columnar_memory.Spans.{Spans, offsets_of, last_of}
use Rattle.nested_arrays_parts.specs.columnar_memory.declared.DataType.{DataType}
use Rattle.nested_arrays_parts.specs.columnar_memory.declared.DataType.TheOpen as layer
use Rattle.nested_arrays_parts.specs.columnar_memory.declared.PhysicalType.TheVariants as physical
use Rattle.nested_arrays_parts.specs.columns.Kinds.{most_offset}
use Rattle.nested_arrays_parts.specs.columns.SoundColumns.{has_item_type, are_offsets, mask_fits, is_sound}
use Rattle.nested_arrays_parts.specs.columns.StoredColumns.{Column, column_len, column_type, lists, type_layer}
use Rattle.nested_arrays_parts.proofs.columns_lemmas.Conditions.{parts_of_4}
use Rattle.nested_arrays_arrays.specs.Answers.{LiesAs}
use Rattle.nested_arrays_arrays.specs.Entries.{has_entry_type}
use Rattle.nested_arrays_parts.proofs.flat_lemmas.Layers.{Layer, layer_layout, type_lies}
use Rattle.nested_arrays_parts.proofs.OffsetLists.{spans_sound, offsets_end_within, spans_count}

-- types of maps are those that lie in memory as maps and have items
map_layer : (x : Layer) (child : DataType) → has_entry_type x child ≡ true → (has_item_type x child ≡ true) × (layer_layout x ≡ physical.Map)
map_layer (layer.Map entry is_sorted) child h = (h, refl)
map_layer _ child h = absurd (false≢true h)

layer_map : (x : Layer) (child : DataType) → has_item_type x child ≡ true → layer_layout x ≡ physical.Map → has_entry_type x child ≡ true
layer_map (layer.Map entry is_sorted) child h is = h
layer_map (layer.List item) child h is = absurd cc
layer_map (layer.LargeList item) child h is = absurd cc
layer_map _ child h is = absurd (false≢true h)

-- lists are sound where their parts are
pub lists_whole : (data_type : DataType) (mask : Option (List Bool)) (s : Spans) (child : Column)
    → has_item_type (type_layer data_type) (column_type child) ≡ true → last_of s ≤ most_offset (physical_type data_type)
    → last_of s ≤ column_len child → mask_fits mask (length s.lengths) ≡ true → is_sound child ≡ true
    → is_sound (lists data_type mask (offsets_of s) child) ≡ true
lists_whole data_type mask s child typed small within masked sound =
    let limit = min (most_offset (physical_type data_type)) (column_len child) in
    let a = has_item_type (type_layer data_type) (column_type child) in
    let b = are_offsets (offsets_of s) limit in
    and_from (a && b && mask_fits mask (length (offsets_of s) - 1)) (is_sound child)
    (and_from (a && b) (mask_fits mask (length (offsets_of s) - 1)) (and_from a b typed (spans_sound s limit (omega (arith, small, within))))
    (ap (mask_fits mask) (spans_count s) ∙ masked)) sound

pub lists_parts : (data_type : DataType) (mask : Option (List Bool)) (s : Spans) (child : Column)
    → is_sound (lists data_type mask (offsets_of s) child) ≡ true
    → (has_item_type (type_layer data_type) (column_type child) ≡ true) × (last_of s ≤ column_len child) × (mask_fits mask (length s.lengths) ≡ true)
lists_parts data_type mask s child sound =
    let limit = min (most_offset (physical_type data_type)) (column_len child) in
    let parts = parts_of_4 (has_item_type (type_layer data_type) (column_type child)) (are_offsets (offsets_of s) limit)
    (mask_fits mask (length (offsets_of s) - 1)) (is_sound child) sound in
    (parts.0, omega (arith, offsets_end_within s limit parts.1), sym (ap (mask_fits mask) (spans_count s)) ∙ parts.2)

pub map_whole : (data_type : DataType) (mask : Option (List Bool)) (s : Spans) (child : Column)
    → has_entry_type (type_layer data_type) (column_type child) ≡ true → last_of s ≤ 2 ^ 31 - 1 → last_of s ≤ column_len child
    → mask_fits mask (length s.lengths) ≡ true → is_sound child ≡ true → LiesAs physical.Map (lists data_type mask (offsets_of s) child)
map_whole data_type mask s child typed small within masked sound =
    let both = map_layer (type_layer data_type) (column_type child) typed in
    let lies : physical_type data_type ≡ physical.Map = (type_lies data_type).0 ∙ both.1 in
    let most : most_offset (physical_type data_type) ≡ 2 ^ 31 - 1 = ap most_offset lies in
    (lists_whole data_type mask s child both.0 (omega (arith, most, small)) within masked sound, lies)

pub map_parts : (data_type : DataType) (mask : Option (List Bool)) (s : Spans) (child : Column)
    → LiesAs physical.Map (lists data_type mask (offsets_of s) child)
    → (has_entry_type (type_layer data_type) (column_type child) ≡ true) × (last_of s ≤ column_len child) × (mask_fits mask (length s.lengths) ≡ true)
map_parts data_type mask s child lies =
    let parts = lists_parts data_type mask s child lies.0 in
    (layer_map (type_layer data_type) (column_type child) parts.0 (sym (type_lies data_type).0 ∙ lies.1), parts.1, parts.2)
