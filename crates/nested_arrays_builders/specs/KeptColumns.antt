-- The column of parts that hold some slots is the one that stores them.
use Rattle.std.specs.Prelude.{pos}
use Rattle.std.proofs.Common.{◌≡◌, ◌∙◌, List, [], ◌∷◌, Bool, length, map, refl, sym, ap}
use Rattle.std.proofs.lemmas.List.{length-map}
use Rattle.nested_arrays_builder_values.specs.parts.arrays.columnar_memory.declared.DataType.{DataType}
use Rattle.nested_arrays_builder_values.specs.parts.arrays.columnar_memory.declared.DataType.TheOpen as layer
use Rattle.nested_arrays_builder_values.specs.parts.arrays.columnar_memory.declared.Field.{Field}
use Rattle.nested_arrays_builder_values.specs.parts.arrays.columnar_memory.Spans.{offsets_of}
use Rattle.nested_arrays_builder_values.specs.parts.arrays.columns.Children.{dictionary_values}
use Rattle.nested_arrays_builder_values.specs.parts.arrays.columns.FreshColumns.{is_valid, key_among, mask_of, fresh}
use Rattle.nested_arrays_builder_values.specs.parts.arrays.columns.Rows.{fresh_columns}
use Rattle.nested_arrays_builder_values.specs.parts.arrays.columns.Slots.{Slot, null}
use Rattle.nested_arrays_builder_values.specs.parts.arrays.columns.StoredColumns.{lists, fixed_lists, records, dictionary, in_columns, type_layer}
use Rattle.nested_arrays_builder_values.proofs.parts_lemmas.arrays_lemmas.columns_lemmas.FreshLengths.{Layer}
use Rattle.nested_arrays_builder_values.specs.parts.columns.OpenParts.{marks_of, mask_from, slots_of_fields}
use Rattle.nested_arrays_builder_values.proofs.parts_lemmas.columns_lemmas.LayerParts.{fresh_list, fresh_large_list, fresh_fixed_list, fresh_struct, fresh_dictionary}
use Rattle.nested_arrays_builder_values.proofs.parts_lemmas.columns_lemmas.Masks.{mask_is}
use Rattle.nested_arrays_builder_values.proofs.parts_lemmas.columns_lemmas.Pieces.{item_spans_are}
use Rattle.nested_arrays_builder_values.specs.Uses.{key_of, keys_from, use_among, uses_among}
use Rattle.nested_arrays_builder_values.specs.parts.Open.{column_of}
use Rattle.nested_arrays_builders.specs.Parts.{Parts, listed, sized, of_fields, keyed, parts_column, opened_each, HoldsParts, IsKept}

columns_each : (us : List Field) (columns : List (List Slot)) → map column_of (opened_each us columns) ≡ fresh_columns us columns
columns_each [] columns = refl
columns_each (u ∷ us) [] = refl
columns_each (u ∷ us) (column ∷ columns) = ap (λ rest. fresh u.data_type column ∷ rest) (columns_each us columns)

count_is : (marks : List Bool) (xs : List Slot) → marks ≡ marks_of xs → length marks ≡ length xs
count_is marks xs marked = ap length marked ∙ length-map xs is_valid

masked : (marks : List Bool) (xs : List Slot) → marks ≡ marks_of xs → mask_from marks ≡ mask_of xs
masked marks xs marked = ap mask_from marked ∙ sym (mask_is xs)

key_needed : (values : List Slot) (x : Slot) → key_of (use_among values x) ≡ key_among values x
key_needed values null = refl
key_needed values _ = refl

keys_needed : (values xs : List Slot) → keys_from (uses_among values xs) ≡ map (λ x. pos (key_among values x)) xs
keys_needed values [] = refl
keys_needed values (x ∷ xs) = λ j. pos (key_needed values x j) ∷ keys_needed values xs j

column_of_parts : (t : DataType) (x : Layer) (marks : List Bool) (parts : Parts) (xs : List Slot) → type_layer t ≡ x → marks ≡ marks_of xs
    → HoldsParts x parts xs → parts_column t marks parts ≡ fresh t xs
column_of_parts t (layer.List item) marks (listed large spans child) xs is marked held =
    let offsets = ap offsets_of held.1 ∙ item_spans_are xs in
    (λ j. lists t (masked marks xs marked j) (offsets j) (column_of (held.2 j))) ∙ sym (fresh_list t item is xs)
column_of_parts t (layer.LargeList item) marks (listed large spans child) xs is marked held =
    let offsets = ap offsets_of held.1 ∙ item_spans_are xs in
    (λ j. lists t (masked marks xs marked j) (offsets j) (column_of (held.2 j))) ∙ sym (fresh_large_list t item is xs)
column_of_parts t (layer.FixedSizeList item size) marks (sized own child) xs is marked held =
    (λ j. fixed_lists t (masked marks xs marked j) (held.0 j) (column_of (held.1 j))) ∙ sym (fresh_fixed_list t item size is xs)
column_of_parts t (layer.Struct us) marks (of_fields children) xs is marked held =
    let columns = ap (map column_of) held ∙ columns_each us (slots_of_fields (length us) xs) in
    (λ j. records t (masked marks xs marked j) (count_is marks xs marked j) (in_columns (columns j))) ∙ sym (fresh_struct t us is xs)
column_of_parts t (layer.Dictionary own value is_ordered) marks (keyed key uses known child) xs is marked held =
    let keys = ap keys_from held.1 ∙ keys_needed (dictionary_values xs) xs in
    (λ j. dictionary t (masked marks xs marked j) (keys j) (column_of (held.3 j))) ∙ sym (fresh_dictionary t own value is_ordered is xs)
column_of_parts t _ marks _ xs is marked held = absurd held

pub column_kept : (t : DataType) (marks : List Bool) (parts : Parts) (xs : List Slot) → IsKept t marks parts xs
    → parts_column t marks parts ≡ fresh t xs
column_kept t marks parts xs kept = column_of_parts t (type_layer t) marks parts xs refl kept.marked kept.held
