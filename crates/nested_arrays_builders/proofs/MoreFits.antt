-- When one more slot fits a builder.
use Rattle.std.proofs.Common.{◌≡◌, ◌∙◌, ◌+◌, List, [], ◌∷◌, ◌++◌, length, Bool, true, false, refl, sym, ap}
use Rattle.std.specs.Prelude.{◌&&◌, ◌||◌, nat_le}
use Rattle.std.specs.List.{list_all}
use Rattle.nested_arrays_builder_values.specs.parts.arrays.columnar_memory.declared.DataType.{DataType}
use Rattle.nested_arrays_builder_values.specs.parts.arrays.columnar_memory.declared.DataType.TheOpen as layer
use Rattle.nested_arrays_builder_values.specs.parts.arrays.columnar_memory.declared.Field.{Field}
use Rattle.nested_arrays_builder_values.specs.parts.arrays.columns.Cells.{is_null}
use Rattle.nested_arrays_builder_values.specs.parts.arrays.columns.Children.{items_of, fixed_items_of, joined_items}
use Rattle.nested_arrays_builder_values.specs.parts.arrays.columns.Kinds.{most_slots, most_values}
use Rattle.nested_arrays_builder_values.specs.parts.arrays.columns.OpenBatch.{fits}
use Rattle.nested_arrays_builder_values.specs.parts.arrays.columns.Rows.{columns_fit}
use Rattle.nested_arrays_builder_values.specs.parts.arrays.columns.SameSlots.{is_among}
use Rattle.nested_arrays_builder_values.specs.parts.arrays.columns.Slots.{Slot}
use Rattle.nested_arrays_builder_values.specs.parts.arrays.columns.StoredColumns.{type_layer}
use Rattle.nested_arrays_builder_values.proofs.parts_lemmas.arrays_lemmas.columns_lemmas.FreshLengths.{Layer}
use Rattle.nested_arrays_builder_values.specs.parts.columns.OpenParts.{is_list, is_list_sized, is_record_sized, slots_of_fields, fields_of_slot, pushed_each}
use Rattle.nested_arrays_builder_values.proofs.parts_lemmas.columns_lemmas.Fields.{fields_count}
use Rattle.nested_arrays_builder_values.proofs.parts_lemmas.columns_lemmas.OneMore.{list_fits_one_more, large_list_fits_one_more, fixed_list_fits_one_more}
use Rattle.nested_arrays_builder_values.proofs.parts_lemmas.columns_lemmas.OneMore.{struct_fits_one_more, dictionary_fits_one_more}
use Rattle.nested_arrays_builder_values.specs.parts.Open.{Open, opened, with_slot}
use Rattle.nested_arrays_builders.specs.Parts.{Parts, listed, sized, of_fields, keyed, opened_each, with_each, with_slots, is_formed, most_end}
use Rattle.nested_arrays_builders.specs.Parts.{is_fitting, has_room, HoldsParts, IsKept}
use Rattle.nested_arrays_builders.proofs.MoreParts.{with_opened, opened_count}

and_join : (a b c d : Bool) → (a && b && c && d) ≡ (a && b && (c && d))
and_join true true c d = refl
and_join true false c d = refl
and_join false b c d = refl

all_fit : (us : List Field) (columns : List (List Slot)) → columns_fit us columns ≡ list_all is_fitting (opened_each us columns)
all_fit [] columns = refl
all_fit (u ∷ us) [] = refl
all_fit (u ∷ us) (column ∷ columns) = ap (λ b. fits u.data_type column && b) (all_fit us columns)

-- lists with offsets of a width, whose child and width are known by equations
list_room : (item : DataType) (large own : Bool) (child : Open) (xs : List Slot) (s : Slot) → own ≡ large → child ≡ opened item (joined_items xs)
    → (is_list s && nat_le (length xs + 1) most_slots && nat_le (length (joined_items xs) + length (items_of s)) (most_end large)
    && fits item (joined_items xs ++ items_of s))
    ≡ (is_list s && nat_le (length xs + 1) most_slots
    && (nat_le (length child.slots + length (items_of s)) (most_end own) && is_fitting (with_slots child (items_of s))))
list_room item large own child xs s width is =
    and_join (is_list s) (nat_le (length xs + 1) most_slots) (nat_le (length (joined_items xs) + length (items_of s)) (most_end large))
    (fits item (joined_items xs ++ items_of s))
    ∙ (λ j. is_list s && nat_le (length xs + 1) most_slots
    && (nat_le (length (sym is j).slots + length (items_of s)) (most_end (sym width j)) && is_fitting (with_slots (sym is j) (items_of s))))

fits_layer : (t : DataType) (x : Layer) (parts : Parts) (xs : List Slot) (s : Slot) → type_layer t ≡ x → HoldsParts x parts xs → fits t xs ≡ true
    → fits t (xs ++ s ∷ []) ≡ (is_formed parts s && nat_le (length xs + 1) most_slots && has_room parts s)
fits_layer t (layer.List item) (listed large spans child) xs s is held fit =
    list_fits_one_more t item is xs s fit ∙ list_room item.data_type false large child xs s held.0 held.2
fits_layer t (layer.LargeList item) (listed large spans child) xs s is held fit =
    large_list_fits_one_more t item is xs s fit ∙ list_room item.data_type true large child xs s held.0 held.2
fits_layer t (layer.FixedSizeList item size) (sized own child) xs s is held fit =
    fixed_list_fits_one_more t item size is xs s fit
    ∙ (λ j. is_list_sized (sym held.0 j) s && nat_le (length xs + 1) most_slots
    && is_fitting (with_slots (sym held.1 j) (fixed_items_of (sym held.0 j) s)))
fits_layer t (layer.Struct us) (of_fields children) xs s is held fit =
    let columns = slots_of_fields (length us) xs in
    let many : length children ≡ length us = ap length held ∙ opened_count us columns (fields_count (length us) xs) in
    let each = all_fit us (pushed_each columns (fields_of_slot (length us) s))
    ∙ ap (list_all is_fitting) (sym (with_opened us columns (fields_of_slot (length us) s))) in
    struct_fits_one_more t us is xs s fit
    ∙ ap (λ b. is_record_sized (length us) s && nat_le (length xs + 1) most_slots && b) each
    ∙ (λ j. is_record_sized (sym many j) s && nat_le (length xs + 1) most_slots
    && list_all is_fitting (with_each (sym held j) (fields_of_slot (sym many j) s)))
fits_layer t (layer.Dictionary own value is_ordered) (keyed key uses known child) xs s is held fit =
    dictionary_fits_one_more t own value is_ordered is xs s fit
    ∙ (λ j. nat_le (length xs + 1) most_slots && (is_null s || is_among s (sym held.2 j)
    || (nat_le (length (sym held.2 j) + 1) (most_values (sym held.0 j)) && is_fitting (with_slot (sym held.3 j) s))))
fits_layer t _ _ xs s is held fit = absurd held

-- one more slot fits where it has the form, there is room for it, and what it brings fits below
pub fits_more : (t : DataType) (marks : List Bool) (parts : Parts) (xs : List Slot) (s : Slot) → IsKept t marks parts xs
    → fits t (xs ++ s ∷ []) ≡ (is_formed parts s && nat_le (length xs + 1) most_slots && has_room parts s)
fits_more t marks parts xs s kept = fits_layer t (type_layer t) parts xs s refl kept.held kept.fit
