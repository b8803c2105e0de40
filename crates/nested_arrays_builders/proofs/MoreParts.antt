-- Builders with one more slot.
use Rattle.std.proofs.Common.{◌≡◌, ◌∙◌, suc, List, [], ◌∷◌, ◌++◌, length, Bool, true, refl, sym, ap, arith}
use Rattle.nested_arrays_builder_values.specs.parts.arrays.columnar_memory.declared.DataType.{DataType}
use Rattle.nested_arrays_builder_values.specs.parts.arrays.columnar_memory.declared.DataType.TheOpen as layer
use Rattle.nested_arrays_builder_values.specs.parts.arrays.columnar_memory.declared.Field.{Field}
use Rattle.nested_arrays_builder_values.specs.parts.arrays.columnar_memory.Spans.{Spans, extended}
use Rattle.nested_arrays_builder_values.specs.parts.arrays.columns.Children.{items_of, fixed_items_of, joined_items, joined_fixed_items}
use Rattle.nested_arrays_builder_values.specs.parts.arrays.columns.FreshColumns.{is_valid}
use Rattle.nested_arrays_builder_values.specs.parts.arrays.columns.OpenBatch.{fits}
use Rattle.nested_arrays_builder_values.specs.parts.arrays.columns.Slots.{Slot}
use Rattle.nested_arrays_builder_values.specs.parts.arrays.columns.StoredColumns.{type_layer}
use Rattle.nested_arrays_builder_values.proofs.parts_lemmas.arrays_lemmas.columns_lemmas.FreshLengths.{Layer}
use Rattle.nested_arrays_builder_values.specs.parts.columns.OpenParts.{slots_of_fields, fields_of_slot, pushed_each, grown_values}
use Rattle.nested_arrays_builder_values.proofs.parts_lemmas.columns_lemmas.Fields.{fields_count, fields_one_more}
use Rattle.nested_arrays_builder_values.proofs.parts_lemmas.columns_lemmas.Masks.{marks_one_more}
use Rattle.nested_arrays_builder_values.proofs.parts_lemmas.columns_lemmas.Pieces.{item_spans_one_more, joined_one_more}
use Rattle.nested_arrays_builder_values.specs.parts.Open.{Open, opened}
use Rattle.nested_arrays_builder_values.specs.Uses.{use_among}
use Rattle.nested_arrays_builder_values.proofs.UsedValues.{uses_one_more}
use Rattle.nested_arrays_builder_values.proofs.parts_lemmas.columns_lemmas.Values.{values_grow}
use Rattle.nested_arrays_builders.specs.Parts.{Parts, listed, sized, of_fields, keyed, more_parts, opened_each, with_each, with_slots}
use Rattle.nested_arrays_builders.specs.Parts.{HoldsParts, IsKept}

-- ---- one more slot

pub with_opened : (us : List Field) (columns : List (List Slot)) (ss : List Slot)
    → with_each (opened_each us columns) ss ≡ opened_each us (pushed_each columns ss)
with_opened [] columns ss = refl
with_opened (u ∷ us) [] ss = refl
with_opened (u ∷ us) (column ∷ columns) [] = refl
with_opened (u ∷ us) (column ∷ columns) (s ∷ ss) = ap (λ rest. opened u.data_type (column ++ s ∷ []) ∷ rest) (with_opened us columns ss)

pub opened_count : (us : List Field) (columns : List (List Slot)) → length columns ≡ length us → length (opened_each us columns) ≡ length us
opened_count [] columns e = refl
opened_count (u ∷ us) [] e = absurd (omega (arith, e))
opened_count (u ∷ us) (column ∷ columns) e = ap suc (opened_count us columns (omega (arith, e)))

list_more : (child : Open) (item : DataType) (xs : List Slot) (s : Slot) → child ≡ opened item (joined_items xs)
    → with_slots child (items_of s) ≡ opened item (joined_items (xs ++ s ∷ []))
list_more child item xs s is =
    ap (λ (o : Open). with_slots o (items_of s)) is ∙ ap (opened item) (sym (joined_one_more items_of xs s))

held_more : (x : Layer) (parts : Parts) (xs : List Slot) (s : Slot) → HoldsParts x parts xs → HoldsParts x (more_parts parts s) (xs ++ s ∷ [])
held_more (layer.List item) (listed large spans child) xs s held = (
  held.0,
  ap (λ (o : Spans). extended o (length (items_of s) ∷ [])) held.1 ∙ sym (item_spans_one_more xs s),
  list_more child item.data_type xs s held.2,
)
held_more (layer.LargeList item) (listed large spans child) xs s held = (
  held.0,
  ap (λ (o : Spans). extended o (length (items_of s) ∷ [])) held.1 ∙ sym (item_spans_one_more xs s),
  list_more child item.data_type xs s held.2,
)
held_more (layer.FixedSizeList item size) (sized own child) xs s held = (
  held.0,
  ap (λ (o : Open). with_slots o (fixed_items_of own s)) held.1
      ∙ ap (λ m. opened item.data_type (joined_fixed_items size xs ++ fixed_items_of m s)) held.0
      ∙ ap (opened item.data_type) (sym (joined_one_more (fixed_items_of size) xs s)),
)
held_more (layer.Struct us) (of_fields children) xs s held =
    let columns = slots_of_fields (length us) xs in
    let many : length children ≡ length us = ap length held ∙ opened_count us columns (fields_count (length us) xs) in
    (λ j. with_each (held j) (fields_of_slot (many j) s)) ∙ with_opened us columns (fields_of_slot (length us) s)
    ∙ ap (opened_each us) (sym (fields_one_more (length us) xs s))
held_more (layer.Dictionary own value is_ordered) (keyed key uses known child) xs s held = (
  held.0,
  (λ j. held.1 j ++ use_among (grown_values (held.2 j) s) s ∷ []) ∙ sym (uses_one_more xs s),
  (λ j. grown_values (held.2 j) s) ∙ sym (values_grow xs s),
  (λ j. opened (held.3 j).data_type (grown_values (held.3 j).slots s)) ∙ ap (opened value) (sym (values_grow xs s)),
)
held_more _ _ xs s held = absurd held

-- where one more slot fits it is kept with its mark and its parts
pub kept_more : (t : DataType) (marks : List Bool) (parts : Parts) (xs : List Slot) (s : Slot) → IsKept t marks parts xs
    → fits t (xs ++ s ∷ []) ≡ true → IsKept t (marks ++ is_valid s ∷ []) (more_parts parts s) (xs ++ s ∷ [])
kept_more t marks parts xs s kept fit = record {
  can = kept.can;
  fit = fit;
  marked = ap (λ ms. ms ++ is_valid s ∷ []) kept.marked ∙ sym (marks_one_more xs s);
  held = held_more (type_layer t) parts xs s kept.held;
}
