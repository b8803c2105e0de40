-- Which slots a builder with children takes.
use Rattle.std.proofs.Common.{◌≡◌, ◌∙◌, suc, List, [], ◌∷◌, length, map, Bool, true, false, refl, sym, ap, arith}
use Rattle.std.specs.Prelude.{◌&&◌}
use Rattle.std.proofs.lemmas.Bool.{eq-eqb}
use Rattle.nested_arrays_builder_values.specs.parts.arrays.columnar_memory.declared.DataType.{DataType}
use Rattle.nested_arrays_builder_values.specs.parts.arrays.columnar_memory.declared.DataType.TheOpen as layer
use Rattle.nested_arrays_builder_values.specs.parts.arrays.columnar_memory.declared.Field.{Field}
use Rattle.nested_arrays_builder_values.specs.parts.arrays.columns.Cells.{fits_cell, fit_each, is_list_of, is_list_of_size, is_record_of}
use Rattle.nested_arrays_builder_values.specs.parts.arrays.columns.Slots.{Slot, Slots, null, items, fields, no_slot, slot_then, slot_list}
use Rattle.nested_arrays_builder_values.specs.parts.arrays.columns.StoredColumns.{type_layer}
use Rattle.nested_arrays_builder_values.proofs.parts_lemmas.arrays_lemmas.columns_lemmas.FreshLengths.{Layer, cell_field}
use Rattle.nested_arrays_builder_values.specs.parts.columns.OpenParts.{slots_of_fields}
use Rattle.nested_arrays_builder_values.proofs.parts_lemmas.columns_lemmas.Fields.{fields_count}
use Rattle.nested_arrays_builder_values.proofs.parts_lemmas.columns_lemmas.TypeSteps.{cell_by_layer, cell_field_is}
use Rattle.nested_arrays_builder_values.specs.parts.Open.{Open}
use Rattle.nested_arrays_builders.specs.Parts.{Parts, listed, sized, of_fields, keyed, opened_each, tests_of, takes_slot, is_formed, HoldsParts, IsKept}

tests_opened : (us : List Field) (columns : List (List Slot)) → length columns ≡ length us → tests_of (opened_each us columns) ≡ map cell_field us
tests_opened [] columns e = refl
tests_opened (u ∷ us) [] e = absurd (omega (arith, e))
tests_opened (u ∷ us) (column ∷ columns) e =
    λ j. sym (cell_field_is u) j ∷ tests_opened us columns (omega (arith, e)) j

takes_layer : (t : DataType) (x : Layer) (parts : Parts) (xs : List Slot) (s : Slot) → type_layer t ≡ x → HoldsParts x parts xs
    → fits_cell t s ≡ takes_slot parts s
takes_layer t (layer.List item) (listed large spans child) xs s is held =
    ap (λ (f : Slot → Bool). f s) (cell_by_layer t (layer.List item) is) ∙ ap (λ f. is_list_of f s) (cell_field_is item)
    ∙ ap (λ (o : Open). is_list_of (fits_cell o.data_type) s) (sym held.2)
takes_layer t (layer.LargeList item) (listed large spans child) xs s is held =
    ap (λ (f : Slot → Bool). f s) (cell_by_layer t (layer.LargeList item) is) ∙ ap (λ f. is_list_of f s) (cell_field_is item)
    ∙ ap (λ (o : Open). is_list_of (fits_cell o.data_type) s) (sym held.2)
takes_layer t (layer.FixedSizeList item size) (sized own child) xs s is held =
    ap (λ (f : Slot → Bool). f s) (cell_by_layer t (layer.FixedSizeList item size) is) ∙ ap (λ f. is_list_of_size size f s) (cell_field_is item)
    ∙ (λ j. is_list_of_size (sym held.0 j) (fits_cell (sym held.1 j).data_type) s)
takes_layer t (layer.Struct us) (of_fields children) xs s is held =
    ap (λ (f : Slot → Bool). f s) (cell_by_layer t (layer.Struct us) is)
    ∙ ap (λ tests. is_record_of tests s)
    (sym (ap tests_of held ∙ tests_opened us (slots_of_fields (length us) xs) (fields_count (length us) xs)))
takes_layer t (layer.Dictionary own value is_ordered) (keyed key uses known child) xs s is held =
    ap (λ (f : Slot → Bool). f s) (cell_by_layer t (layer.Dictionary own value is_ordered) is)
    ∙ ap (λ (o : Open). fits_cell o.data_type s) (sym held.3)
takes_layer t _ _ xs s is held = absurd held

pub takes_is : (t : DataType) (marks : List Bool) (parts : Parts) (xs : List Slot) (s : Slot) → IsKept t marks parts xs
    → fits_cell t s ≡ takes_slot parts s
takes_is t marks parts xs s kept = takes_layer t (type_layer t) parts xs s refl kept.held

-- ---- what is taken has the form

first_of_two : (a b : Bool) → (a && b) ≡ true → a ≡ true
first_of_two true b h = refl
first_of_two false b h = h

second_of_two : (a b : Bool) → (a && b) ≡ true → b ≡ true
second_of_two true b h = h
second_of_two false b h = absurd cc

pub each_has_one : (tests : List (Slot → Bool)) (ys : Slots) → fit_each tests ys ≡ true → length (slot_list ys) ≡ length tests
each_has_one [] no_slot h = refl
each_has_one [] (slot_then y ys) h = absurd cc
each_has_one (test ∷ tests) no_slot h = absurd cc
each_has_one (test ∷ tests) (slot_then y ys) h = ap suc (each_has_one tests ys (second_of_two (test y) (fit_each tests ys) h))

pub taken_is_formed : (parts : Parts) (s : Slot) → takes_slot parts s ≡ true → is_formed parts s ≡ true
taken_is_formed (listed large spans child) null h = refl
taken_is_formed (listed large spans child) (items ys) h = refl
taken_is_formed (listed large spans child) _ h = absurd cc
taken_is_formed (sized size child) null h = refl
taken_is_formed (sized size child) (items ys) h = first_of_two _ _ h
taken_is_formed (sized size child) _ h = absurd cc
taken_is_formed (of_fields children) null h = refl
taken_is_formed (of_fields children) (fields ys) h =
    let each = each_has_one (tests_of children) ys h ∙ length_of_tests children in
    eq-eqb (length (slot_list ys)) (length children) each
  where
    length_of_tests : (os : List Open) → length (tests_of os) ≡ length os
    length_of_tests [] = refl
    length_of_tests (o ∷ os) = ap suc (length_of_tests os)
taken_is_formed (of_fields children) _ h = absurd cc
taken_is_formed (keyed key uses known child) s h = refl
