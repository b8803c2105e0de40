-- Which dictionaries store their slots and nothing else.
use Rattle.std.proofs.Common.{◌≡◌, ◌∙◌, ℕ, zero, suc, List, [], ◌∷◌, length, map, Bool, true, false, refl, sym, ap}
use Rattle.std.specs.Prelude.{ℤ, pos}
use Rattle.std.proofs.lemmas.List.{length-map}
use Rattle.nested_arrays_sized_builders.specs.values.Uses.{key_of, keys_from, use_among, uses_among}
use Rattle.nested_arrays_sized_builders.specs.nulls.columnar_memory.declared.DataType.{DataType}
use Rattle.nested_arrays_sized_builders.specs.nulls.columnar_memory.declared.DataType.TheOpen as layer
use Rattle.nested_arrays_sized_builders.specs.nulls.columnar_memory.declared.IntegerType.{IntegerType}
use Rattle.nested_arrays_sized_builders.specs.nulls.columns.Children.{dictionary_values}
use Rattle.nested_arrays_sized_builders.specs.nulls.columns.FreshColumns.{fresh, is_valid, key_among, mask_of}
use Rattle.nested_arrays_sized_builders.specs.nulls.columns.Slots.{Slot, null}
use Rattle.nested_arrays_sized_builders.specs.nulls.columns.StoredColumns.{Column, dictionary, place_of, type_layer}
use Rattle.nested_arrays_sized_builders.specs.nulls.flat.ColumnMasks.{column_mask}
use Rattle.nested_arrays_sized_builders.specs.nulls.generic.Dictionaries.{keys_of, values_of}
use Rattle.nested_arrays_sized_builders.specs.cells.parts.Marks.{marks, mask_of_marks}
use Rattle.nested_arrays_sized_builders.specs.cells.taken.builders.columns.OpenParts.{keys_among, marks_of, used_by}
use Rattle.nested_arrays_sized_builders.proofs.columns_lemmas.Laws.{dictionaries_stored}
use Rattle.nested_arrays_sized_builders.proofs.columns_lemmas.Masks.{mask_by_count, mask_is}
use Rattle.nested_arrays_sized_builders.proofs.values_lemmas.parts_lemmas.MarkLists.{marks_back}
use Rattle.nested_arrays_dictionary_builders.specs.DictionaryBuilders.{is_used, keyed_over}

-- ---- marks and keys by what slots need

used_mark : (b : Bool) (k : ℕ) → is_used (used_by b k) ≡ b
used_mark true k = refl
used_mark false k = refl

marks_needed : (values xs : List Slot) → map is_used (uses_among values xs) ≡ marks_of xs
marks_needed values [] = refl
marks_needed values (x ∷ xs) =
    let here = used_mark (is_valid x) (key_among values x) in
    let rest = marks_needed values xs in
    λ j. here j ∷ rest j

key_needed : (values : List Slot) (x : Slot) → key_of (use_among values x) ≡ key_among values x
key_needed values null = refl
key_needed values _ = refl

keys_needed : (values xs : List Slot) → keys_from (uses_among values xs) ≡ map pos (keys_among values xs)
keys_needed values [] = refl
keys_needed values (x ∷ xs) =
    let here = key_needed values x in
    let rest = keys_needed values xs in
    λ j. pos (here j) ∷ rest j

-- what slots need, by their marks and keys
abbrev uses_from : List Bool → List ℤ → List ℕ
uses_from [] keys = []
uses_from (mark ∷ marks) [] = []
uses_from (mark ∷ marks) (key ∷ keys) = used_by mark (place_of key) ∷ uses_from marks keys

uses_back : (uses : List ℕ) → uses_from (map is_used uses) (keys_from uses) ≡ uses
uses_back [] = refl
uses_back (zero ∷ uses) = ap (λ (rest : List ℕ). 0 ∷ rest) (uses_back uses)
uses_back (suc k ∷ uses) = ap (λ (rest : List ℕ). suc k ∷ rest) (uses_back uses)

-- ---- dictionaries

module _ (t : DataType) (key : IntegerType) (value : DataType) (is_ordered : Bool) (is : type_layer t ≡ layer.Dictionary key value is_ordered) where
  -- the column that stores some slots, by what these need
  pub stored_keys : (xs : List Slot)
      → keyed_over t (uses_among (dictionary_values xs) xs) (fresh value (dictionary_values xs)) ≡ fresh t xs
  stored_keys xs =
      let values = dictionary_values xs in
      let mask : mask_of_marks (map is_used (uses_among values xs)) ≡ mask_of xs =
      ap mask_of_marks (marks_needed values xs) ∙ sym (mask_is xs ∙ mask_by_count (marks_of xs)) in
      (λ j. dictionary t (mask j) (keys_needed values xs j) (fresh value values)) ∙ sym (dictionaries_stored t key value is_ordered is xs)

  -- what slots need, and the values, by the slots that they store
  pub uses_stored : (uses : List ℕ) (child : Column) (xs : List Slot) → keyed_over t uses child ≡ fresh t xs → length uses ≡ length xs
      → uses ≡ uses_among (dictionary_values xs) xs
  uses_stored uses child xs same long =
      let own = uses_among (dictionary_values xs) xs in
      let both : keyed_over t uses child ≡ keyed_over t own (fresh value (dictionary_values xs)) = same ∙ sym (stored_keys xs) in
      let many : length (map is_used uses) ≡ length (map is_used own) =
      length-map uses is_used ∙ long ∙ sym (length-map xs (use_among (dictionary_values xs))) ∙ sym (length-map own is_used) in
      let marked : map is_used uses ≡ map is_used own =
      sym (marks_back (map is_used uses) (length (map is_used uses)) refl)
      ∙ ap (marks (length (map is_used uses))) (ap column_mask both)
      ∙ marks_back (map is_used own) (length (map is_used uses)) (sym many) in
      let keys : keys_from uses ≡ keys_from own = ap keys_of both in
      sym (uses_back uses) ∙ (λ j. uses_from (marked j) (keys j)) ∙ uses_back own

  pub values_stored : (uses : List ℕ) (child : Column) (xs : List Slot) → keyed_over t uses child ≡ fresh t xs
      → child ≡ fresh value (dictionary_values xs)
  values_stored uses child xs same = ap values_of (same ∙ sym (stored_keys xs))
