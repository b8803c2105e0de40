-- Which records are fresh: those whose fields store the slots of their columns and nothing else.
use Rattle.std.proofs.Common.{◌≡◌, ◌∙◌, ◌<◌, ◌≤◌, ◌+◌, ℕ, List, [], ◌∷◌, ◌++◌, drop, length, map, take, get_or, Bool, true, false, refl, sym, ap}
use Rattle.std.proofs.Common.{subst}
use Rattle.std.proofs.Common.{arith}
use Rattle.std.specs.Prelude.{◌&&◌, ◌⊎◌, nat_le}
use Rattle.std.specs.List.{list_all}
use Rattle.std.proofs.lemmas.Bool.{and_from, and_parts, cases_Bool, false≢true, le-leb, leb-true}
use Rattle.std.proofs.lemmas.List.{length-map}
use mathlib.Core.Logic.{inl, inr}
use Rattle.nested_arrays_nulls.specs.columnar_memory.declared.DataType.{DataType}
use Rattle.nested_arrays_nulls.specs.columnar_memory.declared.DataType.TheOpen as layer
use Rattle.nested_arrays_nulls.specs.columnar_memory.declared.Field.{Field}
use Rattle.nested_arrays_nulls.specs.columnar_memory.Equality.{same_type, same_type-Decides}
use Rattle.nested_arrays_nulls.specs.columns.Children.{field_of, field_slots}
use Rattle.nested_arrays_nulls.specs.columns.FreshColumns.{fresh, is_valid, mask_of}
use Rattle.nested_arrays_nulls.specs.columns.FreshLaws.{are_buildable, is_buildable}
use Rattle.nested_arrays_nulls.specs.columns.Kinds.{most_slots}
use Rattle.nested_arrays_nulls.specs.columns.OpenBatch.{fits}
use Rattle.nested_arrays_nulls.specs.columns.Rows.{columns_fit, fresh_columns}
use Rattle.nested_arrays_nulls.specs.columns.Slots.{Slot, null, window}
use Rattle.nested_arrays_nulls.specs.columns.SoundColumns.{has_field_types, have_types, is_sound}
use Rattle.nested_arrays_nulls.specs.columns.StoredColumns.{Column, Columns, column_then, column_type, in_columns, no_column}
use Rattle.nested_arrays_nulls.specs.columns.StoredColumns.{records, slots, type_layer}
use Rattle.nested_arrays_nulls.specs.flat.ColumnMasks.{column_mask}
use Rattle.nested_arrays_cells.specs.builders.KeptColumns.{column_kept}
use Rattle.nested_arrays_cells.specs.builders.Parts.{HoldsParts, IsKept, has_room, is_fitting, of_fields, opened_each}
use Rattle.nested_arrays_cells.specs.builders.Parts.{with_each}
use Rattle.nested_arrays_cells.specs.parts.Marks.{marks, mask_of_marks}
use Rattle.nested_arrays_cells.specs.parts.Open.{Open, column_of, first_slots, opened}
use Rattle.nested_arrays_cells.specs.taken.OpenColumns.{IsFresh, slots_and}
use Rattle.nested_arrays_cells.specs.taken.builders.columns.OpenParts.{marks_of, slots_of_fields}
use Rattle.nested_arrays_cells.proofs.taken_lemmas.KeptArrays.{record_is}
use Rattle.nested_arrays_cells.proofs.taken_lemmas.OpenColumns.{open_fresh, open_slots, open_sound, open_type}
use Rattle.nested_arrays_cells.proofs.taken_lemmas.builders_lemmas.CutParts.{kept_first}
use Rattle.nested_arrays_cells.proofs.taken_lemmas.builders_lemmas.MoreFits.{fits_more}
use Rattle.nested_arrays_cells.proofs.taken_lemmas.builders_lemmas.MoreParts.{kept_more}
use Rattle.nested_arrays_cells.proofs.columns_lemmas.ColumnSizes.{slots_lengths}
use Rattle.nested_arrays_cells.proofs.columns_lemmas.FreshSlots.{fresh_slots}
use Rattle.nested_arrays_cells.proofs.columns_lemmas.FreshTypes.{fresh_types}
use Rattle.nested_arrays_cells.proofs.columns_lemmas.Below.{buildable_struct, fields_fit_below}
use Rattle.nested_arrays_cells.proofs.columns_lemmas.Fields.{fields_count}
use Rattle.nested_arrays_cells.proofs.columns_lemmas.LayerParts.{fresh_struct}
use Rattle.nested_arrays_cells.proofs.columns_lemmas.Masks.{mask_by_count, mask_is}
use Rattle.nested_arrays_cells.proofs.parts_lemmas.MarkLists.{marks_back}
use Rattle.nested_arrays_generic_builders.specs.StructBuilders.{emptied, field_columns, first_records, is_stored, no_records, struct_parts}
use Rattle.nested_arrays_generic_builders.specs.StructBuilders.{structs_column}
use Rattle.nested_arrays_generic_builders.specs.StructBuilders.{takes_null, with_null, with_nulls}
use Rattle.nested_arrays_generic_builders.proofs.StructRows.{held_in, named_struct, struct_parts_of}

-- ---- the columns of fields

abbrev columns_listed : Columns → List Column
columns_listed no_column = []
columns_listed (column_then c cs) = c ∷ columns_listed cs

listed_back : (cs : List Column) → columns_listed (in_columns cs) ≡ cs
listed_back [] = refl
listed_back (c ∷ cs) = ap (λ (rest : List Column). c ∷ rest) (listed_back cs)

abbrev columns_in : Column → List Column
columns_in (records t mask n cols) = columns_listed cols
columns_in _ = []

-- fields whose columns store some slots are what holds these
opened_by : (us : List Field) (cs : List (List Slot)) (os : List Open) → list_all is_stored os ≡ true → columns_fit us cs ≡ true
    → are_buildable us ≡ true → map column_of os ≡ fresh_columns us cs → length cs ≡ length us → os ≡ opened_each us cs
opened_by [] cs [] stored fit can same many = refl
opened_by [] cs (o ∷ os) stored fit can same many = absurd (omega (arith, ap length same))
opened_by (u ∷ us) [] os stored fit can same many = absurd (omega (arith, many))
opened_by (u ∷ us) (c ∷ cs) [] stored fit can same many = absurd (omega (arith, ap length same))
opened_by (u ∷ us) (c ∷ cs) (o ∷ os) stored fit can same many =
    let own = and_parts (is_stored o) (list_all is_stored os) stored in
    let held = held_in o own.0 in
    let fitting = and_parts (fits u.data_type c) (columns_fit us cs) fit in
    let able = and_parts (is_buildable u.data_type) (are_buildable us) can in
    let head : column_of o ≡ fresh u.data_type c = ap (λ (xs : List Column). get_or xs 0 (column_of o)) same in
    let type : o.data_type ≡ u.data_type = sym (open_type o) ∙ ap column_type head ∙ fresh_types u.data_type c in
    let content : o.slots ≡ c = sym (open_slots o held.0 held.1) ∙ ap slots head ∙ fresh_slots u.data_type c able.0 fitting.0 in
    λ j. opened (type j) (content j)
    ∷ opened_by us cs os own.1 fitting.1 able.1 (ap (drop 1) same) (omega (arith, many)) j

-- ---- fresh records

module _ (t : DataType) (ms : List Bool) (os : List Open) where
  abbrev own : Column
  own = structs_column (struct_parts t ms os)

  -- fresh records are held as their slots are
  pub kept_of : list_all is_stored os ≡ true → IsFresh own → IsKept t ms (of_fields os) (slots own)
  kept_of stored f =
      let xs = slots own in
      let sound : is_sound own ≡ true = ap is_sound f.stored ∙ open_sound (opened t xs) f.fit f.can in
      let name = named_struct (type_layer t) (field_columns os) (struct_parts_of t ms os stored sound).typed in
      let us = name.0 in
      let cs = slots_of_fields (length us) xs in
      let made : own ≡ records t (mask_of xs) (length xs) (in_columns (fresh_columns us cs)) = f.stored ∙ fresh_struct t us name.1.0 xs in
      let mask : mask_of_marks ms ≡ mask_of_marks (marks_of xs) = ap column_mask made ∙ mask_is xs ∙ mask_by_count (marks_of xs) in
      let both : length (marks_of xs) ≡ length ms = length-map xs is_valid ∙ slots_lengths own in
      let columns : map column_of os ≡ fresh_columns us cs =
      sym (listed_back (map column_of os)) ∙ ap columns_in made ∙ listed_back (fresh_columns us cs) in
      let able = (and_parts (nat_le 1 (length us)) (are_buildable us) (sym (buildable_struct t us name.1.0) ∙ f.can)).1 in
      let held : os ≡ opened_each us cs =
      opened_by us cs os stored (fields_fit_below t us name.1.0 xs f.fit) able columns (fields_count (length us) xs) in record {
        can = f.can;
        fit = f.fit;
        marked = sym (marks_back ms (length ms) refl) ∙ ap (marks (length ms)) mask ∙ marks_back (marks_of xs) (length ms) both;
        held = subst (λ x. HoldsParts x (of_fields os) xs) (sym name.1.0) held;
      }

  -- records that are held as some slots are fresh
  pub fresh_of : (xs : List Slot) → IsKept t ms (of_fields os) xs → IsFresh own
  fresh_of xs kept =
      let is : own ≡ fresh t xs = record_is t ms xs os ∙ column_kept t ms (of_fields os) xs kept in
      subst IsFresh (sym is) (open_fresh (opened t xs) kept.fit kept.can)

-- ---- a null more

nulls_each : (os : List Open) (a : ℕ) → with_each os (window (λ k. field_of k null) a (length os)) ≡ map with_null os
nulls_each [] a = refl
nulls_each (o ∷ os) a = ap (λ (rest : List Open). with_null o ∷ rest) (nulls_each os (a + 1))

nulls_fit : (os : List Open) → list_all is_fitting (map with_null os) ≡ list_all takes_null os
nulls_fit [] = refl
nulls_fit (o ∷ os) = ap (λ (b : Bool). takes_null o && b) (nulls_fit os)

second_fails : (b c : Bool) → b ≡ false → (true && b && c) ≡ false
second_fails false c h = refl
second_fails true c h = absurd (false≢true (sym h))

third_fails : (b c : Bool) → c ≡ false → (true && b && c) ≡ false
third_fails true false h = refl
third_fails false c h = refl
third_fails true true h = absurd (false≢true (sym h))

above_most : (n m : ℕ) → n ≡ m → nat_le (n + 1) m ≡ false
above_most n m e = elim (cases_Bool (nat_le (n + 1) m)) [ inl h ↦ absurd (omega (arith, leb-true (n + 1) m h, e)) | inr h ↦ h ]

module _ (t : DataType) (ms : List Bool) (os : List Open) (stored : list_all is_stored os ≡ true)
    (f : IsFresh (structs_column (struct_parts t ms os))) where
  abbrev old : Column
  old = structs_column (struct_parts t ms os)

  kept : IsKept t ms (of_fields os) (slots old)
  kept = kept_of t ms os stored f

  count : length (slots old) ≡ length ms
  count = slots_lengths old

  room : has_room (of_fields os) null ≡ list_all takes_null os
  room = ap (list_all is_fitting) (nulls_each os 0) ∙ nulls_fit os

  pub null_fresh : length ms < most_slots → list_all takes_null os ≡ true → IsFresh (structs_column (with_nulls (struct_parts t ms os)))
  null_fresh few takes =
      let xs = slots old in
      let fit : fits t (xs ++ null ∷ []) ≡ true =
      fits_more t ms (of_fields os) xs null kept
      ∙ and_from (true && nat_le (length xs + 1) most_slots) (has_room (of_fields os) null)
      (le-leb (length xs + 1) most_slots (omega (arith, few, count))) (room ∙ takes) in
      fresh_of t (ms ++ false ∷ []) (map with_null os) (xs ++ null ∷ [])
      (subst (λ (cs : List Open). IsKept t (ms ++ false ∷ []) (of_fields cs) (xs ++ null ∷ [])) (nulls_each os 0)
      (kept_more t ms (of_fields os) xs null kept fit))

  pub null_unfit : (length ms ≡ most_slots) ⊎ (list_all takes_null os ≡ false) → fits t (slots_and old null) ≡ false
  null_unfit (inl many) =
      fits_more t ms (of_fields os) (slots old) null kept
      ∙ second_fails (nat_le (length (slots old) + 1) most_slots) (has_room (of_fields os) null)
      (above_most (length (slots old)) most_slots (count ∙ many))
  null_unfit (inr unfit) =
      fits_more t ms (of_fields os) (slots old) null kept
      ∙ third_fails (nat_le (length (slots old) + 1) most_slots) (has_room (of_fields os) null) (room ∙ unfit)

  pub first_fresh : (k : ℕ) → k ≤ length ms → IsFresh (structs_column (first_records (struct_parts t ms os) k))
  first_fresh k le =
      fresh_of t (take k ms) (map (λ (o : Open). first_slots o k) os) (take k (slots old))
      (kept_first t ms (of_fields os) (slots old) k kept (omega (arith, le, count)))

-- ---- no records

none_stored : (us : List Field) (a : ℕ) (os : List Open) → have_types us (field_columns os) ≡ true
    → map column_of (map emptied os) ≡ fresh_columns us (window (field_slots []) a (length us))
none_stored [] a [] h = refl
none_stored [] a (o ∷ os) h = absurd (false≢true h)
none_stored (u ∷ us) a [] h = absurd (false≢true h)
none_stored (u ∷ us) a (o ∷ os) h =
    let parts = and_parts (same_type u.data_type (column_type (column_of o))) (have_types us (field_columns os)) h in
    let type : o.data_type ≡ u.data_type =
    sym (open_type o) ∙ sym ((same_type-Decides u.data_type (column_type (column_of o))).0 parts.0) in
    λ j. fresh (type j) [] ∷ none_stored us (a + 1) os parts.1 j

-- no records of a struct are what its builder begins with
pub emptied_struct : (t : DataType) (ms : List Bool) (os : List Open) → has_field_types (type_layer t) (field_columns os) ≡ true
    → structs_column (no_records (struct_parts t ms os)) ≡ fresh t []
emptied_struct t ms os typed =
    let name = named_struct (type_layer t) (field_columns os) typed in
    ap (λ (cs : List Column). records t (mask_of_marks []) 0 (in_columns cs)) (none_stored name.0 0 os name.1.1)
    ∙ sym (fresh_struct t name.0 name.1.0 [])
