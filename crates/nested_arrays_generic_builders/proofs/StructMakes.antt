-- When parts make a builder of structs, and its array.
use Rattle.std.proofs.Common.{◌≡◌, ◌∙◌, ◌≤◌, ◌+◌, ℕ, List, [], ◌∷◌, ◌++◌, length, map, take, Bool, true, false, refl, sym, ap, subst, arith}
use Rattle.std.specs.Prelude.{Option, Result, Ok, Err, ◌&&◌, ◌==◌}
use Rattle.std.specs.List.{list_all}
use Rattle.std.proofs.lemmas.Bool.{and_from, and_parts, eqb-true, false≢true}
use Rattle.std.proofs.lemmas.List.{take_at}
use Rattle.nested_arrays_nulls.specs.arrays.Lengths.{struct_len}
use Rattle.nested_arrays_nulls.specs.columnar_memory.declared.DataType.{DataType}
use Rattle.nested_arrays_nulls.specs.columnar_memory.declared.DataType.TheOpen as layer
use Rattle.nested_arrays_nulls.specs.columnar_memory.declared.Error.{Error}
use Rattle.nested_arrays_nulls.specs.columnar_memory.Results.{OrOutOfMemory}
use Rattle.nested_arrays_nulls.specs.columns.FreshLaws.{is_buildable}
use Rattle.nested_arrays_nulls.specs.columns.Kinds.{most_slots}
use Rattle.nested_arrays_nulls.specs.columns.SoundColumns.{are_sound, has_field_types, have_len, is_sound, mask_fits}
use Rattle.nested_arrays_nulls.specs.columns.StoredColumns.{Column, Columns, column_len, in_columns, records, type_layer}
use Rattle.nested_arrays_cells.specs.parts.Marks.{TakesMark}
use Rattle.nested_arrays_cells.specs.parts.Open.{IsWithin, Open, column_of}
use Rattle.nested_arrays_cells.proofs.taken_lemmas.OpenColumns.{open_long}
use Rattle.nested_arrays_cells.proofs.columns_lemmas.Conditions.{parts_of_4}
use Rattle.nested_arrays_cells.proofs.columns_lemmas.FreshLengths.{Layer}
use Rattle.nested_arrays_cells.proofs.columns_lemmas.Limits.{fits_length}
use Rattle.nested_arrays_generic_builders.specs.StructBuilders.{AddsMark, AddsNullRecord, AddsNulls, field_columns, has_fields, is_stored}
use Rattle.nested_arrays_generic_builders.specs.StructBuilders.{struct_parts, structs_column}
use Rattle.nested_arrays_generic_builders.proofs.ListsStored.{marks_fit}
use Rattle.nested_arrays_generic_builders.proofs.StructRows.{sound_fields}

-- ---- types

pub typed_has_fields : (x : Layer) (cols : Columns) → has_field_types x cols ≡ true → has_fields x ≡ true
typed_has_fields (layer.Struct (u ∷ us)) cols h = refl
typed_has_fields (layer.Struct []) cols h = h
typed_has_fields _ cols h = h

-- ---- parts and their conditions

module _ (t : DataType) (mask : Option (List Bool)) (n : ℕ) (os : List Open) where
  abbrev cols : Columns
  cols = field_columns os

  abbrev made : Column
  made = records t mask n cols

  pub conditions : is_sound made ≡ true → (has_field_types (type_layer t) cols ≡ true) × (have_len cols n ≡ true) × (mask_fits mask n ≡ true)
  conditions sound =
      let parts = parts_of_4 (has_field_types (type_layer t) cols) (have_len cols n) (mask_fits mask n) (are_sound cols) sound in
      (parts.0, parts.1, parts.2)

  pub mask_fits_them : is_sound made ≡ true → mask_fits mask n ≡ true
  mask_fits_them sound = (conditions sound).2

  pub they_have_fields : is_sound made ≡ true → has_fields (type_layer t) ≡ true
  they_have_fields sound = typed_has_fields (type_layer t) cols (conditions sound).0

  module _ (stored : list_all is_stored os ≡ true) where
    pub conditions_meet : has_field_types (type_layer t) cols ≡ true → have_len cols n ≡ true → mask_fits mask n ≡ true → is_sound made ≡ true
    conditions_meet typed long masked =
        let a = has_field_types (type_layer t) cols in
        let b = have_len cols n in
        and_from (a && b && mask_fits mask n) (are_sound cols)
        (and_from (a && b) (mask_fits mask n) (and_from a b typed long) masked) (sound_fields os stored)

  not_then : (b : Bool) → (is_sound made ≡ true → b ≡ true) → b ≡ false → is_sound made ≡ false
  not_then b from h = unless (is_sound made) (λ sound. false≢true (sym h ∙ from sound))
    where
      unless : (c : Bool) → ¬ (c ≡ true) → c ≡ false
      unless true h = absurd (h refl)
      unless false h = refl

  pub unsound_types : has_field_types (type_layer t) cols ≡ false → is_sound made ≡ false
  unsound_types h = not_then (has_field_types (type_layer t) cols) (λ sound. (conditions sound).0) h

  pub unsound_lengths : have_len cols n ≡ false → is_sound made ≡ false
  unsound_lengths h = not_then (have_len cols n) (λ sound. (conditions sound).1) h

  pub unsound_mask : mask_fits mask n ≡ false → is_sound made ≡ false
  unsound_mask h = not_then (mask_fits mask n) (λ sound. (conditions sound).2) h

-- ---- whole builders

-- whether records are sound is whether the fields have the types and lengths
pub whole_is : (t : DataType) (ms : List Bool) (os : List Open) → list_all is_stored os ≡ true
    → is_sound (structs_column (struct_parts t ms os))
    ≡ (has_field_types (type_layer t) (field_columns os) && have_len (field_columns os) (length ms))
whole_is t ms os stored =
    (λ j. has_field_types (type_layer t) (field_columns os) && have_len (field_columns os) (length ms) && marks_fit ms (length ms) refl j
    && sound_fields os stored j)
    ∙ and_true (has_field_types (type_layer t) (field_columns os) && have_len (field_columns os) (length ms) && true)
    ∙ and_true (has_field_types (type_layer t) (field_columns os) && have_len (field_columns os) (length ms))
  where
    and_true : (b : Bool) → (b && true) ≡ b
    and_true true = refl
    and_true false = refl

-- the first of the fields is as long as there are records
pub first_long : (t : DataType) (mask : Option (List Bool)) (n : ℕ) (os : List Open) → is_sound (records t mask n (field_columns os)) ≡ true
    → struct_len (map column_of os) ≡ n
first_long t mask n os sound =
    let own = conditions t mask n os sound in first os (type_layer t) own.0 own.1
  where
    none : (x : Layer) → has_field_types x (field_columns []) ≡ true → ⊥
    none (layer.Struct (u ∷ us)) h = false≢true h
    none (layer.Struct []) h = false≢true h
    none _ h = false≢true h

    first : (os : List Open) (x : Layer) → has_field_types x (field_columns os) ≡ true → have_len (field_columns os) n ≡ true
        → struct_len (map column_of os) ≡ n
    first [] x typed long = absurd (none x typed)
    first (o ∷ os) x typed long =
        eqb-true (column_len (column_of o)) n (and_parts (column_len (column_of o) == n) (have_len (field_columns os) n) long).0

-- the arrays of the fields make the same records
pub arrays_are : (t : DataType) (mask : Option (List Bool)) (n : ℕ) (os : List Open) (arrays : List Column)
    → is_sound (records t mask n (field_columns os)) ≡ true → arrays ≡ map column_of os
    → records t mask (struct_len arrays) (in_columns arrays) ≡ records t mask n (field_columns os)
arrays_are t mask n os arrays sound is =
    (λ j. records t mask (struct_len (is j)) (in_columns (is j)))
    ∙ ap (λ (m : ℕ). records t mask m (field_columns os)) (first_long t mask n os sound)

pub arrays_sound : (t : DataType) (mask : Option (List Bool)) (n : ℕ) (os : List Open) (arrays : List Column)
    → is_sound (records t mask n (field_columns os)) ≡ true → arrays ≡ map column_of os
    → is_sound (records t mask (struct_len arrays) (in_columns arrays)) ≡ true
arrays_sound t mask n os arrays sound is = ap is_sound (arrays_are t mask n os arrays sound is) ∙ sound

-- ---- lengths within the limit

pub few_slots : (o : Open) → IsWithin o → is_buildable o.data_type ≡ true → column_len (column_of o) ≤ most_slots
few_slots o within can = omega (arith, open_long o within can, fits_length o.data_type o.slots within)

-- ---- marks

pub mark_added : {U : Type 0} (t : DataType) (ms : List Bool) (os : List Open) (mark : Bool) (new : List Bool) (r : Result U Error)
    → TakesMark ms mark new r → AddsMark (struct_parts t ms os) mark (struct_parts t new os) r
mark_added t ms os mark new (Ok u) h = (ap (λ (bits : List Bool). struct_parts t bits os) h.0, h.1)
mark_added t ms os mark new (Err e) h = (ap (λ (bits : List Bool). struct_parts t bits os) h.0, h.1)

pub mark_dropped : (ms kept new : List Bool) (m : Bool) (n : ℕ) → n ≡ length ms → kept ≡ ms ++ m ∷ [] → new ≡ take n kept → new ≡ ms
mark_dropped ms kept new m n long is cut = cut ∙ ap (take n) is ∙ take_at ms (m ∷ []) n (sym long)

pub nulls_added : {U : Type 0} (t : DataType) (ms : List Bool) (os : List Open) (new : List Bool) (more : List Open) (r : Result U Error)
    → AddsNulls ms os new more r → AddsNullRecord (struct_parts t ms os) (struct_parts t new more) r
nulls_added t ms os new more (Ok u) h = ((λ j. struct_parts t (h.0 j) (h.1 j)), h.2, h.3)
nulls_added t ms os new more (Err e) h = ((λ j. struct_parts t (h.0 j) (h.1 j)), h.2)

pub arrays_answer : (t : DataType) (mask : Option (List Bool)) (n : ℕ) (os : List Open) (arrays : List Column) (r : Result Column Error)
    → is_sound (records t mask n (field_columns os)) ≡ true → arrays ≡ map column_of os
    → OrOutOfMemory r (λ (array : Column). array ≡ records t mask (struct_len arrays) (in_columns arrays))
    → OrOutOfMemory r (λ (array : Column). array ≡ records t mask n (field_columns os))
arrays_answer t mask n os arrays r sound is h =
    subst (λ (c : Column). OrOutOfMemory r (λ (array : Column). array ≡ c)) (arrays_are t mask n os arrays sound is) h
