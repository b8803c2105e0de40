-- Which records are sound, and their slots, by marks and the open columns of the fields.
use Rattle.std.proofs.Common.{◌≡◌, ◌∙◌, ◌<◌, ◌≤◌, ◌+◌, ℕ, suc, List, [], ◌∷◌, ◌++◌, length, map, take, get_or, Bool, true, false, refl, sym, ap}
use Rattle.std.proofs.Common.{arith}
use Rattle.std.specs.Prelude.{◌&&◌, ◌==◌, if◌then◌else◌}
use Rattle.std.specs.List.{list_all}
use Rattle.std.proofs.lemmas.Bool.{and_from, and_parts, eq-eqb, eqb-true, false≢true}
use Rattle.std.proofs.lemmas.List.{get_or_append_left, get_or_at, get_or-take}
use Rattle.nested_arrays_nulls.specs.columnar_memory.declared.DataType.{DataType}
use Rattle.nested_arrays_nulls.specs.columnar_memory.declared.DataType.TheOpen as layer
use Rattle.nested_arrays_nulls.specs.columnar_memory.declared.Field.{Field}
use Rattle.nested_arrays_nulls.specs.columnar_memory.Equality.{same_type}
use Rattle.nested_arrays_nulls.specs.columns.FreshLaws.{is_buildable}
use Rattle.nested_arrays_nulls.specs.columns.OpenBatch.{fits}
use Rattle.nested_arrays_nulls.specs.columns.Slots.{Slot, null, fields, slot_then, window}
use Rattle.nested_arrays_nulls.specs.columns.SoundColumns.{are_sound, has_field_types, have_len, have_types, is_sound, mask_fits}
use Rattle.nested_arrays_nulls.specs.columns.StoredColumns.{Columns, column_len, column_type, slot_at, slots, slots_at}
use Rattle.nested_arrays_nulls.specs.columns.StoredColumns.{type_layer}
use Rattle.nested_arrays_cells.specs.parts.Marks.{mask_of_marks}
use Rattle.nested_arrays_cells.specs.parts.Open.{Open, column_of, IsWithin}
use Rattle.nested_arrays_cells.proofs.taken_lemmas.OpenColumns.{open_long, open_slots, open_sound, open_type}
use Rattle.nested_arrays_cells.proofs.columns_lemmas.Conditions.{parts_of_4}
use Rattle.nested_arrays_cells.proofs.columns_lemmas.FreshLengths.{Layer}
use Rattle.nested_arrays_cells.proofs.columns_lemmas.FreshPlaces.{at_window}
use Rattle.nested_arrays_cells.proofs.columns_lemmas.Windows.{window_same}
use Rattle.nested_arrays_generic_builders.specs.StructBuilders.{field_columns, is_stored, struct_parts, structs_column}
use Rattle.nested_arrays_generic_builders.proofs.ListSlots.{valid_mark, window_first, window_more}
use Rattle.nested_arrays_generic_builders.proofs.ListsStored.{marks_fit}

-- ---- fields whose slots fit

pub held_in : (o : Open) → is_stored o ≡ true → IsWithin o × (is_buildable o.data_type ≡ true)
held_in o h = and_parts (fits o.data_type o.slots) (is_buildable o.data_type) h

pub sound_fields : (os : List Open) → list_all is_stored os ≡ true → are_sound (field_columns os) ≡ true
sound_fields [] h = refl
sound_fields (o ∷ os) h =
    let both = and_parts (is_stored o) (list_all is_stored os) h in
    let own = held_in o both.0 in
    and_from (is_sound (column_of o)) (are_sound (field_columns os)) (open_sound o own.0 own.1) (sound_fields os both.1)

-- whether each has so many slots
abbrev pub are_long : ℕ → List Open → Bool
are_long n os = list_all (λ (o : Open). length o.slots == n) os

pub lens_are : (n : ℕ) (os : List Open) → list_all is_stored os ≡ true → have_len (field_columns os) n ≡ are_long n os
lens_are n [] h = refl
lens_are n (o ∷ os) h =
    let both = and_parts (is_stored o) (list_all is_stored os) h in
    let own = held_in o both.0 in
    λ j. (open_long o own.0 own.1 j == n) && lens_are n os both.1 j

-- lengths of changed fields
pub long_over : (f : Open → Open) (n m : ℕ) → ((o : Open) → length o.slots ≡ n → length (f o).slots ≡ m) → (os : List Open)
    → are_long n os ≡ true → are_long m (map f os) ≡ true
long_over f n m to [] h = refl
long_over f n m to (o ∷ os) h =
    let both = and_parts (length o.slots == n) (are_long n os) h in
    and_from (length (f o).slots == m) (are_long m (map f os))
    (eq-eqb (length (f o).slots) m (to o (eqb-true (length o.slots) n both.0))) (long_over f n m to os both.1)

-- ---- types

types_over : (f : Open → Open) → ((o : Open) → (f o).data_type ≡ o.data_type) → (us : List Field) (os : List Open)
    → have_types us (field_columns (map f os)) ≡ have_types us (field_columns os)
types_over f same [] [] = refl
types_over f same [] (o ∷ os) = refl
types_over f same (u ∷ us) [] = refl
types_over f same (u ∷ us) (o ∷ os) =
    let own : column_type (column_of (f o)) ≡ column_type (column_of o) = open_type (f o) ∙ same o ∙ sym (open_type o) in
    λ j. same_type u.data_type (own j) && types_over f same us os j

-- fields of the same types are those of the same structs
pub layer_over : (f : Open → Open) → ((o : Open) → (f o).data_type ≡ o.data_type) → (x : Layer) (os : List Open)
    → has_field_types x (field_columns (map f os)) ≡ has_field_types x (field_columns os)
layer_over f same (layer.Struct (u ∷ us)) os = types_over f same (u ∷ us) os
layer_over f same (layer.Struct []) os = refl
layer_over f same _ os = refl

pub named_struct : (x : Layer) (cols : Columns) → has_field_types x cols ≡ true
    → (us : List Field) × ((x ≡ layer.Struct us) × (have_types us cols ≡ true))
named_struct (layer.Struct (u ∷ us)) cols h = (u ∷ us, (refl, h))
named_struct (layer.Struct []) cols h = absurd (false≢true h)
named_struct _ cols h = absurd (false≢true h)

-- ---- sound records

pub record AreSoundRecords (t : DataType) (ms : List Bool) (os : List Open) : Type 0 where
  pub typed : has_field_types (type_layer t) (field_columns os) ≡ true
  pub long : are_long (length ms) os ≡ true

module _ (t : DataType) (ms : List Bool) (os : List Open) (stored : list_all is_stored os ≡ true) where
  pub struct_parts_of : is_sound (structs_column (struct_parts t ms os)) ≡ true → AreSoundRecords t ms os
  struct_parts_of sound =
      let parts = parts_of_4 (has_field_types (type_layer t) (field_columns os)) (have_len (field_columns os) (length ms))
      (mask_fits (mask_of_marks ms) (length ms)) (are_sound (field_columns os)) sound in
      record { typed = parts.0; long = sym (lens_are (length ms) os stored) ∙ parts.1 }

  pub struct_whole : AreSoundRecords t ms os → is_sound (structs_column (struct_parts t ms os)) ≡ true
  struct_whole h =
      let a = has_field_types (type_layer t) (field_columns os) in
      let b = have_len (field_columns os) (length ms) in
      let c = mask_fits (mask_of_marks ms) (length ms) in
      and_from (a && b && c) (are_sound (field_columns os))
      (and_from (a && b) c (and_from a b h.typed (lens_are (length ms) os stored ∙ h.long)) (marks_fit ms (length ms) refl))
      (sound_fields os stored)

-- ---- slots

-- the record at a place by its mark
abbrev pub record_at : Columns → List Bool → ℕ → Slot
record_at cols ms i = if get_or ms i false then fields (slots_at cols i) else null

pub struct_slots : (t : DataType) (ms : List Bool) (os : List Open)
    → slots (structs_column (struct_parts t ms os)) ≡ window (record_at (field_columns os) ms) 0 (length ms)
struct_slots t ms os =
    window_same (slot_at (structs_column (struct_parts t ms os))) (record_at (field_columns os) ms) 0 0 (length ms)
    (λ i h. here (0 + i) (omega (arith, h)))
  where
    here : (i : ℕ) → i < length ms → slot_at (structs_column (struct_parts t ms os)) i ≡ record_at (field_columns os) ms i
    here i h = ap (λ (b : Bool). if b then fields (slots_at (field_columns os) i) else null) (valid_mark ms i h)

pub open_at : (o : Open) (i : ℕ) → is_stored o ≡ true → i < length o.slots → slot_at (column_of o) i ≡ get_or o.slots i null
open_at o i h lt =
    let own = held_in o h in
    at_window (slot_at (column_of o)) (column_len (column_of o)) o.slots i null (open_slots o own.0 own.1)
    (omega (arith, lt, open_long o own.0 own.1))

-- fields that were changed elsewhere have the same slots at a place
pub rows_same : (f : Open → Open) (n i : ℕ)
    → ((o : Open) → length o.slots ≡ n → (i < length (f o).slots) × (get_or (f o).slots i null ≡ get_or o.slots i null)) → i < n
    → (os : List Open) → list_all is_stored os ≡ true → list_all is_stored (map f os) ≡ true → are_long n os ≡ true
    → slots_at (field_columns (map f os)) i ≡ slots_at (field_columns os) i
rows_same f n i at lt [] before after long = refl
rows_same f n i at lt (o ∷ os) before after long =
    let here = and_parts (length o.slots == n) (are_long n os) long in
    let count : length o.slots ≡ n = eqb-true (length o.slots) n here.0 in
    let own = at o count in
    let first = and_parts (is_stored o) (list_all is_stored os) before in
    let next = and_parts (is_stored (f o)) (list_all is_stored (map f os)) after in
    let same : slot_at (column_of (f o)) i ≡ slot_at (column_of o) i =
    open_at (f o) i next.0 own.0 ∙ own.1 ∙ sym (open_at o i first.0 (omega (arith, lt, count))) in
    λ j. slot_then (same j) (rows_same f n i at lt os first.1 next.1 here.1 j)

-- one record more, or a null
pub rows_more : (cols new : Columns) (ms : List Bool) (m : Bool) → ((i : ℕ) → i < length ms → slots_at new i ≡ slots_at cols i)
    → window (record_at new (ms ++ m ∷ [])) 0 (length ms + 1)
    ≡ window (record_at cols ms) 0 (length ms) ++ (if m then fields (slots_at new (length ms)) else null) ∷ []
rows_more cols new ms m same =
    let one : length ms + 1 ≡ suc (length ms) = omega arith in
    let none : 0 + length ms ≡ length ms = omega arith in
    ap (window (record_at new (ms ++ m ∷ [])) 0) one
    ∙ window_more (record_at new (ms ++ m ∷ [])) 0 (length ms)
    ∙ (λ j. window_same (record_at new (ms ++ m ∷ [])) (record_at cols ms) 0 0 (length ms)
    (λ i h. before (0 + i) (omega (arith, h))) j ++ (ap (record_at new (ms ++ m ∷ [])) none ∙ behind) j ∷ [])
  where
    before : (i : ℕ) → i < length ms → record_at new (ms ++ m ∷ []) i ≡ record_at cols ms i
    before i h =
        let mark = get_or_append_left ms (m ∷ []) false i h in
        λ j. if mark j then fields (same i h j) else null

    behind : record_at new (ms ++ m ∷ []) (length ms) ≡ (if m then fields (slots_at new (length ms)) else null)
    behind = ap (λ (b : Bool). if b then fields (slots_at new (length ms)) else null) (get_or_at ms m [] false (length ms) refl)

-- the first records
pub rows_first : (cols new : Columns) (ms : List Bool) (k : ℕ) → k ≤ length ms → ((i : ℕ) → i < k → slots_at new i ≡ slots_at cols i)
    → window (record_at new (take k ms)) 0 k ≡ take k (window (record_at cols ms) 0 (length ms))
rows_first cols new ms k le same =
    window_same (record_at new (take k ms)) (record_at cols ms) 0 0 k (λ i h. here (0 + i) (omega (arith, h)))
    ∙ sym (window_first (record_at cols ms) 0 (length ms) k le)
  where
    here : (i : ℕ) → i < k → record_at new (take k ms) i ≡ record_at cols ms i
    here i h =
        let mark = get_or-take k ms i false h in
        λ j. if mark j then fields (same i h j) else null
