-- What pushes, cuts and taking out make of the column of a builder of structs.
use Rattle.std.proofs.Common.{◌≡◌, ◌∙◌, ◌<◌, ◌≤◌, ◌+◌, ℕ, List, [], ◌∷◌, ◌++◌, length, map, take, Bool, true, false, refl, sym, ap, subst, arith}
use Rattle.std.specs.Prelude.{None, Result, Ok, Err, ◌&&◌, ◌⊎◌}
use Rattle.std.specs.List.{list_all}
use Rattle.std.proofs.lemmas.Bool.{and_from, and_parts}
use Rattle.std.proofs.lemmas.List.{get_or_append_left, get_or-take, length-append, length-take-le}
use mathlib.Core.Logic.{inl, inr}
use Rattle.nested_arrays_nulls.specs.columnar_memory.declared.DataType.{DataType}
use Rattle.nested_arrays_nulls.specs.columnar_memory.declared.Error.{Error}
use Rattle.nested_arrays_nulls.specs.columnar_memory.Error.{IsOutOfMemory, IsOutOfSpec, IsOverflow}
use Rattle.nested_arrays_nulls.specs.columnar_memory.Results.{OrOutOfMemory}
use Rattle.nested_arrays_nulls.specs.columns.FreshColumns.{fresh}
use Rattle.nested_arrays_nulls.specs.columns.FreshLaws.{is_buildable}
use Rattle.nested_arrays_nulls.specs.columns.Kinds.{most_slots}
use Rattle.nested_arrays_nulls.specs.columns.OpenBatch.{fits}
use Rattle.nested_arrays_nulls.specs.columns.Slots.{Slot, null, window}
use Rattle.nested_arrays_nulls.specs.columns.SoundColumns.{are_sound, has_field_types, have_len, is_sound, mask_fits}
use Rattle.nested_arrays_nulls.specs.columns.StoredColumns.{Column, Columns, column_type, slots, slots_at, type_layer}
use Rattle.nested_arrays_cells.specs.parts.Marks.{mask_of_marks}
use Rattle.nested_arrays_cells.specs.parts.Open.{Open, first_slots}
use Rattle.nested_arrays_cells.specs.taken.OpenColumns.{AddsNull, Becomes, IsEmptied, IsFresh, KeepsFirst, TakesColumn, slots_and}
use Rattle.nested_arrays_cells.proofs.columns_lemmas.ColumnSizes.{slots_lengths}
use Rattle.nested_arrays_cells.proofs.columns_lemmas.Conditions.{parts_of_4}
use Rattle.nested_arrays_cells.proofs.columns_lemmas.Limits.{first_ones_fit}
use Rattle.nested_arrays_generic_builders.specs.StructBuilders.{AddsMark, AddsNullRecord, AddsRow, ClosesRow, HasRow, StructParts}
use Rattle.nested_arrays_generic_builders.specs.StructBuilders.{emptied, field_columns, first_records, is_stored, next_record, no_records}
use Rattle.nested_arrays_generic_builders.specs.StructBuilders.{struct_parts, structs_column}
use Rattle.nested_arrays_generic_builders.specs.StructBuilders.{takes_null, with_mark, with_null, with_nulls}
use Rattle.nested_arrays_generic_builders.proofs.ListsStored.{marks_fit}
use Rattle.nested_arrays_generic_builders.proofs.OpenLists.{same_becomes}
use Rattle.nested_arrays_generic_builders.proofs.StructRows.{held_in, layer_over, long_over, record_at, rows_first, rows_more, rows_same}
use Rattle.nested_arrays_generic_builders.proofs.StructRows.{struct_parts_of}
use Rattle.nested_arrays_generic_builders.proofs.StructRows.{struct_slots, struct_whole}
use Rattle.nested_arrays_generic_builders.proofs.StructsStored.{emptied_struct, first_fresh, null_fresh, null_unfit}

-- ---- fields that were changed

nulls_stored : (os : List Open) → list_all is_stored os ≡ true → list_all takes_null os ≡ true → list_all is_stored (map with_null os) ≡ true
nulls_stored [] h takes = refl
nulls_stored (o ∷ os) h takes =
    let both = and_parts (is_stored o) (list_all is_stored os) h in
    let room = and_parts (takes_null o) (list_all takes_null os) takes in
    and_from (is_stored (with_null o)) (list_all is_stored (map with_null os))
    (and_from (takes_null o) (is_buildable o.data_type) room.0 (held_in o both.0).1) (nulls_stored os both.1 room.1)

first_stored : (k : ℕ) (os : List Open) → list_all is_stored os ≡ true → list_all is_stored (map (λ (o : Open). first_slots o k) os) ≡ true
first_stored k [] h = refl
first_stored k (o ∷ os) h =
    let both = and_parts (is_stored o) (list_all is_stored os) h in
    let own = held_in o both.0 in
    and_from (is_stored (first_slots o k)) (list_all is_stored (map (λ (o : Open). first_slots o k) os))
    (and_from (fits o.data_type (take k o.slots)) (is_buildable o.data_type) (first_ones_fit o.data_type k o.slots own.0) own.1)
    (first_stored k os both.1)

module _ (t : DataType) (ms : List Bool) (os : List Open) where
  abbrev parts : StructParts
  parts = struct_parts t ms os

  abbrev old : Column
  old = structs_column parts

  abbrev cols : Columns
  cols = field_columns os

  -- ---- a record more

  module _ (mark : Bool) where
    abbrev more : Column
    more = structs_column (with_mark parts mark)

    one_longer : length (ms ++ mark ∷ []) ≡ length ms + 1
    one_longer = length-append ms (mark ∷ [])

    more_sound : HasRow parts → is_sound more ≡ true
    more_sound h =
        let a = has_field_types (type_layer t) cols in
        let b = have_len cols (length (ms ++ mark ∷ [])) in
        let c = mask_fits (mask_of_marks (ms ++ mark ∷ [])) (length (ms ++ mark ∷ [])) in
        let own = parts_of_4 a (have_len cols (length ms + 1)) (mask_fits None (length ms + 1)) (are_sound cols) h in
        and_from (a && b && c) (are_sound cols)
        (and_from (a && b) c (and_from a b own.0 (ap (have_len cols) one_longer ∙ own.1))
        (marks_fit (ms ++ mark ∷ []) (length (ms ++ mark ∷ [])) refl)) own.3

    more_slots : slots more ≡ slots_and old (next_record parts mark)
    more_slots =
        struct_slots t (ms ++ mark ∷ []) os ∙ ap (window (record_at cols (ms ++ mark ∷ [])) 0) one_longer
        ∙ rows_more cols cols ms mark (λ i h. refl)
        ∙ ap (λ (xs : List Slot). xs ++ next_record parts mark ∷ []) (sym (struct_slots t ms os))

    pub row_added : AddsRow parts mark more
    row_added = record { typed = refl; long = one_longer; sound = λ h. (more_sound h, more_slots) }

  module _ (stored : list_all is_stored os ≡ true) where
    -- ---- a null more

    module _ (takes : list_all takes_null os ≡ true) where
      abbrev new : Column
      new = structs_column (with_nulls parts)

      after : list_all is_stored (map with_null os) ≡ true
      after = nulls_stored os stored takes

      null_longer : length (ms ++ false ∷ []) ≡ length ms + 1
      null_longer = length-append ms (false ∷ [])

      null_sound : is_sound old ≡ true → is_sound new ≡ true
      null_sound h =
          let own = struct_parts_of t ms os stored h in
          struct_whole t (ms ++ false ∷ []) (map with_null os) after (record {
            typed = layer_over with_null (λ o. refl) (type_layer t) os ∙ own.typed;
            long = long_over with_null (length ms) (length (ms ++ false ∷ []))
                (λ o e. omega (arith, length-append o.slots (null ∷ []), null_longer, e)) os own.long;
          })

      same_before : is_sound old ≡ true → (i : ℕ) → i < length ms → slots_at (field_columns (map with_null os)) i ≡ slots_at cols i
      same_before h i lt =
          let own = struct_parts_of t ms os stored h in
          rows_same with_null (length ms) i
          (λ o e. (omega (arith, lt, length-append o.slots (null ∷ []), e), get_or_append_left o.slots (null ∷ []) null i (omega (arith, lt, e))))
          lt os stored after own.long

      null_slots : is_sound old ≡ true → slots new ≡ slots_and old null
      null_slots h =
          struct_slots t (ms ++ false ∷ []) (map with_null os)
          ∙ ap (window (record_at (field_columns (map with_null os)) (ms ++ false ∷ [])) 0) null_longer
          ∙ rows_more cols (field_columns (map with_null os)) ms false (same_before h)
          ∙ ap (λ (xs : List Slot). xs ++ null ∷ []) (sym (struct_slots t ms os))

      pub null_added : length ms < most_slots → Becomes old (slots_and old null) new
      null_added few = record {
        typed = refl;
        long = omega (arith, null_longer, length-append (slots old) (null ∷ []), slots_lengths old);
        sound = λ h. (null_sound h, null_slots h);
        fresh = λ f. null_fresh t ms os stored f few takes;
      }

    -- ---- the first records

    module _ (k : ℕ) (le : k ≤ length ms) where
      abbrev first : Open → Open
      first o = first_slots o k

      abbrev cut : Column
      cut = structs_column (first_records parts k)

      cut_long : length (take k ms) ≡ k
      cut_long = length-take-le k ms le

      cut_sound : is_sound old ≡ true → is_sound cut ≡ true
      cut_sound h =
          let own = struct_parts_of t ms os stored h in
          struct_whole t (take k ms) (map first os) (first_stored k os stored) (record {
            typed = layer_over first (λ o. refl) (type_layer t) os ∙ own.typed;
            long = long_over first (length ms) (length (take k ms))
                (λ o e. omega (arith, length-take-le k o.slots (omega (arith, le, e)), cut_long)) os own.long;
          })

      same_first : is_sound old ≡ true → (i : ℕ) → i < k → slots_at (field_columns (map first os)) i ≡ slots_at cols i
      same_first h i lt =
          let own = struct_parts_of t ms os stored h in
          rows_same first (length ms) i
          (λ o e. (omega (arith, lt, length-take-le k o.slots (omega (arith, le, e))), get_or-take k o.slots i null lt))
          (omega (arith, lt, le)) os stored (first_stored k os stored) own.long

      cut_slots : is_sound old ≡ true → slots cut ≡ take k (slots old)
      cut_slots h =
          struct_slots t (take k ms) (map first os) ∙ ap (window (record_at (field_columns (map first os)) (take k ms)) 0) cut_long
          ∙ rows_first cols (field_columns (map first os)) ms k le (same_first h)
          ∙ ap (take k) (sym (struct_slots t ms os))

      pub first_left : KeepsFirst old k cut
      first_left = record {
        typed = refl;
        long = omega (arith, cut_long, length-take-le k (slots old) (omega (arith, le, slots_lengths old)));
        sound = λ h. (cut_sound h, cut_slots h);
        fresh = λ f. first_fresh t ms os stored f k le;
      }

  -- ---- none left

  pub none_left : IsEmptied old (structs_column (no_records parts))
  none_left = record { typed = refl; long = refl; begun = begun }
    where
      begun : is_sound old ≡ true → structs_column (no_records parts) ≡ fresh t []
      begun sound =
          emptied_struct t ms os
          (parts_of_4 (has_field_types (type_layer t) cols) (have_len cols (length ms)) (mask_fits (mask_of_marks ms) (length ms))
          (are_sound cols) sound).0

-- ---- builders of structs

module _ (p : StructParts) where
  pub closed_row : {U : Type 0} (mark : Bool) (now : StructParts) (r : Result U Error) → AddsMark p mark now r
      → ClosesRow p mark (structs_column now) r
  closed_row mark now (Ok u) h =
      subst (λ (q : StructParts). AddsRow p mark (structs_column q)) (sym h.0) (row_added p.data_type p.marks p.fields mark)
  closed_row mark now (Err e) h = ap structs_column h.0

  pub pushed_null : {U : Type 0} (now : StructParts) (r : Result U Error) → list_all is_stored p.fields ≡ true → AddsNullRecord p now r
      → AddsNull (structs_column p) (structs_column now) r
  pushed_null now (Ok u) stored h =
      subst (λ (q : StructParts). Becomes (structs_column p) (slots_and (structs_column p) null) (structs_column q)) (sym h.0)
      (null_added p.data_type p.marks p.fields stored h.2 h.1)
  pushed_null now (Err e) stored h = (
    subst (λ (q : StructParts). Becomes (structs_column p) (slots (structs_column p)) (structs_column q)) (sym h.0)
        (same_becomes (structs_column p)),
    why e h.1,
  )
    where
      why : (e : Error) → IsOutOfMemory e ⊎ (IsOverflow e × ((length p.marks ≡ most_slots) ⊎ (list_all takes_null p.fields ≡ false)))
          → IsOutOfMemory e ⊎ (IsOverflow e × (IsFresh (structs_column p)
          → fits (column_type (structs_column p)) (slots_and (structs_column p) null) ≡ false))
      why e (inl memory) = inl memory
      why e (inr over) = inr (over.0, λ f. null_unfit p.data_type p.marks p.fields stored f over.1)

  pub kept_records : (k : ℕ) → k ≤ length p.marks → list_all is_stored p.fields ≡ true
      → KeepsFirst (structs_column p) k (structs_column (first_records p k))
  kept_records k le stored = first_left p.data_type p.marks p.fields stored k le

  pub taken_records : (r : Result Column Error) → is_sound (structs_column p) ≡ true → OrOutOfMemory r (λ (array : Column). array ≡ structs_column p)
      → TakesColumn (structs_column p) (structs_column (no_records p)) (λ (array : Column). array) r
  taken_records (Ok array) sound is = (none_left p.data_type p.marks p.fields, (is, sound))
  taken_records (Err e) sound memory = (none_left p.data_type p.marks p.fields, inl memory)

  pub refused_records : {A : Type 0} (content : A → Column) (e : Error) → is_sound (structs_column p) ≡ false → IsOutOfSpec e
      → TakesColumn (structs_column p) (structs_column (no_records p)) content (Err e)
  refused_records content e unsound spec = (none_left p.data_type p.marks p.fields, inr (spec, unsound))

  -- what is taken out of marks and fields that were left empty
  pub taken_parts : (kept ms : List Bool) (left : List Open) (r : Result Column Error) → is_sound (structs_column p) ≡ true → kept ≡ p.marks → ms ≡ []
      → left ≡ map emptied p.fields
      → OrOutOfMemory r (λ (array : Column). array ≡ structs_column (struct_parts p.data_type kept p.fields))
      → TakesColumn (structs_column p) (structs_column (struct_parts p.data_type ms left)) (λ (array : Column). array) r
  taken_parts kept ms left r sound marked none empty is =
      let now : no_records p ≡ struct_parts p.data_type ms left = (λ j. struct_parts p.data_type (sym none j) (sym empty j)) in
      subst (λ (q : StructParts). TakesColumn (structs_column p) (structs_column q) (λ (array : Column). array) r) now
      (taken_records r sound
      (subst (λ (own : List Bool). OrOutOfMemory r (λ (array : Column). array ≡ structs_column (struct_parts p.data_type own p.fields))) marked is))
