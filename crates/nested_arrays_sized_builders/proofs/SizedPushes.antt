-- What is pushed to a builder of byte strings of one size, as its parts and as its column.
use Rattle.std.proofs.Common.{◌≡◌, ◌∙◌, ◌<◌, ◌≤◌, ◌*◌, ℕ, zero, suc, replicate, List, [], ◌∷◌, length, take, Bool, true, false, refl, sym, ap, subst, arith}
use Rattle.std.specs.Prelude.{Option, Some, None, ◌==◌, is_some, Result, Ok, Err, ◌⊎◌}
use Rattle.std.specs.List.{list_all}
use Rattle.std.proofs.Math.Nat.{mul-add, mul-le-mul_left}
use Rattle.std.proofs.lemmas.Bool.{and_from, cases_Bool, eq-eqb, eqb-true, false≢true}
use Rattle.std.proofs.lemmas.List.{length-append, length-replicate, length-take-le}
use Rattle.std.proofs.lemmas.List.Folds.{list_all-append}
use mathlib.Core.Logic.{inl, inr}
use Rattle.nested_arrays_generic_builders.specs.nulls.columnar_memory.declared.DataType.{DataType}
use Rattle.nested_arrays_generic_builders.specs.nulls.columnar_memory.declared.Error.{Error}
use Rattle.nested_arrays_generic_builders.specs.nulls.columnar_memory.Error.{IsInvalidArgument, IsOutOfMemory, IsOverflow}
use Rattle.nested_arrays_generic_builders.specs.nulls.columnar_memory.Results.{OrOutOfMemory}
use Rattle.nested_arrays_generic_builders.specs.nulls.columns.Cells.{fits_cell, is_bytes_of}
use Rattle.nested_arrays_generic_builders.specs.nulls.columns.Kinds.{most_slots}
use Rattle.nested_arrays_generic_builders.specs.nulls.columns.OpenBatch.{fits}
use Rattle.nested_arrays_generic_builders.specs.nulls.columns.Slots.{Slot, bytes, null}
use Rattle.nested_arrays_generic_builders.specs.nulls.columns.SoundColumns.{is_byte, is_sound}
use Rattle.nested_arrays_generic_builders.specs.nulls.columns.StoredColumns.{Column, column_type, slots}
use Rattle.nested_arrays_generic_builders.specs.nulls.flat.FlatColumns.{byte_width}
use Rattle.nested_arrays_generic_builders.specs.cells.taken.OpenColumns.{AddsNull, Becomes, IsFresh, KeepsFirst, TakesColumn, slots_and}
use Rattle.nested_arrays_generic_builders.proofs.cells_lemmas.columns_lemmas.ColumnSizes.{slots_lengths}
use Rattle.nested_arrays_generic_builders.proofs.cells_lemmas.columns_lemmas.Conditions.{list_all-take}
use Rattle.nested_arrays_generic_builders.proofs.cells_lemmas.columns_lemmas.Fitting.{null_fits}
use Rattle.nested_arrays_generic_builders.proofs.cells_lemmas.columns_lemmas.FreshLengths.{cell_layer}
use Rattle.nested_arrays_generic_builders.proofs.cells_lemmas.columns_lemmas.TypeSteps.{cell_is}
use Rattle.nested_arrays_sized_builders.specs.MarkedSlots.{AddsSlot}
use Rattle.nested_arrays_sized_builders.specs.SizedStrings.{AddsBytes, AddsString, AreSized, JoinsBytes, SizedParts, is_sized}
use Rattle.nested_arrays_sized_builders.specs.SizedStrings.{sized_column, sized_parts, sized_type, stored_for, string_slot}
use Rattle.nested_arrays_sized_builders.proofs.MarkedSlots.{too_many}
use Rattle.nested_arrays_sized_builders.proofs.SizedColumns.{first_left, layered, other_unfit, string_added, strings_long}
use Rattle.nested_arrays_sized_builders.proofs.SizedColumns.{strings_sound, strings_taken, type_width}

-- ---- parts

zeros_are_bytes : (n : ℕ) → list_all is_byte (replicate n 0) ≡ true
zeros_are_bytes zero = refl
zeros_are_bytes (suc n) = zeros_are_bytes n

-- no strings
pub new_sized : (size : ℕ) → 0 < size → (ms : List Bool) (content : List ℕ) → ms ≡ [] → content ≡ [] → AreSized (sized_type size) size ms content
new_sized size some ms content none nothing = record {
  wide = type_width size;
  some = some;
  counted = ap length nothing ∙ none_counted ∙ ap (λ (bits : List Bool). size * length bits) (sym none);
  bytes = ap (list_all is_byte) nothing;
}
  where
    none_counted : 0 ≡ size * 0
    none_counted = omega arith

module _ {t : DataType} {size : ℕ} {ms : List Bool} {content : List ℕ} (are : AreSized t size ms content) where
  pub are_some : 0 < byte_width t
  are_some = omega (arith, are.wide, are.some)

  pub are_counted : length content ≡ byte_width t * length ms
  are_counted = are.counted ∙ ap (λ (n : ℕ). n * length ms) (sym are.wide)

  pub are_sound : is_sound (sized_column (sized_parts t ms content)) ≡ true
  are_sound = strings_sound t ms content are_some are_counted are.bytes

  -- a string more
  pub pushed_sized : {U : Type 0} (mark : Bool) (more : List ℕ) → length more ≡ size → list_all is_byte more ≡ true
      → (bits : List Bool) (grown : List ℕ) (r : Result U Error) → AddsBytes ms content mark more bits grown r → AreSized t size bits grown
  pushed_sized mark more long each bits grown (Ok u) h = record {
    wide = are.wide;
    some = are.some;
    counted = omega (
      arith,
      ap length h.1,
      length-append content more,
      long,
      are.counted,
      ap (λ (bits : List Bool). size * length bits) h.0,
      ap (λ (n : ℕ). size * n) (length-append ms (mark ∷ [])),
      mul-add size (length ms) 1,
    );
    bytes = ap (list_all is_byte) h.1 ∙ list_all-append is_byte content more
        ∙ and_from (list_all is_byte content) (list_all is_byte more) are.bytes each;
  }
  pushed_sized mark more long each bits grown (Err e) h = record {
    wide = are.wide;
    some = are.some;
    counted = ap length h.1 ∙ are.counted ∙ ap (λ (bits : List Bool). size * length bits) (sym h.0);
    bytes = ap (list_all is_byte) h.1 ∙ are.bytes;
  }

  pub null_sized : {U : Type 0} (bits : List Bool) (grown : List ℕ) (r : Result U Error) → AddsBytes ms content false (replicate size 0) bits grown r
      → AreSized t size bits grown
  null_sized bits grown r h = pushed_sized false (replicate size 0) (length-replicate size 0) (zeros_are_bytes size) bits grown r h

  -- the strings of another builder of the size
  pub joined_sized : {U : Type 0} (more_marks : List Bool) (more : List ℕ) → length more ≡ size * length more_marks → list_all is_byte more ≡ true
      → (bits : List Bool) (grown : List ℕ) (r : Result U Error) → JoinsBytes ms content more_marks more bits grown r → AreSized t size bits grown
  joined_sized more_marks more long each bits grown (Ok u) h = record {
    wide = are.wide;
    some = are.some;
    counted = omega (
      arith,
      ap length h.1,
      length-append content more,
      long,
      are.counted,
      ap (λ (bits : List Bool). size * length bits) h.0,
      ap (λ (n : ℕ). size * n) (length-append ms more_marks),
      mul-add size (length ms) (length more_marks),
    );
    bytes = ap (list_all is_byte) h.1 ∙ list_all-append is_byte content more
        ∙ and_from (list_all is_byte content) (list_all is_byte more) are.bytes each;
  }
  joined_sized more_marks more long each bits grown (Err e) h = record {
    wide = are.wide;
    some = are.some;
    counted = ap length h.1 ∙ are.counted ∙ ap (λ (bits : List Bool). size * length bits) (sym h.0);
    bytes = ap (list_all is_byte) h.1 ∙ are.bytes;
  }

  -- the first strings
  module _ (k : ℕ) (le : k ≤ length ms) (bits : List Bool) (left : List ℕ) (first : bits ≡ take k ms) (held : left ≡ take (size * k) content) where
    pub first_sized : AreSized t size bits left
    first_sized = record {
      wide = are.wide;
      some = are.some;
      counted = ap length held
          ∙ length-take-le (size * k) content (omega (arith, are.counted, mul-le-mul_left {m = k} {n = length ms} size le))
          ∙ ap (λ (n : ℕ). size * n) (sym (ap length first ∙ length-take-le k ms le));
      bytes = ap (list_all is_byte) held ∙ list_all-take is_byte (size * k) content are.bytes;
    }

    pub first_kept : KeepsFirst (sized_column (sized_parts t ms content)) k (sized_column (sized_parts t bits left))
    first_kept =
        let bytes : take (byte_width t * k) content ≡ left = ap (λ (n : ℕ). take (n * k) content) are.wide ∙ sym held in
        subst (λ (p : SizedParts). KeepsFirst (sized_column (sized_parts t ms content)) k (sized_column p))
        (λ j. sized_parts t (sym first j) (bytes j))
        (first_left t ms content are_some are_counted k le are.bytes)

-- ---- pushes

-- the slots of a column, again
pub same_slots : (c : Column) → Becomes c (slots c) c
same_slots c = record { typed = refl; long = sym (slots_lengths c); sound = λ h. (h, refl); fresh = λ f. f }

-- a null that is pushed as any slot is
pub null_pushed : {U : Type 0} (old new : Column) (r : Result U Error) → AddsSlot old null new r → AddsNull old new r
null_pushed old new (Ok u) h = h
null_pushed old new (Err e) h = (subst (λ (c : Column). Becomes old (slots old) c) (sym h.0) (same_slots old), why h.1)
  where
    why : IsOutOfMemory e ⊎ (IsInvalidArgument e × (fits_cell (column_type old) null ≡ false))
        ⊎ (IsOverflow e × (IsFresh old → fits (column_type old) (slots_and old null) ≡ false))
        → IsOutOfMemory e ⊎ (IsOverflow e × (IsFresh old → fits (column_type old) (slots_and old null) ≡ false))
    why (inl memory) = inl memory
    why (inr (inl other)) = absurd (false≢true (sym other.1 ∙ null_fits (column_type old)))
    why (inr (inr over)) = inr over

module _ (old : SizedParts) (value : Option (List ℕ)) where
  pub bytes_pushed : {U : Type 0} (ms : List Bool) (content : List ℕ) (r : Result U Error) → is_sized (byte_width old.data_type) value ≡ true
      → AddsBytes old.marks old.content (is_some value) (stored_for (byte_width old.data_type) value) ms content r
      → AddsString old value (sized_parts old.data_type ms content) r
  bytes_pushed ms content (Ok u) wide h = ((λ j. sized_parts old.data_type (h.0 j) (h.1 j)), wide, h.2)
  bytes_pushed ms content (Err e) wide h = ((λ j. sized_parts old.data_type (h.0 j) (h.1 j)), why h.2)
    where
      why : IsOutOfMemory e ⊎ (IsOverflow e × (length old.marks ≡ most_slots))
          → IsOutOfMemory e ⊎ (IsInvalidArgument e × (is_sized (byte_width old.data_type) value ≡ false))
          ⊎ (IsOverflow e × (is_sized (byte_width old.data_type) value ≡ true) × (length old.marks ≡ most_slots))
      why (inl memory) = inl memory
      why (inr over) = inr (inr (over.0, wide, over.1))

  module _ {size : ℕ} (are : AreSized old.data_type size old.marks old.content) where
    takes : fits_cell old.data_type (string_slot value) ≡ is_bytes_of (byte_width old.data_type) (string_slot value)
    takes =
        ap (λ (test : Slot → Bool). test (string_slot value))
        (cell_is old.data_type ∙ ap cell_layer (layered old.data_type old.marks old.content (are_some are) (are_counted are)))

    pub string_unfit : is_sized (byte_width old.data_type) value ≡ false → fits_cell old.data_type (string_slot value) ≡ false
    string_unfit other = takes ∙ other_unfit (byte_width old.data_type) value other

    pub string_pushed : {U : Type 0} (new : SizedParts) (r : Result U Error)
        → list_all is_byte (stored_for (byte_width old.data_type) value) ≡ true → AddsString old value new r
        → AddsSlot (sized_column old) (string_slot value) (sized_column new) r
    string_pushed new (Ok u) more h =
        subst (λ (p : SizedParts). Becomes (sized_column old) (slots_and (sized_column old) (string_slot value)) (sized_column p)) (sym h.0)
        (string_added old.data_type old.marks old.content (are_some are) (are_counted are) value h.1 are.bytes more h.2)
    string_pushed new (Err e) more h = (ap sized_column h.0, why h.1)
      where
        why : IsOutOfMemory e ⊎ (IsInvalidArgument e × (is_sized (byte_width old.data_type) value ≡ false))
            ⊎ (IsOverflow e × (is_sized (byte_width old.data_type) value ≡ true) × (length old.marks ≡ most_slots))
            → IsOutOfMemory e ⊎ (IsInvalidArgument e × (fits_cell old.data_type (string_slot value) ≡ false))
            ⊎ (IsOverflow e
            × (IsFresh (sized_column old) → fits old.data_type (slots_and (sized_column old) (string_slot value)) ≡ false))
        why (inl memory) = inl memory
        why (inr (inl other)) = inr (inl (other.0, string_unfit other.1))
        why (inr (inr over)) =
            inr (inr (
              over.0,
              λ _. too_many old.data_type (slots (sized_column old)) (string_slot value)
                  (omega (arith, over.2, strings_long old.data_type old.marks old.content (are_some are) (are_counted are))),
            ))

-- a string of another size
pub other_sized : (size : ℕ) (content : List ℕ) → (length content ≡ size → ⊥) → is_sized size (Some content) ≡ false
other_sized size content other =
    elim (cases_Bool (length content == size)) [
      | inl same ↦ absurd (other (eqb-true (length content) size same))
      | inr unlike ↦ unlike
    ]

module _ (old : SizedParts) {size : ℕ} (are : AreSized old.data_type size old.marks old.content) where
  -- a null that is pushed
  pub null_added : {U : Type 0} (bits : List Bool) (grown : List ℕ) (r : Result U Error)
      → AddsBytes old.marks old.content false (replicate size 0) bits grown r
      → AddsSlot (sized_column old) null (sized_column (sized_parts old.data_type bits grown)) r
  null_added bits grown r h =
      let zeros : AddsBytes old.marks old.content false (replicate (byte_width old.data_type) 0) bits grown r =
      subst (λ (n : ℕ). AddsBytes old.marks old.content false (replicate n 0) bits grown r) (sym are.wide) h in
      string_pushed old None are (sized_parts old.data_type bits grown) r (zeros_are_bytes (byte_width old.data_type))
      (bytes_pushed old None bits grown r refl zeros)

  -- a string that is pushed
  pub some_added : {U : Type 0} (more : List ℕ) → length more ≡ size → list_all is_byte more ≡ true
      → (bits : List Bool) (grown : List ℕ) (r : Result U Error) → AddsBytes old.marks old.content true more bits grown r
      → AddsSlot (sized_column old) (bytes more) (sized_column (sized_parts old.data_type bits grown)) r
  some_added more long each bits grown r h =
      string_pushed old (Some more) are (sized_parts old.data_type bits grown) r each
      (bytes_pushed old (Some more) bits grown r (eq-eqb (length more) (byte_width old.data_type) (long ∙ sym are.wide)) h)

  -- the array that is taken out, and what is left
  pub all_taken : (bits : List Bool) (left : List ℕ) → bits ≡ [] → left ≡ [] → (marks : List Bool) (content : List ℕ) → marks ≡ old.marks
      → content ≡ old.content → (r : Result Column Error)
      → OrOutOfMemory r (λ (array : Column). array ≡ sized_column (sized_parts old.data_type marks content))
      → TakesColumn (sized_column old) (sized_column (sized_parts old.data_type bits left)) (λ (array : Column). array) r
  all_taken bits left none nothing marks content marked held r h =
      let whole : OrOutOfMemory r (λ (array : Column). array ≡ sized_column old) =
      subst (λ (p : SizedParts). OrOutOfMemory r (λ (array : Column). array ≡ sized_column p))
      (λ j. sized_parts old.data_type (marked j) (held j)) h in
      subst (λ (p : SizedParts). TakesColumn (sized_column old) (sized_column p) (λ (array : Column). array) r)
      (λ j. sized_parts old.data_type (sym none j) (sym nothing j))
      (strings_taken old.data_type old.marks old.content (are_some are) (are_counted are) are.bytes r whole)
