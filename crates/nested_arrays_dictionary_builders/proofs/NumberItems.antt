-- Columns of integers with one more, and which slot an integer is.
use Rattle.std.proofs.Common.{◌≡◌, ◌∙◌, ◌<◌, ◌≤◌, ◌+◌, ℕ, suc, ℤ, pos, List, [], ◌∷◌, ◌++◌, length, map, get_or, Bool, true, false}
use Rattle.std.proofs.Common.{refl, sym, ap, subst, arith}
use Rattle.std.specs.Prelude.{Option, Some, None, negsuc, ◌<ℤ◌, ◌+ℤ◌, ◌%◌, ◌^◌, unsigned_abs, ◌&&◌, ◌==◌, ◌⊎◌, if◌then◌else◌, nat_le, slice_get}
use Rattle.std.specs.Prelude.{Result, Ok, Err}
use Rattle.std.specs.List.{list_all}
use Rattle.std.proofs.Math.Nat.{mod-eq_of_lt}
use Rattle.std.proofs.lemmas.Int.{ints}
use Rattle.std.proofs.lemmas.Bool.{and_from, and_parts, eq-eqb, false≢true, false_from_ne_true, le-leb}
use Rattle.std.proofs.lemmas.List.{get_or_append_left, get_or_at, get_or-replicate, length-append, length-map, length_push, map-append}
use Rattle.std.proofs.lemmas.List.Folds.{list_all-append}
use Rattle.std.proofs.lemmas.Option.{get_or_from_slice_get}
use mathlib.Core.Logic.{inl, inr}
use Rattle.nested_arrays_sized_builders.proofs.values_lemmas.Looked.{mapped_at}
use Rattle.nested_arrays_sized_builders.specs.nulls.columnar_memory.declared.DataType.{DataType}
use Rattle.nested_arrays_sized_builders.specs.nulls.columnar_memory.declared.DataType.TheOpen as layer
use Rattle.nested_arrays_sized_builders.specs.nulls.columnar_memory.declared.Error.{Error}
use Rattle.nested_arrays_sized_builders.specs.nulls.columnar_memory.declared.IntegerType.{IntegerType}
use Rattle.nested_arrays_sized_builders.specs.nulls.columnar_memory.declared.IntegerType.TheVariants as integers
use Rattle.nested_arrays_sized_builders.specs.nulls.columnar_memory.declared.PhysicalType.{PhysicalType}
use Rattle.nested_arrays_sized_builders.specs.nulls.columnar_memory.declared.PhysicalType.TheVariants as physical
use Rattle.nested_arrays_sized_builders.specs.nulls.columnar_memory.declared.PrimitiveType.{PrimitiveType}
use Rattle.nested_arrays_sized_builders.specs.nulls.columnar_memory.Error.{IsInvalidArgument, IsOutOfMemory, IsOverflow}
use Rattle.nested_arrays_sized_builders.specs.nulls.columnar_memory.Layouts.{physical_type}
use Rattle.nested_arrays_sized_builders.specs.nulls.columnar_memory.Numbers.{Numbers, one, first_number, IsNative}
use Rattle.nested_arrays_sized_builders.specs.nulls.columns.Cells.{fits_cell, is_null}
use Rattle.nested_arrays_sized_builders.specs.nulls.columns.FreshColumns.{fresh, mask_of, number_of, numbers_as}
use Rattle.nested_arrays_sized_builders.specs.nulls.columns.Kinds.{in_kind, most_slots, numbers_of_kind, same_kind}
use Rattle.nested_arrays_sized_builders.specs.nulls.columns.OpenBatch.{fits}
use Rattle.nested_arrays_sized_builders.specs.nulls.columns.Slots.{Slot, null, number, window}
use Rattle.nested_arrays_sized_builders.specs.nulls.columns.SoundColumns.{has_size, is_sound, is_stored_as, mask_fits}
use Rattle.nested_arrays_sized_builders.specs.nulls.columns.StoredColumns.{Column, column_len, flat, is_valid_at, numbers, slot_at, slots}
use Rattle.nested_arrays_sized_builders.specs.nulls.columns.StoredColumns.{type_layer}
use Rattle.nested_arrays_sized_builders.specs.nulls.flat.ColumnMasks.{column_mask}
use Rattle.nested_arrays_sized_builders.specs.nulls.flat.FlatColumns.{primitive_column, stored_numbers}
use Rattle.nested_arrays_sized_builders.specs.flat_arrays.Flat as arrays
use Rattle.nested_arrays_sized_builders.specs.flat_arrays.Flat.{Flat, IsFlat, IsMaskOf}
use Rattle.nested_arrays_sized_builders.specs.flat_arrays.Growth.{with_marks, with_values}
use Rattle.nested_arrays_sized_builders.specs.nulls.parts.Keys.{kind_of_keys}
use Rattle.nested_arrays_sized_builders.specs.cells.taken.OpenColumns.{Becomes, IsFresh, slots_and}
use Rattle.nested_arrays_sized_builders.specs.cells.taken.builders.columns.OpenParts.{is_of_kind}
use Rattle.nested_arrays_sized_builders.specs.MarkedSlots.{AddsSlot}
use Rattle.nested_arrays_sized_builders.proofs.taken_lemmas.FlatSlots.{window_more}
use Rattle.nested_arrays_dictionary_builders.proofs.OpenParts.{mask_with_value, marks_before, marks_more, value_marked}
use Rattle.nested_arrays_sized_builders.proofs.nulls_lemmas.arrays_lemmas.columns_lemmas.ColumnSizes.{slots_lengths}
use Rattle.nested_arrays_sized_builders.proofs.nulls_lemmas.arrays_lemmas.columns_lemmas.Conditions.{parts_of_3}
use Rattle.nested_arrays_sized_builders.proofs.nulls_lemmas.arrays_lemmas.columns_lemmas.FreshLengths.{Layer}
use Rattle.nested_arrays_sized_builders.proofs.nulls_lemmas.arrays_lemmas.columns_lemmas.Windows.{window_same}
use Rattle.nested_arrays_sized_builders.proofs.columns_lemmas.LayerParts.{fresh_primitive}
use Rattle.nested_arrays_sized_builders.proofs.columns_lemmas.Limits.{fits_length}
use Rattle.nested_arrays_sized_builders.proofs.columns_lemmas.OneMore.{primitives_fit_one_more}
use Rattle.nested_arrays_sized_builders.proofs.nulls_lemmas.flat_lemmas.InRange.{native_in_range}
use Rattle.nested_arrays_dictionary_builders.specs.NumberItems.{AddsNumber}

-- kinds of one whole number each, which integers are stored as
record Plain (kind : PrimitiveType) : Type 0 where
  stored : (ns : List Numbers) → stored_numbers kind ns ≡ numbers kind (map first_number ns)
  made : (xs : List Slot) → numbers_as kind xs ≡ numbers kind (map number_of xs)
  takes : (v : ℤ) → is_of_kind kind (number kind v) ≡ in_kind kind v
  single : (same_kind kind kind && (numbers_of_kind kind == 1)) ≡ true

plain_keys : (key : IntegerType) → Plain (kind_of_keys key)
plain_keys integers.Int8 = record { stored = λ ns. refl; made = λ xs. refl; takes = λ v. refl; single = refl }
plain_keys integers.Int16 = record { stored = λ ns. refl; made = λ xs. refl; takes = λ v. refl; single = refl }
plain_keys integers.Int32 = record { stored = λ ns. refl; made = λ xs. refl; takes = λ v. refl; single = refl }
plain_keys integers.Int64 = record { stored = λ ns. refl; made = λ xs. refl; takes = λ v. refl; single = refl }
plain_keys integers.UInt8 = record { stored = λ ns. refl; made = λ xs. refl; takes = λ v. refl; single = refl }
plain_keys integers.UInt16 = record { stored = λ ns. refl; made = λ xs. refl; takes = λ v. refl; single = refl }
plain_keys integers.UInt32 = record { stored = λ ns. refl; made = λ xs. refl; takes = λ v. refl; single = refl }
plain_keys integers.UInt64 = record { stored = λ ns. refl; made = λ xs. refl; takes = λ v. refl; single = refl }

plain_kind : (kind : PrimitiveType) (key : IntegerType) → kind ≡ kind_of_keys key → Plain kind
plain_kind kind key is = subst Plain (sym is) (plain_keys key)

-- ---- hashes

-- the hash of a number that is not below zero
pub hash_above : (v : ℤ) (n greatest : ℕ) → v ≡ pos n → n ≤ greatest → greatest < 2 ^ 64 → n ≡ unsigned_abs v % 2 ^ 64
hash_above v n greatest is le few = sym (ap (λ (z : ℤ). unsigned_abs z % 2 ^ 64) is ∙ mod-eq_of_lt (omega (arith, le, few)))

-- of one that is, by how far zero is above it
pub hash_below : (v : ℤ) (n : ℕ) → v <ℤ pos 0 → pos 0 ≡ v +ℤ pos n → n < 2 ^ 64 → n ≡ unsigned_abs v % 2 ^ 64
hash_below (pos k) n low is few = absurd (omega (arith, ints, low))
hash_below (negsuc k) n low is few =
    let same : n ≡ suc k = omega (arith, ints, is) in
    same ∙ sym (mod-eq_of_lt (omega (arith, same, few)))

-- ---- masks

pub fits_mask : (mask : Option (List Bool)) (n : ℕ) → IsMaskOf n mask → mask_fits mask n ≡ true
fits_mask None n h = refl
fits_mask (Some marks) n h = eq-eqb (length marks) n (h marks refl)

-- ---- integers of a kind

sized : (x : Layer) (kind : PrimitiveType) (vs : List ℤ) → has_size x (numbers kind vs) ≡ true
sized (layer.FixedSizeBinary size) kind vs = refl
sized _ kind vs = refl

abbrev integers_in : Column → List ℤ
integers_in (flat t mask (numbers kind vs)) = vs
integers_in _ = []

module _ (t : DataType) (kind : PrimitiveType) (p : Plain kind) (lies : physical_type t ≡ physical.Primitive kind) where
  abbrev col : Option (List Bool) → List ℤ → Column
  col mask vs = flat t mask (numbers kind vs)

  -- soundness by its parts
  sound_from : (mask : Option (List Bool)) (vs : List ℤ) → list_all (in_kind kind) vs ≡ true → mask_fits mask (length vs) ≡ true
      → is_sound (col mask vs) ≡ true
  sound_from mask vs each masked =
      let stored : is_stored_as (physical_type t) (numbers kind vs) ≡ true =
      ap (λ (layout : PhysicalType). is_stored_as layout (numbers kind vs)) lies
      ∙ and_from (same_kind kind kind && (numbers_of_kind kind == 1)) (list_all (in_kind kind) vs) p.single each in
      and_from (is_stored_as (physical_type t) (numbers kind vs) && has_size (type_layer t) (numbers kind vs)) (mask_fits mask (length vs))
      (and_from (is_stored_as (physical_type t) (numbers kind vs)) (has_size (type_layer t) (numbers kind vs)) stored
      (sized (type_layer t) kind vs)) masked

  sound_each : (mask : Option (List Bool)) (vs : List ℤ) → is_sound (col mask vs) ≡ true → list_all (in_kind kind) vs ≡ true
  sound_each mask vs h =
      let parts = parts_of_3 (is_stored_as (physical_type t) (numbers kind vs)) (has_size (type_layer t) (numbers kind vs))
      (mask_fits mask (length vs)) h in
      (and_parts (same_kind kind kind && (numbers_of_kind kind == 1)) (list_all (in_kind kind) vs)
      (ap (λ (layout : PhysicalType). is_stored_as layout (numbers kind vs)) (sym lies) ∙ parts.0)).1

  module _ (mask : Option (List Bool)) (vs : List ℤ) (v : ℤ) (masked : mask_fits mask (length vs) ≡ true) (own : in_kind kind v ≡ true) where
    abbrev old : Column
    old = col mask vs

    abbrev new : Column
    new = col (with_marks (length vs) mask (true ∷ [])) (vs ++ v ∷ [])

    more_slots : slots new ≡ slots_and old (number kind v)
    more_slots =
        let n = length vs in
        let size : length (vs ++ v ∷ []) ≡ suc n = length_push vs v ∙ omega arith in
        let from : 0 + n ≡ n = omega arith in
        let last : slot_at new (0 + n) ≡ number kind v =
        ap (slot_at new) from
        ∙ (λ j. if value_marked n mask masked j then number kind (get_or_at vs v [] (pos 0) n refl j) else null) in
        ap (window (slot_at new) 0) size ∙ window_more (slot_at new) 0 n
        ∙ (λ j. window_same (slot_at new) (slot_at old) 0 0 n (λ i h. before (0 + i) (omega (arith, h))) j ++ last j ∷ [])
      where
        before : (i : ℕ) → i < length vs → slot_at new i ≡ slot_at old i
        before i h =
            let mark = marks_before (length vs) mask i masked h in
            let at = get_or_append_left vs (v ∷ []) (pos 0) i h in
            λ j. if mark j then number kind (at j) else null

    more_sound : is_sound old ≡ true → is_sound new ≡ true
    more_sound h =
        let each : list_all (in_kind kind) (vs ++ v ∷ []) ≡ true =
        list_all-append (in_kind kind) vs (v ∷ [])
        ∙ and_from (list_all (in_kind kind) vs) (list_all (in_kind kind) (v ∷ [])) (sound_each mask vs h) (and_from (in_kind kind v) true own refl) in
        sound_from (with_marks (length vs) mask (true ∷ [])) (vs ++ v ∷ []) each
        (ap (mask_fits (with_marks (length vs) mask (true ∷ []))) (length_push vs v) ∙ marks_more (length vs) mask masked)

    more_fresh : length vs < most_slots → IsFresh old → IsFresh new
    more_fresh few f =
        let xs = slots old in
        let s = number kind v in
        let parts : old ≡ col (mask_of xs) (map number_of xs) =
        f.stored ∙ fresh_primitive t kind lies xs ∙ ap (flat t (mask_of xs)) (p.made xs) in
        let masks : with_marks (length vs) mask (true ∷ []) ≡ mask_of (xs ++ s ∷ []) =
        mask_with_value (length vs) mask xs s refl (ap column_mask parts) in
        let values : vs ++ v ∷ [] ≡ map number_of (xs ++ s ∷ []) =
        ap (λ (ws : List ℤ). ws ++ v ∷ []) (ap integers_in parts) ∙ sym (map-append number_of xs (s ∷ [])) in
        let stored : new ≡ fresh t (xs ++ s ∷ []) =
        (λ j. col (masks j) (values j))
        ∙ sym (fresh_primitive t kind lies (xs ++ s ∷ []) ∙ ap (flat t (mask_of (xs ++ s ∷ []))) (p.made (xs ++ s ∷ []))) in record {
          stored = stored ∙ ap (fresh t) (sym more_slots);
          fit = ap (fits t) more_slots ∙ primitives_fit_one_more t kind lies xs s f.fit
              ∙ and_from (is_of_kind kind s) (nat_le (length xs + 1) most_slots) (p.takes v ∙ own)
              (le-leb (length xs + 1) most_slots (omega (arith, few, slots_lengths old)));
          can = f.can;
        }

    number_added : length vs < most_slots → Becomes old (slots_and old (number kind v)) new
    number_added few = record {
      typed = refl;
      long = sym (slots_lengths new) ∙ ap length more_slots;
      sound = λ h. (more_sound h, more_slots);
      fresh = more_fresh few;
    }

-- ---- arrays of integers

module _ {T : Type 0} (kind : PrimitiveType) (key : IntegerType) (keyed : kind ≡ kind_of_keys key) (numbers_of : T → Numbers) (value : T → ℤ)
    (law : (x : T) → numbers_of x ≡ one (value x)) (old : Flat T) (whole : IsFlat (physical.Primitive kind) old) where
  plain : Plain kind
  plain = plain_kind kind key keyed

  abbrev integers_of : List T → List ℤ
  integers_of ts = map first_number (map numbers_of ts)

  abbrev column : Flat T → Column
  column = primitive_column kind numbers_of

  as_integers : (a : Flat T) → column a ≡ flat a.data_type a.validity (numbers kind (integers_of a.values))
  as_integers a = ap (flat a.data_type a.validity) (plain.stored (map numbers_of a.values))

  many : length (integers_of old.values) ≡ length old.values
  many = length-map (map numbers_of old.values) first_number ∙ length-map old.values numbers_of

  masked : mask_fits old.validity (length (integers_of old.values)) ≡ true
  masked = ap (mask_fits old.validity) many ∙ fits_mask old.validity (length old.values) whole.masked

  one_more : (x : T) → integers_of (old.values ++ x ∷ []) ≡ integers_of old.values ++ value x ∷ []
  one_more x =
      ap (map first_number) (map-append numbers_of old.values (x ∷ [])) ∙ map-append first_number (map numbers_of old.values) (numbers_of x ∷ [])
      ∙ ap (λ (n : Numbers). integers_of old.values ++ first_number n ∷ []) (law x)

  grown_is : (x : T) → column (with_values old (x ∷ []))
      ≡ flat old.data_type (with_marks (length (integers_of old.values)) old.validity (true ∷ []))
      (numbers kind (integers_of old.values ++ value x ∷ []))
  grown_is x =
      as_integers (with_values old (x ∷ []))
      ∙ (λ j. flat old.data_type (with_marks (sym many j) old.validity (true ∷ [])) (numbers kind (one_more x j)))

  pub number_pushed : {U : Type 0} (x : T) (new : Flat T) (r : Result U Error) → IsNative kind (numbers_of x) → AddsNumber x old new r
      → AddsSlot (column old) (number kind (value x)) (column new) r
  number_pushed x new (Ok u) native h =
      let s = number kind (value x) in
      let own : in_kind kind (value x) ≡ true = native_in_range kind (one (value x)) (subst (IsNative kind) (law x) native) in
      let becomes = number_added old.data_type kind plain whole.fits old.validity (integers_of old.values) (value x) masked own
      (omega (arith, h.1, many)) in
      subst (λ (c : Column). Becomes (column old) (slots_and (column old) s) c) (sym (ap column h.0 ∙ grown_is x))
      (subst (λ (c : Column). Becomes c (slots_and c s) (flat old.data_type (with_marks (length (integers_of old.values)) old.validity (true ∷ []))
      (numbers kind (integers_of old.values ++ value x ∷ [])))) (sym (as_integers old)) becomes)
  number_pushed x new (Err e) native h = (ap column h.0, why h.1)
    where
      s : Slot
      s = number kind (value x)

      full : most_slots ≤ length old.values → fits old.data_type (slots_and (column old) s) ≡ false
      full enough =
          let counted : length (slots (column old)) ≡ length old.values =
          ap (λ (c : Column). length (slots c)) (as_integers old) ∙ slots_lengths (flat old.data_type old.validity
          (numbers kind (integers_of old.values))) ∙ many in
          false_from_ne_true (fits old.data_type (slots_and (column old) s)) (λ fit. omega (
            arith,
            fits_length old.data_type (slots_and (column old) s) fit,
            length-append (slots (column old)) (s ∷ []),
            counted,
            enough,
          ))

      why : IsOutOfMemory e ⊎ (IsOverflow e × (most_slots ≤ length old.values))
          → IsOutOfMemory e ⊎ (IsInvalidArgument e × (fits_cell old.data_type s ≡ false))
          ⊎ (IsOverflow e × (IsFresh (column old) → fits old.data_type (slots_and (column old) s) ≡ false))
      why (inl memory) = inl memory
      why (inr over) = inr (inr (over.0, λ _. full over.1))

  -- without slots
  pub none_whole : column_len (column old) ≡ 0 → is_sound (column old) ≡ true
  none_whole none =
      let nothing : length (integers_of old.values) ≡ 0 = ap column_len (sym (as_integers old)) ∙ none in
      ap is_sound (as_integers old)
      ∙ sound_from old.data_type kind plain whole.fits old.validity (integers_of old.values) (all_none (integers_of old.values) nothing) masked
    where
      all_none : (vs : List ℤ) → length vs ≡ 0 → list_all (in_kind kind) vs ≡ true
      all_none [] is = refl
      all_none (v ∷ vs) is = absurd (omega (arith, is))

  -- the slot at a place
  pub number_at : (i : ℕ) → slot_at (column old) i
      ≡ (if is_valid_at old.validity i then number kind (get_or (integers_of old.values) i (pos 0)) else null)
  number_at i = ap (λ (c : Column). slot_at c i) (as_integers old)

  -- ---- slots

  marked_at : (i : ℕ) → i < length old.values → is_valid_at old.validity i ≡ get_or (arrays.marks (length old.values) old.validity) i false
  marked_at i lt = by_mask old.validity
    where
      by_mask : (mask : Option (List Bool)) → is_valid_at mask i ≡ get_or (arrays.marks (length old.values) mask) i false
      by_mask None = sym (get_or-replicate (length old.values) i true false lt)
      by_mask (Some marks) = refl

  shown : (i : ℕ) (b : Bool) → i < length old.values → slice_get (arrays.marks (length old.values) old.validity) i ≡ Some b
      → slot_at (column old) i ≡ (if b then number kind (get_or (integers_of old.values) i (pos 0)) else null)
  shown i b lt found =
      number_at i
      ∙ ap (λ (mark : Bool). if mark then number kind (get_or (integers_of old.values) i (pos 0)) else null)
      (marked_at i lt ∙ get_or_from_slice_get (arrays.marks (length old.values) old.validity) i b false found)

  -- no number is null
  pub null_differs : (i : ℕ) (x : T) → i < length old.values → slice_get (arrays.marks (length old.values) old.validity) i ≡ Some false
      → slot_at (column old) i ≡ number kind (value x) → ⊥
  null_differs i x lt found same = false≢true (ap is_null (sym same ∙ shown i false lt found))

  -- a value is its number
  pub value_shows : (i : ℕ) (y : T) → i < length old.values → slice_get (arrays.marks (length old.values) old.validity) i ≡ Some true
      → slice_get old.values i ≡ Some y → slot_at (column old) i ≡ number kind (value y)
  value_shows i y lt found at =
      let here : get_or (integers_of old.values) i (pos 0) ≡ value y =
      mapped_at first_number (map numbers_of old.values) i (numbers_of y) (pos 0) (omega (arith, lt, length-map old.values numbers_of))
      ∙ ap first_number (mapped_at numbers_of old.values i y (numbers_of y) lt)
      ∙ ap (λ (x : T). first_number (numbers_of x)) (get_or_from_slice_get old.values i y y at) ∙ ap first_number (law y) in
      shown i true lt found ∙ ap (number kind) here

  pub number_same : ((a b : T) → value a ≡ value b → a ≡ b) → (i : ℕ) (y x : T) → i < length old.values
      → slice_get (arrays.marks (length old.values) old.validity) i ≡ Some true → slice_get old.values i ≡ Some y
      → ((y ≡ x) → slot_at (column old) i ≡ number kind (value x)) × (slot_at (column old) i ≡ number kind (value x) → y ≡ x)
  number_same same i y x lt found at =
      let shows = value_shows i y lt found at in (
        λ e. shows ∙ ap (λ (z : T). number kind (value z)) e,
        λ e. same y x (ap number_of (sym shows ∙ e)),
      )
