-- Columns of one value a slot whose slots stand one behind the other.
use Rattle.std.proofs.Common.{◌≡◌, ◌∙◌, ◌<◌, ◌≤◌, ◌+◌, ℕ, zero, suc, List, ◌∷◌, [], ◌++◌, length, Bool, true, false, refl, sym, ap, subst, arith}
use Rattle.std.specs.Prelude.{Option, ◌&&◌, ◌⊎◌, if◌then◌else◌, MatchResult, Result, Ok, Err}
use Rattle.std.proofs.lemmas.Bool.{and_from, false_from_ne_true}
use Rattle.std.proofs.lemmas.List.{length-append}
use mathlib.Core.Logic.{inl, inr}
use Rattle.nested_arrays_sized_builders.specs.nulls.columnar_memory.declared.DataType.{DataType}
use Rattle.nested_arrays_sized_builders.specs.nulls.columnar_memory.declared.Error.{Error}
use Rattle.nested_arrays_sized_builders.specs.nulls.columnar_memory.declared.PhysicalType.{PhysicalType}
use Rattle.nested_arrays_sized_builders.specs.nulls.columnar_memory.Error.{IsOutOfMemory, IsOverflow}
use Rattle.nested_arrays_sized_builders.specs.nulls.columnar_memory.Layouts.{physical_type}
use Rattle.nested_arrays_sized_builders.specs.nulls.columns.FreshColumns.{fresh, mask_of}
use Rattle.nested_arrays_sized_builders.specs.nulls.columns.Kinds.{most_slots}
use Rattle.nested_arrays_sized_builders.specs.nulls.columns.OpenBatch.{fits}
use Rattle.nested_arrays_sized_builders.specs.nulls.columns.Slots.{Slot, null, window}
use Rattle.nested_arrays_sized_builders.specs.nulls.columns.SoundColumns.{has_size, is_sound, is_stored_as, mask_fits}
use Rattle.nested_arrays_sized_builders.specs.nulls.columns.StoredColumns.{Column, Stored, bits, column_type, flat, slot_at, slots, stored_at}
use Rattle.nested_arrays_sized_builders.specs.nulls.columns.StoredColumns.{stored_len, type_layer}
use Rattle.nested_arrays_sized_builders.specs.nulls.flat.ColumnMasks.{column_mask}
use Rattle.nested_arrays_sized_builders.specs.flat_arrays.Flat.{marks}
use Rattle.nested_arrays_sized_builders.specs.flat_arrays.Growth.{with_marks}
use Rattle.nested_arrays_sized_builders.specs.cells.taken.OpenColumns.{Becomes, IsFresh}
use Rattle.nested_arrays_sized_builders.proofs.columns_lemmas.Limits.{fits_length}
use Rattle.nested_arrays_sized_builders.proofs.nulls_lemmas.arrays_lemmas.columns_lemmas.ColumnSizes.{slots_lengths}
use Rattle.nested_arrays_sized_builders.proofs.nulls_lemmas.arrays_lemmas.columns_lemmas.Conditions.{parts_of_3}
use Rattle.nested_arrays_sized_builders.proofs.nulls_lemmas.arrays_lemmas.columns_lemmas.Windows.{window_same}
use Rattle.nested_arrays_sized_builders.proofs.taken_lemmas.FlatSlots.{unchanged}
use Rattle.nested_arrays_dictionary_builders.specs.JoinedColumns.{AddsColumn, AreAlike, AreApart, Joins}
use Rattle.nested_arrays_dictionary_builders.proofs.JoinedMarks.{mark_before, mark_behind, marks_fit_both, mask_of_both}

pub window_joins : (f : ℕ → Slot) (a n m : ℕ) → window f a (n + m) ≡ window f a n ++ window f (a + n) m
window_joins f a zero m =
    let none : zero + m ≡ m = omega arith in
    let at : a ≡ a + zero = omega arith in
    ap (window f a) none ∙ ap (λ (k : ℕ). window f k m) at
window_joins f a (suc n) m =
    let one : suc n + m ≡ suc (n + m) = omega arith in
    let at : a + 1 + n ≡ a + suc n = omega arith in
    ap (window f a) one
    ∙ ap (λ (xs : List Slot). f a ∷ xs) (window_joins f (a + 1) n m ∙ ap (λ (k : ℕ). window f (a + 1) n ++ window f k m) at)

-- How values of a type without children are stored that stand one behind the other, where each is whole and both have room: how many they are,
-- which slots are seen, that soundness stays, and that columns of the type store slots so.
pub record JoinsStored {X : Type 0} (t : DataType) (make : X → Stored) (unmake : Stored → X) (count : X → ℕ) (join : X → X → X)
    (of : List Slot → X) (Whole : X → Type 0) (Room : X → X → Type 0) : Type 0 where
  pub long : (x : X) → Whole x → stored_len (make x) ≡ count x
  pub back : (x : X) → unmake (make x) ≡ x
  pub sized : (x : X) → has_size (type_layer t) (make x) ≡ true
  pub whole : (x y : X) → Whole x → Whole y → Whole (join x y)
  pub both : (x y : X) → Whole x → Whole y → count (join x y) ≡ count x + count y
  pub before : (x y : X) → Whole x → Whole y → (i : ℕ) → i < count x → stored_at (make (join x y)) i ≡ stored_at (make x) i
  pub behind : (x y : X) → Whole x → Whole y → (i : ℕ) → i < count y → stored_at (make (join x y)) (count x + i) ≡ stored_at (make y) i
  pub sound : (x y : X) → Whole x → Whole y → Room x y → is_stored_as (physical_type t) (make x) ≡ true
      → is_stored_as (physical_type t) (make y) ≡ true → is_stored_as (physical_type t) (make (join x y)) ≡ true
  pub stores : (xs : List Slot) → fresh t xs ≡ flat t (mask_of xs) (make (of xs))
  pub of_both : (xs ys : List Slot) → join (of xs) (of ys) ≡ of (xs ++ ys)
  pub room : (xs ys : List Slot) → fits t xs ≡ true → fits t ys ≡ true → length xs + length ys ≤ most_slots → Room (of xs) (of ys)
      → fits t (xs ++ ys) ≡ true

abbrev stored_in : Column → Stored
stored_in (flat t mask stored) = stored
stored_in _ = bits []

module _ {X : Type 0} (t : DataType) (make : X → Stored) (unmake : Stored → X) (count : X → ℕ) (join : X → X → X) (of : List Slot → X)
    (Whole : X → Type 0) (Room : X → X → Type 0) (k : JoinsStored t make unmake count join of Whole Room) where
  windowed : (d : DataType) (mask : Option (List Bool)) (x : X) (n : ℕ) → Whole x → count x ≡ n
      → slots (flat d mask (make x)) ≡ window (slot_at (flat d mask (make x))) 0 n
  windowed d mask x n whole long = ap (window (slot_at (flat d mask (make x))) 0) (k.long x whole ∙ long)

  counted : (d : DataType) (mask : Option (List Bool)) (x : X) → Whole x → length (slots (flat d mask (make x))) ≡ count x
  counted d mask x whole = slots_lengths (flat d mask (make x)) ∙ k.long x whole

  stored_by : (d : DataType) (mask : Option (List Bool)) (x : X) → physical_type d ≡ physical_type t → is_sound (flat d mask (make x)) ≡ true
      → is_stored_as (physical_type t) (make x) ≡ true
  stored_by d mask x same h =
      ap (λ (layout : PhysicalType). is_stored_as layout (make x)) (sym same)
      ∙ (parts_of_3 (is_stored_as (physical_type d) (make x)) (has_size (type_layer d) (make x)) (mask_fits mask (stored_len (make x))) h).0

  -- what a fresh column stores
  module _ (mask : Option (List Bool)) (x : X) (f : IsFresh (flat t mask (make x))) where
    fresh_parts : flat t mask (make x) ≡ flat t (mask_of (slots (flat t mask (make x)))) (make (of (slots (flat t mask (make x)))))
    fresh_parts = f.stored ∙ k.stores (slots (flat t mask (make x)))

    fresh_mask : mask ≡ mask_of (slots (flat t mask (make x)))
    fresh_mask = ap column_mask fresh_parts

    pub fresh_values : x ≡ of (slots (flat t mask (make x)))
    fresh_values =
        sym (k.back x) ∙ ap (λ (c : Column). unmake (stored_in c)) fresh_parts ∙ k.back (of (slots (flat t mask (make x))))

  module _ (u : DataType) (same : physical_type u ≡ physical_type t) (mask more : Option (List Bool)) (x y : X) (whole : Whole x)
      (other_whole : Whole y) (masked : mask_fits mask (count x) ≡ true) (other_masked : mask_fits more (count y) ≡ true) where
    abbrev old : Column
    old = flat t mask (make x)

    abbrev other : Column
    other = flat u more (make y)

    abbrev marked : Option (List Bool)
    marked = with_marks (count x) mask (marks (count y) more)

    abbrev pub new : Column
    new = flat t marked (make (join x y))

    both_slots : slots new ≡ slots old ++ slots other
    both_slots =
        let n = count x in
        let m = count y in
        windowed t marked (join x y) (n + m) (k.whole x y whole other_whole) (k.both x y whole other_whole) ∙ window_joins (slot_at new) 0 n m
        ∙ (λ j. window_same (slot_at new) (slot_at old) 0 0 n (λ i h. first (0 + i) (omega (arith, h))) j
        ++ window_same (slot_at new) (slot_at other) (0 + n) 0 m rest j)
        ∙ (λ j. sym (windowed t mask x n whole refl) j ++ sym (windowed u more y m other_whole refl) j)
      where
        first : (i : ℕ) → i < count x → slot_at new i ≡ slot_at old i
        first i h =
            let mark = mark_before (count x) mask (marks (count y) more) i masked h in
            let own = k.before x y whole other_whole i h in
            λ j. if mark j then own j else null

        second : (i : ℕ) → i < count y → slot_at new (count x + i) ≡ slot_at other i
        second i h =
            let mark = mark_behind (count x) (count y) mask more i masked other_masked h in
            let own = k.behind x y whole other_whole i h in
            λ j. if mark j then own j else null

        rest : (i : ℕ) → i < count y → slot_at new (0 + count x + i) ≡ slot_at other (0 + i)
        rest i h =
            let at : 0 + count x + i ≡ count x + i = omega arith in
            let from : i ≡ 0 + i = omega arith in
            ap (slot_at new) at ∙ second i h ∙ ap (slot_at other) from

    both_sound : Room x y → is_sound old ≡ true → is_sound other ≡ true → is_sound new ≡ true
    both_sound room h g =
        let s = make (join x y) in
        let stored = k.sound x y whole other_whole room (stored_by t mask x refl h) (stored_by u more y same g) in
        let size : stored_len s ≡ count x + count y = k.long (join x y) (k.whole x y whole other_whole) ∙ k.both x y whole other_whole in
        and_from (is_stored_as (physical_type t) s && has_size (type_layer t) s) (mask_fits marked (stored_len s))
        (and_from (is_stored_as (physical_type t) s) (has_size (type_layer t) s) stored (k.sized (join x y)))
        (ap (mask_fits marked) size ∙ marks_fit_both (count x) (count y) mask more masked other_masked)

    both_fresh : Room x y → count x + count y ≤ most_slots → IsFresh old → IsFresh (flat t more (make y)) → IsFresh new
    both_fresh room few f g =
        let xs = slots old in
        let ys = slots (flat t more (make y)) in
        let values : join x y ≡ of (xs ++ ys) = (λ j. join (fresh_values mask x f j) (fresh_values more y g j)) ∙ k.of_both xs ys in
        let masks : marked ≡ mask_of (xs ++ ys) =
        mask_of_both (count x) (count y) mask more xs ys (counted t mask x whole) (counted t more y other_whole) (fresh_mask mask x f)
        (fresh_mask more y g) in
        let stored : new ≡ fresh t (xs ++ ys) = (λ j. flat t (masks j) (make (values j))) ∙ sym (k.stores (xs ++ ys)) in
        let space : Room (of xs) (of ys) =
        subst (λ (z : X). Room z (of ys)) (fresh_values mask x f) (subst (λ (z : X). Room x z) (fresh_values more y g) room) in record {
          stored = stored ∙ ap (fresh t) (sym both_slots);
          fit = ap (fits t) both_slots
              ∙ k.room xs ys f.fit g.fit (omega (arith, few, counted t mask x whole, counted t more y other_whole)) space;
          can = f.can;
        }

    pub both_join : Room x y → count x + count y ≤ most_slots → Joins old other new
    both_join room few = record {
      typed = refl;
      long = sym (slots_lengths new) ∙ ap length both_slots ∙ length-append (slots old) (slots other)
          ∙ (λ j. slots_lengths old j + slots_lengths other j);
      sound = λ h g. (both_sound room h g, both_slots);
      fresh = λ alike. both_fresh room few alike.0 (subst (λ (d : DataType). IsFresh (flat d more (make y))) alike.2 alike.1);
    }

    pub too_many : most_slots < count x + count y → fits t (slots old ++ slots other) ≡ false
    too_many many = false_from_ne_true (fits t (slots old ++ slots other)) (λ fit. omega (
      arith,
      fits_length t (slots old ++ slots other) fit,
      length-append (slots old) (slots other),
      counted t mask x whole,
      counted u more y other_whole,
      many,
    ))

-- what a call does that adds the slots of another column, or changes nothing
pub column_added : {U : Type 0} (before other grown after : Column) (few many : Type 0) (r : Result U Error) → (few → Joins before other grown)
    → (many → AreAlike before other → fits (column_type before) (slots before ++ slots other) ≡ false)
    → MatchResult r (λ _. (after ≡ grown) × few) (λ e. (after ≡ before) × (IsOutOfMemory e ⊎ (IsOverflow e × many)))
    → AddsColumn before other after r
column_added before other grown after few many (Ok u) joins unfit h = subst (λ (c : Column). Joins before other c) (sym h.0) (joins h.1)
column_added before other grown after few many (Err e) joins unfit h =
    (subst (λ (c : Column). Becomes before (slots before) c) (sym h.0) (unchanged before), why h.1)
  where
    why : IsOutOfMemory e ⊎ (IsOverflow e × many) → AreApart before other e
    why (inl memory) = inl memory
    why (inr over) = inr (inl (over.0, unfit over.1))
