-- Columns of one value a slot: one null more, the first slots, and none, where a mask without nulls is let go.
use Rattle.std.proofs.Common.{◌≡◌, ◌∙◌, ◌<◌, ◌≤◌, ◌+◌, ℕ, zero, suc, List, [], ◌∷◌, ◌++◌, length, map, take, replicate, get_or, Bool, true, false}
use Rattle.std.proofs.Common.{not, refl, sym, ap, subst, arith}
use Rattle.std.specs.Prelude.{Option, Some, None, ◌&&◌, ◌⊎◌, if◌then◌else◌, option_map, slice_get, MatchResult, Result, Ok, Err}
use Rattle.std.specs.List.{list_any}
use Rattle.std.proofs.lemmas.Bool.{and_from, and_parts, cases_Bool, eq-eqb, eqb-true}
use Rattle.std.proofs.lemmas.List.{get_or_append_left, get_or_at, get_or-replicate, get_or-take, length-append, length-map, length-replicate}
use Rattle.std.proofs.lemmas.List.{length-take-le, length_push, map-append, take-map}
use Rattle.std.proofs.lemmas.Option.{get_or_from_slice_get}
use mathlib.Core.Logic.{inl, inr}
use Rattle.nested_arrays_builders.specs.arrays.flat.ColumnMasks.{column_mask}
use Rattle.nested_arrays_builders.specs.flat_arrays.Flat as arrays
use Rattle.nested_arrays_builders.specs.flat_arrays.Flat.{Flat, needed_mask, tidied}
use Rattle.nested_arrays_builders.specs.flat_arrays.Growth.{with_marks, with_slots}
use Rattle.nested_arrays_builders.specs.columnar_memory.declared.DataType.{DataType}
use Rattle.nested_arrays_builders.specs.columnar_memory.declared.Error.{Error}
use Rattle.nested_arrays_builders.specs.columnar_memory.Error.{IsOutOfMemory, IsOverflow}
use Rattle.nested_arrays_builders.specs.columnar_memory.Layouts.{physical_type}
use Rattle.nested_arrays_builders.specs.columnar_memory.Results.{OrOutOfMemory}
use Rattle.nested_arrays_builders.specs.columns.FreshColumns.{fresh, is_valid, mask_of}
use Rattle.nested_arrays_builders.specs.columns.Kinds.{most_slots}
use Rattle.nested_arrays_builders.specs.columns.OpenBatch.{fits}
use Rattle.nested_arrays_builders.specs.columns.Slots.{Slot, null, window}
use Rattle.nested_arrays_builders.specs.columns.SoundColumns.{has_size, is_sound, is_stored_as, mask_fits}
use Rattle.nested_arrays_builders.specs.columns.StoredColumns.{Column, Stored, bits, column_type, flat, is_valid_at, slot_at, slots, stored_at}
use Rattle.nested_arrays_builders.specs.columns.StoredColumns.{stored_len, type_layer}
use Rattle.nested_arrays_builders.specs.columns.OpenParts.{marks_of}
use Rattle.nested_arrays_builders.specs.generic.access.Nulls.{is_null_at}
use Rattle.nested_arrays_builders.proofs.columns_lemmas.ColumnSizes.{slots_lengths}
use Rattle.nested_arrays_builders.proofs.columns_lemmas.Windows.{window_same}
use Rattle.nested_arrays_builders.proofs.columns_lemmas.Limits.{first_ones_fit, fits_length}
use Rattle.nested_arrays_builders.proofs.columns_lemmas.Masks.{all_valid, cut_stays_away, marks_away, marks_there, mask_away, mask_by_count}
use Rattle.nested_arrays_builders.proofs.columns_lemmas.Masks.{mask_comes, mask_cut, mask_grows, mask_is, mask_one_more, mask_there}
use Rattle.nested_arrays_builder_arrays.specs.FlatBuilders.{AddsFlatNull}
use Rattle.nested_arrays_builder_arrays.specs.OpenColumns.{AddsNull, Becomes, IsEmptied, IsFresh, KeepsFirst, TakesColumn, slots_and}

-- ---- windows

pub window_more : (f : ℕ → Slot) (a n : ℕ) → window f a (suc n) ≡ window f a n ++ f (a + n) ∷ []
window_more f a zero = ap (λ (k : ℕ). f k ∷ []) (omega arith)
window_more f a (suc n) =
    let next : a + 1 + n ≡ a + suc n = omega arith in
    ap (λ (xs : List Slot). f a ∷ xs) (window_more f (a + 1) n ∙ ap (λ (k : ℕ). window f (a + 1) n ++ f k ∷ []) next)

window_first : (f : ℕ → Slot) (a m n : ℕ) → n ≤ m → take n (window f a m) ≡ window f a n
window_first f a m zero h = refl
window_first f a zero (suc n) h = absurd (omega arith)
window_first f a (suc m) (suc n) h = ap (λ (xs : List Slot). f a ∷ xs) (window_first f (a + 1) m n (omega arith))

-- ---- masks

-- the marks of a mask with the mark of a null behind
pub null_marked : (n : ℕ) (mask : Option (List Bool)) → mask_fits mask n ≡ true
    → is_valid_at (with_marks n mask (false ∷ [])) n ≡ false
null_marked n None h = get_or_at (replicate n true) false [] false n (length-replicate n true)
null_marked n (Some marks) h = get_or_at marks false [] false n (eqb-true (length marks) n h)

marks_before : (n : ℕ) (mask : Option (List Bool)) (i : ℕ) → mask_fits mask n ≡ true → i < n
    → is_valid_at (with_marks n mask (false ∷ [])) i ≡ is_valid_at mask i
marks_before n None i h lt =
    let long = length-replicate n true in
    get_or_append_left (replicate n true) (false ∷ []) false i (omega (arith, lt, long)) ∙ get_or-replicate n i true false lt
marks_before n (Some marks) i h lt = get_or_append_left marks (false ∷ []) false i (omega (arith, lt, eqb-true (length marks) n h))

marks_more : (n : ℕ) (mask : Option (List Bool)) → mask_fits mask n ≡ true → mask_fits (with_marks n mask (false ∷ [])) (n + 1) ≡ true
marks_more n None h =
    eq-eqb (length (replicate n true ++ false ∷ [])) (n + 1) (length_push (replicate n true) false ∙ ap (λ (k : ℕ). k + 1) (length-replicate n true))
marks_more n (Some marks) h =
    eq-eqb (length (marks ++ false ∷ [])) (n + 1) (length_push marks false ∙ ap (λ (k : ℕ). k + 1) (eqb-true (length marks) n h))

-- the mask of slots and a null behind them
mask_with_null : (n : ℕ) (mask : Option (List Bool)) (xs : List Slot) → length xs ≡ n → mask ≡ mask_of xs
    → with_marks n mask (false ∷ []) ≡ mask_of (xs ++ null ∷ [])
mask_with_null n None xs long is =
    let none = marks_away (marks_of xs) (sym (is ∙ mask_is xs)) in
    let count : length (marks_of xs) ≡ n = length-map xs is_valid ∙ long in
    sym (
    mask_one_more xs null ∙ mask_comes (marks_of xs) none
    ∙ ap (λ (k : ℕ). Some (replicate k true ++ false ∷ [])) count
    )
mask_with_null n (Some marks) xs long is =
    let there = marks_there (marks_of xs) marks (sym (is ∙ mask_is xs)) in
    sym (
    mask_one_more xs null ∙ mask_grows (marks_of xs) false there.0
    ∙ ap (λ (ms : List Bool). Some (ms ++ false ∷ [])) (sym there.1)
    )

-- the first marks of a mask
abbrev pub first_marks : ℕ → Option (List Bool) → Option (List Bool)
first_marks n mask = option_map (take n) mask

-- where no mark is false, no mask says the same
needed_says : (marks : List Bool) (i : ℕ) → i < length marks → is_valid_at (needed_mask (Some marks)) i ≡ get_or marks i false
needed_says marks i lt =
    ap (λ (mask : Option (List Bool)). is_valid_at mask i) (sym (mask_by_count marks))
    ∙ elim (cases_Bool (list_any not marks)) [
      | inl some ↦ ap (λ (mask : Option (List Bool)). is_valid_at mask i) (mask_there marks some)
      | inr none ↦
          ap (λ (mask : Option (List Bool)). is_valid_at mask i) (mask_away marks none)
          ∙ sym (ap (λ (ms : List Bool). get_or ms i false) (all_valid marks none) ∙ get_or-replicate (length marks) i true false lt)
    ]

needed_fits : (marks : List Bool) (n : ℕ) → length marks ≡ n → mask_fits (needed_mask (Some marks)) n ≡ true
needed_fits marks n long =
    ap (λ (mask : Option (List Bool)). mask_fits mask n) (sym (mask_by_count marks))
    ∙ elim (cases_Bool (list_any not marks)) [
      | inl some ↦ ap (λ (mask : Option (List Bool)). mask_fits mask n) (mask_there marks some) ∙ eq-eqb (length marks) n long
      | inr none ↦ ap (λ (mask : Option (List Bool)). mask_fits mask n) (mask_away marks none)
    ]

-- the needed ones of the first marks say the same
first_marked : (n m : ℕ) (mask : Option (List Bool)) (i : ℕ) → mask_fits mask m ≡ true → n ≤ m → i < n
    → is_valid_at (needed_mask (first_marks n mask)) i ≡ is_valid_at mask i
first_marked n m None i h le lt = refl
first_marked n m (Some marks) i h le lt =
    let long = length-take-le n marks (omega (arith, le, eqb-true (length marks) m h)) in
    needed_says (take n marks) i (omega (arith, long, lt)) ∙ get_or-take n marks i false lt

first_fit : (n m : ℕ) (mask : Option (List Bool)) → mask_fits mask m ≡ true → n ≤ m → mask_fits (needed_mask (first_marks n mask)) n ≡ true
first_fit n m None h le = refl
first_fit n m (Some marks) h le =
    needed_fits (take n marks) n (length-take-le n marks (omega (arith, le, eqb-true (length marks) m h)))

-- the mask of the first slots
mask_of_first : (n : ℕ) (mask : Option (List Bool)) (xs : List Slot) → mask ≡ mask_of xs → needed_mask (first_marks n mask) ≡ mask_of (take n xs)
mask_of_first n None xs is =
    sym (mask_cut n xs ∙ cut_stays_away n (marks_of xs) (marks_away (marks_of xs) (sym (is ∙ mask_is xs))))
mask_of_first n (Some marks) xs is =
    let there = marks_there (marks_of xs) marks (sym (is ∙ mask_is xs)) in
    ap (λ (ms : List Bool). needed_mask (Some (take n ms))) there.1 ∙ sym (mask_cut n xs ∙ mask_by_count (take n (marks_of xs)))

-- whether a slot is null, by its mark
pub null_by_mark : (t : DataType) (n : ℕ) (mask : Option (List Bool)) (stored : Stored) (i : ℕ) (b : Bool) → i < n
    → slice_get (arrays.marks n mask) i ≡ Some b → b ≡ not (is_null_at (flat t mask stored) i)
null_by_mark t n mask stored i b lt found =
    sym (twice b) ∙ ap (λ (bit : Bool). not (not bit)) (sym (marked n mask lt ∙ get_or_from_slice_get (arrays.marks n mask) i b false found))
  where
    twice : (b : Bool) → not (not b) ≡ b
    twice true = refl
    twice false = refl

    marked : (n : ℕ) (mask : Option (List Bool)) → i < n → is_valid_at mask i ≡ get_or (arrays.marks n mask) i false
    marked n None h = sym (get_or-replicate n i true false h)
    marked n (Some given) h = refl

-- ---- values without children

-- How values of a type without children are stored: how many there are, what one more for a null and the first ones are, that soundness stays, and
-- that columns of the type store slots so.
pub record Keeps {X : Type 0} (t : DataType) (make : X → Stored) (unmake : Stored → X) (count : X → ℕ) (more : X → X) (firsts : ℕ → X → X)
    (of : List Slot → X) : Type 0 where
  pub long : (x : X) → stored_len (make x) ≡ count x
  pub back : (x : X) → unmake (make x) ≡ x
  pub sized : (x : X) → has_size (type_layer t) (make x) ≡ true
  pub one_more : (x : X) → count (more x) ≡ count x + 1
  pub same_before : (x : X) (i : ℕ) → i < count x → stored_at (make (more x)) i ≡ stored_at (make x) i
  pub more_sound : (x : X) → is_stored_as (physical_type t) (make x) ≡ true → is_stored_as (physical_type t) (make (more x)) ≡ true
  pub as_many : (x : X) (n : ℕ) → n ≤ count x → count (firsts n x) ≡ n
  pub same_among : (x : X) (n i : ℕ) → n ≤ count x → i < n → stored_at (make (firsts n x)) i ≡ stored_at (make x) i
  pub first_sound : (x : X) (n : ℕ) → n ≤ count x → is_stored_as (physical_type t) (make x) ≡ true
      → is_stored_as (physical_type t) (make (firsts n x)) ≡ true
  pub stores : (xs : List Slot) → fresh t xs ≡ flat t (mask_of xs) (make (of xs))
  pub of_more : (xs : List Slot) → more (of xs) ≡ of (xs ++ null ∷ [])
  pub of_first : (n : ℕ) (xs : List Slot) → firsts n (of xs) ≡ of (take n xs)
  pub room : (xs : List Slot) → fits t xs ≡ true → length xs < most_slots → fits t (xs ++ null ∷ []) ≡ true

abbrev stored_in : Column → Stored
stored_in (flat t mask stored) = stored
stored_in _ = bits []

-- more slots than a column may have do not fit
too_many : (t : DataType) (xs : List Slot) (s : Slot) → most_slots ≤ length xs → fits t (xs ++ s ∷ []) ≡ false
too_many t xs s many =
    elim (cases_Bool (fits t (xs ++ s ∷ []))) [
      | inl fit ↦ absurd (omega (arith, many, length-append xs (s ∷ []), fits_length t (xs ++ s ∷ []) fit))
      | inr unfit ↦ unfit
    ]

-- a column in place of itself
pub unchanged : (c : Column) → Becomes c (slots c) c
unchanged c = record { typed = refl; long = sym (slots_lengths c); sound = λ h. (h, refl); fresh = λ f. f }

module _ {X : Type 0} (t : DataType) (make : X → Stored) (unmake : Stored → X) (count : X → ℕ) (more : X → X) (firsts : ℕ → X → X)
    (of : List Slot → X) (k : Keeps t make unmake count more firsts of) where
  abbrev col : Option (List Bool) → X → Column
  col mask x = flat t mask (make x)

  windowed : (mask : Option (List Bool)) (x : X) (n : ℕ) → count x ≡ n → slots (col mask x) ≡ window (slot_at (col mask x)) 0 n
  windowed mask x n long = ap (window (slot_at (col mask x)) 0) (k.long x ∙ long)

  sound_by : (mask : Option (List Bool)) (x : X) → is_stored_as (physical_type t) (make x) ≡ true → mask_fits mask (count x) ≡ true
      → is_sound (col mask x) ≡ true
  sound_by mask x stored masked =
      and_from (is_stored_as (physical_type t) (make x) && has_size (type_layer t) (make x)) (mask_fits mask (stored_len (make x)))
      (and_from (is_stored_as (physical_type t) (make x)) (has_size (type_layer t) (make x)) stored (k.sized x))
      (ap (mask_fits mask) (k.long x) ∙ masked)

  stored_by : (mask : Option (List Bool)) (x : X) → is_sound (col mask x) ≡ true → is_stored_as (physical_type t) (make x) ≡ true
  stored_by mask x sound =
      (and_parts (is_stored_as (physical_type t) (make x)) (has_size (type_layer t) (make x))
      (and_parts (is_stored_as (physical_type t) (make x) && has_size (type_layer t) (make x)) (mask_fits mask (stored_len (make x))) sound).0).0

  -- what a fresh column stores
  module _ (mask : Option (List Bool)) (x : X) (f : IsFresh (col mask x)) where
    fresh_parts : col mask x ≡ col (mask_of (slots (col mask x))) (of (slots (col mask x)))
    fresh_parts = f.stored ∙ k.stores (slots (col mask x))

    fresh_mask : mask ≡ mask_of (slots (col mask x))
    fresh_mask = ap column_mask fresh_parts

    fresh_values : x ≡ of (slots (col mask x))
    fresh_values = sym (k.back x) ∙ ap (λ (c : Column). unmake (stored_in c)) fresh_parts ∙ k.back (of (slots (col mask x)))

  module _ (mask : Option (List Bool)) (x : X) (masked : mask_fits mask (count x) ≡ true) where
    abbrev old : Column
    old = col mask x

    counted : length (slots old) ≡ count x
    counted = slots_lengths old ∙ k.long x

    -- ---- a null more

    abbrev marked : Option (List Bool)
    marked = with_marks (count x) mask (false ∷ [])

    abbrev new : Column
    new = col marked (more x)

    more_slots : slots new ≡ slots_and old null
    more_slots =
        let n = count x in
        let one : count (more x) ≡ suc n = k.one_more x ∙ omega arith in
        let from : 0 + n ≡ n = omega arith in
        let last : slot_at new (0 + n) ≡ null =
        ap (slot_at new) from ∙ ap (λ (b : Bool). if b then stored_at (make (more x)) n else null) (null_marked n mask masked) in
        windowed marked (more x) (suc n) one ∙ window_more (slot_at new) 0 n
        ∙ (λ j. window_same (slot_at new) (slot_at old) 0 0 n (λ i h. before (0 + i) (omega (arith, h))) j ++ last j ∷ [])
        ∙ ap (λ (xs : List Slot). xs ++ null ∷ []) (sym (windowed mask x n refl))
      where
        before : (i : ℕ) → i < count x → slot_at new i ≡ slot_at old i
        before i h =
            let mark = marks_before (count x) mask i masked h in
            let own = k.same_before x i h in
            λ j. if mark j then own j else null

    more_marked : mask_fits marked (count (more x)) ≡ true
    more_marked = ap (mask_fits marked) (k.one_more x) ∙ marks_more (count x) mask masked

    more_fresh : count x < most_slots → IsFresh old → IsFresh new
    more_fresh few f =
        let xs = slots old in
        let values : more x ≡ of (xs ++ null ∷ []) = ap more (fresh_values mask x f) ∙ k.of_more xs in
        let masks : marked ≡ mask_of (xs ++ null ∷ []) = mask_with_null (count x) mask xs counted (fresh_mask mask x f) in
        let stored : new ≡ fresh t (xs ++ null ∷ []) = (λ j. flat t (masks j) (make (values j))) ∙ sym (k.stores (xs ++ null ∷ [])) in record {
          stored = stored ∙ ap (fresh t) (sym more_slots);
          fit = ap (fits t) more_slots ∙ k.room xs f.fit (omega (arith, few, counted));
          can = f.can;
        }

    pub null_added : count x < most_slots → Becomes old (slots_and old null) new
    null_added few = record {
      typed = refl;
      long = sym (slots_lengths new) ∙ ap length more_slots;
      sound = λ h. (sound_by marked (more x) (k.more_sound x (stored_by mask x h)) more_marked, more_slots);
      fresh = more_fresh few;
    }

    pub null_unfit : most_slots ≤ count x → fits t (slots_and old null) ≡ false
    null_unfit many = too_many t (slots old) null (omega (arith, many, counted))

    -- ---- the first slots

    module _ (n : ℕ) (le : n ≤ count x) where
      abbrev first_mask : Option (List Bool)
      first_mask = needed_mask (first_marks n mask)

      abbrev first : Column
      first = col first_mask (firsts n x)

      first_slots : slots first ≡ take n (slots old)
      first_slots =
          windowed first_mask (firsts n x) n (k.as_many x n le)
          ∙ window_same (slot_at first) (slot_at old) 0 0 n (λ i h. here (0 + i) (omega (arith, h)))
          ∙ sym (ap (take n) (windowed mask x (count x) refl) ∙ window_first (slot_at old) 0 (count x) n le)
        where
          here : (i : ℕ) → i < n → slot_at first i ≡ slot_at old i
          here i h =
              let mark = first_marked n (count x) mask i masked le h in
              let own = k.same_among x n i le h in
              λ j. if mark j then own j else null

      first_masked : mask_fits first_mask (count (firsts n x)) ≡ true
      first_masked = ap (mask_fits first_mask) (k.as_many x n le) ∙ first_fit n (count x) mask masked le

      first_fresh : IsFresh old → IsFresh first
      first_fresh f =
          let xs = slots old in
          let values : firsts n x ≡ of (take n xs) = ap (firsts n) (fresh_values mask x f) ∙ k.of_first n xs in
          let masks : first_mask ≡ mask_of (take n xs) = mask_of_first n mask xs (fresh_mask mask x f) in
          let stored : first ≡ fresh t (take n xs) = (λ j. flat t (masks j) (make (values j))) ∙ sym (k.stores (take n xs)) in record {
            stored = stored ∙ ap (fresh t) (sym first_slots);
            fit = ap (fits t) first_slots ∙ first_ones_fit t n xs f.fit;
            can = f.can;
          }

      pub first_kept : KeepsFirst old n first
      first_kept = record {
        typed = refl;
        long = sym (slots_lengths first) ∙ ap length first_slots;
        sound = λ h. (sound_by first_mask (firsts n x) (k.first_sound x n le (stored_by mask x h)) first_masked, first_slots);
        fresh = first_fresh;
      }

  -- ---- none

  pub none_left : (mask : Option (List Bool)) (x : X) → count (of []) ≡ 0 → IsEmptied (col mask x) (col None (of []))
  none_left mask x none = record { typed = refl; long = k.long (of []) ∙ none; begun = λ _. sym (k.stores []) }

-- ---- one value a slot

-- How values are stored, one a slot: which slot is seen at a place, and that columns of these types store slots so.
pub record KeepsEach {V : Type 0} (t : DataType) (make : List V → Stored) (unmake : Stored → List V) (shown : V → Slot) (blank : V)
    (kept : Slot → V) : Type 0 where
  pub long : (vs : List V) → stored_len (make vs) ≡ length vs
  pub seen : (vs : List V) (i : ℕ) → stored_at (make vs) i ≡ shown (get_or vs i blank)
  pub back : (vs : List V) → unmake (make vs) ≡ vs
  pub more : (vs : List V) → is_stored_as (physical_type t) (make vs) ≡ true → is_stored_as (physical_type t) (make (vs ++ kept null ∷ [])) ≡ true
  pub first : (vs : List V) (n : ℕ) → is_stored_as (physical_type t) (make vs) ≡ true → is_stored_as (physical_type t) (make (take n vs)) ≡ true
  pub sized : (vs : List V) → has_size (type_layer t) (make vs) ≡ true
  pub stores : (xs : List Slot) → fresh t xs ≡ flat t (mask_of xs) (make (map kept xs))
  pub room : (xs : List Slot) → fits t xs ≡ true → length xs < most_slots → fits t (xs ++ null ∷ []) ≡ true

-- they are values of a type without children
pub each_kept : {V : Type 0} (t : DataType) (make : List V → Stored) (unmake : Stored → List V) (shown : V → Slot) (blank : V) (kept : Slot → V)
    → KeepsEach t make unmake shown blank kept → Keeps t make unmake length (λ (vs : List V). vs ++ kept null ∷ []) take (map kept)
each_kept {V} t make unmake shown blank kept k = record {
  long = k.long;
  back = k.back;
  sized = k.sized;
  one_more = λ vs. length_push vs (kept null);
  same_before = λ vs i h.
      k.seen (vs ++ kept null ∷ []) i ∙ ap shown (get_or_append_left vs (kept null ∷ []) blank i h) ∙ sym (k.seen vs i);
  more_sound = k.more;
  as_many = λ vs n le. length-take-le n vs le;
  same_among = λ vs n i le h. k.seen (take n vs) i ∙ ap shown (get_or-take n vs i blank h) ∙ sym (k.seen vs i);
  first_sound = λ vs n le h. k.first vs n h;
  stores = k.stores;
  of_more = λ xs. sym (map-append kept xs (null ∷ []));
  of_first = λ n xs. take-map kept n xs;
  room = k.room;
}

-- what is taken out, of a column that is left empty
pub taken : {A : Type 0} (before after : Column) (content : A → Column) (r : Result A Error) → IsEmptied before after
    → OrOutOfMemory r (λ (a : A). (content a ≡ before) × (is_sound (content a) ≡ true)) → TakesColumn before after content r
taken before after content (Ok a) empty h = (empty, (h.0, ap is_sound (sym h.0) ∙ h.1))
taken before after content (Err e) empty memory = (empty, inl memory)

-- a null that is pushed where there is room
pub pushed_null : {U : Type 0} (before grown after : Column) (few many : Type 0) (r : Result U Error)
    → (few → Becomes before (slots_and before null) grown) → (many → fits (column_type before) (slots_and before null) ≡ false)
    → MatchResult r (λ _. (after ≡ grown) × few) (λ e. (after ≡ before) × (IsOutOfMemory e ⊎ (IsOverflow e × many))) → AddsNull before after r
pushed_null before grown after few many (Ok u) becomes unfit h =
    subst (λ (c : Column). Becomes before (slots_and before null) c) (sym h.0) (becomes h.1)
pushed_null before grown after few many (Err e) becomes unfit h =
    (subst (λ (c : Column). Becomes before (slots before) c) (sym h.0) (unchanged before), why h.1)
  where
    why : IsOutOfMemory e ⊎ (IsOverflow e × many)
        → IsOutOfMemory e ⊎ (IsOverflow e × (IsFresh before → fits (column_type before) (slots_and before null) ≡ false))
    why (inl memory) = inl memory
    why (inr over) = inr (over.0, λ _. unfit over.1)

-- ---- what a builder of flat arrays does to its column

-- What becomes of the column of a flat array with a null more, of which the first slots are kept, or none is left. A null stores a value that is
-- a zero.
pub record FlatLaws {T : Type 0} (column : Flat T → Column) (is_zero : T → Type 0) (before : Flat T) : Type 0 where
  pub added : (blank : T) → is_zero blank → length before.values < most_slots
      → Becomes (column before) (slots_and (column before) null) (column (with_slots blank before (None ∷ [])))
  pub full : most_slots ≤ length before.values → fits (column_type (column before)) (slots_and (column before) null) ≡ false
  pub first : (n : ℕ) → n ≤ length before.values → KeepsFirst (column before) n (column (tidied (arrays.cut before 0 n)))
  pub none : IsEmptied (column before) (column (arrays.flat before.data_type [] None))

module _ {T : Type 0} {column : Flat T → Column} {is_zero : T → Type 0} {before : Flat T} (laws : FlatLaws column is_zero before) where
  pub law_of_push : {U : Type 0} (blank : T) (after : Flat T) (r : Result U Error) → is_zero blank → AddsFlatNull blank before after r
      → AddsNull (column before) (column after) r
  law_of_push blank after r is h =
      pushed_null (column before) (column (with_slots blank before (None ∷ []))) (column after) (length before.values < most_slots)
      (most_slots ≤ length before.values) r (laws.added blank is) laws.full (as_columns r h)
    where
      as_columns : {U : Type 0} (r : Result U Error) → AddsFlatNull blank before after r → MatchResult r
          (λ _. (column after ≡ column (with_slots blank before (None ∷ []))) × (length before.values < most_slots))
          (λ e. (column after ≡ column before) × (IsOutOfMemory e ⊎ (IsOverflow e × (most_slots ≤ length before.values))))
      as_columns (Ok u) h = (ap column h.0, h.1)
      as_columns (Err e) h = (ap column h.0, h.1)

  pub law_of_cut : (after : Flat T) (n : ℕ) → n ≤ length before.values → after ≡ tidied (arrays.cut before 0 n)
      → KeepsFirst (column before) n (column after)
  law_of_cut after n le is = subst (λ (a : Flat T). KeepsFirst (column before) n (column a)) (sym is) (laws.first n le)

  pub law_of_taking : {A : Type 0} (after : Flat T) (content : A → Column) (r : Result A Error) → after ≡ arrays.flat before.data_type [] None
      → OrOutOfMemory r (λ (a : A). (content a ≡ column before) × (is_sound (content a) ≡ true))
      → TakesColumn (column before) (column after) content r
  law_of_taking after content r is h =
      taken (column before) (column after) content r (subst (λ (a : Flat T). IsEmptied (column before) (column a)) (sym is) laws.none) h
