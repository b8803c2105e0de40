-- Columns of booleans and of numbers of a kind whose slots stand one behind the other.
use Rattle.std.proofs.Common.{◌≡◌, ◌∙◌, ◌≤◌, ◌<◌, ◌+◌, ℕ, ℤ, pos, List, [], ◌++◌, length, map, get_or, Bool, true, false, refl, sym, ap, subst, arith}
use Rattle.std.specs.Prelude.{◌&&◌, ◌==◌, ◌⊎◌, MatchResult, Result, Ok, Err}
use Rattle.std.specs.List.{list_all}
use Rattle.std.proofs.lemmas.Bool.{and_from, and_parts, le-leb}
use Rattle.std.proofs.lemmas.List.{get_or-append-add, get_or_append_left, length-append, length-map, map-append}
use Rattle.std.proofs.lemmas.List.Folds.{list_all-append}
use mathlib.Core.Logic.{inl, inr}
use Rattle.nested_arrays_sized_builders.specs.nulls.columnar_memory.declared.DataType.{DataType}
use Rattle.nested_arrays_sized_builders.specs.nulls.columnar_memory.declared.DataType.TheOpen as layer
use Rattle.nested_arrays_sized_builders.specs.nulls.columnar_memory.declared.Error.{Error}
use Rattle.nested_arrays_sized_builders.specs.nulls.columnar_memory.declared.PhysicalType.{PhysicalType}
use Rattle.nested_arrays_sized_builders.specs.nulls.columnar_memory.declared.PhysicalType.TheVariants as physical
use Rattle.nested_arrays_sized_builders.specs.nulls.columnar_memory.declared.PrimitiveType.{PrimitiveType}
use Rattle.nested_arrays_sized_builders.specs.nulls.columnar_memory.declared.PrimitiveType.TheVariants as kinds
use Rattle.nested_arrays_sized_builders.specs.nulls.columnar_memory.Error.{IsOutOfMemory, IsOverflow}
use Rattle.nested_arrays_sized_builders.specs.nulls.columnar_memory.Layouts.{physical_type}
use Rattle.nested_arrays_sized_builders.specs.nulls.columnar_memory.Numbers.{Numbers, first_number}
use Rattle.nested_arrays_sized_builders.specs.nulls.columns.Cells.{is_truth}
use Rattle.nested_arrays_sized_builders.specs.nulls.columns.FreshColumns.{is_true, mask_of, number_of, numbers_as}
use Rattle.nested_arrays_sized_builders.specs.nulls.columns.FreshColumns as fresh
use Rattle.nested_arrays_sized_builders.specs.nulls.columns.Kinds.{in_kind, is_signed, most_slots, numbers_of_kind, same_kind}
use Rattle.nested_arrays_sized_builders.specs.nulls.columns.OpenBatch.{fits, is_length}
use Rattle.nested_arrays_sized_builders.specs.nulls.columns.Slots.{Slot, number, truth}
use Rattle.nested_arrays_sized_builders.specs.nulls.columns.SoundColumns.{has_size, is_stored_as, mask_fits}
use Rattle.nested_arrays_sized_builders.specs.nulls.columns.StoredColumns.{Column, Stored, bits, column_type, flat, numbers, pair_slot, pairs, slots}
use Rattle.nested_arrays_sized_builders.specs.nulls.columns.StoredColumns.{stored_at, stored_len, triple_slot, triples, type_layer}
use Rattle.nested_arrays_sized_builders.specs.nulls.flat.FlatColumns.{boolean_column, primitive_column, stored_numbers}
use Rattle.nested_arrays_sized_builders.specs.nulls.flat.FlatColumns as flats
use Rattle.nested_arrays_sized_builders.specs.flat_arrays.Flat.{Flat, IsFlat, marks, marks_of}
use Rattle.nested_arrays_sized_builders.specs.flat_arrays.Growth.{grown, with_marks}
use Rattle.nested_arrays_sized_builders.specs.cells.taken.builders.columns.OpenParts.{is_of_kind}
use Rattle.nested_arrays_sized_builders.proofs.columns_lemmas.Fits.{fits_booleans, fits_primitive}
use Rattle.nested_arrays_sized_builders.proofs.columns_lemmas.LayerParts.{fresh_booleans, fresh_primitive}
use Rattle.nested_arrays_sized_builders.proofs.nulls_lemmas.arrays_lemmas.columns_lemmas.Conditions.{parts_of_3}
use Rattle.nested_arrays_sized_builders.proofs.nulls_lemmas.arrays_lemmas.columns_lemmas.FreshLengths.{Layer}
use Rattle.nested_arrays_sized_builders.proofs.values_lemmas.parts_lemmas.FlatLayers.{at_layout, boolean_layer}
use Rattle.nested_arrays_dictionary_builders.specs.JoinedArrays.{JoinsFlat}
use Rattle.nested_arrays_dictionary_builders.specs.JoinedColumns.{AddsColumn, Joins}
use Rattle.nested_arrays_dictionary_builders.proofs.JoinedSlots.{JoinsStored, both_join, column_added, too_many}
use Rattle.nested_arrays_dictionary_builders.proofs.NumberItems.{fits_mask}

-- ---- one value a slot

-- How values are stored, one a slot: which slot is seen at a place, that those of two columns are sound together, which slots fit, and that columns
-- of the type store slots so.
record JoinsEach {V : Type 0} (t : DataType) (make : List V → Stored) (unmake : Stored → List V) (shown : V → Slot) (blank : V)
    (kept : Slot → V) (test : Slot → Bool) : Type 0 where
  long : (vs : List V) → stored_len (make vs) ≡ length vs
  seen : (vs : List V) (i : ℕ) → stored_at (make vs) i ≡ shown (get_or vs i blank)
  back : (vs : List V) → unmake (make vs) ≡ vs
  sized : (vs : List V) → has_size (type_layer t) (make vs) ≡ true
  sound : (vs ws : List V) → is_stored_as (physical_type t) (make vs) ≡ true → is_stored_as (physical_type t) (make ws) ≡ true
      → is_stored_as (physical_type t) (make (vs ++ ws)) ≡ true
  stores : (xs : List Slot) → fresh.fresh t xs ≡ flat t (mask_of xs) (make (map kept xs))
  room : (xs : List Slot) → fits t xs ≡ (list_all test xs && is_length xs)

-- values of which each passes a test
pub all_both : {A : Type 0} (test : A → Bool) (vs ws : List A) → list_all test vs ≡ true → list_all test ws ≡ true → list_all test (vs ++ ws) ≡ true
all_both test vs ws h g = list_all-append test vs ws ∙ and_from (list_all test vs) (list_all test ws) h g

-- slots that fit by themselves and by their number
pub both_fit : (t : DataType) (test : Slot → Bool) → ((xs : List Slot) → fits t xs ≡ (list_all test xs && is_length xs)) → (xs ys : List Slot)
    → fits t xs ≡ true → fits t ys ≡ true → length xs + length ys ≤ most_slots → fits t (xs ++ ys) ≡ true
both_fit t test is xs ys h g few =
    let own = and_parts (list_all test xs) (is_length xs) (sym (is xs) ∙ h) in
    let other = and_parts (list_all test ys) (is_length ys) (sym (is ys) ∙ g) in
    is (xs ++ ys)
    ∙ and_from (list_all test (xs ++ ys)) (is_length (xs ++ ys)) (all_both test xs ys own.0 other.0)
    (le-leb (length (xs ++ ys)) most_slots (omega (arith, few, length-append xs ys)))

each_joins : {V : Type 0} (t : DataType) (make : List V → Stored) (unmake : Stored → List V) (shown : V → Slot) (blank : V) (kept : Slot → V)
    (test : Slot → Bool) → JoinsEach t make unmake shown blank kept test
    → JoinsStored t make unmake length (λ (vs ws : List V). vs ++ ws) (map kept) (λ _. Unit {0}) (λ _ _. Unit {0})
each_joins {V} t make unmake shown blank kept test k = record {
  long = λ vs whole. k.long vs;
  back = k.back;
  sized = k.sized;
  whole = λ vs ws whole other. tt;
  both = λ vs ws whole other. length-append vs ws;
  before = λ vs ws whole other i h. k.seen (vs ++ ws) i ∙ ap shown (get_or_append_left vs ws blank i h) ∙ sym (k.seen vs i);
  behind = λ vs ws whole other i h.
      k.seen (vs ++ ws) (length vs + i) ∙ ap shown (get_or-append-add vs ws i blank) ∙ sym (k.seen ws i);
  sound = λ vs ws whole other room. k.sound vs ws;
  stores = k.stores;
  of_both = λ xs ys. sym (map-append kept xs ys);
  room = λ xs ys h g few room. both_fit t test k.room xs ys h g few;
}

-- ---- flat arrays

-- a column in place of another, each as it is stored
joins_as : (a b c d e f : Column) → a ≡ b → c ≡ d → e ≡ f → Joins a c e → Joins b d f
joins_as a b c d e f first second third h =
    subst (λ (x : Column). Joins b d x) third
    (subst (λ (x : Column). Joins b x e) second (subst (λ (x : Column). Joins x c e) first h))

module _ {T V : Type 0} (layout : PhysicalType) (column : Flat T → Column) (old other : Flat T) (whole : IsFlat layout old)
    (other_whole : IsFlat layout other) (make : List V → Stored) (unmake : Stored → List V) (shown : V → Slot) (blank : V) (kept : Slot → V)
    (test : Slot → Bool) (each : JoinsEach old.data_type make unmake shown blank kept test) (values_in : List T → List V)
    (is : (a : Flat T) → column a ≡ flat a.data_type a.validity (make (values_in a.values)))
    (joins : (ts us : List T) → values_in (ts ++ us) ≡ values_in ts ++ values_in us)
    (many : (ts : List T) → length (values_in ts) ≡ length ts) where
  abbrev t : DataType
  t = old.data_type

  abbrev join : List V → List V → List V
  join vs ws = vs ++ ws

  abbrev grown_to : Flat T
  grown_to = grown old other.values (marks_of other)

  k : JoinsStored old.data_type make unmake length join (map kept) (λ _. Unit {0}) (λ _ _. Unit {0})
  k = each_joins old.data_type make unmake shown blank kept test each

  same : physical_type other.data_type ≡ physical_type old.data_type
  same = other_whole.fits ∙ sym whole.fits

  masked : mask_fits old.validity (length (values_in old.values)) ≡ true
  masked = ap (mask_fits old.validity) (many old.values) ∙ fits_mask old.validity (length old.values) whole.masked

  other_masked : mask_fits other.validity (length (values_in other.values)) ≡ true
  other_masked = ap (mask_fits other.validity) (many other.values) ∙ fits_mask other.validity (length other.values) other_whole.masked

  grown_is : flat t (with_marks (length (values_in old.values)) old.validity (marks (length (values_in other.values)) other.validity))
      (make (values_in old.values ++ values_in other.values)) ≡ column grown_to
  grown_is =
      (λ j. flat t (with_marks (many old.values j) old.validity (marks (many other.values j) other.validity))
      (make (sym (joins old.values other.values) j)))
      ∙ sym (is grown_to)

  all_joined : length old.values + length other.values ≤ most_slots → Joins (column old) (column other) (column grown_to)
  all_joined few = joins_as
      (flat t old.validity (make (values_in old.values))) (column old)
      (flat other.data_type other.validity (make (values_in other.values))) (column other)
      (flat t (with_marks (length (values_in old.values)) old.validity (marks (length (values_in other.values)) other.validity))
      (make (values_in old.values ++ values_in other.values))) (column grown_to)
      (sym (is old)) (sym (is other)) grown_is
      (both_join t make unmake length join (map kept) (λ _. Unit {0}) (λ _ _. Unit {0}) k other.data_type same old.validity other.validity
      (values_in old.values) (values_in other.values) tt tt masked other_masked tt (omega (arith, few, many old.values, many other.values)))

  unfit : most_slots < length old.values + length other.values
      → fits (column_type (column old)) (slots (column old) ++ slots (column other)) ≡ false
  unfit past =
      (λ j. fits (column_type (is old j)) (slots (is old j) ++ slots (is other j)))
      ∙ too_many t make unmake length join (map kept) (λ _. Unit {0}) (λ _ _. Unit {0}) k other.data_type same old.validity other.validity
      (values_in old.values) (values_in other.values) tt tt masked other_masked (omega (arith, past, many old.values, many other.values))

  joined_by : {U : Type 0} (new : Flat T) (r : Result U Error) → JoinsFlat old other new r → AddsColumn (column old) (column other) (column new) r
  joined_by new r h =
      column_added (column old) (column other) (column grown_to) (column new) (length old.values + length other.values ≤ most_slots)
      (most_slots < length old.values + length other.values) r all_joined (λ past alike. unfit past) (as_columns r h)
    where
      as_columns : {U : Type 0} (r : Result U Error) → JoinsFlat old other new r → MatchResult r
          (λ _. (column new ≡ column grown_to) × (length old.values + length other.values ≤ most_slots))
          (λ e. (column new ≡ column old) × (IsOutOfMemory e ⊎ (IsOverflow e × (most_slots < length old.values + length other.values))))
      as_columns (Ok u) h = (ap column h.0, h.1)
      as_columns (Err e) h = (ap column h.0, h.1)

-- ---- booleans

abbrev unbits : Stored → List Bool
unbits (bits values) = values
unbits _ = []

bits_sized : (x : Layer) (values : List Bool) → has_size x (bits values) ≡ true
bits_sized (layer.FixedSizeBinary size) values = refl
bits_sized _ values = refl

booleans_join : (t : DataType) → physical_type t ≡ physical.Boolean → JoinsEach t bits unbits truth false is_true is_truth
booleans_join t lies =
    let is : type_layer t ≡ layer.Boolean = at_layout t physical.Boolean layer.Boolean boolean_layer lies in record {
      long = λ vs. refl;
      seen = λ vs i. refl;
      back = λ vs. refl;
      sized = bits_sized (type_layer t);
      sound = λ vs ws h g. ap (λ (layout : PhysicalType). is_stored_as layout (bits (vs ++ ws))) lies;
      stores = fresh_booleans t is;
      room = fits_booleans t is;
    }

pub booleans_joined : {U : Type 0} (old other new : Flat Bool) (r : Result U Error) → IsFlat physical.Boolean old → IsFlat physical.Boolean other
    → JoinsFlat old other new r → AddsColumn (boolean_column old) (boolean_column other) (boolean_column new) r
booleans_joined old other new r whole other_whole h =
    joined_by physical.Boolean boolean_column old other whole other_whole bits unbits truth false is_true is_truth
    (booleans_join old.data_type whole.fits) (λ vs. vs) (λ a. refl) (λ ts us. refl) (λ ts. refl) new r h

-- ---- numbers

-- kinds of one whole number each, and floats, of which there is none
record Plain (kind : PrimitiveType) : Type 0 where
  stored : (ns : List Numbers) → stored_numbers kind ns ≡ numbers kind (map first_number ns)
  made : (xs : List Slot) → numbers_as kind xs ≡ numbers kind (map number_of xs)

plain_kind : (kind : PrimitiveType) → Plain kind ⊎ ((kind ≡ kinds.DaysMs) ⊎ (kind ≡ kinds.MonthDayNano))
plain_kind kinds.DaysMs = inr (inl refl)
plain_kind kinds.MonthDayNano = inr (inr refl)
plain_kind kinds.Int8 = inl (record { stored = λ ns. refl; made = λ xs. refl })
plain_kind kinds.Int16 = inl (record { stored = λ ns. refl; made = λ xs. refl })
plain_kind kinds.Int32 = inl (record { stored = λ ns. refl; made = λ xs. refl })
plain_kind kinds.Int64 = inl (record { stored = λ ns. refl; made = λ xs. refl })
plain_kind kinds.Int128 = inl (record { stored = λ ns. refl; made = λ xs. refl })
plain_kind kinds.Int256 = inl (record { stored = λ ns. refl; made = λ xs. refl })
plain_kind kinds.UInt8 = inl (record { stored = λ ns. refl; made = λ xs. refl })
plain_kind kinds.UInt16 = inl (record { stored = λ ns. refl; made = λ xs. refl })
plain_kind kinds.UInt32 = inl (record { stored = λ ns. refl; made = λ xs. refl })
plain_kind kinds.UInt64 = inl (record { stored = λ ns. refl; made = λ xs. refl })
plain_kind kinds.Float16 = inl (record { stored = λ ns. refl; made = λ xs. refl })
plain_kind kinds.Float32 = inl (record { stored = λ ns. refl; made = λ xs. refl })
plain_kind kinds.Float64 = inl (record { stored = λ ns. refl; made = λ xs. refl })

abbrev integers : Stored → List ℤ
integers (numbers kind values) = values
integers _ = []

abbrev pairs_in : Stored → List (ℤ × ℤ)
pairs_in (pairs kind values) = values
pairs_in _ = []

abbrev triples_in : Stored → List (ℤ × ℤ × ℤ)
triples_in (triples kind values) = values
triples_in _ = []

numbers_sized : (x : Layer) (kind : PrimitiveType) (values : List ℤ) → has_size x (numbers kind values) ≡ true
numbers_sized (layer.FixedSizeBinary size) kind values = refl
numbers_sized _ kind values = refl

pairs_sized : (x : Layer) (kind : PrimitiveType) (values : List (ℤ × ℤ)) → has_size x (pairs kind values) ≡ true
pairs_sized (layer.FixedSizeBinary size) kind values = refl
pairs_sized _ kind values = refl

triples_sized : (x : Layer) (kind : PrimitiveType) (values : List (ℤ × ℤ × ℤ)) → has_size x (triples kind values) ≡ true
triples_sized (layer.FixedSizeBinary size) kind values = refl
triples_sized _ kind values = refl

abbrev pair_test : ℤ × ℤ → Bool
pair_test value = is_signed 32 value.0 && is_signed 32 value.1

abbrev triple_test : ℤ × ℤ × ℤ → Bool
triple_test value = is_signed 32 value.0 && is_signed 32 value.1 && is_signed 64 value.2

-- what is stored of two columns is stored of both, where a layout says of each that its values pass a test
stored_both : {V : Type 0} (t : DataType) (layout : PhysicalType) (make : List V → Stored) (alike single : Bool) (test : V → Bool)
    → physical_type t ≡ layout → ((vs : List V) → is_stored_as layout (make vs) ≡ (alike && single && list_all test vs)) → (vs ws : List V)
    → is_stored_as (physical_type t) (make vs) ≡ true → is_stored_as (physical_type t) (make ws) ≡ true
    → is_stored_as (physical_type t) (make (vs ++ ws)) ≡ true
stored_both {V} t layout make alike single test lies is vs ws h g =
    let at : (us : List V) → is_stored_as (physical_type t) (make us) ≡ (alike && single && list_all test us) =
    λ us. ap (λ (l : PhysicalType). is_stored_as l (make us)) lies ∙ is us in
    let own = parts_of_3 alike single (list_all test vs) (sym (at vs) ∙ h) in
    let other = parts_of_3 alike single (list_all test ws) (sym (at ws) ∙ g) in
    at (vs ++ ws)
    ∙ and_from (alike && single) (list_all test (vs ++ ws)) (and_from alike single own.0 own.1) (all_both test vs ws own.2 other.2)

plain_join : (t : DataType) (kind : PrimitiveType) → Plain kind → physical_type t ≡ physical.Primitive kind
    → JoinsEach t (numbers kind) integers (number kind) (pos 0) number_of (is_of_kind kind)
plain_join t kind p lies = record {
  long = λ vs. refl;
  seen = λ vs i. refl;
  back = λ vs. refl;
  sized = numbers_sized (type_layer t) kind;
  sound = stored_both t (physical.Primitive kind) (numbers kind) (same_kind kind kind) (numbers_of_kind kind == 1) (in_kind kind) lies (λ vs. refl);
  stores = λ xs. fresh_primitive t kind lies xs ∙ ap (flat t (mask_of xs)) (p.made xs);
  room = fits_primitive t kind lies;
}

pairs_join : (t : DataType) → physical_type t ≡ physical.Primitive kinds.DaysMs
    → JoinsEach t (pairs kinds.DaysMs) pairs_in (pair_slot kinds.DaysMs) (pos 0, pos 0) fresh.pair_of (is_of_kind kinds.DaysMs)
pairs_join t lies = record {
  long = λ vs. refl;
  seen = λ vs i. refl;
  back = λ vs. refl;
  sized = pairs_sized (type_layer t) kinds.DaysMs;
  sound = stored_both t (physical.Primitive kinds.DaysMs) (pairs kinds.DaysMs) true true pair_test lies (λ vs. refl);
  stores = fresh_primitive t kinds.DaysMs lies;
  room = fits_primitive t kinds.DaysMs lies;
}

triples_join : (t : DataType) → physical_type t ≡ physical.Primitive kinds.MonthDayNano
    → JoinsEach t (triples kinds.MonthDayNano) triples_in (triple_slot kinds.MonthDayNano) (pos 0, pos 0, pos 0) fresh.triple_of
    (is_of_kind kinds.MonthDayNano)
triples_join t lies = record {
  long = λ vs. refl;
  seen = λ vs i. refl;
  back = λ vs. refl;
  sized = triples_sized (type_layer t) kinds.MonthDayNano;
  sound = stored_both t (physical.Primitive kinds.MonthDayNano) (triples kinds.MonthDayNano) true true triple_test lies (λ vs. refl);
  stores = fresh_primitive t kinds.MonthDayNano lies;
  room = fits_primitive t kinds.MonthDayNano lies;
}

module _ {T U : Type 0} (number_in : T → Numbers) (old other new : Flat T) (r : Result U Error) where
  -- numbers as they are stored, each by its value
  module _ {V : Type 0} (value : Numbers → V) where
    abbrev values_in : List T → List V
    values_in ts = map value (map number_in ts)

    both_values : (ts us : List T) → values_in (ts ++ us) ≡ values_in ts ++ values_in us
    both_values ts us = ap (map value) (map-append number_in ts us) ∙ map-append value (map number_in ts) (map number_in us)

    as_many : (ts : List T) → length (values_in ts) ≡ length ts
    as_many ts = length-map (map number_in ts) value ∙ length-map ts number_in

  abbrev Goal : PrimitiveType → Type 0
  Goal kind = AddsColumn (primitive_column kind number_in old) (primitive_column kind number_in other) (primitive_column kind number_in new) r

  days_joined : IsFlat (physical.Primitive kinds.DaysMs) old → IsFlat (physical.Primitive kinds.DaysMs) other → JoinsFlat old other new r
      → Goal kinds.DaysMs
  days_joined whole other_whole h =
      joined_by (physical.Primitive kinds.DaysMs) (primitive_column kinds.DaysMs number_in) old other whole other_whole (pairs kinds.DaysMs) pairs_in
      (pair_slot kinds.DaysMs) (pos 0, pos 0) fresh.pair_of (is_of_kind kinds.DaysMs) (pairs_join old.data_type whole.fits)
      (values_in flats.pair_of) (λ a. refl) (both_values flats.pair_of) (as_many flats.pair_of) new r h

  months_joined : IsFlat (physical.Primitive kinds.MonthDayNano) old → IsFlat (physical.Primitive kinds.MonthDayNano) other
      → JoinsFlat old other new r → Goal kinds.MonthDayNano
  months_joined whole other_whole h =
      joined_by (physical.Primitive kinds.MonthDayNano) (primitive_column kinds.MonthDayNano number_in) old other whole other_whole
      (triples kinds.MonthDayNano) triples_in (triple_slot kinds.MonthDayNano) (pos 0, pos 0, pos 0) fresh.triple_of
      (is_of_kind kinds.MonthDayNano) (triples_join old.data_type whole.fits)
      (values_in flats.triple_of) (λ a. refl) (both_values flats.triple_of) (as_many flats.triple_of) new r h

  pub numbers_joined : (kind : PrimitiveType) → IsFlat (physical.Primitive kind) old → IsFlat (physical.Primitive kind) other
      → JoinsFlat old other new r → Goal kind
  numbers_joined kind whole other_whole h =
      elim (plain_kind kind) [
        | inl p ↦
            joined_by (physical.Primitive kind) (primitive_column kind number_in) old other whole other_whole (numbers kind) integers
            (number kind) (pos 0) number_of (is_of_kind kind) (plain_join old.data_type kind p whole.fits) (values_in first_number)
            (λ a. ap (flat a.data_type a.validity) (p.stored (map number_in a.values))) (both_values first_number) (as_many first_number) new r h
        | inr (inl days) ↦
            subst (λ (k : PrimitiveType). IsFlat (physical.Primitive k) old → IsFlat (physical.Primitive k) other → Goal k) (sym days)
            (λ a b. days_joined a b h) whole other_whole
        | inr (inr months) ↦
            subst (λ (k : PrimitiveType). IsFlat (physical.Primitive k) old → IsFlat (physical.Primitive k) other → Goal k) (sym months)
            (λ a b. months_joined a b h) whole other_whole
      ]
