-- The columns of builders of numbers of a kind and of booleans: a null more, the first slots, and none.
use Rattle.std.proofs.Common.{◌≡◌, ◌∙◌, ◌<◌, ◌+◌, ℕ, ℤ, pos, List, [], ◌∷◌, ◌++◌, length, map, take, drop, Bool, true, false}
use Rattle.std.proofs.Common.{refl, sym, ap, subst, arith}
use Rattle.std.specs.Prelude.{Option, Some, None, ◌&&◌, ◌==◌, ◌⊎◌, nat_le}
use Rattle.std.specs.List.{list_all}
use Rattle.std.proofs.lemmas.Bool.{and_from, eq-eqb, le-leb}
use Rattle.std.proofs.lemmas.List.{length-map, map-append, take-map}
use Rattle.std.proofs.lemmas.List.Folds.{list_all-append}
use mathlib.Core.Logic.{inl, inr}
use Rattle.nested_arrays_builders.specs.arrays.flat.FlatColumns.{boolean_column, primitive_column, stored_numbers}
use Rattle.nested_arrays_builders.specs.arrays.flat.FlatColumns as flats
use Rattle.nested_arrays_builders.specs.flat_arrays.Flat as arrays
use Rattle.nested_arrays_builders.specs.flat_arrays.Flat.{Flat, needed_mask, tidied, IsFlat, IsMaskOf}
use Rattle.nested_arrays_builders.specs.flat_arrays.Growth.{with_marks}
use Rattle.nested_arrays_builders.specs.columnar_memory.Numbers.{Numbers, one, first_number, zeros}
use Rattle.nested_arrays_builders.specs.columnar_memory.declared.DataType.{DataType}
use Rattle.nested_arrays_builders.specs.columnar_memory.declared.DataType.TheOpen as layer
use Rattle.nested_arrays_builders.specs.columnar_memory.declared.PhysicalType.{PhysicalType}
use Rattle.nested_arrays_builders.specs.columnar_memory.declared.PhysicalType.TheVariants as physical
use Rattle.nested_arrays_builders.specs.columnar_memory.declared.PrimitiveType.{PrimitiveType}
use Rattle.nested_arrays_builders.specs.columnar_memory.declared.PrimitiveType.TheVariants as kinds
use Rattle.nested_arrays_builders.specs.columnar_memory.Layouts.{physical_type}
use Rattle.nested_arrays_builders.specs.columns.FreshColumns.{is_true, mask_of, number_of, numbers_as}
use Rattle.nested_arrays_builders.specs.columns.FreshColumns as fresh
use Rattle.nested_arrays_builders.specs.columns.Kinds.{in_kind, is_signed, numbers_of_kind, same_kind, most_slots}
use Rattle.nested_arrays_builders.specs.columns.OpenBatch.{fits}
use Rattle.nested_arrays_builders.specs.columns.Slots.{Slot, null, truth, number}
use Rattle.nested_arrays_builders.specs.columns.SoundColumns.{has_size, is_stored_as, mask_fits}
use Rattle.nested_arrays_builders.specs.columns.StoredColumns.{Column, Stored, bits, numbers, pairs, triples, flat, pair_slot, triple_slot}
use Rattle.nested_arrays_builders.specs.columns.StoredColumns.{type_layer}
use Rattle.nested_arrays_builders.specs.columns.OpenParts.{is_of_kind}
use Rattle.nested_arrays_builders.proofs.columns_lemmas.Conditions.{list_all-take, parts_of_3}
use Rattle.nested_arrays_builders.proofs.columns_lemmas.FreshLengths.{Layer}
use Rattle.nested_arrays_builders.proofs.columns_lemmas.LayerParts.{fresh_booleans, fresh_primitive}
use Rattle.nested_arrays_builders.proofs.columns_lemmas.OneMore.{booleans_fit_one_more, primitives_fit_one_more}
use Rattle.nested_arrays_builders.proofs.parts_lemmas.FlatLayers.{at_layout, boolean_layer}
use Rattle.nested_arrays_builder_arrays.specs.OpenColumns.{Becomes, IsEmptied, KeepsFirst, slots_and}
use Rattle.nested_arrays_builder_arrays.proofs.FlatSlots.{FlatLaws, Keeps, KeepsEach, each_kept, first_kept, first_marks, none_left, null_added}
use Rattle.nested_arrays_builder_arrays.proofs.FlatSlots.{null_unfit}

-- ---- booleans

abbrev unbits : Stored → List Bool
unbits (bits values) = values
unbits _ = []

bits_sized : (x : Layer) (values : List Bool) → has_size x (bits values) ≡ true
bits_sized (layer.FixedSizeBinary size) values = refl
bits_sized _ values = refl

room_for : (n : ℕ) → n < most_slots → nat_le (n + 1) most_slots ≡ true
room_for n few = le-leb (n + 1) most_slots (omega (arith, few))

booleans_keep : (t : DataType) → physical_type t ≡ physical.Boolean → KeepsEach t bits unbits truth false is_true
booleans_keep t lies =
    let is : type_layer t ≡ layer.Boolean = at_layout t physical.Boolean layer.Boolean boolean_layer lies in record {
      long = λ vs. refl;
      seen = λ vs i. refl;
      back = λ vs. refl;
      more = λ vs h. ap (λ (layout : PhysicalType). is_stored_as layout (bits (vs ++ false ∷ []))) lies;
      first = λ vs n h. ap (λ (layout : PhysicalType). is_stored_as layout (bits (take n vs))) lies;
      sized = bits_sized (type_layer t);
      stores = fresh_booleans t is;
      room = λ xs fit few. booleans_fit_one_more t is xs null fit ∙ room_for (length xs) few;
    }

-- ---- the first slots as they are cut

drop_none : {A : Type 0} (xs : List A) → drop 0 xs ≡ xs
drop_none [] = refl
drop_none (x ∷ xs) = refl

cut_masked : (mask : Option (List Bool)) (n : ℕ) → needed_mask (arrays.cut_mask mask 0 n) ≡ needed_mask (first_marks n mask)
cut_masked None n = refl
cut_masked (Some marks) n = ap (λ (ms : List Bool). needed_mask (Some (take n ms))) (drop_none marks)

fits_mask : (mask : Option (List Bool)) (n : ℕ) → IsMaskOf n mask → mask_fits mask n ≡ true
fits_mask None n h = refl
fits_mask (Some marks) n h = eq-eqb (length marks) n (h marks refl)

pub boolean_laws : (old : Flat Bool) → IsFlat physical.Boolean old → FlatLaws boolean_column (λ b. b ≡ false) old
boolean_laws old whole =
    let t = old.data_type in
    let k = each_kept t bits unbits truth false is_true (booleans_keep t whole.fits) in
    let masked = fits_mask old.validity (length old.values) whole.masked in record {
      added = λ blank is few.
          subst (λ (b : Bool). Becomes (boolean_column old) (slots_and (boolean_column old) null)
          (flat t (with_marks (length old.values) old.validity (false ∷ [])) (bits (old.values ++ b ∷ [])))) (sym is)
          (null_added t bits unbits length (λ (vs : List Bool). vs ++ false ∷ []) take (map is_true) k old.validity old.values masked few);
      full = null_unfit t bits unbits length (λ (vs : List Bool). vs ++ false ∷ []) take (map is_true) k old.validity old.values masked;
      first = λ n le.
          subst (λ (c : Column). KeepsFirst (boolean_column old) n c)
          (λ j. flat t (sym (cut_masked old.validity n) j) (bits (take n (sym (drop_none old.values) j))))
          (first_kept t bits unbits length (λ (vs : List Bool). vs ++ false ∷ []) take (map is_true) k old.validity old.values masked n le);
      none = none_left t bits unbits length (λ (vs : List Bool). vs ++ false ∷ []) take (map is_true) k old.validity old.values refl;
    }

-- ---- numbers

-- kinds of one whole number each, and floats, of which there is none
record Plain (kind : PrimitiveType) : Type 0 where
  stored : (ns : List Numbers) → stored_numbers kind ns ≡ numbers kind (map first_number ns)
  made : (xs : List Slot) → numbers_as kind xs ≡ numbers kind (map number_of xs)
  takes : is_of_kind kind null ≡ true
  none : zeros kind ≡ one (pos 0)

plain_kind : (kind : PrimitiveType) → Plain kind ⊎ ((kind ≡ kinds.DaysMs) ⊎ (kind ≡ kinds.MonthDayNano))
plain_kind kinds.DaysMs = inr (inl refl)
plain_kind kinds.MonthDayNano = inr (inr refl)
plain_kind kinds.Int8 = inl (record { stored = λ ns. refl; made = λ xs. refl; takes = refl; none = refl })
plain_kind kinds.Int16 = inl (record { stored = λ ns. refl; made = λ xs. refl; takes = refl; none = refl })
plain_kind kinds.Int32 = inl (record { stored = λ ns. refl; made = λ xs. refl; takes = refl; none = refl })
plain_kind kinds.Int64 = inl (record { stored = λ ns. refl; made = λ xs. refl; takes = refl; none = refl })
plain_kind kinds.Int128 = inl (record { stored = λ ns. refl; made = λ xs. refl; takes = refl; none = refl })
plain_kind kinds.Int256 = inl (record { stored = λ ns. refl; made = λ xs. refl; takes = refl; none = refl })
plain_kind kinds.UInt8 = inl (record { stored = λ ns. refl; made = λ xs. refl; takes = refl; none = refl })
plain_kind kinds.UInt16 = inl (record { stored = λ ns. refl; made = λ xs. refl; takes = refl; none = refl })
plain_kind kinds.UInt32 = inl (record { stored = λ ns. refl; made = λ xs. refl; takes = refl; none = refl })
plain_kind kinds.UInt64 = inl (record { stored = λ ns. refl; made = λ xs. refl; takes = refl; none = refl })
plain_kind kinds.Float16 = inl (record { stored = λ ns. refl; made = λ xs. refl; takes = refl; none = refl })
plain_kind kinds.Float32 = inl (record { stored = λ ns. refl; made = λ xs. refl; takes = refl; none = refl })
plain_kind kinds.Float64 = inl (record { stored = λ ns. refl; made = λ xs. refl; takes = refl; none = refl })

-- zero is a number of each kind of one
zero_in_kind : (kind : PrimitiveType) → (numbers_of_kind kind == 1) ≡ true → in_kind kind (pos 0) ≡ true
zero_in_kind kinds.DaysMs h = absurd cc
zero_in_kind kinds.MonthDayNano h = absurd cc
zero_in_kind kinds.Float16 h = absurd cc
zero_in_kind kinds.Float32 h = absurd cc
zero_in_kind kinds.Float64 h = absurd cc
zero_in_kind _ h = refl

abbrev integers : Stored → List ℤ
integers (numbers kind values) = values
integers _ = []

numbers_sized : (x : Layer) (kind : PrimitiveType) (values : List ℤ) → has_size x (numbers kind values) ≡ true
numbers_sized (layer.FixedSizeBinary size) kind values = refl
numbers_sized _ kind values = refl

-- values of which each passes a test, and one more that passes it
all_more : {A : Type 0} (test : A → Bool) (vs : List A) (v : A) → list_all test vs ≡ true → test v ≡ true → list_all test (vs ++ v ∷ []) ≡ true
all_more test vs v h passes =
    list_all-append test vs (v ∷ [])
    ∙ and_from (list_all test vs) (list_all test (v ∷ [])) h (and_from (test v) true passes refl)

module _ (t : DataType) (kind : PrimitiveType) (p : Plain kind) (lies : physical_type t ≡ physical.Primitive kind) where
  abbrev alike : Bool
  alike = same_kind kind kind

  abbrev single : Bool
  single = numbers_of_kind kind == 1

  -- other numbers are stored as the type wants them, where these are and the others are in their range
  still_stored : (vs ws : List ℤ) → (single ≡ true → list_all (in_kind kind) vs ≡ true → list_all (in_kind kind) ws ≡ true)
      → is_stored_as (physical_type t) (numbers kind vs) ≡ true → is_stored_as (physical_type t) (numbers kind ws) ≡ true
  still_stored vs ws keeps h =
      let own : is_stored_as (physical.Primitive kind) (numbers kind vs) ≡ true =
      ap (λ (layout : PhysicalType). is_stored_as layout (numbers kind vs)) (sym lies) ∙ h in
      let parts = parts_of_3 alike single (list_all (in_kind kind) vs) own in
      ap (λ (layout : PhysicalType). is_stored_as layout (numbers kind ws)) lies
      ∙ and_from (alike && single) (list_all (in_kind kind) ws) (and_from alike single parts.0 parts.1) (keeps parts.1 parts.2)

  plain_keep : KeepsEach t (numbers kind) integers (number kind) (pos 0) number_of
  plain_keep = record {
    long = λ vs. refl;
    seen = λ vs i. refl;
    back = λ vs. refl;
    more = λ vs. still_stored vs (vs ++ pos 0 ∷ []) (λ single_one h. all_more (in_kind kind) vs (pos 0) h (zero_in_kind kind single_one));
    first = λ vs n. still_stored vs (take n vs) (λ _ h. list_all-take (in_kind kind) n vs h);
    sized = numbers_sized (type_layer t) kind;
    stores = λ xs. fresh_primitive t kind lies xs ∙ ap (flat t (mask_of xs)) (p.made xs);
    room = λ xs fit few.
        primitives_fit_one_more t kind lies xs null fit
        ∙ and_from (is_of_kind kind null) (nat_le (length xs + 1) most_slots) p.takes (room_for (length xs) few);
  }

-- ---- pairs and triples

abbrev pairs_in : Stored → List (ℤ × ℤ)
pairs_in (pairs kind values) = values
pairs_in _ = []

abbrev triples_in : Stored → List (ℤ × ℤ × ℤ)
triples_in (triples kind values) = values
triples_in _ = []

pairs_sized : (x : Layer) (kind : PrimitiveType) (values : List (ℤ × ℤ)) → has_size x (pairs kind values) ≡ true
pairs_sized (layer.FixedSizeBinary size) kind values = refl
pairs_sized _ kind values = refl

triples_sized : (x : Layer) (kind : PrimitiveType) (values : List (ℤ × ℤ × ℤ)) → has_size x (triples kind values) ≡ true
triples_sized (layer.FixedSizeBinary size) kind values = refl
triples_sized _ kind values = refl

abbrev pair_test : ℤ × ℤ → Bool
pair_test value = is_signed 32 value.0 && is_signed 32 value.1

abbrev triple_test : ℤ × ℤ × ℤ → Bool
triple_test value = is_signed 32 value.0 && is_signed 32 value.1 && is_signed 64 value.2

module _ (t : DataType) (lies : physical_type t ≡ physical.Primitive kinds.DaysMs) where
  still_pairs : (vs ws : List (ℤ × ℤ)) → (list_all pair_test vs ≡ true → list_all pair_test ws ≡ true)
      → is_stored_as (physical_type t) (pairs kinds.DaysMs vs) ≡ true → is_stored_as (physical_type t) (pairs kinds.DaysMs ws) ≡ true
  still_pairs vs ws keeps h =
      ap (λ (layout : PhysicalType). is_stored_as layout (pairs kinds.DaysMs ws)) lies
      ∙ keeps (ap (λ (layout : PhysicalType). is_stored_as layout (pairs kinds.DaysMs vs)) (sym lies) ∙ h)

  pairs_keep : KeepsEach t (pairs kinds.DaysMs) pairs_in (pair_slot kinds.DaysMs) (pos 0, pos 0) fresh.pair_of
  pairs_keep = record {
    long = λ vs. refl;
    seen = λ vs i. refl;
    back = λ vs. refl;
    more = λ vs. still_pairs vs (vs ++ (pos 0, pos 0) ∷ []) (λ h. all_more pair_test vs (pos 0, pos 0) h refl);
    first = λ vs n. still_pairs vs (take n vs) (λ h. list_all-take pair_test n vs h);
    sized = pairs_sized (type_layer t) kinds.DaysMs;
    stores = fresh_primitive t kinds.DaysMs lies;
    room = λ xs fit few. primitives_fit_one_more t kinds.DaysMs lies xs null fit ∙ room_for (length xs) few;
  }

module _ (t : DataType) (lies : physical_type t ≡ physical.Primitive kinds.MonthDayNano) where
  still_triples : (vs ws : List (ℤ × ℤ × ℤ)) → (list_all triple_test vs ≡ true → list_all triple_test ws ≡ true)
      → is_stored_as (physical_type t) (triples kinds.MonthDayNano vs) ≡ true → is_stored_as (physical_type t) (triples kinds.MonthDayNano ws) ≡ true
  still_triples vs ws keeps h =
      ap (λ (layout : PhysicalType). is_stored_as layout (triples kinds.MonthDayNano ws)) lies
      ∙ keeps (ap (λ (layout : PhysicalType). is_stored_as layout (triples kinds.MonthDayNano vs)) (sym lies) ∙ h)

  triples_keep : KeepsEach t (triples kinds.MonthDayNano) triples_in (triple_slot kinds.MonthDayNano) (pos 0, pos 0, pos 0) fresh.triple_of
  triples_keep = record {
    long = λ vs. refl;
    seen = λ vs i. refl;
    back = λ vs. refl;
    more = λ vs. still_triples vs (vs ++ (pos 0, pos 0, pos 0) ∷ []) (λ h. all_more triple_test vs (pos 0, pos 0, pos 0) h refl);
    first = λ vs n. still_triples vs (take n vs) (λ h. list_all-take triple_test n vs h);
    sized = triples_sized (type_layer t) kinds.MonthDayNano;
    stores = fresh_primitive t kinds.MonthDayNano lies;
    room = λ xs fit few. primitives_fit_one_more t kinds.MonthDayNano lies xs null fit ∙ room_for (length xs) few;
  }

-- ---- arrays of numbers

-- a column in place of another with a null more, each as it is stored
null_as : (a b c d : Column) → a ≡ b → c ≡ d → Becomes a (slots_and a null) c → Becomes b (slots_and b null) d
null_as a b c d left right h =
    subst (λ (x : Column). Becomes b (slots_and b null) x) right (subst (λ (x : Column). Becomes x (slots_and x null) c) left h)

first_as : (a b c d : Column) (n : ℕ) → a ≡ b → c ≡ d → KeepsFirst a n c → KeepsFirst b n d
first_as a b c d n left right h = subst (λ (x : Column). KeepsFirst b n x) right (subst (λ (x : Column). KeepsFirst x n c) left h)

none_as : (a b c d : Column) → a ≡ b → c ≡ d → IsEmptied a c → IsEmptied b d
none_as a b c d left right h = subst (λ (x : Column). IsEmptied b x) right (subst (λ (x : Column). IsEmptied x c) left h)

module _ {T V : Type 0} (kind : PrimitiveType) (number_in : T → Numbers) (old : Flat T) (whole : IsFlat (physical.Primitive kind) old)
    (make : List V → Stored) (unmake : Stored → List V) (shown : V → Slot) (blank : V) (kept : Slot → V)
    (each : KeepsEach old.data_type make unmake shown blank kept) (value : Numbers → V)
    (is : (ns : List Numbers) → stored_numbers kind ns ≡ make (map value ns))
    (none : value (zeros kind) ≡ kept null) where
  abbrev t : DataType
  t = old.data_type

  abbrev more : List V → List V
  more vs = vs ++ kept null ∷ []

  k : Keeps old.data_type make unmake length more take (map kept)
  k = each_kept old.data_type make unmake shown blank kept each

  abbrev in_make : List T → List V
  in_make ts = map value (map number_in ts)

  as_stored : (mask : Option (List Bool)) (ts : List T) → flat t mask (make (in_make ts)) ≡ flat t mask (stored_numbers kind (map number_in ts))
  as_stored mask ts = ap (flat t mask) (sym (is (map number_in ts)))

  many : length (in_make old.values) ≡ length old.values
  many = length-map (map number_in old.values) value ∙ length-map old.values number_in

  masked : mask_fits old.validity (length (in_make old.values)) ≡ true
  masked = ap (mask_fits old.validity) many ∙ fits_mask old.validity (length old.values) whole.masked

  one_more : (low : T) → number_in low ≡ zeros kind → in_make old.values ++ kept null ∷ [] ≡ in_make (old.values ++ low ∷ [])
  one_more low zeroed =
      let last : kept null ≡ value (number_in low) = sym none ∙ ap value (sym zeroed) in
      ap (λ (v : V). in_make old.values ++ v ∷ []) last
      ∙ sym (ap (map value) (map-append number_in old.values (low ∷ [])) ∙ map-append value (map number_in old.values) (number_in low ∷ []))

  pub laws_by : FlatLaws (primitive_column kind number_in) (λ it. number_in it ≡ zeros kind) old
  laws_by = record {
    added = λ low zeroed few. null_as
        (flat t old.validity (make (in_make old.values))) (primitive_column kind number_in old)
        (flat t (with_marks (length (in_make old.values)) old.validity (false ∷ [])) (make (in_make old.values ++ kept null ∷ [])))
        (flat t (with_marks (length old.values) old.validity (false ∷ [])) (stored_numbers kind (map number_in (old.values ++ low ∷ []))))
        (as_stored old.validity old.values)
        ((λ j. flat t (with_marks (many j) old.validity (false ∷ [])) (make (one_more low zeroed j)))
        ∙ as_stored (with_marks (length old.values) old.validity (false ∷ [])) (old.values ++ low ∷ []))
        (null_added t make unmake length more take (map kept) k old.validity (in_make old.values) masked (omega (arith, few, many)));
    full = λ enough.
        ap (λ (c : Column). fits t (slots_and c null)) (sym (as_stored old.validity old.values))
        ∙ null_unfit t make unmake length more take (map kept) k old.validity (in_make old.values) masked (omega (arith, enough, many));
    first = λ n le. first_as
        (flat t old.validity (make (in_make old.values))) (primitive_column kind number_in old)
        (flat t (needed_mask (first_marks n old.validity)) (make (take n (in_make old.values))))
        (primitive_column kind number_in (tidied (arrays.cut old 0 n))) n
        (as_stored old.validity old.values)
        ((λ j. flat t (sym (cut_masked old.validity n) j) (make (cut_values n j)))
        ∙ as_stored (needed_mask (arrays.cut_mask old.validity 0 n)) (take n (drop 0 old.values)))
        (first_kept t make unmake length more take (map kept) k old.validity (in_make old.values) masked n (omega (arith, le, many)));
    none = none_as
        (flat t old.validity (make (in_make old.values))) (primitive_column kind number_in old) (flat t None (make []))
        (flat t None (stored_numbers kind [])) (as_stored old.validity old.values) (as_stored None [])
        (none_left t make unmake length more take (map kept) k old.validity (in_make old.values) refl);
  }
    where
      cut_values : (n : ℕ) → take n (in_make old.values) ≡ in_make (take n (drop 0 old.values))
      cut_values n =
          take-map value n (map number_in old.values) ∙ ap (map value) (take-map number_in n old.values)
          ∙ ap (λ (ts : List T). in_make (take n ts)) (sym (drop_none old.values))

pub number_laws : {T : Type 0} (kind : PrimitiveType) (number_in : T → Numbers) (old : Flat T) → IsFlat (physical.Primitive kind) old
    → FlatLaws (primitive_column kind number_in) (λ it. number_in it ≡ zeros kind) old
number_laws {T} kind number_in old whole =
    elim (plain_kind kind) [
      | inl p ↦
          laws_by kind number_in old whole (numbers kind) integers (number kind) (pos 0) number_of
          (plain_keep old.data_type kind p whole.fits) first_number p.stored (ap first_number p.none)
      | inr (inl days) ↦
          subst (λ (other : PrimitiveType). IsFlat (physical.Primitive other) old
          → FlatLaws (primitive_column other number_in) (λ it. number_in it ≡ zeros other) old) (sym days) (days_laws number_in old) whole
      | inr (inr months) ↦
          subst (λ (other : PrimitiveType). IsFlat (physical.Primitive other) old
          → FlatLaws (primitive_column other number_in) (λ it. number_in it ≡ zeros other) old) (sym months) (months_laws number_in old) whole
    ]
  where
    days_laws : {T : Type 0} (number_in : T → Numbers) (old : Flat T) → IsFlat (physical.Primitive kinds.DaysMs) old
        → FlatLaws (primitive_column kinds.DaysMs number_in) (λ it. number_in it ≡ zeros kinds.DaysMs) old
    days_laws number_in old whole =
        laws_by kinds.DaysMs number_in old whole (pairs kinds.DaysMs) pairs_in (pair_slot kinds.DaysMs) (pos 0, pos 0) fresh.pair_of
        (pairs_keep old.data_type whole.fits) flats.pair_of (λ ns. refl) refl

    months_laws : {T : Type 0} (number_in : T → Numbers) (old : Flat T) → IsFlat (physical.Primitive kinds.MonthDayNano) old
        → FlatLaws (primitive_column kinds.MonthDayNano number_in) (λ it. number_in it ≡ zeros kinds.MonthDayNano) old
    months_laws number_in old whole =
        laws_by kinds.MonthDayNano number_in old whole (triples kinds.MonthDayNano) triples_in (triple_slot kinds.MonthDayNano)
        (pos 0, pos 0, pos 0) fresh.triple_of (triples_keep old.data_type whole.fits) flats.triple_of (λ ns. refl) refl
