-- The slots of the column of so many nulls.
use Rattle.std.proofs.Common.{◌≡◌, ◌∙◌, refl, sym, ap, subst, ℕ, zero, suc, ◌+◌, List, ◌∷◌, map, Bool, true, false}
use Rattle.std.specs.Prelude.{replicate, Option, slice_index_or, if◌then◌else◌, Result, Ok, Err, IfOk}
use Rattle.std.proofs.lemmas.Bool.{false≢true}
use Rattle.nested_arrays_iterators.specs.columnar_memory.Layouts.{physical_step, physical_type}
use Rattle.nested_arrays_iterators.specs.columnar_memory.declared.DataType.{DataType, map-DataType}
use Rattle.nested_arrays_iterators.specs.columnar_memory.declared.DataType.TheFolds.{fold-roll-DataType, ind-DataType}
use Rattle.nested_arrays_iterators.specs.columnar_memory.declared.DataType.TheOpen as layer
use Rattle.nested_arrays_iterators.specs.columnar_memory.declared.DataType.TheViews.{roll-DataType}
use Rattle.nested_arrays_iterators.specs.columnar_memory.declared.Error.{Error}
use Rattle.nested_arrays_iterators.specs.columnar_memory.declared.Field.{Field}
use Rattle.nested_arrays_iterators.specs.columnar_memory.declared.PhysicalType.{PhysicalType}
use Rattle.nested_arrays_iterators.specs.columnar_memory.declared.PhysicalType.TheVariants as physical
use Rattle.nested_arrays_iterators.specs.columns.Slots.{Slot, null, window}
use Rattle.nested_arrays_iterators.specs.columns.SoundColumns.{is_sound}
use Rattle.nested_arrays_iterators.specs.columns.StoredColumns.{Column, nulls, flat, lists, fixed_lists, records, unions, dictionary, column_len}
use Rattle.nested_arrays_iterators.specs.columns.StoredColumns.{slot_at, slots, unless_null}
use Rattle.nested_arrays_nulls.proofs.NullLayers.{Layer, roll_makes, with_makers}
use Rattle.nested_arrays_nulls.proofs.NullLengths.{HasSlots, have_slots, len_of_nulls}
use Rattle.nested_arrays_nulls.specs.NullAnswers.{IsNullArray}
use Rattle.nested_arrays_nulls.specs.NullLaws.{AreNullSlots}
use Rattle.nested_arrays_nulls.specs.NullColumns.{Maker, flat_nulls, no_marks, null_column, null_step, nulls_as}

abbrev is_union : Column → Bool
is_union (unions t ids offsets children) = true
is_union _ = false

-- ---- only unions have the columns of unions

flat_is_none : (layout : PhysicalType) (t : DataType) (n : ℕ) → is_union (flat_nulls layout t n) ≡ false
flat_is_none physical.Null t n = refl
flat_is_none layout t n = refl

abbrev AreUnions : DataType → Type 0
AreUnions t = (whole : DataType) (n : ℕ) → is_union (nulls_as t whole n) ≡ true → physical_type t ≡ physical.Union

abbrev D : Type 0
D = (t : DataType) × AreUnions t

abbrev F : Type 0
F = (u : Field) × Unit {0}

abbrev plain_layer : layer.DataType-F D F → Layer
plain_layer y = map-DataType D F DataType Field (λ e. e.0) (λ e. e.0) y

at_roll : (x : Layer)
    → ((whole : DataType) (n : ℕ) → is_union (null_step (with_makers x) whole n) ≡ true → physical_type (roll-DataType x) ≡ physical.Union)
    → AreUnions (roll-DataType x)
at_roll x h whole n is = h whole n (ap (λ (make : Maker). is_union (make whole n)) (sym (roll_makes x)) ∙ is)

none : {A : Type 0} → false ≡ true → A
none h = absurd (false≢true h)

layer_unions : (y : layer.DataType-F D F) → AreUnions (roll-DataType (plain_layer y))
layer_unions (layer.List item) = at_roll (layer.List item.0) (λ whole n is. none is)
layer_unions (layer.LargeList item) = at_roll (layer.LargeList item.0) (λ whole n is. none is)
layer_unions (layer.Map entry is_sorted) = at_roll (layer.Map entry.0 is_sorted) (λ whole n is. none is)
layer_unions (layer.FixedSizeList item size) = at_roll (layer.FixedSizeList item.0 size) (λ whole n is. none is)
layer_unions (layer.Struct fields) = at_roll (layer.Struct (map (λ (e : F). e.0) fields)) (λ whole n is. none is)
layer_unions (layer.Union fields ids mode) =
    let x = layer.Union (map (λ (e : F). e.0) fields) ids mode in
    at_roll x (λ whole n is. fold-roll-DataType PhysicalType (Unit {0}) physical_step (λ f. tt) x)
layer_unions (layer.Dictionary key value is_ordered) = at_roll (layer.Dictionary key value.0 is_ordered) (λ whole n is. none is)
layer_unions (layer.Extension name inner more) =
    let x = layer.Extension name inner.0 more in
    at_roll x (λ whole n is. fold-roll-DataType PhysicalType (Unit {0}) physical_step (λ f. tt) x ∙ inner.1 whole n is)
layer_unions y = at_roll (plain_layer y) (λ whole n is. none (sym (flat_is_none (physical_type whole) whole n) ∙ is))

are_unions : (t : DataType) → AreUnions t
are_unions = ind-DataType AreUnions (λ u. Unit {0}) (λ x y is. subst (λ (x : Layer). AreUnions (roll-DataType x)) is (layer_unions y)) (λ x y is. tt)

-- ---- each slot is null

no_mark : (n i : ℕ) → slice_index_or (replicate n false) i false ≡ false
no_mark zero zero = refl
no_mark zero (suc i) = refl
no_mark (suc n) zero = refl
no_mark (suc n) (suc i) = no_mark n i

under_no_marks : (mask : Option (List Bool)) (n i : ℕ) (slot : Slot) → mask ≡ no_marks n → unless_null mask i slot ≡ null
under_no_marks mask n i slot is =
    ap (λ m. unless_null m i slot) is ∙ ap (λ (is_valid : Bool). if is_valid then slot else null) (no_mark n i)

null_slot : (n : ℕ) (c : Column) (i : ℕ) → HasSlots n c → is_union c ≡ false → slot_at c i ≡ null
null_slot n (nulls t k) i h plain = refl
null_slot n (flat t mask stored) i h plain = under_no_marks mask n i _ h
null_slot n (lists t mask offsets child) i h plain = under_no_marks mask n i _ h.0
null_slot n (fixed_lists t mask size child) i h plain = under_no_marks mask n i _ h
null_slot n (records t mask k children) i h plain = under_no_marks mask n i _ h.1
null_slot n (unions t ids offsets children) i h plain = none (sym plain)
null_slot n (dictionary t mask keys values) i h plain = under_no_marks mask n i _ h.0

same_windows : (f : ℕ → Slot) (first n : ℕ) → ((i : ℕ) → f i ≡ null) → window f first n ≡ replicate n null
same_windows f first zero each = refl
same_windows f first (suc n) each = λ j. each first j ∷ same_windows f (first + 1) n each j

plain : (c : Column) → (is_union c ≡ true → ⊥) → is_union c ≡ false
plain (unions t ids offsets children) other = absurd (other refl)
plain _ other = refl

-- a type that lies in memory otherwise than unions has so many null slots
pub slots_of_nulls : (t : DataType) (n : ℕ) → is_sound (null_column t n) ≡ true → (physical_type t ≡ physical.Union → ⊥)
    → slots (null_column t n) ≡ replicate n null
slots_of_nulls t n sound other =
    let c = null_column t n in
    same_windows (slot_at c) 0 (column_len c) (λ i. null_slot n c i (have_slots t t n) (plain c (λ is. other (are_unions t t n is))))
    ∙ ap (λ (k : ℕ). replicate k null) (len_of_nulls t n sound)

-- an array that is made has them
pub made_slots : (t : DataType) (n : ℕ) (r : Result Column Error) → IsNullArray t n r → IfOk r (AreNullSlots t n)
made_slots t n (Ok a) h = λ other. ap slots h.0 ∙ slots_of_nulls t n h.1 other
made_slots t n (Err e) h = tt
