-- Which slots fit, by the layer of their type: each by itself, their number, and what they bring to the types below.
use Rattle.std.proofs.Common.{◌≡◌, ◌∙◌, ℕ, zero, suc, ◌+◌, List, [], ◌∷◌, length, map, replicate, Bool, true, false, refl, sym, ap, arith, ◌==◌}
use Rattle.std.specs.Prelude.{Option, Some, None, ◌&&◌, is_some, nat_le}
use Rattle.std.specs.List.{list_all, flat_map}
use Rattle.std.proofs.lemmas.Bool.{and_parts, and_from, cases_Bool, or_cases, eqb-true, eq-eqb, false≢true, le-leb}
use Rattle.std.proofs.lemmas.List.{length-map}
use Rattle.std.proofs.lemmas.List.Folds.{list_all-append}
use mathlib.Core.Logic.{inl, inr}
use Rattle.nested_arrays_columns.specs.columnar_memory.declared.DataType.{DataType, map-DataType}
use Rattle.nested_arrays_columns.specs.columnar_memory.declared.DataType.TheOpen as layer
use Rattle.nested_arrays_columns.specs.columnar_memory.declared.Field.{Field}
use Rattle.nested_arrays_columns.specs.columnar_memory.declared.IntegerType.{IntegerType}
use Rattle.nested_arrays_columns.specs.columnar_memory.declared.IntervalUnit.TheVariants as intervals
use Rattle.nested_arrays_columns.specs.columnar_memory.declared.PhysicalType.TheVariants as physical
use Rattle.nested_arrays_columns.specs.columnar_memory.declared.PrimitiveType.{PrimitiveType}
use Rattle.nested_arrays_columns.specs.columnar_memory.Layouts.{physical_type}
use Rattle.nested_arrays_columns.specs.Cells.{is_null, is_truth, is_text, is_bytes, is_bytes_of, is_list_of, is_list_of_size, fit_each, is_record_of}
use Rattle.nested_arrays_columns.specs.Cells.{fits_cell}
use Rattle.nested_arrays_columns.specs.Children.{items_of, fixed_items_of, field_of, joined_items, joined_fixed_items, field_slots, dictionary_values}
use Rattle.nested_arrays_columns.specs.Kinds.{kind_of, most_slots, most_values}
use Rattle.nested_arrays_columns.specs.OpenBatch.{most_short, most_long, is_length, bytes_within, items_within, fields_within}
use Rattle.nested_arrays_columns.specs.OpenBatch.{within_step, is_within, fits}
use Rattle.nested_arrays_columns.specs.Rows.{columns_fit}
use Rattle.nested_arrays_columns.specs.SameSlots.{same_slot, is_among}
use Rattle.nested_arrays_columns.specs.Slots.{Slot, Slots, null, items, fields, no_slot, slot_then, slot_list, window}
use Rattle.nested_arrays_columns.specs.StoredColumns.{type_layer}
use Rattle.nested_arrays_columns.proofs.Fitting.{null_fits}
use Rattle.nested_arrays_columns.proofs.Folds.{fold_keeps}
use Rattle.nested_arrays_columns.proofs.FreshBelow.{no_items, values_fit, TakeNull}
use Rattle.nested_arrays_columns.proofs.FreshKeys.{implied, all_among, among_values}
use Rattle.nested_arrays_columns.proofs.FreshLengths.{Layer, cell_field, cell_layer, unlike}
use Rattle.nested_arrays_columns.proofs.SameSlotsDecide.{same_slot-implies}
use Rattle.nested_arrays_columns.specs.OpenParts.{is_list, is_list_sized, is_record_sized, is_of_kind, kind_in}
use Rattle.nested_arrays_columns.specs.OpenParts.{slots_of_fields}
use Rattle.nested_arrays_columns.proofs.LayerParts.{kind_by_layout}
use Rattle.nested_arrays_columns.proofs.TypeSteps.{within_field, within_layer, fits_by_layer, cell_field_is, within_field_is}

-- ---- tests

and_swap : (a b c d : Bool) → ((a && b) && (c && d)) ≡ ((a && c) && (b && d))
and_swap true true c d = refl
and_swap true false true d = refl
and_swap true false false d = refl
and_swap false b c d = refl

and_assoc : (a b c : Bool) → (a && (b && c)) ≡ (a && b && c)
and_assoc true b c = refl
and_assoc false b c = refl

and_between : (a b c : Bool) → (a && (b && c)) ≡ (b && (a && c))
and_between true b c = refl
and_between false true c = refl
and_between false false c = refl

same_answer : (a b : Bool) → (a ≡ true → b ≡ true) → (b ≡ true → a ≡ true) → a ≡ b
same_answer true b there back = sym (there refl)
same_answer false true there back = back refl
same_answer false false there back = refl

all_both : {A : Type 0} (p q : A → Bool) (xs : List A) → list_all (λ x. p x && q x) xs ≡ (list_all p xs && list_all q xs)
all_both p q [] = refl
all_both p q (x ∷ xs) = ap (λ b. p x && q x && b) (all_both p q xs) ∙ and_swap (p x) (q x) (list_all p xs) (list_all q xs)

all_same : {A : Type 0} (p q : A → Bool) → ((x : A) → p x ≡ q x) → (xs : List A) → list_all p xs ≡ list_all q xs
all_same p q each [] = refl
all_same p q each (x ∷ xs) = λ j. each x j && all_same p q each xs j

-- a test of slots that is one of their shape and one of what each brings
shaped : (test shape item : Slot → Bool) (piece : Slot → List Slot) → ((x : Slot) → test x ≡ (shape x && list_all item (piece x)))
    → (xs : List Slot) → list_all test xs ≡ (list_all shape xs && list_all item (flat_map piece xs))
shaped test shape item piece each [] = refl
shaped test shape item piece each (x ∷ xs) =
    (λ j. each x j && shaped test shape item piece each xs j)
    ∙ and_swap (shape x) (list_all item (piece x)) (list_all shape xs) (list_all item (flat_map piece xs))
    ∙ ap (λ b. shape x && list_all shape xs && b) (sym (list_all-append item (piece x) (flat_map piece xs)))

-- ---- nothing fits every type

abbrev TakesNone : (List Slot → Bool) → Type 0
TakesNone test = test [] ≡ true

abbrev Taking : Type 0
Taking = (test : List Slot → Bool) × TakesNone test

none_is_length : is_length [] ≡ true
none_is_length = le-leb 0 most_slots (omega arith)

none_below : (limit : ℕ) → nat_le 0 limit ≡ true
none_below limit = le-leb 0 limit (omega arith)

none_bytes : (limit : ℕ) → TakesNone (bytes_within limit)
none_bytes limit = and_from (is_length []) (nat_le 0 limit) none_is_length (none_below limit)

none_items : (limit : ℕ) (item : Taking) → TakesNone (items_within limit item.0)
none_items limit item =
    and_from (is_length [] && nat_le 0 limit) (item.0 []) (and_from (is_length []) (nat_le 0 limit) none_is_length (none_below limit)) item.1

none_fields : (tests : List Taking) (k : ℕ) → fields_within (map (λ e. e.0) tests) [] k ≡ true
none_fields [] k = refl
none_fields (test ∷ tests) k =
    and_from (test.0 []) (fields_within (map (λ (e : Taking). e.0) tests) [] (suc k)) test.1 (none_fields tests (suc k))

none_within_step : (z : layer.DataType-F Taking Taking)
    → TakesNone (within_step (map-DataType Taking Taking (List Slot → Bool) (List Slot → Bool) (λ e. e.0) (λ e. e.0) z))
none_within_step layer.Binary = none_bytes most_short
none_within_step layer.Utf8 = none_bytes most_short
none_within_step layer.LargeBinary = none_bytes most_long
none_within_step layer.LargeUtf8 = none_bytes most_long
none_within_step (layer.List item) = none_items most_short item
none_within_step (layer.Map entry is_sorted) = none_items most_short entry
none_within_step (layer.LargeList item) = none_items most_long item
none_within_step (layer.FixedSizeList item size) = and_from (is_length []) (item.0 []) none_is_length item.1
none_within_step (layer.Struct children) =
    and_from (is_length []) (fields_within (map (λ (e : Taking). e.0) children) [] 0) none_is_length (none_fields children 0)
none_within_step (layer.Dictionary key value is_ordered) =
    and_from (is_length [] && nat_le 0 (most_values key)) (value.0 [])
    (and_from (is_length []) (nat_le 0 (most_values key)) none_is_length (none_below (most_values key))) value.1
none_within_step (layer.Extension name inner metadata) = inner.1
none_within_step _ = none_is_length

pub none_within : (t : DataType) → is_within t [] ≡ true
none_within = fold_keeps within_step (λ field. field.data_type) TakesNone TakesNone none_within_step (λ z. z.data_type.1)

pub nothing_fits : (t : DataType) → fits t [] ≡ true
nothing_fits t = none_within t

-- ---- lists

list_shape : (item : Slot → Bool) (x : Slot) → is_list_of item x ≡ (is_list x && list_all item (items_of x))
list_shape item null = refl
list_shape item (items slots) = refl
list_shape item _ = refl

field_fits : (u : Field) (xs : List Slot) → (list_all (cell_field u) xs && within_field u xs) ≡ fits u.data_type xs
field_fits u xs = λ j. list_all (cell_field_is u j) xs && within_field_is u j xs

lists_fit : (limit : ℕ) (u : Field) (xs : List Slot)
    → (list_all (is_list_of (cell_field u)) xs && items_within limit (within_field u) xs)
    ≡ (list_all is_list xs && is_length xs && nat_le (length (joined_items xs)) limit && fits u.data_type (joined_items xs))
lists_fit limit u xs =
    let all = joined_items xs in
    let some = list_all is_list xs in
    let many = is_length xs in
    let few = nat_le (length all) limit in
    ap (λ b. b && items_within limit (within_field u) xs) (shaped (is_list_of (cell_field u)) is_list (cell_field u) items_of
    (list_shape (cell_field u)) xs)
    ∙ and_swap some (list_all (cell_field u) all) (many && few) (within_field u all)
    ∙ ap (λ b. b && (list_all (cell_field u) all && within_field u all)) (and_assoc some many few)
    ∙ ap (λ b. some && many && few && b) (field_fits u all)

pub fits_list : (t : DataType) (item : Field) → type_layer t ≡ layer.List item → (xs : List Slot) → fits t xs
    ≡ (list_all is_list xs && is_length xs && nat_le (length (joined_items xs)) most_short && fits item.data_type (joined_items xs))
fits_list t item is xs = fits_by_layer t (layer.List item) is xs ∙ lists_fit most_short item xs

pub fits_large_list : (t : DataType) (item : Field) → type_layer t ≡ layer.LargeList item → (xs : List Slot) → fits t xs
    ≡ (list_all is_list xs && is_length xs && nat_le (length (joined_items xs)) most_long && fits item.data_type (joined_items xs))
fits_large_list t item is xs = fits_by_layer t (layer.LargeList item) is xs ∙ lists_fit most_long item xs

-- no slot but null fits a map
pub fits_map : (t : DataType) (entry : Field) (is_sorted : Bool) → type_layer t ≡ layer.Map entry is_sorted → (xs : List Slot)
    → fits t xs ≡ (list_all is_null xs && is_length xs)
fits_map t entry is_sorted is xs =
    let all = joined_items xs in
    let few = nat_le (length all) most_short in
    let under : list_all is_null xs ≡ true → (few && within_field entry all) ≡ true =
    λ nulls. ap (λ ys. nat_le (length ys) most_short && within_field entry ys) (no_items xs nulls)
    ∙ and_from (nat_le 0 most_short) (within_field entry []) (none_below most_short)
    (ap (λ (test : List Slot → Bool). test []) (within_field_is entry) ∙ none_within entry.data_type) in
    fits_by_layer t (layer.Map entry is_sorted) is xs
    ∙ ap (λ b. list_all is_null xs && b) (sym (and_assoc (is_length xs) few (within_field entry all)))
    ∙ only_where (list_all is_null xs) (is_length xs) (few && within_field entry all) under
  where
    only_where : (a b c : Bool) → (a ≡ true → c ≡ true) → (a && (b && c)) ≡ (a && b)
    only_where true true c h = h refl
    only_where true false c h = refl
    only_where false b c h = refl

-- ---- lists of one size

nulls_pass : (test : Slot → Bool) → test null ≡ true → (n : ℕ) → list_all test (replicate n null) ≡ true
nulls_pass test takes zero = refl
nulls_pass test takes (suc n) = and_from (test null) (list_all test (replicate n null)) takes (nulls_pass test takes n)

fixed_shape : (size : ℕ) (item : Slot → Bool) → item null ≡ true → (x : Slot)
    → is_list_of_size size item x ≡ (is_list_sized size x && list_all item (fixed_items_of size x))
fixed_shape size item takes null = sym (nulls_pass item takes size)
fixed_shape size item takes (items slots) = refl
fixed_shape size item takes _ = refl

field_takes_null : (u : Field) → cell_field u null ≡ true
field_takes_null u = ap (λ (test : Slot → Bool). test null) (cell_field_is u) ∙ null_fits u.data_type

pub fits_fixed_list : (t : DataType) (item : Field) (size : ℕ) → type_layer t ≡ layer.FixedSizeList item size → (xs : List Slot)
    → fits t xs ≡ (list_all (is_list_sized size) xs && is_length xs && fits item.data_type (joined_fixed_items size xs))
fits_fixed_list t item size is xs =
    let all = joined_fixed_items size xs in
    let cell = cell_field item in
    fits_by_layer t (layer.FixedSizeList item size) is xs
    ∙ ap (λ b. b && (is_length xs && within_field item all)) (shaped (is_list_of_size size cell) (is_list_sized size) cell (fixed_items_of size)
    (fixed_shape size cell (field_takes_null item)) xs)
    ∙ and_swap (list_all (is_list_sized size) xs) (list_all cell all) (is_length xs) (within_field item all)
    ∙ ap (λ b. list_all (is_list_sized size) xs && is_length xs && b) (field_fits item all)

-- ---- structs

-- each field of a slot passes its test, from field k on
abbrev fields_of_pass : List (Slot → Bool) → Slot → ℕ → Bool
fields_of_pass [] x k = true
fields_of_pass (test ∷ tests) x k = test (field_of k x) && fields_of_pass tests x (suc k)

behind_first : (tests : List (Slot → Bool)) (y : Slot) (ys : Slots) (k : ℕ)
    → fields_of_pass tests (fields (slot_then y ys)) (suc k) ≡ fields_of_pass tests (fields ys) k
behind_first [] y ys k = refl
behind_first (test ∷ tests) y ys k = ap (λ b. test (field_of k (fields ys)) && b) (behind_first tests y ys (suc k))

one_more_each : (a b : ℕ) → (suc a == suc b) ≡ (a == b)
one_more_each a b = same_answer (suc a == suc b) (a == b) (λ h. eq-eqb a b (omega (arith, eqb-true (suc a) (suc b) h)))
    (λ h. eq-eqb (suc a) (suc b) (ap suc (eqb-true a b h)))

unequal : (a b : ℕ) → (a ≡ b → ⊥) → (a == b) ≡ false
unequal a b differ = elim (cases_Bool (a == b)) [ inl same ↦ absurd (differ (eqb-true a b same)) | inr other ↦ other ]

each_of_fields : (tests : List (Slot → Bool)) (ys : Slots)
    → fit_each tests ys ≡ ((length (slot_list ys) == length tests) && fields_of_pass tests (fields ys) 0)
each_of_fields [] no_slot = refl
each_of_fields [] (slot_then y ys) =
    ap (λ b. b && true) (sym (unequal (length (slot_list (slot_then y ys))) 0 (λ e. absurd (omega (arith, e)))))
each_of_fields (test ∷ tests) no_slot =
    ap (λ b. b && fields_of_pass (test ∷ tests) (fields no_slot) 0) (sym (unequal 0 (length (test ∷ tests)) (λ e. absurd (omega (arith, e)))))
each_of_fields (test ∷ tests) (slot_then y ys) =
    let many = length (slot_list ys) == length tests in
    ap (λ b. test y && b) (each_of_fields tests ys)
    ∙ and_between (test y) many (fields_of_pass tests (fields ys) 0)
    ∙ (λ j. sym (one_more_each (length (slot_list ys)) (length tests)) j && (test y && sym (behind_first tests y ys 0) j))

record_shape : (tests : List (Slot → Bool)) → TakeNull tests → (x : Slot)
    → is_record_of tests x ≡ (is_record_sized (length tests) x && fields_of_pass tests x 0)
record_shape tests takes null = sym (nulls tests takes 0)
  where
    nulls : (tests : List (Slot → Bool)) → TakeNull tests → (k : ℕ) → fields_of_pass tests null k ≡ true
    nulls [] takes k = refl
    nulls (test ∷ tests) takes k = and_from (test null) (fields_of_pass tests null (suc k)) takes.0 (nulls tests takes.1 (suc k))
record_shape tests takes (fields ys) = each_of_fields tests ys
record_shape tests takes _ = refl

-- the slots of each field pass its test, from field k on
abbrev slots_of_pass : List (Slot → Bool) → List Slot → ℕ → Bool
slots_of_pass [] xs k = true
slots_of_pass (test ∷ tests) xs k = list_all test (field_slots xs k) && slots_of_pass tests xs (suc k)

each_slot : (tests : List (Slot → Bool)) (xs : List Slot) (k : ℕ) → list_all (λ x. fields_of_pass tests x k) xs ≡ slots_of_pass tests xs k
each_slot tests [] k = none tests k
  where
    none : (tests : List (Slot → Bool)) (k : ℕ) → true ≡ slots_of_pass tests [] k
    none [] k = refl
    none (test ∷ tests) k = none tests (suc k)
each_slot tests (x ∷ xs) k = ap (λ b. fields_of_pass tests x k && b) (each_slot tests xs k) ∙ one tests k
  where
    one : (tests : List (Slot → Bool)) (k : ℕ) → (fields_of_pass tests x k && slots_of_pass tests xs k) ≡ slots_of_pass tests (x ∷ xs) k
    one [] k = refl
    one (test ∷ tests) k =
        and_swap (test (field_of k x)) (fields_of_pass tests x (suc k)) (list_all test (field_slots xs k)) (slots_of_pass tests xs (suc k))
        ∙ ap (λ b. test (field_of k x) && list_all test (field_slots xs k) && b) (one tests (suc k))

fields_take_null : (us : List Field) → TakeNull (map cell_field us)
fields_take_null [] = tt
fields_take_null (u ∷ us) = (field_takes_null u, fields_take_null us)

columns_of_fields : (us : List Field) (xs : List Slot) (k : ℕ)
    → (slots_of_pass (map cell_field us) xs k && fields_within (map within_field us) xs k) ≡ columns_fit us (window (field_slots xs) k (length us))
columns_of_fields [] xs k = refl
columns_of_fields (u ∷ us) xs k =
    let next : suc k ≡ k + 1 = omega arith in
    let own = field_slots xs k in
    and_swap (list_all (cell_field u) own) (slots_of_pass (map cell_field us) xs (suc k)) (within_field u own)
    (fields_within (map within_field us) xs (suc k))
    ∙ (λ j. field_fits u own j && (columns_of_fields us xs (suc k) ∙ ap (λ m. columns_fit us (window (field_slots xs) m (length us))) next) j)

pub fits_struct : (t : DataType) (us : List Field) → type_layer t ≡ layer.Struct us → (xs : List Slot)
    → fits t xs ≡ (list_all (is_record_sized (length us)) xs && is_length xs && columns_fit us (slots_of_fields (length us) xs))
fits_struct t us is xs =
    let tests = map cell_field us in
    let many : length tests ≡ length us = length-map us cell_field in
    let shape = list_all (is_record_sized (length tests)) xs in
    fits_by_layer t (layer.Struct us) is xs
    ∙ ap (λ b. b && (is_length xs && fields_within (map within_field us) xs 0))
    (all_same (is_record_of tests) (λ x. is_record_sized (length tests) x && fields_of_pass tests x 0) (record_shape tests (fields_take_null us)) xs
    ∙ all_both (is_record_sized (length tests)) (λ x. fields_of_pass tests x 0) xs
    ∙ ap (λ b. shape && b) (each_slot tests xs 0))
    ∙ and_swap shape (slots_of_pass tests xs 0) (is_length xs) (fields_within (map within_field us) xs 0)
    ∙ (λ j. list_all (is_record_sized (many j)) xs && is_length xs && columns_of_fields us xs 0 j)

-- ---- dictionaries

among_passes : (test : Slot → Bool) (x : Slot) (ys : List Slot) → list_all test ys ≡ true → is_among x ys ≡ true → test x ≡ true
among_passes test x [] passes among = absurd (false≢true among)
among_passes test x (y ∷ ys) passes among =
    let parts = and_parts (test y) (list_all test ys) passes in
    elim (or_cases (same_slot x y) (is_among x ys) among) [
      | inl here ↦ ap test (same_slot-implies x y here) ∙ parts.0
      | inr later ↦ among_passes test x ys parts.1 later
    ]

-- slots pass a test that null passes where their values do
values_decide : (test : Slot → Bool) → test null ≡ true → (xs : List Slot) → list_all test xs ≡ list_all test (dictionary_values xs)
values_decide test takes xs = same_answer (list_all test xs) (list_all test (dictionary_values xs)) (values_fit test xs) back
  where
    each : list_all test (dictionary_values xs) ≡ true → (x : Slot) → is_among x xs ≡ true → test x ≡ true
    each passes null among = takes
    each passes x among = among_passes test x (dictionary_values xs) passes (among_values x xs refl among)

    back : list_all test (dictionary_values xs) ≡ true → list_all test xs ≡ true
    back passes = implied (λ x. is_among x xs) test (each passes) xs (all_among xs)

pub fits_dictionary : (t : DataType) (key : IntegerType) (value : DataType) (is_ordered : Bool) → type_layer t ≡ layer.Dictionary key value is_ordered
    → (xs : List Slot)
    → fits t xs ≡ (is_length xs && nat_le (length (dictionary_values xs)) (most_values key) && fits value (dictionary_values xs))
fits_dictionary t key value is_ordered is xs =
    let values = dictionary_values xs in
    let few = is_length xs && nat_le (length values) (most_values key) in
    fits_by_layer t (layer.Dictionary key value is_ordered) is xs
    ∙ ap (λ b. b && (few && is_within value values)) (values_decide (fits_cell value) (null_fits value) xs)
    ∙ and_between (list_all (fits_cell value) values) few (is_within value values)

-- ---- without children

pub fits_nulls : (t : DataType) → type_layer t ≡ layer.Null → (xs : List Slot) → fits t xs ≡ (list_all is_null xs && is_length xs)
fits_nulls t is xs = fits_by_layer t layer.Null is xs

pub fits_booleans : (t : DataType) → type_layer t ≡ layer.Boolean → (xs : List Slot) → fits t xs ≡ (list_all is_truth xs && is_length xs)
fits_booleans t is xs = fits_by_layer t layer.Boolean is xs

pub fits_binary : (t : DataType) → type_layer t ≡ layer.Binary → (xs : List Slot) → fits t xs ≡ (list_all is_bytes xs && bytes_within most_short xs)
fits_binary t is xs = fits_by_layer t layer.Binary is xs

pub fits_large_binary : (t : DataType) → type_layer t ≡ layer.LargeBinary → (xs : List Slot)
    → fits t xs ≡ (list_all is_bytes xs && bytes_within most_long xs)
fits_large_binary t is xs = fits_by_layer t layer.LargeBinary is xs

pub fits_texts : (t : DataType) → type_layer t ≡ layer.Utf8 → (xs : List Slot) → fits t xs ≡ (list_all is_text xs && bytes_within most_short xs)
fits_texts t is xs = fits_by_layer t layer.Utf8 is xs

pub fits_large_texts : (t : DataType) → type_layer t ≡ layer.LargeUtf8 → (xs : List Slot)
    → fits t xs ≡ (list_all is_text xs && bytes_within most_long xs)
fits_large_texts t is xs = fits_by_layer t layer.LargeUtf8 is xs

pub fits_fixed_binary : (t : DataType) (size : ℕ) → type_layer t ≡ layer.FixedSizeBinary size → (xs : List Slot)
    → fits t xs ≡ (list_all (is_bytes_of size) xs && is_length xs)
fits_fixed_binary t size is xs = fits_by_layer t (layer.FixedSizeBinary size) is xs

-- which slots numbers of a kind are, if a type has one
abbrev is_of : Option PrimitiveType → Slot → Bool
is_of None = is_null
is_of (Some kind) = is_of_kind kind

numbers_fit : (x : Layer) (kind : PrimitiveType) (xs : List Slot) → kind_of x ≡ Some kind
    → (list_all (cell_layer x) xs && within_layer x xs) ≡ (list_all (is_of_kind kind) xs && is_length xs)
numbers_fit layer.Null kind xs is = absurd (unlike (ap is_some is))
numbers_fit layer.Boolean kind xs is = absurd (unlike (ap is_some is))
numbers_fit layer.Binary kind xs is = absurd (unlike (ap is_some is))
numbers_fit layer.LargeBinary kind xs is = absurd (unlike (ap is_some is))
numbers_fit (layer.FixedSizeBinary size) kind xs is = absurd (unlike (ap is_some is))
numbers_fit layer.Utf8 kind xs is = absurd (unlike (ap is_some is))
numbers_fit layer.LargeUtf8 kind xs is = absurd (unlike (ap is_some is))
numbers_fit (layer.List item) kind xs is = absurd (unlike (ap is_some is))
numbers_fit (layer.LargeList item) kind xs is = absurd (unlike (ap is_some is))
numbers_fit (layer.FixedSizeList item size) kind xs is = absurd (unlike (ap is_some is))
numbers_fit (layer.Struct children) kind xs is = absurd (unlike (ap is_some is))
numbers_fit (layer.Union children ids mode) kind xs is = absurd (unlike (ap is_some is))
numbers_fit (layer.Map entry is_sorted) kind xs is = absurd (unlike (ap is_some is))
numbers_fit (layer.Dictionary key value is_ordered) kind xs is = absurd (unlike (ap is_some is))
numbers_fit (layer.Extension name inner metadata) kind xs is = absurd (unlike (ap is_some is))
numbers_fit (layer.Interval intervals.YearMonth) kind xs is = ap (λ k. list_all (is_of k) xs && is_length xs) is
numbers_fit (layer.Interval intervals.DayTime) kind xs is = ap (λ k. list_all (is_of k) xs && is_length xs) is
numbers_fit (layer.Interval intervals.MonthDayNano) kind xs is = ap (λ k. list_all (is_of k) xs && is_length xs) is
numbers_fit _ kind xs is = ap (λ k. list_all (is_of k) xs && is_length xs) is

pub fits_numbers : (t : DataType) (kind : PrimitiveType) → kind_of (type_layer t) ≡ Some kind → (xs : List Slot)
    → fits t xs ≡ (list_all (is_of_kind kind) xs && is_length xs)
fits_numbers t kind is xs = fits_by_layer t (type_layer t) refl xs ∙ numbers_fit (type_layer t) kind xs is

pub fits_primitive : (t : DataType) (kind : PrimitiveType) → physical_type t ≡ physical.Primitive kind → (xs : List Slot)
    → fits t xs ≡ (list_all (is_of_kind kind) xs && is_length xs)
fits_primitive t kind is xs = fits_numbers t kind (kind_by_layout t ∙ ap kind_in is) xs
