-- Dictionaries are sound where their parts are, and what is cut out of keys is cut out of the dictionary.
use Rattle.std.proofs.Common.{◌≡◌, ◌∙◌, ℕ, zero, suc, ◌<◌, List, [], ◌∷◌, length, map, refl, sym, ap, subst, arith, get_or, true, false}
use Rattle.std.specs.Prelude.{Result, Ok, Err, is_ok}
use Rattle.std.specs.Prelude.{ℤ, pos, Bool, ◌&&◌, ◌||◌, not, Option, int_le, nat_lt, slice_index_or, T, ◌≤ℤ◌}
use Rattle.std.specs.List.{All, list_all}
use mathlib.Core.Logic.{inl}
use lib.Signed.{le_z_yes}
use Rattle.std.proofs.lemmas.Bool.{and_from, and_parts, le-leb, lt-ltb, false≢true}
use Rattle.std.proofs.lemmas.List.{length-map}
use Rattle.nested_arrays_access.specs.columnar_memory.Equality.{same_type}
use Rattle.nested_arrays_access.specs.columnar_memory.Error.{IsOutOfSpec}
use Rattle.nested_arrays_access.specs.columnar_memory.Layouts.{physical_type}
use Rattle.nested_arrays_access.specs.columnar_memory.Numbers.{Numbers, one, first_number}
use Rattle.nested_arrays_access.specs.columnar_memory.declared.DataType.{DataType}
use Rattle.nested_arrays_access.specs.columnar_memory.declared.DataType.TheOpen as layer
use Rattle.nested_arrays_access.specs.columnar_memory.declared.Error.{Error}
use Rattle.nested_arrays_access.specs.columnar_memory.declared.IntegerType.{IntegerType}
use Rattle.nested_arrays_access.specs.columnar_memory.declared.IntegerType.TheVariants as integers
use Rattle.nested_arrays_access.specs.columnar_memory.declared.PhysicalType.{PhysicalType}
use Rattle.nested_arrays_access.specs.columnar_memory.declared.PhysicalType.TheVariants as physical
use Rattle.nested_arrays_access.specs.columnar_memory.declared.PrimitiveType.{PrimitiveType}
use Rattle.nested_arrays_access.specs.flat_arrays.Flat as arrays
use Rattle.nested_arrays_access.specs.flat_arrays.Flat.{Flat, IsFlat, IsMaskOf}
use Rattle.nested_arrays_access.specs.flat_arrays.Results.{AreChecked, IsPlaceBelow}
use Rattle.nested_arrays_access.specs.columns.Kinds.{is_key}
use Rattle.nested_arrays_access.specs.columns.SoundColumns.{has_size, has_value_at, has_value_type, holds_below, is_sound, is_stored_as, mask_fits}
use Rattle.nested_arrays_access.specs.columns.StoredColumns.{Column, flat, dictionary, column_len, column_type, cut, is_valid_at, place_of, stored_len, type_layer}
use Rattle.nested_arrays_access.proofs.columns_lemmas.Conditions.{holds_at, holds_from, parts_of_3, parts_of_4}
use Rattle.nested_arrays_access.specs.flat.ColumnMasks.{column_mask}
use Rattle.nested_arrays_access.specs.flat.FlatColumns.{primitive_column, stored_numbers}
use Rattle.nested_arrays_access.proofs.flat_lemmas.ColumnParts.{sound_mask}
use Rattle.nested_arrays_access.proofs.flat_lemmas.Layers.{Layer, layer_layout, type_lies}
use Rattle.nested_arrays_access.proofs.flat_lemmas.SoundFlats.{cut_masks, primitive_len, window-cut_list, window-map}
use Rattle.nested_arrays_access.specs.arrays.Answers.{IsCheckedAs, LiesAs}
use Rattle.nested_arrays_access.specs.parts.Keys.{AreKeysOf, keyed, kind_of_keys, numbers_in}
use Rattle.nested_arrays_core.specs.Dictionaries.{IsDictionaryOf, dictionary_type, is_value_type, keyed_by, raw_key}

-- ---- places of values

valid_or : (is_valid test : Bool) → test ≡ true → (not is_valid || test) ≡ true
valid_or true test h = h
valid_or false test h = refl

-- the key at a place is that of an item
key_there : {K : Type 0} (value : K → ℤ) (keys : List K) (i : ℕ) → i < length keys
    → (x : K) × (slice_index_or (map value keys) i (pos 0) ≡ value x) × (get_or keys i x ≡ x)
key_there value [] i small = absurd (omega arith)
key_there value (x ∷ keys) zero small = (x, refl, refl)
key_there value (x ∷ keys) (suc i) small = key_there value keys i (omega arith)

not_below_zero : (n : ℕ) → int_le (pos 0) (pos n) ≡ true
not_below_zero n = le-leb 0 n (omega arith)

place_is : (key : ℤ) (count : ℕ) → IsPlaceBelow count key → (int_le (pos 0) key && nat_lt (place_of key) count) ≡ true
place_is key count h =
    ap (λ k. int_le (pos 0) k && nat_lt (place_of k) count) h.1
    ∙ and_from (int_le (pos 0) (pos h.0)) (nat_lt h.0 count) (not_below_zero h.0) (lt-ltb h.0 count h.2)

-- keys that are places of values name values, whatever the mask
pub places_hold : {K : Type 0} (value : K → ℤ) (keys : List K) (mask : Option (List Bool)) (count : ℕ)
    → All (λ key. IsPlaceBelow count (value key)) keys → holds_below (length keys) (has_value_at mask (map value keys) count) ≡ true
places_hold value keys mask count all = holds_from (length keys) (has_value_at mask (map value keys) count) (λ i small.
    let there = key_there value keys i small in
    let place = subst (λ key. IsPlaceBelow count (value key)) there.2 (all i there.0 small) in
    valid_or (is_valid_at mask i) (int_le (pos 0) (slice_index_or (map value keys) i (pos 0))
    && nat_lt (place_of (slice_index_or (map value keys) i (pos 0))) count)
    (ap (λ k. int_le (pos 0) k && nat_lt (place_of k) count) there.1 ∙ place_is (value there.0) count place))

-- so do those that a check has passed
pub checked_hold : {K : Type 0} (value : K → ℤ) (seen keys : List K) (mask : Option (List Bool)) (count : ℕ) (r : Result (Unit {0}) Error)
    → AreChecked value seen count r → is_ok r ≡ true → seen ≡ keys
    → holds_below (length keys) (has_value_at mask (map value keys) count) ≡ true
checked_hold {K} value seen keys mask count (Ok u) h ok is =
    subst (λ (ks : List K). holds_below (length ks) (has_value_at mask (map value ks) count) ≡ true) is (places_hold value seen mask count h)
checked_hold value seen keys mask count (Err e) h ok is = absurd (false≢true ok)

is_false : (b : Bool) → (b ≡ true → ⊥) → false ≡ b
is_false false h = refl
is_false true h = absurd (h refl)

-- a test that fails at a place does not hold below more
pub fails_below : (n : ℕ) (test : ℕ → Bool) (i : ℕ) → i < n → test i ≡ false → false ≡ holds_below n test
fails_below n test i small fails = is_false (holds_below n test) (λ h. false≢true (sym fails ∙ holds_at n test i h small))

-- ---- keys within their kind

stored_in_range : (key : IntegerType) (values : List Numbers)
    → is_stored_as (physical.Primitive (kind_of_keys key)) (stored_numbers (kind_of_keys key) values) ≡ true
    → list_all (is_key key) (map first_number values) ≡ true
stored_in_range integers.Int8 values h = (and_parts true (list_all (is_key integers.Int8) (map first_number values)) h).1
stored_in_range integers.Int16 values h = (and_parts true (list_all (is_key integers.Int16) (map first_number values)) h).1
stored_in_range integers.Int32 values h = (and_parts true (list_all (is_key integers.Int32) (map first_number values)) h).1
stored_in_range integers.Int64 values h = (and_parts true (list_all (is_key integers.Int64) (map first_number values)) h).1
stored_in_range integers.UInt8 values h = (and_parts true (list_all (is_key integers.UInt8) (map first_number values)) h).1
stored_in_range integers.UInt16 values h = (and_parts true (list_all (is_key integers.UInt16) (map first_number values)) h).1
stored_in_range integers.UInt32 values h = (and_parts true (list_all (is_key integers.UInt32) (map first_number values)) h).1
stored_in_range integers.UInt64 values h = (and_parts true (list_all (is_key integers.UInt64) (map first_number values)) h).1

-- the numbers of keys are their values
numbers_are : {K : Type 0} (number : K → Numbers) (value : K → ℤ) → ((x : K) → number x ≡ one (value x)) → (keys : List K)
    → map first_number (map number keys) ≡ map value keys
numbers_are number value law [] = refl
numbers_are number value law (x ∷ keys) = λ j. first_number (law x j) ∷ numbers_are number value law keys j

-- keys of an array are numbers of their type
pub keys_in_range : {K : Type 0} (key : IntegerType) (kind : PrimitiveType) (number : K → Numbers) (value : K → ℤ) (a : Flat K)
    → kind ≡ kind_of_keys key → ((x : K) → number x ≡ one (value x)) → physical_type a.data_type ≡ physical.Primitive kind
    → is_sound (primitive_column kind number a) ≡ true → list_all (is_key key) (map value a.values) ≡ true
keys_in_range key kind number value a is law lies sound =
    let stored = stored_numbers kind (map number a.values) in
    let parts = parts_of_3 (is_stored_as (physical_type a.data_type) stored) (has_size (type_layer a.data_type) stored)
    (mask_fits a.validity (stored_len stored)) sound in
    let as_kind : is_stored_as (physical.Primitive kind) stored ≡ true = ap (λ layout. is_stored_as layout stored) (sym lies) ∙ parts.0 in
    ap (list_all (is_key key)) (sym (numbers_are number value law a.values))
    ∙ stored_in_range key (map number a.values)
    (subst (λ (k : PrimitiveType). is_stored_as (physical.Primitive k) (stored_numbers k (map number a.values)) ≡ true) is as_kind)

-- the mask of keys has a mark for each
pub keys_masked : {K : Type 0} (kind : PrimitiveType) (number : K → Numbers) (a : Flat K) → is_sound (primitive_column kind number a) ≡ true
    → mask_fits a.validity (length a.values) ≡ true
keys_masked kind number a sound =
    ap (mask_fits a.validity) (sym (primitive_len kind number a)) ∙ sound_mask (primitive_column kind number a) sound

-- the numbers that are stored of keys
stored_keys : (key : IntegerType) (t : DataType) (mask : Option (List Bool)) (values : List Numbers)
    → numbers_in (flat t mask (stored_numbers (kind_of_keys key) values)) ≡ map first_number values
stored_keys integers.Int8 t mask values = refl
stored_keys integers.Int16 t mask values = refl
stored_keys integers.Int32 t mask values = refl
stored_keys integers.Int64 t mask values = refl
stored_keys integers.UInt8 t mask values = refl
stored_keys integers.UInt16 t mask values = refl
stored_keys integers.UInt32 t mask values = refl
stored_keys integers.UInt64 t mask values = refl

stored_fit : (key : IntegerType) (t : DataType) (mask : Option (List Bool)) (values : List Numbers)
    → AreKeysOf (physical.Dictionary key) (flat t mask (stored_numbers (kind_of_keys key) values))
stored_fit integers.Int8 t mask values = refl
stored_fit integers.Int16 t mask values = refl
stored_fit integers.Int32 t mask values = refl
stored_fit integers.Int64 t mask values = refl
stored_fit integers.UInt8 t mask values = refl
stored_fit integers.UInt16 t mask values = refl
stored_fit integers.UInt32 t mask values = refl
stored_fit integers.UInt64 t mask values = refl

-- a dictionary by its array of keys, or by the column of that array
pub keyed_is : {K : Type 0} (key : IntegerType) (kind : PrimitiveType) (number : K → Numbers) (value : K → ℤ) (data_type : DataType) (a : Flat K)
    (keys values : Column) → kind ≡ kind_of_keys key → ((x : K) → number x ≡ one (value x)) → keys ≡ primitive_column kind number a
    → keyed data_type keys values ≡ keyed_by value data_type a values
keyed_is key kind number value data_type a keys values is law same =
    ap (λ k. keyed data_type k values) (same ∙ ap (λ k. primitive_column k number a) is)
    ∙ ap (λ numbers. dictionary data_type a.validity numbers values)
    (stored_keys key a.data_type a.validity (map number a.values) ∙ numbers_are number value law a.values)

pub keyed_fits : {K : Type 0} (key : IntegerType) (kind : PrimitiveType) (number : K → Numbers) (layout : PhysicalType) (a : Flat K) (keys : Column)
    → kind ≡ kind_of_keys key → keys ≡ primitive_column kind number a → layout ≡ physical.Dictionary key → AreKeysOf layout keys
keyed_fits key kind number layout a keys is same lies =
    subst (λ (l : PhysicalType). AreKeysOf l keys) (sym lies)
    (subst (AreKeysOf (physical.Dictionary key)) (sym (same ∙ ap (λ k. primitive_column k number a) is))
    (stored_fit key a.data_type a.validity (map number a.values)))

-- ---- types

abbrev key_in : IntegerType → PhysicalType → IntegerType
key_in other (physical.Dictionary key) = key
key_in other _ = other

value_layer : (x : Layer) (key : IntegerType) (keys : List ℤ) (child : DataType) → is_value_type x child ≡ true
    → layer_layout x ≡ physical.Dictionary key → list_all (is_key key) keys ≡ true → has_value_type x keys child ≡ true
value_layer (layer.Dictionary stored value is_ordered) key keys child typed lies each =
    and_from (same_type value child) (list_all (is_key stored) keys) typed
    (ap (λ k. list_all (is_key k) keys) (ap (key_in key) lies) ∙ each)
value_layer _ key keys child typed lies each = absurd (false≢true typed)

layer_value : (x : Layer) (keys : List ℤ) (child : DataType) → has_value_type x keys child ≡ true → is_value_type x child ≡ true
layer_value (layer.Dictionary stored value is_ordered) keys child h = (and_parts (same_type value child) (list_all (is_key stored) keys) h).0
layer_value _ keys child h = absurd (false≢true h)

-- ---- dictionaries

-- a dictionary is sound where its parts are
pub dictionary_whole : {K : Type 0} (key : IntegerType) (value : K → ℤ) (data_type : DataType) (keys : Flat K) (values : Column)
    → physical_type data_type ≡ physical.Dictionary key → is_value_type (type_layer data_type) (column_type values) ≡ true
    → list_all (is_key key) (map value keys.values) ≡ true → mask_fits keys.validity (length keys.values) ≡ true
    → holds_below (length keys.values) (has_value_at keys.validity (map value keys.values) (column_len values)) ≡ true
    → is_sound values ≡ true → LiesAs (physical.Dictionary key) (keyed_by value data_type keys values)
dictionary_whole key value data_type keys values lies typed ranged masked named sound =
    let numbers = map value keys.values in
    let test = has_value_at keys.validity numbers (column_len values) in
    let count : length numbers ≡ length keys.values = length-map keys.values value in
    let a = has_value_type (type_layer data_type) numbers (column_type values) in
    let b = mask_fits keys.validity (length numbers) in
    let d = holds_below (length numbers) test in (
      and_from (a && b && d) (is_sound values)
          (and_from (a && b) d
          (and_from a b (value_layer (type_layer data_type) key numbers (column_type values) typed (sym (type_lies data_type).0 ∙ lies) ranged)
          (ap (mask_fits keys.validity) count ∙ masked))
          (ap (λ n. holds_below n test) count ∙ named)) sound,
      lies,
    )

-- the parts of a dictionary that is sound
pub dictionary_parts : {K : Type 0} (key : IntegerType) (value : K → ℤ) (data_type : DataType) (keys : Flat K) (values : Column)
    → LiesAs (physical.Dictionary key) (keyed_by value data_type keys values)
    → (is_value_type (type_layer data_type) (column_type values) ≡ true)
    × (holds_below (length keys.values) (has_value_at keys.validity (map value keys.values) (column_len values)) ≡ true)
dictionary_parts key value data_type keys values lies =
    let numbers = map value keys.values in
    let test = has_value_at keys.validity numbers (column_len values) in
    let parts = parts_of_4 (has_value_type (type_layer data_type) numbers (column_type values)) (mask_fits keys.validity (length numbers))
    (holds_below (length numbers) test) (is_sound values) lies.0 in (
      layer_value (type_layer data_type) numbers (column_type values) parts.0,
      ap (λ n. holds_below n test) (sym (length-map keys.values value)) ∙ parts.2,
    )

-- what is cut out of keys is cut out of the dictionary
pub keyed_by_cut : {K : Type 0} (value : K → ℤ) (c : Column) (data_type : DataType) (keys some : Flat K) (values : Column) (o n : ℕ)
    → keyed_by value data_type keys values ≡ c → some ≡ arrays.cut keys o n → keyed_by value data_type some values ≡ cut c o n
keyed_by_cut value c data_type keys some values o n is part =
    ap (λ k. keyed_by value data_type k values) part
    ∙ (λ j. dictionary data_type (cut_masks keys.validity o n j)
    ((window-map value keys.values o n ∙ sym (window-cut_list (map value keys.values) o n)) j) values)
    ∙ ap (λ c. cut c o n) is

-- a dictionary of the type of its keys and values
pub made_of : (key made_key : IntegerType) (parts : DataType → Column) (value_type made : DataType) (r : Result Column Error)
    → IsCheckedAs (physical.Dictionary key) (parts (dictionary_type made_key made)) r → made_key ≡ key → made ≡ value_type
    → IsDictionaryOf key parts value_type r
made_of key made_key parts value_type made (Ok a) h named is =
    subst (λ (t : DataType). (a ≡ parts t) × LiesAs (physical.Dictionary key) (parts t)) (λ j. dictionary_type (named j) (is j)) h
made_of key made_key parts value_type made (Err e) h named is =
    inl (subst (λ (t : DataType). IsOutOfSpec e × ¬ LiesAs (physical.Dictionary key) (parts t)) (λ j. dictionary_type (named j) (is j)) h)

not_negative : (z : ℤ) → int_le (pos 0) z ≡ true → pos 0 ≤ℤ z
not_negative z h = le_z_yes (subst T (sym h) tt)

seen : (is_valid test : Bool) → is_valid ≡ true → (not is_valid || test) ≡ true → test ≡ true
seen true test is h = h
seen false test is h = absurd (false≢true is)

-- the key of a slot that is not null is not below zero
pub key_is_place : (c : Column) (data_type : DataType) (mask : Option (List Bool)) (keys : List ℤ) (values : Column) (i : ℕ)
    → dictionary data_type mask keys values ≡ c → is_sound c ≡ true → i < column_len c → is_valid_at (column_mask c) i ≡ true
    → pos 0 ≤ℤ raw_key c i
key_is_place c data_type mask keys values i is sound small valid =
    let test = has_value_at mask keys (column_len values) in
    let key = slice_index_or keys i (pos 0) in
    let size : length keys ≡ column_len c = ap column_len is in
    let parts = parts_of_4 (has_value_type (type_layer data_type) keys (column_type values)) (mask_fits mask (length keys))
    (holds_below (length keys) test) (is_sound values) (ap is_sound is ∙ sound) in
    let held = seen (is_valid_at mask i) (int_le (pos 0) key && nat_lt (place_of key) (column_len values))
    (ap (λ (d : Column). is_valid_at (column_mask d) i) is ∙ valid) (holds_at (length keys) test i parts.2 (omega (arith, small, size))) in
    subst (λ (d : Column). pos 0 ≤ℤ raw_key d i) is
    (not_negative key (and_parts (int_le (pos 0) key) (nat_lt (place_of key) (column_len values)) held).0)
