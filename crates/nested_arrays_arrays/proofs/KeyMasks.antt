-- Keys that name values under a mask.
use Rattle.std.proofs.Common.{◌≡◌, ◌∙◌, ℕ, List, true, false, refl, sym, ap, subst, arith, length, map, rules}
use Rattle.std.specs.Prelude.{ℤ, pos, negsuc, ◌<ℤ◌, ◌&&◌, Bool, Option, Result, Ok, Err, Some, nat_lt, option_map, slice_get, slice_index_or}
use Rattle.std.proofs.lemmas.Bool.{and_from, le-leb}
use Rattle.std.proofs.lemmas.List.{length-map}
use Rattle.std.proofs.lemmas.Option.{get_or_from_slice_get, slice_get-map}
use Rattle.nested_arrays_parts.specs.columnar_memory.Numbers.{Numbers, one, first_number}
use Rattle.nested_arrays_parts.specs.columnar_memory.declared.DataType.{DataType}
use Rattle.nested_arrays_parts.specs.columnar_memory.declared.Error.{Error}
use Rattle.nested_arrays_parts.specs.columnar_memory.declared.IntegerType.{IntegerType}
use Rattle.nested_arrays_parts.specs.columnar_memory.declared.IntegerType.TheVariants as integers
use Rattle.nested_arrays_parts.specs.columnar_memory.declared.PhysicalType.{PhysicalType}
use Rattle.nested_arrays_parts.specs.columnar_memory.declared.PhysicalType.TheVariants as physical
use Rattle.nested_arrays_parts.specs.columnar_memory.declared.PrimitiveType.TheVariants as kinds
use Rattle.nested_arrays_parts.proofs.columns_lemmas.Conditions.{parts_of_4}
use Rattle.nested_arrays_parts.specs.columns.SoundColumns.{has_value_at, has_value_type, holds_below, is_sound, mask_fits}
use Rattle.nested_arrays_parts.specs.columns.StoredColumns.{Column, numbers, flat, dictionary, column_len, column_type, type_layer}
use Rattle.nested_arrays_parts.proofs.flat_lemmas.ColumnParts.{flat_takes}
use Rattle.nested_arrays_parts.specs.flat.ColumnMasks.{ReplacesMask, TakesMask}
use Rattle.nested_arrays_parts.specs.Keys.{AreKeysOf, keyed, kind_of_keys, numbers_in}
use Rattle.nested_arrays_arrays.specs.NamedValues.{firsts, names_value}

-- a key that is a number names a value where that number is below the count, and one below zero none
pub named : (key : ℤ) (place count : ℕ) → key ≡ pos place → names_value count key ≡ nat_lt place count
named key place count is = ap (names_value count) is ∙ ap (λ b. b && nat_lt place count) (le-leb 0 place (omega arith))

pub unnamed : (key : ℤ) (count : ℕ) → key <ℤ pos 0 → names_value count key ≡ false
unnamed (pos n) count below = absurd (search (rules, below))
unnamed (negsuc n) count below = refl

-- the number that is stored for a key
pub key_there : {K : Type 0} (number : K → Numbers) (value : K → ℤ) (keys : List K) (i : ℕ) (key : K) → ((x : K) → number x ≡ one (value x))
    → slice_get keys i ≡ Some key → slice_index_or (firsts number keys) i (pos 0) ≡ value key
key_there number value keys i key law is = get_or_from_slice_get (firsts number keys) i (value key) (pos 0)
    (slice_get-map first_number (map number keys) i ∙ ap (option_map first_number) (slice_get-map number keys i ∙ ap (option_map number) is)
    ∙ ap (λ n. Some (first_number n)) (law key))

-- as many numbers as keys
pub firsts_count : {K : Type 0} (number : K → Numbers) (keys : List K) → length (firsts number keys) ≡ length keys
firsts_count number keys = length-map (map number keys) first_number ∙ length-map keys number

-- no keys are of 128 bits or more
long_kinds : (key : IntegerType) → kinds.Int128 ≡ kind_of_keys key → ⊥
long_kinds integers.Int8 is = cc
long_kinds integers.Int16 is = cc
long_kinds integers.Int32 is = cc
long_kinds integers.Int64 is = cc
long_kinds integers.UInt8 is = cc
long_kinds integers.UInt16 is = cc
long_kinds integers.UInt32 is = cc
long_kinds integers.UInt64 is = cc

wide_kinds : (key : IntegerType) → kinds.Int256 ≡ kind_of_keys key → ⊥
wide_kinds integers.Int8 is = cc
wide_kinds integers.Int16 is = cc
wide_kinds integers.Int32 is = cc
wide_kinds integers.Int64 is = cc
wide_kinds integers.UInt8 is = cc
wide_kinds integers.UInt16 is = cc
wide_kinds integers.UInt32 is = cc
wide_kinds integers.UInt64 is = cc

pub no_long_keys : (layout : PhysicalType) (t : DataType) (mask : Option (List Bool)) (values : List ℤ)
    → AreKeysOf layout (flat t mask (numbers kinds.Int128 values)) → ⊥
no_long_keys (physical.Dictionary key) t mask values fits = long_kinds key fits
no_long_keys _ t mask values fits = fits

pub no_wide_keys : (layout : PhysicalType) (t : DataType) (mask : Option (List Bool)) (values : List ℤ)
    → AreKeysOf layout (flat t mask (numbers kinds.Int256 values)) → ⊥
no_wide_keys (physical.Dictionary key) t mask values fits = wide_kinds key fits
no_wide_keys _ t mask values fits = fits

pub ruleset keys_masked = (firsts_count, no_long_keys, no_wide_keys)

-- a dictionary may have a mask under which each valid key names a value
pub dictionary_takes : (t : DataType) (old mask : Option (List Bool)) (keys : List ℤ) (values : Column)
    → is_sound (dictionary t old keys values) ≡ true → mask_fits mask (length keys) ≡ true
    → holds_below (length keys) (has_value_at mask keys (column_len values)) ≡ true → TakesMask (dictionary t old keys values) mask
dictionary_takes t old mask keys values sound fits named =
    let a = has_value_type (type_layer t) keys (column_type values) in
    let b = mask_fits mask (length keys) in
    let d = holds_below (length keys) (has_value_at mask keys (column_len values)) in
    let parts = parts_of_4 a (mask_fits old (length keys)) (holds_below (length keys) (has_value_at old keys (column_len values)))
    (is_sound values) sound in
    (fits, refl, and_from (a && b && d) (is_sound values) (and_from (a && b) d (and_from a b parts.0 fits) named) parts.3)

-- and no other
pub dictionary_named : (t : DataType) (old mask : Option (List Bool)) (keys : List ℤ) (values : Column)
    → TakesMask (dictionary t old keys values) mask → holds_below (length keys) (has_value_at mask keys (column_len values)) ≡ true
dictionary_named t old mask keys values takes =
    (parts_of_4 (has_value_type (type_layer t) keys (column_type values)) (mask_fits mask (length keys))
    (holds_below (length keys) (has_value_at mask keys (column_len values))) (is_sound values) takes.2).2

-- the dictionary of keys whose mask is replaced
pub keyed_replaced : (layout : PhysicalType) (t : DataType) (keys after values : Column) (mask : Option (List Bool)) (r : Result (Unit {0}) Error)
    → AreKeysOf layout keys → is_sound keys ≡ true → is_sound (keyed t keys values) ≡ true → mask_fits mask (length (numbers_in keys)) ≡ true
    → holds_below (length (numbers_in keys)) (has_value_at mask (numbers_in keys) (column_len values)) ≡ true
    → ReplacesMask keys mask after r → ReplacesMask (keyed t keys values) mask (keyed t after values) r
keyed_replaced (physical.Dictionary key) t (flat u old (numbers kind ns)) after values mask (Ok done) fit whole sound fits named h =
    (dictionary_takes t old mask ns values sound fits named, ap (λ k. keyed t k values) h.1)
keyed_replaced (physical.Dictionary key) t (flat u old (numbers kind ns)) after values mask (Err e) fit whole sound fits named h =
    absurd (h.1 (flat_takes (flat u old (numbers kind ns)) mask refl whole fits))
keyed_replaced _ t _ after values mask r fit whole sound fits named h = absurd fit

pub keys_replaced : (layout : PhysicalType) (keys after : Column) (mask : Option (List Bool)) (r : Result (Unit {0}) Error)
    → AreKeysOf layout keys → ReplacesMask keys mask after r → AreKeysOf layout after
keys_replaced (physical.Dictionary key) (flat u old (numbers kind ns)) after mask (Ok done) fit h =
    subst (AreKeysOf (physical.Dictionary key)) (sym h.1) fit
keys_replaced (physical.Dictionary key) (flat u old (numbers kind ns)) after mask (Err e) fit h =
    subst (AreKeysOf (physical.Dictionary key)) (sym h.2) fit
keys_replaced _ _ after mask r fit h = absurd fit
