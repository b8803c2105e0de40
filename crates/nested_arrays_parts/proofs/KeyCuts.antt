-- Keys and what is cut out of them.
use Rattle.std.proofs.Common.{◌≡◌, ◌∙◌, ℕ, zero, suc, ◌+◌, ◌-◌, ◌≤◌, List, [], ◌∷◌, length, take, refl, ap, subst, sym, arith}
use Rattle.std.specs.Prelude.{ℤ, Some, None}
use Rattle.nested_arrays_flat.specs.columnar_memory.declared.DataType.{DataType}
use Rattle.nested_arrays_flat.specs.columnar_memory.declared.PhysicalType.{PhysicalType}
use Rattle.nested_arrays_flat.specs.columnar_memory.declared.PhysicalType.TheVariants as physical
use Rattle.nested_arrays_flat.specs.columns.StoredColumns.{Column, nulls, flat, lists, fixed_lists, records, unions, dictionary, bits, numbers, pairs, triples}
use Rattle.nested_arrays_flat.specs.columns.StoredColumns.{texts, byte_strings, fixed_bytes, column_len, cut, cut_list, cut_mask}
use Rattle.nested_arrays_flat.specs.ColumnMasks.{column_mask}
use Rattle.nested_arrays_parts.specs.Keys.{AreKeysOf, numbers_in, keyed}

-- there are as many keys as slots
pub keys_count : (layout : PhysicalType) (keys : Column) → AreKeysOf layout keys → column_len keys ≡ length (numbers_in keys)
keys_count (physical.Dictionary key) (flat data_type mask (numbers kind values)) h = refl
keys_count _ _ h = absurd h

take-none : (n : ℕ) (none : List ℤ) → none ≡ [] → take n none ≡ []
take-none zero none is = refl
take-none (suc n) [] is = refl
take-none (suc n) (x ∷ xs) is = absurd cc

-- nothing is cut out of nothing
none_cut : (none : List ℤ) (o n : ℕ) → none ≡ [] → none ≡ cut_list none o n
none_cut [] zero n is = sym (take-none (0 + n - 0) [] refl)
none_cut [] (suc o) n is = sym (take-none (suc o + n - suc o) [] refl)
none_cut (x ∷ xs) o n is = absurd cc

numbers_cut : (keys : Column) (o n : ℕ) → numbers_in (cut keys o n) ≡ cut_list (numbers_in keys) o n
numbers_cut (flat data_type mask (numbers kind values)) o n = refl
numbers_cut (flat data_type mask (bits values)) o n = none_cut [] o n refl
numbers_cut (flat data_type mask (pairs kind values)) o n = none_cut [] o n refl
numbers_cut (flat data_type mask (triples kind values)) o n = none_cut [] o n refl
numbers_cut (flat data_type mask (texts offsets content)) o n = none_cut [] o n refl
numbers_cut (flat data_type mask (byte_strings offsets content)) o n = none_cut [] o n refl
numbers_cut (flat data_type mask (fixed_bytes size content)) o n = none_cut [] o n refl
numbers_cut (nulls data_type count) o n = none_cut [] o n refl
numbers_cut (lists data_type mask offsets child) o n = none_cut [] o n refl
numbers_cut (fixed_lists data_type mask size child) o n = none_cut [] o n refl
numbers_cut (records data_type mask count children) o n = none_cut [] o n refl
numbers_cut (unions data_type ids None children) o n = none_cut [] o n refl
numbers_cut (unions data_type ids (Some offsets) children) o n = none_cut [] o n refl
numbers_cut (dictionary data_type mask keys values) o n = none_cut [] o n refl

mask_cut : (keys : Column) (o n : ℕ) → column_mask (cut keys o n) ≡ cut_mask (column_mask keys) o n
mask_cut (nulls data_type count) o n = refl
mask_cut (flat data_type mask stored) o n = refl
mask_cut (lists data_type mask offsets child) o n = refl
mask_cut (fixed_lists data_type mask size child) o n = refl
mask_cut (records data_type mask count children) o n = refl
mask_cut (unions data_type ids None children) o n = refl
mask_cut (unions data_type ids (Some offsets) children) o n = refl
mask_cut (dictionary data_type mask keys values) o n = refl

-- what is cut out of keys is cut out of the dictionary
pub keyed_cut : (c : Column) (data_type : DataType) (keys some values : Column) (o n : ℕ) → keyed data_type keys values ≡ c
    → some ≡ cut keys o n → keyed data_type some values ≡ cut c o n
keyed_cut c data_type keys some values o n is part =
    ap (λ k. keyed data_type k values) part ∙ (λ j. dictionary data_type (mask_cut keys o n j) (numbers_cut keys o n j) values)
    ∙ ap (λ c. cut c o n) is

-- slots of a dictionary are those of its keys
pub keys_within : (c : Column) (layout : PhysicalType) (data_type : DataType) (keys values : Column) (o n : ℕ) → keyed data_type keys values ≡ c
    → AreKeysOf layout keys → o + n ≤ column_len c → o + n ≤ column_len keys
keys_within c layout data_type keys values o n is fit within =
    let same : length (numbers_in keys) ≡ column_len c = ap column_len is in
    omega (arith, within, same, keys_count layout keys fit)

keys_cut : (layout : PhysicalType) (keys : Column) (o n : ℕ) → AreKeysOf layout keys → AreKeysOf layout (cut keys o n)
keys_cut (physical.Dictionary key) (flat data_type mask (numbers kind values)) o n h = h
keys_cut _ _ o n h = absurd h

-- a cut of keys is of the same kind
pub keys_after : (layout : PhysicalType) (keys some : Column) (o n : ℕ) → AreKeysOf layout keys → some ≡ cut keys o n → AreKeysOf layout some
keys_after layout keys some o n h part = subst (AreKeysOf layout) (sym part) (keys_cut layout keys o n h)
