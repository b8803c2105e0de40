-- Dictionaries under other masks, by their arrays of keys.
use Rattle.std.proofs.Common.{◌≡◌, ◌∙◌, List, length, map, true, sym, ap, subst}
use Rattle.std.specs.Prelude.{ℤ, Bool, Option}
use Rattle.std.proofs.lemmas.List.{length-map}
use Rattle.nested_arrays_access.specs.columnar_memory.declared.DataType.{DataType}
use Rattle.nested_arrays_access.specs.flat_arrays.Flat as arrays
use Rattle.nested_arrays_access.specs.flat_arrays.Flat.{Flat}
use Rattle.nested_arrays_access.specs.columns.SoundColumns.{has_value_at, holds_below, is_sound, mask_fits}
use Rattle.nested_arrays_access.specs.columns.StoredColumns.{Column, column_len}
use Rattle.nested_arrays_access.specs.flat.ColumnMasks.{TakesMask, with_mask}
use Rattle.nested_arrays_access.proofs.arrays_lemmas.KeyMasks.{dictionary_named, dictionary_takes}
use Rattle.nested_arrays_core.specs.Dictionaries.{keyed_by}

-- a mask of the dictionary's length is one of the keys
pub keys_fit : {K : Type 0} (value : K → ℤ) (c : Column) (t : DataType) (keys : Flat K) (values : Column) (mask : Option (List Bool))
    → keyed_by value t keys values ≡ c → mask_fits mask (column_len c) ≡ true → mask_fits mask (length keys.values) ≡ true
keys_fit value c t keys values mask is fits =
    ap (mask_fits mask) (sym (length-map keys.values value) ∙ ap column_len is) ∙ fits

-- a dictionary may have a mask under which each valid key names a value
pub keyed_takes : {K : Type 0} (value : K → ℤ) (c : Column) (t : DataType) (keys : Flat K) (values : Column) (mask : Option (List Bool))
    → keyed_by value t keys values ≡ c → is_sound (keyed_by value t keys values) ≡ true → mask_fits mask (length keys.values) ≡ true
    → holds_below (length keys.values) (has_value_at mask (map value keys.values) (column_len values)) ≡ true → TakesMask c mask
keyed_takes value c t keys values mask is sound fits named =
    let numbers = map value keys.values in
    let count : length numbers ≡ length keys.values = length-map keys.values value in
    subst (λ (d : Column). TakesMask d mask) is
    (dictionary_takes t keys.validity mask numbers values sound (ap (mask_fits mask) count ∙ fits)
    (ap (λ n. holds_below n (has_value_at mask numbers (column_len values))) count ∙ named))

-- and no other
pub keyed_named : {K : Type 0} (value : K → ℤ) (c : Column) (t : DataType) (keys : Flat K) (values : Column) (mask : Option (List Bool))
    → keyed_by value t keys values ≡ c → TakesMask c mask
    → holds_below (length keys.values) (has_value_at mask (map value keys.values) (column_len values)) ≡ true
keyed_named value c t keys values mask is takes =
    let numbers = map value keys.values in
    ap (λ n. holds_below n (has_value_at mask numbers (column_len values))) (sym (length-map keys.values value))
    ∙ dictionary_named t keys.validity mask numbers values (subst (λ (d : Column). TakesMask d mask) (sym is) takes)

-- the mask of a dictionary is that of its keys
pub keyed_masked : {K : Type 0} (value : K → ℤ) (c : Column) (t : DataType) (keys some : Flat K) (values : Column) (mask : Option (List Bool))
    → keyed_by value t keys values ≡ c → some ≡ arrays.flat keys.data_type keys.values mask → keyed_by value t some values ≡ with_mask c mask
keyed_masked value c t keys some values mask is masked =
    ap (λ k. keyed_by value t k values) masked ∙ ap (λ d. with_mask d mask) is
