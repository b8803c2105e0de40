-- Keys and values make a dictionary where each key that is not null is the place of a value.
use Rattle.std.proofs.Common.{◌≡◌, ◌∙◌, ℕ, Bool, true, false, List, [], ◌∷◌, length, map, refl, sym, ap, subst, inl, inr}
use Rattle.std.specs.Prelude.{ℤ, Option, Some, None, Result, Ok, Err, ◌&&◌, ◌==◌, if◌then◌else◌}
use Rattle.std.specs.List.{list_all}
use Rattle.std.proofs.lemmas.Bool.{and_from, and_parts, cases_Bool, false≢true, true≢false}
use Rattle.std.proofs.lemmas.List.{length-map}
use Rattle.ipc_format_column_writing.specs.columnar_memory.Equality.{same_type, same_type-Decides}
use Rattle.ipc_format_column_writing.specs.columnar_memory.Layouts.{physical_type}
use Rattle.ipc_format_column_writing.specs.columnar_memory.Numbers.{Numbers, first_number, one}
use Rattle.ipc_format_column_writing.specs.columnar_memory.declared.DataType.{DataType}
use Rattle.ipc_format_column_writing.specs.columnar_memory.declared.DataType.TheOpen as layer
use Rattle.ipc_format_column_writing.specs.columnar_memory.declared.Error.{Error}
use Rattle.ipc_format_column_writing.specs.columnar_memory.declared.IntegerType.{IntegerType}
use Rattle.ipc_format_column_writing.specs.columnar_memory.declared.IntegerType.TheVariants as integers
use Rattle.ipc_format_column_writing.specs.columnar_memory.declared.IntervalUnit.TheVariants as intervals
use Rattle.ipc_format_column_writing.specs.columnar_memory.declared.PhysicalType.{PhysicalType}
use Rattle.ipc_format_column_writing.specs.columnar_memory.declared.PhysicalType.TheVariants as physical
use Rattle.ipc_format_column_writing.specs.columnar_memory.declared.PrimitiveType.{PrimitiveType}
use Rattle.ipc_format_column_writing.specs.nested_arrays.Kinds.{is_key}
use Rattle.ipc_format_column_writing.specs.nested_arrays.SoundColumns.{has_size, has_value_at, has_value_type}
use Rattle.ipc_format_column_writing.specs.nested_arrays.SoundColumns.{holds_below, is_sound, is_stored_as}
use Rattle.ipc_format_column_writing.specs.nested_arrays.SoundColumns.{mask_fits}
use Rattle.ipc_format_column_writing.specs.nested_arrays.StoredColumns.{Column, column_len, column_type}
use Rattle.ipc_format_column_writing.specs.nested_arrays.StoredColumns.{dictionary, flat, stored_len, type_layer}
use Rattle.ipc_format_column_writing.specs.nested_arrays.Answers.{IsCheckedAs}
use Rattle.ipc_format_column_writing.specs.nested_arrays.FlatColumns.{stored_numbers}
use Rattle.ipc_format_column_writing.specs.nested_arrays.Keys.{kind_of_keys}
use Rattle.ipc_format_column_writing.proofs.columns_lemmas.Conditions.{parts_of_3, parts_of_4}
use Rattle.ipc_format_column_writing.proofs.columns_lemmas.TypeLayers.{Layer, is_extension, layer_layout, layout_is}
use Rattle.ipc_format_array_reading.proofs.Layers.{layer_plain}
use Rattle.ipc_format_array_reading.specs.Keyed.{MakesKeyed, has_values, keyed_column}

-- ---- keys within their kind

stored_in_range : (key : IntegerType) (values : List Numbers)
    → is_stored_as (physical.Primitive (kind_of_keys key)) (stored_numbers (kind_of_keys key) values) ≡ true
    → list_all (is_key key) (map first_number values) ≡ true
stored_in_range integers.Int8 values h = (and_parts true (list_all (is_key integers.Int8) (map first_number values)) h).1
stored_in_range integers.Int16 values h = (and_parts true (list_all (is_key integers.Int16) (map first_number values)) h).1
stored_in_range integers.Int32 values h = (and_parts true (list_all (is_key integers.Int32) (map first_number values)) h).1
stored_in_range integers.Int64 values h = (and_parts true (list_all (is_key integers.Int64) (map first_number values)) h).1
stored_in_range integers.UInt8 values h = (and_parts true (list_all (is_key integers.UInt8) (map first_number values)) h).1
stored_in_range integers.UInt16 values h = (and_parts true (list_all (is_key integers.UInt16) (map first_number values)) h).1
stored_in_range integers.UInt32 values h = (and_parts true (list_all (is_key integers.UInt32) (map first_number values)) h).1
stored_in_range integers.UInt64 values h = (and_parts true (list_all (is_key integers.UInt64) (map first_number values)) h).1

stored_keys_len : (key : IntegerType) (values : List Numbers) → stored_len (stored_numbers (kind_of_keys key) values) ≡ length
    (map first_number values)
stored_keys_len integers.Int8 values = refl
stored_keys_len integers.Int16 values = refl
stored_keys_len integers.Int32 values = refl
stored_keys_len integers.Int64 values = refl
stored_keys_len integers.UInt8 values = refl
stored_keys_len integers.UInt16 values = refl
stored_keys_len integers.UInt32 values = refl
stored_keys_len integers.UInt64 values = refl

-- what an array of keys says of them
record AreKeys (key : IntegerType) (mask : Option (List Bool)) (keys : List ℤ) : Type 0 where
  ranged : list_all (is_key key) keys ≡ true
  masked : mask_fits mask (length keys) ≡ true

keys_are : (key : IntegerType) (t : DataType) (mask : Option (List Bool)) (values : List Numbers)
    → physical_type t ≡ physical.Primitive (kind_of_keys key) → is_sound (flat t mask (stored_numbers (kind_of_keys key) values)) ≡ true
    → AreKeys key mask (map first_number values)
keys_are key t mask values lies sound =
    let stored = stored_numbers (kind_of_keys key) values in
    let parts = parts_of_3 (is_stored_as (physical_type t) stored) (has_size (type_layer t) stored) (mask_fits mask (stored_len stored)) sound in
    record {
      ranged = stored_in_range key values (ap (λ layout. is_stored_as layout stored) (sym lies) ∙ parts.0);
      masked = ap (mask_fits mask) (sym (stored_keys_len key values)) ∙ parts.2;
    }

-- the numbers of keys are their values
pub numbers_are : {K : Type 0} (number : K → Numbers) (value : K → ℤ) → ((x : K) → number x ≡ one (value x)) → (keys : List K)
    → map first_number (map number keys) ≡ map value keys
numbers_are number value law [] = refl
numbers_are number value law (x ∷ keys) = λ j. first_number (law x j) ∷ numbers_are number value law keys j

-- ---- types

abbrev key_in : IntegerType → PhysicalType → IntegerType
key_in other (physical.Dictionary key) = key
key_in other _ = other

value_layer : (x : Layer) (key : IntegerType) (keys : List ℤ) (child : DataType) → has_values x child ≡ true
    → layer_layout x ≡ physical.Dictionary key → list_all (is_key key) keys ≡ true → has_value_type x keys child ≡ true
value_layer (layer.Dictionary stored value is_ordered) key keys child typed lies each =
    let is : child ≡ value = (same_type-Decides child value).0 typed in
    and_from (same_type value child) (list_all (is_key stored) keys) ((same_type-Decides value child).1 (sym is))
    (ap (λ k. list_all (is_key k) keys) (ap (key_in key) lies) ∙ each)
value_layer _ key keys child typed lies each = absurd (false≢true typed)

-- ---- the dictionary

sound_keyed : (key : IntegerType) (t : DataType) (values : Column) (mask : Option (List Bool)) (keys : List ℤ)
    → physical_type t ≡ physical.Dictionary key → has_values (type_layer t) (column_type values) ≡ true → AreKeys key mask keys
    → is_sound values ≡ true → holds_below (length keys) (has_value_at mask keys (column_len values)) ≡ true
    → is_sound (dictionary t mask keys values) ≡ true
sound_keyed key t values mask keys lies typed are sound holds =
    let a = has_value_type (type_layer t) keys (column_type values) in
    let b = mask_fits mask (length keys) in
    let d = holds_below (length keys) (has_value_at mask keys (column_len values)) in
    and_from (a && b && d) (is_sound values)
    (and_from (a && b) d
    (and_from a b (value_layer (type_layer t) key keys (column_type values) typed (sym (layout_is t) ∙ lies) are.ranged) are.masked) holds) sound

made_keyed : (key : IntegerType) (t : DataType) (values : Column) (mask : Option (List Bool)) (keys : List ℤ) (numbers : List Numbers)
    (r : Result Column Error) → physical_type t ≡ physical.Dictionary key → has_values (type_layer t) (column_type values) ≡ true
    → AreKeys key mask keys → map first_number numbers ≡ keys → is_sound values ≡ true
    → ((is_sound (dictionary t mask keys values) ≡ true) → holds_below (length keys) (has_value_at mask keys (column_len values)) ≡ true)
    → IsCheckedAs (physical.Dictionary key) (dictionary t mask keys values) r → MakesKeyed t values mask numbers r
made_keyed key t values mask keys numbers (Ok array) lies typed are same sound held checked =
    ap (keyed_column t values mask) same
    ∙ ap (λ b. if b then Some (dictionary t mask keys values) else None) (held checked.1.0)
    ∙ ap (λ c. Some c) (sym checked.0)
made_keyed key t values mask keys numbers (Err error) lies typed are same sound held checked =
    elim (cases_Bool (holds_below (length keys) (has_value_at mask keys (column_len values)))) [
      | inl holds ↦ absurd (checked.1 (sound_keyed key t values mask keys lies typed are sound holds, lies))
      | inr fails ↦ inr (
        checked.0,
        ap (keyed_column t values mask) same
            ∙ ap (λ b. if b then Some (dictionary t mask keys values) else None) fails,
      )
    ]

held_keyed : (t : DataType) (values : Column) (mask : Option (List Bool)) (keys : List ℤ) → is_sound (dictionary t mask keys values) ≡ true
    → holds_below (length keys) (has_value_at mask keys (column_len values)) ≡ true
held_keyed t values mask keys sound =
    (parts_of_4 (has_value_type (type_layer t) keys (column_type values)) (mask_fits mask (length keys))
    (holds_below (length keys) (has_value_at mask keys (column_len values))) (is_sound values) sound).2

-- the dictionary of an array of keys, and of values of the type that its type says
pub keyed_made : {K : Type 0} (key : IntegerType) (kind : PrimitiveType) (number : K → Numbers) (value : K → ℤ) (t key_type : DataType)
    (mask : Option (List Bool)) (keys : List K) (values : Column) (r : Result Column Error) → kind ≡ kind_of_keys key
    → ((x : K) → number x ≡ one (value x)) → physical_type t ≡ physical.Dictionary key → has_values (type_layer t) (column_type values) ≡ true
    → physical_type key_type ≡ physical.Primitive kind → is_sound (flat key_type mask (stored_numbers kind (map number keys))) ≡ true
    → is_sound values ≡ true → IsCheckedAs (physical.Dictionary key) (dictionary t mask (map value keys) values) r
    → MakesKeyed t values mask (map number keys) r
keyed_made key kind number value t key_type mask keys values r is law lies typed key_lies key_sound sound checked =
    let same : map first_number (map number keys) ≡ map value keys = numbers_are number value law keys in
    let are : AreKeys key mask (map value keys) =
    subst (AreKeys key mask) same
    (keys_are key key_type mask (map number keys) (key_lies ∙ ap (λ k. physical.Primitive k) is)
    (subst (λ (k : PrimitiveType). is_sound (flat key_type mask (stored_numbers k (map number keys))) ≡ true) is key_sound)) in
    made_keyed key t values mask (map value keys) (map number keys) r lies typed are same sound (held_keyed t values mask (map value keys)) checked
