-- The places that keys name.
use Rattle.std.proofs.Common.{◌≡◌, ◌∙◌, ◌<◌, ◌≤◌, ℕ, ℤ, List, Bool, true, refl, sym, ap, arith, length, map}
use Rattle.std.specs.Prelude.{◌&&◌, ◌||◌, not, pos, Some, Option, option_map, slice_get, slice_index_or, nat_lt, int_le}
use Rattle.std.proofs.lemmas.Bool.{and_parts, ltb-true}
use Rattle.std.proofs.lemmas.Option.{get_or_from_slice_get, slice_get-map}
use Rattle.nested_arrays_parts.specs.columnar_memory.Numbers.{Numbers, first_number}
use Rattle.nested_arrays_parts.specs.columnar_memory.declared.DataType.{DataType}
use Rattle.nested_arrays_parts.specs.columnar_memory.declared.IntegerType.{IntegerType}
use Rattle.nested_arrays_parts.specs.columnar_memory.declared.IntegerType.TheVariants as integers
use Rattle.nested_arrays_parts.specs.columnar_memory.declared.PhysicalType.{PhysicalType}
use Rattle.nested_arrays_parts.specs.columnar_memory.declared.PhysicalType.TheVariants as physical
use Rattle.nested_arrays_parts.specs.columnar_memory.declared.PrimitiveType.TheVariants as kinds
use Rattle.nested_arrays_parts.proofs.columns_lemmas.Conditions.{parts_of_4, holds_at}
use Rattle.nested_arrays_parts.specs.columns.SoundColumns.{has_value_at, has_value_type, holds_below, is_sound, mask_fits}
use Rattle.nested_arrays_parts.specs.columns.StoredColumns.{Column, numbers, flat, dictionary, column_len, column_type, is_valid_at}
use Rattle.nested_arrays_parts.specs.columns.StoredColumns.{place_of, slot_at, type_layer}
use Rattle.nested_arrays_parts.proofs.SameForms.{valid_slot}
use Rattle.nested_arrays_parts.specs.flat.ColumnMasks.{column_mask}
use Rattle.nested_arrays_parts.specs.Keys.{AreKeysOf, keyed, kind_of_keys, numbers_in}
use Rattle.nested_arrays_arrays.specs.Places.{IsKeyless, IsValue, column_class}

-- the number that is stored for a key
pub key_there : {T : Type 0} (number : T → Numbers) (values : List T) (i : ℕ) (key : T) → slice_get values i ≡ Some key
    → slice_index_or (map first_number (map number values)) i (pos 0) ≡ first_number (number key)
key_there number values i key is = get_or_from_slice_get (map first_number (map number values)) i (first_number (number key)) (pos 0)
    (slice_get-map first_number (map number values) i ∙ ap (option_map first_number) (slice_get-map number values i ∙ ap (option_map number) is))

-- the place that it names
pub key_found : {T : Type 0} (number : T → Numbers) (values : List T) (i : ℕ) (key : T) (found : List ℤ) → slice_get values i ≡ Some key
    → map first_number (map number values) ≡ found → place_of (first_number (number key)) ≡ place_of (slice_index_or found i (pos 0))
key_found number values i key found is same =
    ap place_of (sym (key_there number values i key is)) ∙ ap (λ (stored : List ℤ). place_of (slice_index_or stored i (pos 0))) same

key_kinds : (key : IntegerType) → kinds.Int128 ≡ kind_of_keys key → ⊥
key_kinds integers.Int8 is = cc
key_kinds integers.Int16 is = cc
key_kinds integers.Int32 is = cc
key_kinds integers.Int64 is = cc
key_kinds integers.UInt8 is = cc
key_kinds integers.UInt16 is = cc
key_kinds integers.UInt32 is = cc
key_kinds integers.UInt64 is = cc

wide_kinds : (key : IntegerType) → kinds.Int256 ≡ kind_of_keys key → ⊥
wide_kinds integers.Int8 is = cc
wide_kinds integers.Int16 is = cc
wide_kinds integers.Int32 is = cc
wide_kinds integers.Int64 is = cc
wide_kinds integers.UInt8 is = cc
wide_kinds integers.UInt16 is = cc
wide_kinds integers.UInt32 is = cc
wide_kinds integers.UInt64 is = cc

-- no keys are of 128 bits or more
pub no_long_keys : (layout : PhysicalType) (t : DataType) (mask : Option (List Bool)) (values : List ℤ)
    → AreKeysOf layout (flat t mask (numbers kinds.Int128 values)) → ⊥
no_long_keys (physical.Dictionary key) t mask values fits = key_kinds key fits
no_long_keys _ t mask values fits = fits

pub no_wide_keys : (layout : PhysicalType) (t : DataType) (mask : Option (List Bool)) (values : List ℤ)
    → AreKeysOf layout (flat t mask (numbers kinds.Int256 values)) → ⊥
no_wide_keys (physical.Dictionary key) t mask values fits = wide_kinds key fits
no_wide_keys _ t mask values fits = fits

pub ruleset keys_there = (key_there, no_long_keys, no_wide_keys)

-- as many keys as slots
pub keys_count : (layout : PhysicalType) (keys : Column) → AreKeysOf layout keys → column_len keys ≡ length (numbers_in keys)
keys_count (physical.Dictionary key) (flat t mask (numbers kind values)) fits = refl
keys_count _ _ fits = absurd fits

-- a column whose class is known is no dictionary
pub keyless_class : (c : Column) (i : ℕ) → column_class c ≤ 4 → IsKeyless c i
keyless_class (dictionary t mask keys values) i h = absurd (omega arith)
keyless_class _ i h = tt

-- a slot that no key names is its own value
pub own_value : (c : Column) (i : ℕ) → i < column_len c → IsKeyless c i → IsValue c i c i
own_value c i h keyless = record { shown = refl; within = h; smaller = omega arith; keyless = keyless }

-- the value that a key names is there
pub key_within : (t : DataType) (keys values : Column) (i place : ℕ) → is_sound (keyed t keys values) ≡ true → i < length (numbers_in keys)
    → is_valid_at (column_mask keys) i ≡ true → place ≡ place_of (slice_index_or (numbers_in keys) i (pos 0)) → place < column_len values
key_within t keys values i place sound h valid is =
    let mask = column_mask keys in
    let numbers = numbers_in keys in
    let key = slice_index_or numbers i (pos 0) in
    let parts = parts_of_4 (has_value_type (type_layer t) numbers (column_type values)) (mask_fits mask (length numbers))
    (holds_below (length numbers) (has_value_at mask numbers (column_len values))) (is_sound values) sound in
    let there = holds_at (length numbers) (has_value_at mask numbers (column_len values)) i parts.2 h in
    let named : (int_le (pos 0) key && nat_lt (place_of key) (column_len values)) ≡ true =
    ap (λ b. not b || (int_le (pos 0) key && nat_lt (place_of key) (column_len values))) (sym valid) ∙ there in
    let below = nat_lt (place_of key) (column_len values) in
    omega (arith, is, ltb-true (place_of key) (column_len values) (and_parts (int_le (pos 0) key) below named).1)

-- the value that a key names is the slot's
pub named_value : (t : DataType) (keys values found : Column) (i place at : ℕ) → is_valid_at (column_mask keys) i ≡ true
    → place ≡ place_of (slice_index_or (numbers_in keys) i (pos 0)) → IsValue values place found at → IsValue (keyed t keys values) i found at
named_value t keys values found i place at valid is value = record {
  shown = valid_slot (keyed t keys values) i valid ∙ ap (slot_at values) (sym is) ∙ value.shown;
  within = value.within;
  smaller = omega (arith, value.smaller);
  keyless = value.keyless;
}
