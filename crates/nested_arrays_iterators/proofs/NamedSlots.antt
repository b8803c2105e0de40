-- The values that the keys of dictionaries name.
use Rattle.std.proofs.Common.{◌≡◌, ◌∙◌, ℕ, ◌<◌, List, length, refl, sym, ap, subst, arith, true, false}
use Rattle.std.specs.Prelude.{ℤ, pos, Bool, ◌&&◌, ◌||◌, not, Option, Some, None, MatchOption, if◌then◌else◌, int_le, nat_lt, slice_index_or}
use Rattle.std.proofs.lemmas.Bool.{and_parts, ltb-true}
use Rattle.nested_arrays_core.specs.columnar_memory.declared.DataType.{DataType}
use Rattle.nested_arrays_core.proofs.columns_lemmas.Conditions.{holds_at, parts_of_4}
use Rattle.nested_arrays_core.specs.columns.SoundColumns.{has_value_at, has_value_type, holds_below, is_sound, mask_fits}
use Rattle.nested_arrays_core.specs.columns.Slots.{null}
use Rattle.nested_arrays_core.specs.columns.StoredColumns.{Column, dictionary, column_len, column_type, is_valid_at, place_of, slot_at, type_layer}
use Rattle.nested_arrays_core.proofs.parts_lemmas.SameForms.{valid_slot, null_slot}
use Rattle.nested_arrays_core.specs.flat.ColumnMasks.{column_mask}
use Rattle.nested_arrays_core.specs.Dictionaries.{key_at, raw_key}
use Rattle.nested_arrays_iterators.specs.NamedValues.{IsNamed}
use Rattle.nested_arrays_iterators.specs.ReadValues.{IsRead, value_at}

-- what the key of a slot names is its value
pub key_shows : (c : Column) (t : DataType) (mask : Option (List Bool)) (keys : List ℤ) (values : Column) (i : ℕ)
    → dictionary t mask keys values ≡ c → slot_at values (place_of (raw_key c i)) ≡ value_at c i
key_shows c t mask keys values i is = subst (λ (d : Column). slot_at values (place_of (raw_key d i)) ≡ value_at d i) is refl

-- the key of a slot that is not null is the place of a value
pub key_within : (c : Column) (t : DataType) (mask : Option (List Bool)) (keys : List ℤ) (values : Column) (i : ℕ) → dictionary t mask keys values ≡ c
    → is_sound c ≡ true → i < column_len c → is_valid_at (column_mask c) i ≡ true → place_of (raw_key c i) < column_len values
key_within c t mask keys values i is sound h valid =
    let test = has_value_at mask keys (column_len values) in
    let key = slice_index_or keys i (pos 0) in
    let count : length keys ≡ column_len c = ap column_len is in
    let parts = parts_of_4 (has_value_type (type_layer t) keys (column_type values)) (mask_fits mask (length keys))
    (holds_below (length keys) test) (is_sound values) (ap is_sound is ∙ sound) in
    let named : (int_le (pos 0) key && nat_lt (place_of key) (column_len values)) ≡ true =
    ap (λ b. not b || (int_le (pos 0) key && nat_lt (place_of key) (column_len values)))
    (sym (ap (λ (d : Column). is_valid_at (column_mask d) i) is ∙ valid)) ∙ holds_at (length keys) test i parts.2 (omega arith) in
    subst (λ (d : Column). place_of (raw_key d i) < column_len values) is
    (ltb-true (place_of key) (column_len values) (and_parts (int_le (pos 0) key) (nat_lt (place_of key) (column_len values)) named).1)

-- a place that is there where a mark is true
pub place_or_none : (b : Bool) (place : ℕ) (r : Option ℕ) → r ≡ (if b then Some place else None)
    → MatchOption r (b ≡ false) (λ k. (b ≡ true) × (k ≡ place))
place_or_none true place None is = absurd cc
place_or_none true place (Some k) is = (refl, cc)
place_or_none false place None is = refl
place_or_none false place (Some k) is = absurd cc

pub named_place : (c : Column) (t : DataType) (mask : Option (List Bool)) (keys : List ℤ) (values : Column) (i place : ℕ)
    → dictionary t mask keys values ≡ c → is_sound c ≡ true → i < column_len c → Some place ≡ key_at c i
    → (place < column_len values) × IsRead IsNamed c i (Some (slot_at values place))
named_place c t mask keys values i place is sound h found =
    let seen = place_or_none (is_valid_at (column_mask c) i) (place_of (raw_key c i)) (Some place) found in
    let within = key_within c t mask keys values i is sound h seen.0 in (
      omega (arith, within, seen.1),
      (seen.0, valid_slot c i seen.0, ap (slot_at values) seen.1 ∙ key_shows c t mask keys values i is),
    )

pub no_place : (c : Column) (i : ℕ) → None ≡ key_at c i → (is_valid_at (column_mask c) i ≡ false) × (slot_at c i ≡ null)
no_place c i none =
    let marked = place_or_none (is_valid_at (column_mask c) i) (place_of (raw_key c i)) None none in
    (marked, null_slot c i marked)
