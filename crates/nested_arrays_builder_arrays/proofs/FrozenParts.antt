-- The keys of dictionaries as arrays.
use Rattle.std.proofs.Common.{◌≡◌, ◌∙◌, ℕ, ℤ, zero, suc, ◌+◌, ◌<◌, ◌≤◌, List, [], ◌∷◌, ◌++◌, length, map, take, get_or, Bool, true, refl}
use Rattle.std.proofs.Common.{sym, ap, subst, arith}
use Rattle.std.specs.Prelude.{pos, Option, Result, Ok, Err}
use Rattle.std.proofs.lemmas.List.{length-map, map-append, take_more}
use Rattle.nested_arrays_builders.specs.arrays.columnar_memory.declared.DataType.{DataType}
use Rattle.nested_arrays_builders.specs.arrays.columnar_memory.declared.Error.{Error}
use Rattle.nested_arrays_builders.specs.arrays.columnar_memory.declared.IntegerType.{IntegerType}
use Rattle.nested_arrays_builders.specs.arrays.columnar_memory.declared.PhysicalType.TheVariants as physical
use Rattle.nested_arrays_builders.specs.arrays.columnar_memory.declared.PrimitiveType.{PrimitiveType}
use Rattle.nested_arrays_builders.specs.arrays.columnar_memory.Layouts.{physical_type}
use Rattle.nested_arrays_builders.specs.arrays.columnar_memory.Numbers.{Numbers, one, first_number}
use Rattle.nested_arrays_builders.specs.arrays.columnar_memory.Results.{OrOutOfMemory}
use Rattle.nested_arrays_builders.specs.arrays.columns.SoundColumns.{is_sound, has_value_at, has_value_type, holds_below, mask_fits}
use Rattle.nested_arrays_builders.specs.arrays.columns.StoredColumns.{Column, column_len, column_type, dictionary, flat, numbers, type_layer}
use Rattle.nested_arrays_builders.specs.arrays.flat.ColumnMasks.{column_mask}
use Rattle.nested_arrays_builders.specs.arrays.parts.Keys.{keyed, kind_of_keys, numbers_in, AreKeysOf}
use Rattle.nested_arrays_builders.proofs.arrays_lemmas.columns_lemmas.Conditions.{parts_of_4}
use Rattle.nested_arrays_builders.specs.values.Uses.{greatest, key_of, keys_from}
use Rattle.nested_arrays_builder_arrays.specs.FrozenKeys.{AreFrozenKeys}

-- ---- keys one by one

pub need_within : (uses : List ℕ) (k d : ℕ) → k < length uses → get_or uses k d ≤ greatest uses
need_within [] k d lt = absurd (omega arith)
need_within (n ∷ ns) zero d lt = omega arith
need_within (n ∷ ns) (suc k) d lt = omega (arith, need_within ns k d (omega (arith, lt)))

pub key_within : (uses : List ℕ) (k d need most : ℕ) → k < length uses → need ≡ get_or uses k d → greatest uses ≤ most + 1 → key_of need ≤ most
key_within uses k d need most lt is few = below need (omega (arith, is, need_within uses k d lt, few))
  where
    below : (n : ℕ) → n ≤ most + 1 → key_of n ≤ most
    below zero le = omega arith
    below (suc n) le = omega (arith, le)

pub one_more_key : {T : Type 0} (value : T → ℤ) (keys : List T) (uses : List ℕ) (k d need : ℕ) (x : T) → k < length uses
    → need ≡ get_or uses k d → map value keys ≡ keys_from (take k uses) → value x ≡ pos (key_of need)
    → map value (keys ++ x ∷ []) ≡ keys_from (take (k + 1) uses)
one_more_key value keys uses k d need x lt is held of =
    map-append value keys (x ∷ [])
    ∙ (λ j. held j ++ (of ∙ ap (λ n. pos (key_of n)) is) j ∷ [])
    ∙ sym (map-append (λ n. pos (key_of n)) (take k uses) (get_or uses k d ∷ []))
    ∙ ap keys_from (sym (take_more uses k d lt))

-- ---- arrays of keys

stored_each : {T : Type 0} (number : T → Numbers) (value : T → ℤ) → ((x : T) → number x ≡ one (value x)) → (keys : List T)
    → map number keys ≡ map one (map value keys)
stored_each number value law [] = refl
stored_each number value law (x ∷ keys) = λ j. law x j ∷ stored_each number value law keys j

pub stored_keys : {T : Type 0} (number : T → Numbers) (value : T → ℤ) → ((x : T) → number x ≡ one (value x)) → (keys : List T) (uses : List ℕ)
    → map value keys ≡ keys_from uses → map number keys ≡ map one (keys_from uses)
stored_keys number value law keys uses is = stored_each number value law keys ∙ ap (map one) is

pub as_many : {T : Type 0} (value : T → ℤ) (keys : List T) (uses : List ℕ) → map value keys ≡ keys_from uses → length keys ≡ length uses
as_many value keys uses is = sym (length-map keys value) ∙ ap length is ∙ length-map uses (λ n. pos (key_of n))

firsts : (ns : List ℤ) → map first_number (map one ns) ≡ ns
firsts [] = refl
firsts (n ∷ ns) = ap (λ rest. n ∷ rest) (firsts ns)

pub frozen_keys : (key : IntegerType) (kind : PrimitiveType) (t : DataType) (mask : Option (List Bool)) (uses : List ℕ) (r : Result Column Error)
    → kind ≡ kind_of_keys key → OrOutOfMemory r (λ keys. keys ≡ flat t mask (numbers kind (map first_number (map one (keys_from uses)))))
    → OrOutOfMemory r (AreFrozenKeys key mask uses)
frozen_keys key kind t mask uses (Ok keys) own is = record {
  typed = subst (AreKeysOf (physical.Dictionary key)) (sym is) own;
  masked = ap column_mask is;
  named = ap numbers_in is ∙ firsts (keys_from uses);
}
frozen_keys key kind t mask uses (Err e) own is = is

-- ---- dictionaries

pub mask_long : (t : DataType) (mask : Option (List Bool)) (uses : List ℕ) (values : Column)
    → is_sound (dictionary t mask (keys_from uses) values) ≡ true → mask_fits mask (length uses) ≡ true
mask_long t mask uses values sound =
    let keys = keys_from uses in
    ap (mask_fits mask) (sym (length-map uses (λ n. pos (key_of n))))
    ∙ (parts_of_4 (has_value_type (type_layer t) keys (column_type values)) (mask_fits mask (length keys))
    (holds_below (length keys) (has_value_at mask keys (column_len values))) (is_sound values) sound).1

-- the dictionary of keys that are frozen and of values
pub keyed_by : (t : DataType) (key : IntegerType) (mask own : Option (List Bool)) (uses : List ℕ) (keys values column : Column)
    → AreFrozenKeys key own uses keys → own ≡ mask → values ≡ column → keyed t keys values ≡ dictionary t mask (keys_from uses) column
keyed_by t key mask own uses keys values column frozen masked held =
    λ j. dictionary t ((frozen.masked ∙ masked) j) (frozen.named j) (held j)

pub keys_lie : (t : DataType) (key : IntegerType) (own : Option (List Bool)) (uses : List ℕ) (keys : Column) → AreFrozenKeys key own uses keys
    → physical_type t ≡ physical.Dictionary key → AreKeysOf (physical_type t) keys
keys_lie t key own uses keys frozen lies = subst (λ p. AreKeysOf p keys) (sym lies) frozen.typed
