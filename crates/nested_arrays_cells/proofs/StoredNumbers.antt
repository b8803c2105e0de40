-- Numbers that are stored, as cells and as keys.
use Rattle.std.proofs.Common.{◌≡◌, ◌∙◌, ℕ, ℤ, List, Bool, true, refl, ap, map}
use Rattle.std.specs.Prelude.{pos, Some, option_map, slice_get, slice_index_or}
use Rattle.std.proofs.lemmas.Option.{slice_get-map}
use Rattle.nested_arrays_builder_arrays.specs.arrays.columnar_memory.Numbers.{Numbers, first_number}
use Rattle.nested_arrays_builder_arrays.specs.arrays.columnar_memory.declared.IntegerType.{IntegerType}
use Rattle.nested_arrays_builder_arrays.specs.arrays.columnar_memory.declared.IntegerType.TheVariants as integers
use Rattle.nested_arrays_builder_arrays.specs.arrays.columnar_memory.declared.PhysicalType.{PhysicalType}
use Rattle.nested_arrays_builder_arrays.specs.arrays.columnar_memory.declared.PhysicalType.TheVariants as physical
use Rattle.nested_arrays_builder_arrays.specs.arrays.columnar_memory.declared.PrimitiveType.{PrimitiveType}
use Rattle.nested_arrays_builder_arrays.specs.arrays.columnar_memory.declared.PrimitiveType.TheVariants as kinds
use Rattle.nested_arrays_builder_arrays.specs.arrays.columns.Slots.{Slot, number, pair, triple}
use Rattle.nested_arrays_builder_arrays.specs.arrays.columns.StoredColumns.{Column, flat, numbers, slot_at}
use Rattle.nested_arrays_builder_arrays.specs.arrays.flat_arrays.Flat.{Flat}
use Rattle.nested_arrays_builder_arrays.specs.arrays.flat.FlatColumns.{primitive_column}
use Rattle.nested_arrays_builder_arrays.specs.arrays.parts.Forms.{bare}
use Rattle.nested_arrays_builder_arrays.specs.arrays.parts.Keys.{AreKeysOf, kind_of_keys, numbers_in}
use Rattle.nested_arrays_builder_arrays.specs.arrays.parts.Ranges.{number_slot}
use Rattle.nested_arrays_builder_arrays.proofs.arrays_lemmas.parts_lemmas.SameNumbers.{stored_there}
use Rattle.nested_arrays_builder_arrays.specs.parts.AnyNumbers.{kind_of_number, numbers_of_number, slot_of_number}
use Rattle.nested_arrays_builder_arrays.specs.parts.declared.numbers.AnyNumber.{AnyNumber}
use Rattle.nested_arrays_builder_arrays.specs.parts.declared.numbers.AnyNumber.TheVariants as variant
use Rattle.nested_arrays_cells.specs.Keys.{is_key_kind}

-- the slot of a number that is stored
pub number_there : {T : Type 0} (kind : PrimitiveType) (number_of : T → Numbers) (array : Flat T) (i : ℕ) (value : T)
    → slice_get array.values i ≡ Some value → slot_at (bare (primitive_column kind number_of array)) i ≡ number_slot kind (number_of value)
number_there kind number_of array i value is =
    stored_there kind (map number_of array.values) i (number_of value) (slice_get-map number_of array.values i ∙ ap (option_map number_of) is)

-- ---- keys

-- the kind of a number, and its first whole number, by its slot
abbrev kind_in : Slot → PrimitiveType
kind_in (number kind n) = kind
kind_in (pair kind a b) = kind
kind_in (triple kind a b c) = kind
kind_in _ = kinds.Int8

abbrev first_in : Slot → ℤ
first_in (number kind n) = n
first_in (pair kind a b) = a
first_in (triple kind a b c) = a
first_in _ = pos 0

kind_is : (n : AnyNumber) → kind_of_number n ≡ kind_in (slot_of_number n)
kind_is (variant.Int8 n) = refl
kind_is (variant.Int16 n) = refl
kind_is (variant.Int32 n) = refl
kind_is (variant.Int64 n) = refl
kind_is (variant.Int128 n) = refl
kind_is (variant.Int256 n) = refl
kind_is (variant.UInt8 n) = refl
kind_is (variant.UInt16 n) = refl
kind_is (variant.UInt32 n) = refl
kind_is (variant.UInt64 n) = refl
kind_is (variant.DaysMs value) = refl
kind_is (variant.MonthsDaysNs value) = refl

first_is : (n : AnyNumber) → first_number (numbers_of_number n) ≡ first_in (slot_of_number n)
first_is (variant.Int8 n) = refl
first_is (variant.Int16 n) = refl
first_is (variant.Int32 n) = refl
first_is (variant.Int64 n) = refl
first_is (variant.Int128 n) = refl
first_is (variant.Int256 n) = refl
first_is (variant.UInt8 n) = refl
first_is (variant.UInt16 n) = refl
first_is (variant.UInt32 n) = refl
first_is (variant.UInt64 n) = refl
first_is (variant.DaysMs value) = refl
first_is (variant.MonthsDaysNs value) = refl

keys_kind : (key : IntegerType) → is_key_kind (kind_of_keys key) ≡ true
keys_kind integers.Int8 = refl
keys_kind integers.Int16 = refl
keys_kind integers.Int32 = refl
keys_kind integers.Int64 = refl
keys_kind integers.UInt8 = refl
keys_kind integers.UInt16 = refl
keys_kind integers.UInt32 = refl
keys_kind integers.UInt64 = refl

key_slot : (layout : PhysicalType) (keys : Column) (i : ℕ) → AreKeysOf layout keys
    → (is_key_kind (kind_in (slot_at (bare keys) i)) ≡ true) × (first_in (slot_at (bare keys) i) ≡ slice_index_or (numbers_in keys) i (pos 0))
key_slot (physical.Dictionary key) (flat t mask (numbers kind values)) i fits = (ap is_key_kind fits ∙ keys_kind key, refl)
key_slot _ _ i fits = absurd fits

-- the number of a key
pub key_number : (n : AnyNumber) (layout : PhysicalType) (keys : Column) (i : ℕ) → AreKeysOf layout keys → slot_of_number n ≡ slot_at (bare keys) i
    → (is_key_kind (kind_of_number n) ≡ true) × (first_number (numbers_of_number n) ≡ slice_index_or (numbers_in keys) i (pos 0))
key_number n layout keys i fits is =
    let there = key_slot layout keys i fits in
    (ap is_key_kind (kind_is n ∙ ap kind_in is) ∙ there.0, first_is n ∙ ap first_in is ∙ there.1)
