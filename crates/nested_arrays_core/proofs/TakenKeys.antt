-- Which keys are of an integer type.
use Rattle.std.proofs.Common.{◌≡◌, ◌∙◌, List, map, Bool, true, refl, sym, ap, subst}
use Rattle.std.specs.Prelude.{ℤ, Option, ◌&&◌, ◌==◌}
use Rattle.std.specs.List.{list_all}
use Rattle.std.proofs.lemmas.Bool.{and_parts, false≢true}
use Rattle.nested_arrays_access.specs.columnar_memory.Layouts.{physical_type}
use Rattle.nested_arrays_access.specs.columnar_memory.Numbers.{Numbers, one}
use Rattle.nested_arrays_access.specs.columnar_memory.declared.DataType.{DataType}
use Rattle.nested_arrays_access.specs.columnar_memory.declared.IntegerType.{IntegerType}
use Rattle.nested_arrays_access.specs.columnar_memory.declared.IntegerType.TheVariants as integers
use Rattle.nested_arrays_access.specs.columnar_memory.declared.PhysicalType.{PhysicalType}
use Rattle.nested_arrays_access.specs.columnar_memory.declared.PhysicalType.TheVariants as physical
use Rattle.nested_arrays_access.specs.columnar_memory.declared.PrimitiveType.{PrimitiveType}
use Rattle.nested_arrays_access.specs.columnar_memory.declared.PrimitiveType.TheVariants as kinds
use Rattle.nested_arrays_access.specs.flat_arrays.Flat.{Flat}
use Rattle.nested_arrays_access.proofs.columns_lemmas.Conditions.{parts_of_3}
use Rattle.nested_arrays_access.specs.columns.Kinds.{in_kind, numbers_of_kind, same_kind}
use Rattle.nested_arrays_access.specs.columns.SoundColumns.{has_size, is_sound, is_stored_as, mask_fits}
use Rattle.nested_arrays_access.specs.columns.StoredColumns.{Column, column_type, flat, numbers, stored_len, type_layer}
use Rattle.nested_arrays_access.specs.flat.FlatColumns.{primitive_column, stored_numbers}
use Rattle.nested_arrays_access.specs.flat.Taken.{IsOfKind}
use Rattle.nested_arrays_access.specs.parts.Keys.{AreKeysOf, keyed, kind_of_keys}
use Rattle.nested_arrays_access.specs.arrays.Answers.{LiesAs}
use Rattle.nested_arrays_core.specs.Dictionaries.{keyed_by}
use Rattle.nested_arrays_core.proofs.DictionaryParts.{keyed_is}

abbrev key_of_kind : PrimitiveType → IntegerType
key_of_kind kinds.Int8 = integers.Int8
key_of_kind kinds.Int16 = integers.Int16
key_of_kind kinds.Int32 = integers.Int32
key_of_kind kinds.Int64 = integers.Int64
key_of_kind kinds.UInt8 = integers.UInt8
key_of_kind kinds.UInt16 = integers.UInt16
key_of_kind kinds.UInt32 = integers.UInt32
key_of_kind kinds.UInt64 = integers.UInt64
key_of_kind _ = integers.Int8

key_back : (key : IntegerType) → key_of_kind (kind_of_keys key) ≡ key
key_back integers.Int8 = refl
key_back integers.Int16 = refl
key_back integers.Int32 = refl
key_back integers.Int64 = refl
key_back integers.UInt8 = refl
key_back integers.UInt16 = refl
key_back integers.UInt32 = refl
key_back integers.UInt64 = refl

stored_same : (key other : IntegerType) (t : DataType) (mask : Option (List Bool)) (values : List Numbers)
    → AreKeysOf (physical.Dictionary other) (flat t mask (stored_numbers (kind_of_keys key) values)) → kind_of_keys key ≡ kind_of_keys other
stored_same integers.Int8 other t mask values h = h
stored_same integers.Int16 other t mask values h = h
stored_same integers.Int32 other t mask values h = h
stored_same integers.Int64 other t mask values h = h
stored_same integers.UInt8 other t mask values h = h
stored_same integers.UInt16 other t mask values h = h
stored_same integers.UInt32 other t mask values h = h
stored_same integers.UInt64 other t mask values h = h

keys_agree : (key : IntegerType) (layout : PhysicalType) (t : DataType) (mask : Option (List Bool)) (values : List Numbers)
    → AreKeysOf layout (flat t mask (stored_numbers (kind_of_keys key) values)) → layout ≡ physical.Dictionary key
keys_agree key (physical.Dictionary other) t mask values h =
    ap physical.Dictionary (sym (key_back other) ∙ ap key_of_kind (sym (stored_same key other t mask values h)) ∙ key_back key)
keys_agree key _ t mask values h = absurd h

-- a dictionary whose keys are an array of values of a kind has keys of its integer type
pub keys_so : {K : Type 0} (key : IntegerType) (kind : PrimitiveType) (number : K → Numbers) (layout : PhysicalType) (a : Flat K) (keys : Column)
    → kind ≡ kind_of_keys key → primitive_column kind number a ≡ keys → AreKeysOf layout keys → layout ≡ physical.Dictionary key
keys_so key kind number layout a keys is same fit =
    keys_agree key layout a.data_type a.validity (map number a.values)
    (subst (AreKeysOf layout) (sym (ap (λ k. primitive_column k number a) (sym is) ∙ same)) fit)

kind_same : (key : IntegerType) (own : PrimitiveType) → same_kind own (kind_of_keys key) ≡ true → own ≡ kind_of_keys key
kind_same integers.Int8 kinds.Int8 h = refl
kind_same integers.Int16 kinds.Int16 h = refl
kind_same integers.Int32 kinds.Int32 h = refl
kind_same integers.Int64 kinds.Int64 h = refl
kind_same integers.UInt8 kinds.UInt8 h = refl
kind_same integers.UInt16 kinds.UInt16 h = refl
kind_same integers.UInt32 kinds.UInt32 h = refl
kind_same integers.UInt64 kinds.UInt64 h = refl
kind_same _ _ h = absurd (false≢true h)

numbers_lie : (key : IntegerType) (layout : PhysicalType) (values : List ℤ) → is_stored_as layout (numbers (kind_of_keys key) values) ≡ true
    → layout ≡ physical.Primitive (kind_of_keys key)
numbers_lie key (physical.Primitive own) values h =
    let kind = kind_of_keys key in
    ap physical.Primitive (kind_same key own (and_parts (same_kind own kind) (numbers_of_kind kind == 1)
    (and_parts (same_kind own kind && (numbers_of_kind kind == 1)) (list_all (in_kind kind) values) h).0).0)
numbers_lie key _ values h = absurd (false≢true h)

keys_lie_so : (key : IntegerType) (keys : Column) → AreKeysOf (physical.Dictionary key) keys → is_sound keys ≡ true
    → physical_type (column_type keys) ≡ physical.Primitive (kind_of_keys key)
keys_lie_so key (flat t mask (numbers kind values)) fit sound =
    let stored = numbers kind values in
    let parts = parts_of_3 (is_stored_as (physical_type t) stored) (has_size (type_layer t) stored) (mask_fits mask (stored_len stored)) sound in
    numbers_lie key (physical_type t) values (ap (λ k. is_stored_as (physical_type t) (numbers k values)) (sym fit) ∙ parts.0)
keys_lie_so key _ fit sound = absurd fit

-- a dictionary whose keys are of another kind has keys of another integer type
pub keys_not : (key : IntegerType) (kind : PrimitiveType) (layout : PhysicalType) (keys : Column) → kind ≡ kind_of_keys key
    → is_sound keys ≡ true → AreKeysOf layout keys → (IsOfKind kind keys → ⊥) → layout ≡ physical.Dictionary key → ⊥
keys_not key kind layout keys is sound fit other lies =
    other (keys_lie_so key keys (subst (λ (l : PhysicalType). AreKeysOf l keys) lies fit) sound ∙ ap physical.Primitive (sym is))

-- so is a dictionary that is whole, by its array of keys
pub taken_whole : {K : Type 0} (key : IntegerType) (kind : PrimitiveType) (number : K → Numbers) (value : K → ℤ) (data_type : DataType) (a : Flat K)
    (keys values : Column) → kind ≡ kind_of_keys key → ((x : K) → number x ≡ one (value x)) → primitive_column kind number a ≡ keys
    → is_sound (keyed data_type keys values) ≡ true → AreKeysOf (physical_type data_type) keys
    → LiesAs (physical.Dictionary key) (keyed_by value data_type a values)
taken_whole key kind number value data_type a keys values is law same sound fit = (
  ap is_sound (sym (keyed_is key kind number value data_type a keys values is law (sym same))) ∙ sound,
  keys_so key kind number (physical_type data_type) a keys is same fit,
)
