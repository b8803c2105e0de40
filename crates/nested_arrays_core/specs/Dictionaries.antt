-- Dictionaries: a column of values, and for each slot a key, which is the place of its value (Arrow columnar format, "Dictionary-encoded
-- Layout").
use Rattle.std.specs.Prelude.{◌≡◌, ◌⊎◌, ℕ, ℤ, pos, Bool, true, false, List, [], map, Option, Some, None, if◌then◌else◌, slice_index_or}
use Rattle.std.specs.Prelude.{Result, MatchResult}
use Rattle.nested_arrays_access.specs.columnar_memory.Equality.{same_type}
use Rattle.nested_arrays_access.specs.columnar_memory.Error.{IsOutOfMemory, IsOutOfSpec}
use Rattle.nested_arrays_access.specs.columnar_memory.declared.DataType.{DataType}
use Rattle.nested_arrays_access.specs.columnar_memory.declared.DataType.TheOpen as layer
use Rattle.nested_arrays_access.specs.columnar_memory.declared.DataType.TheVariants as types
use Rattle.nested_arrays_access.specs.columnar_memory.declared.Error.{Error}
use Rattle.nested_arrays_access.specs.columnar_memory.declared.Field.{Field}
use Rattle.nested_arrays_access.specs.columnar_memory.declared.IntegerType.{IntegerType}
use Rattle.nested_arrays_access.specs.columnar_memory.declared.IntegerType.TheVariants as integers
use Rattle.nested_arrays_access.specs.columnar_memory.declared.PhysicalType.TheVariants as physical
use Rattle.nested_arrays_access.specs.flat_arrays.Flat.{Flat}
use Rattle.nested_arrays_access.specs.arrays.Answers.{LiesAs}
use Rattle.nested_arrays_access.specs.columns.StoredColumns.{Column, dictionary, is_valid_at, place_of}
use Rattle.nested_arrays_access.specs.flat.ColumnMasks.{column_mask}

-- the column of a dictionary by its type, its array of keys, whose mask it has, and its values
abbrev pub keyed_by : {K : Type 0} → (K → ℤ) → DataType → Flat K → Column → Column
keyed_by value data_type keys values = dictionary data_type keys.validity (map value keys.values) values

-- the keys of a dictionary, those under nulls too
abbrev pub keys_of : Column → List ℤ
keys_of (dictionary data_type mask keys values) = keys
keys_of _ = []

-- the values of a dictionary
abbrev pub values_of : Column → Column
values_of (dictionary data_type mask keys values) = values
values_of column = column

-- the key at a place, also where the slot is null
abbrev pub raw_key : Column → ℕ → ℤ
raw_key column i = slice_index_or (keys_of column) i (pos 0)

-- the place of the value of a slot, or none where the slot is null
abbrev pub key_at : Column → ℕ → Option ℕ
key_at column i = if is_valid_at (column_mask column) i then Some (place_of (raw_key column i)) else None

-- whether a type is of dictionaries whose values have another
abbrev pub is_value_type : layer.DataType-F DataType Field → DataType → Bool
is_value_type (layer.Dictionary key value is_ordered) child = same_type value child
is_value_type _ child = false

-- whether the order of a dictionary's values has a meaning, by its type
abbrev pub has_order : layer.DataType-F DataType Field → Bool
has_order (layer.Dictionary key value is_ordered) = is_ordered
has_order _ = false

-- whether an integer type has no numbers below zero
abbrev pub has_no_sign : IntegerType → Bool
has_no_sign integers.UInt8 = true
has_no_sign integers.UInt16 = true
has_no_sign integers.UInt32 = true
has_no_sign integers.UInt64 = true
has_no_sign _ = false

-- the type of dictionaries with such keys and values, whose order has no meaning
abbrev pub dictionary_type : IntegerType → DataType → DataType
dictionary_type key value_type = types.Dictionary key value_type false

-- the dictionary of parts with that type, or a refusal where they are not those of one, or no memory
abbrev pub IsDictionaryOf : IntegerType → (DataType → Column) → DataType → Result Column Error → Type 0
IsDictionaryOf key parts value_type r = let whole = parts (dictionary_type key value_type) in
    MatchResult r (λ a. (a ≡ whole) × LiesAs (physical.Dictionary key) whole)
    (λ e. (IsOutOfSpec e × ¬ LiesAs (physical.Dictionary key) whole) ⊎ IsOutOfMemory e)
