-- The columns that flat arrays store (Arrow columnar format, "Fixed-size Primitive Layout", "Variable-size Binary Layout").
use Rattle.std.specs.Prelude.{ℕ, ℤ, Bool, ◌&&◌, List, map, Option}
use Rattle.flat_arrays_core.specs.columnar_memory.declared.DataType.{DataType}
use Rattle.flat_arrays_core.specs.columnar_memory.declared.DataType.TheOpen as layer
use Rattle.flat_arrays_core.specs.columnar_memory.declared.Field.{Field}
use Rattle.flat_arrays_core.specs.columnar_memory.declared.PrimitiveType.{PrimitiveType}
use Rattle.flat_arrays_core.specs.columnar_memory.declared.PrimitiveType.TheVariants as kinds
use Rattle.flat_arrays_core.specs.columnar_memory.Numbers.{Numbers, one, two, three, first_number, second_number, third_number}
use Rattle.flat_arrays_core.specs.columnar_memory.Spans.{offsets_of}
use Rattle.flat_arrays_core.specs.Flat.{Flat}
use Rattle.flat_arrays_core.specs.ByteStrings.{ByteStrings}
use Rattle.nested_arrays_columns.specs.Kinds.{in_kind, is_signed, same_kind}
use Rattle.nested_arrays_columns.specs.StoredColumns.{Column, Stored, flat, bits, numbers, pairs, triples, texts, byte_strings}
use Rattle.nested_arrays_columns.specs.StoredColumns.{fixed_bytes, type_layer}

-- a kind has such a value
abbrev pub is_native : PrimitiveType → Numbers → Bool
is_native kind (one n) = in_kind kind n
is_native kind (two days ms) = same_kind kind kinds.DaysMs && is_signed 32 days && is_signed 32 ms
is_native kind (three months days ns) =
    same_kind kind kinds.MonthDayNano && is_signed 32 months && is_signed 32 days && is_signed 64 ns

abbrev pub pair_of : Numbers → ℤ × ℤ
pair_of n = (first_number n, second_number n)

abbrev pub triple_of : Numbers → ℤ × ℤ × ℤ
triple_of n = (first_number n, second_number n, third_number n)

-- values of a kind as a column stores them
abbrev pub stored_numbers : PrimitiveType → List Numbers → Stored
stored_numbers kinds.DaysMs values = pairs kinds.DaysMs (map pair_of values)
stored_numbers kinds.MonthDayNano values = triples kinds.MonthDayNano (map triple_of values)
stored_numbers kind values = numbers kind (map first_number values)

-- the column of an array of numbers
abbrev pub primitive_column : {T : Type 0} → PrimitiveType → (T → Numbers) → Flat T → Column
primitive_column kind number array = flat array.data_type array.validity (stored_numbers kind (map number array.values))

-- the column of an array of booleans
abbrev pub boolean_column : Flat Bool → Column
boolean_column array = flat array.data_type array.validity (bits array.values)

-- the column of an array of texts
abbrev pub text_column : ByteStrings → Column
text_column array = flat array.data_type array.validity (texts (offsets_of array.offsets) array.bytes)

-- the column of an array of byte strings
abbrev pub binary_column : ByteStrings → Column
binary_column array = flat array.data_type array.validity (byte_strings (offsets_of array.offsets) array.bytes)

-- the column of an array of byte strings of one size
abbrev pub fixed_column : DataType → ℕ → List ℕ → Option (List Bool) → Column
fixed_column data_type size bytes mask = flat data_type mask (fixed_bytes size bytes)

abbrev pub layer_width : layer.DataType-F DataType Field → ℕ
layer_width (layer.FixedSizeBinary size) = size
layer_width _ = 0

-- the size of the byte strings of a type, and none of another type
abbrev pub byte_width : DataType → ℕ
byte_width data_type = layer_width (type_layer data_type)
