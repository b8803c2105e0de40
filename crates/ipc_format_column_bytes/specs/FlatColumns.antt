-- The columns that flat arrays store (Arrow columnar format, "Fixed-size Primitive Layout", "Variable-size Binary Layout").
use Rattle.std.specs.Prelude.{ℤ, Bool, List, map}
use Rattle.flat_arrays_core.specs.ByteStrings.{ByteStrings}
use Rattle.flat_arrays_core.specs.Flat.{Flat}
use Rattle.ipc_format_streams.specs.columnar_memory.Numbers.{Numbers, first_number, second_number, third_number}
use Rattle.ipc_format_streams.specs.columnar_memory.Spans.{offsets_of}
use Rattle.ipc_format_streams.specs.columnar_memory.declared.PrimitiveType.{PrimitiveType}
use Rattle.ipc_format_streams.specs.columnar_memory.declared.PrimitiveType.TheVariants as kinds
use Rattle.ipc_format_streams.specs.columns.StoredColumns.{Column, Stored, flat, bits, numbers, pairs, triples, texts, byte_strings}

abbrev pub pair_of : Numbers → ℤ × ℤ
pair_of n = (first_number n, second_number n)

abbrev pub triple_of : Numbers → ℤ × ℤ × ℤ
triple_of n = (first_number n, second_number n, third_number n)

-- values of a kind as a column stores them
abbrev pub stored_numbers : PrimitiveType → List Numbers → Stored
stored_numbers kinds.DaysMs values = pairs kinds.DaysMs (map pair_of values)
stored_numbers kinds.MonthDayNano values = triples kinds.MonthDayNano (map triple_of values)
stored_numbers kind values = numbers kind (map first_number values)

-- the column of an array of numbers
abbrev pub primitive_column : {T : Type 0} → PrimitiveType → (T → Numbers) → Flat T → Column
primitive_column kind number array = flat array.data_type array.validity (stored_numbers kind (map number array.values))

-- the column of an array of booleans
abbrev pub boolean_column : Flat Bool → Column
boolean_column array = flat array.data_type array.validity (bits array.values)

-- the column of an array of texts
abbrev pub text_column : ByteStrings → Column
text_column array = flat array.data_type array.validity (texts (offsets_of array.offsets) array.bytes)

-- the column of an array of byte strings
abbrev pub binary_column : ByteStrings → Column
binary_column array = flat array.data_type array.validity (byte_strings (offsets_of array.offsets) array.bytes)
