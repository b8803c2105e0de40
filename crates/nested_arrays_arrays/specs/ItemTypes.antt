-- The field of a list's items (Arrow columnar format, "Variable-size List Layout", "Fixed-Size List Layout").
use Rattle.std.specs.Prelude.{ℕ, true, [], codes}
use Rattle.nested_arrays_parts.specs.columnar_memory.declared.DataType.{DataType}
use Rattle.nested_arrays_parts.specs.columnar_memory.declared.DataType.TheVariants as types
use Rattle.nested_arrays_parts.specs.columnar_memory.declared.Field.{Field}

-- items of a type, which are named "item" and may be null
abbrev pub item_field : DataType → Field
item_field data_type = record { name = codes "item"; data_type = data_type; is_nullable = true; metadata = [] }

-- the type of lists of one size with such items
abbrev pub fixed_list_type : DataType → ℕ → DataType
fixed_list_type data_type size = types.FixedSizeList (item_field data_type) size
