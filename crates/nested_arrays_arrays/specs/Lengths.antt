-- How long arrays are that are made of children.
use Rattle.std.specs.Prelude.{ℕ, List, [], ◌∷◌}
use Rattle.nested_arrays_parts.specs.columnar_memory.declared.DataType.{DataType}
use Rattle.nested_arrays_parts.specs.columnar_memory.declared.DataType.TheOpen as layer
use Rattle.nested_arrays_parts.specs.columnar_memory.declared.Field.{Field}
use Rattle.nested_arrays_parts.specs.columns.StoredColumns.{Column, column_len, type_layer}

-- a struct is as long as the first of its children
abbrev pub struct_len : List Column → ℕ
struct_len [] = 0
struct_len (child ∷ children) = column_len child

-- how many items each list has by a layer of a type, none where it is no list of one size
abbrev pub layer_size : layer.DataType-F DataType Field → ℕ
layer_size (layer.FixedSizeList item size) = size
layer_size _ = 0

-- the same by a type
abbrev pub size_of : DataType → ℕ
size_of data_type = layer_size (type_layer data_type)
