-- The parts of columns that arrays show.
use Rattle.std.specs.Prelude.{ℕ, ℤ, List, [], Option, None}
use Rattle.nested_arrays_parts.specs.columnar_memory.declared.DataType.{DataType}
use Rattle.nested_arrays_parts.specs.columnar_memory.declared.DataType.TheOpen as layer
use Rattle.nested_arrays_parts.specs.columnar_memory.declared.Field.{Field}
use Rattle.nested_arrays_parts.specs.columns.StoredColumns.{Column, Columns, lists, fixed_lists, records, unions, dictionary}
use Rattle.nested_arrays_parts.specs.columns.StoredColumns.{no_column, column_then, type_layer}

-- where the lists of a column begin in their child, and where the last one ends
abbrev pub column_offsets : Column → List ℕ
column_offsets (lists data_type mask offsets child) = offsets
column_offsets _ = []

-- the id of each slot of a union
abbrev pub column_ids : Column → List ℤ
column_ids (unions data_type ids offsets children) = ids
column_ids _ = []

-- the place of each slot of a dense union in its child; a sparse one has none
abbrev pub column_places : Column → Option (List ℤ)
column_places (unions data_type ids offsets children) = offsets
column_places _ = None

-- the columns below a column
abbrev pub column_children : Column → Columns
column_children (lists data_type mask offsets child) = column_then child no_column
column_children (fixed_lists data_type mask size child) = column_then child no_column
column_children (records data_type mask n children) = children
column_children (unions data_type ids offsets children) = children
column_children (dictionary data_type mask keys values) = column_then values no_column
column_children _ = no_column

-- the fields of one layer of a type, none where it is no struct
abbrev pub layer_fields : layer.DataType-F DataType Field → List Field
layer_fields (layer.Struct fields) = fields
layer_fields _ = []

-- the fields of a struct's type
abbrev pub fields_of : DataType → List Field
fields_of data_type = layer_fields (type_layer data_type)
