-- The data types of columns.
use Rattle.flat_arrays_core.specs.columnar_memory.declared.DataType.{DataType}
use Rattle.nested_arrays_columns.specs.StoredColumns.{Column, nulls, flat, lists, fixed_lists, records, unions, dictionary}

-- the same values and mask under another data type
abbrev pub with_type : Column → DataType → Column
with_type (nulls old n) data_type = nulls data_type n
with_type (flat old mask stored) data_type = flat data_type mask stored
with_type (lists old mask offsets child) data_type = lists data_type mask offsets child
with_type (fixed_lists old mask size child) data_type = fixed_lists data_type mask size child
with_type (records old mask n children) data_type = records data_type mask n children
with_type (unions old ids offsets children) data_type = unions data_type ids offsets children
with_type (dictionary old mask keys values) data_type = dictionary data_type mask keys values
