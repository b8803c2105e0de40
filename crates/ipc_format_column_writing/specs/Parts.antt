-- Which slots of a column's children are written with it (Arrow IPC, "RecordBatch message").
use Rattle.std.specs.Prelude.{◌+◌, ◌≤◌, Bool, List}
use Rattle.nested_arrays_core.specs.Places.{HaveRange}
use Rattle.nested_arrays_core.specs.StoredColumns.{Column, Columns, lists, fixed_lists, column_len}
use Rattle.ipc_format_column_reading.specs.column_bytes.grammar.Encoding.{Encoded}
use Rattle.ipc_format_column_reading.specs.column_bytes.grammar.StoredEncoding.{encode_range, encode_ranges, encode_stored, encode_wholes}
use Rattle.ipc_format_column_writing.specs.declared.parts.Part.{Part}
use Rattle.ipc_format_column_writing.specs.declared.parts.Part.TheVariants.{All, Range}

-- the column of the items of lists, and of another column itself
abbrev pub items_column : Column → Column
items_column (lists data_type mask offsets child) = child
items_column (fixed_lists data_type mask size child) = child
items_column column = column

-- these slots of a column
abbrev pub encode_part : Bool → Column → Part → Encoded
encode_part little column All = encode_stored little column
encode_part little column (Range first count) = encode_range little column first count

-- and of each of several columns
abbrev pub encode_parts : Bool → Columns → Part → List Encoded
encode_parts little columns All = encode_wholes little columns
encode_parts little columns (Range first count) = encode_ranges little columns first count

-- there are such slots
abbrev pub HasPart : Column → Part → Type 0
HasPart column All = Unit {0}
HasPart column (Range first count) = first + count ≤ column_len column

abbrev pub HaveParts : Columns → Part → Type 0
HaveParts columns All = Unit {0}
HaveParts columns (Range first count) = HaveRange columns first count
