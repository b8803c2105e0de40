-- How many slots the children of a union have, by the ids that mean them.
use Rattle.std.specs.Prelude.{◌≡◌, ◌<◌, ℕ, ℤ, List, length, slice_index, FitsSigned}
use Rattle.std.specs.Int.{cast_unsigned, w8}
use Rattle.nested_arrays_parts.specs.columnar_memory.declared.DataType.{DataType}
use Rattle.nested_arrays_parts.specs.columns.SoundColumns.{column_lens}
use Rattle.nested_arrays_parts.specs.columns.StoredColumns.{Columns, child_number, type_layer}

-- A table of rooms has at the byte of each id of 8 bits, as far as it reaches, how many slots the child has that the id means.
abbrev pub AreRooms : List ℕ → DataType → Columns → Type 0
AreRooms rooms data_type children = (id : ℤ) → FitsSigned w8 id → cast_unsigned w8 id < length rooms
    → slice_index rooms (cast_unsigned w8 id) ≡ slice_index (column_lens children) (child_number (type_layer data_type) id)
