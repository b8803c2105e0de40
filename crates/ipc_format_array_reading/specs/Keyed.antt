-- Keys as they are read, and the column that is made of them and of the values that stand under an id (Arrow columnar format,
-- "Dictionary-encoded Layout").
use Rattle.std.specs.Prelude.{◌≡◌, ◌⊎◌, ℕ, ℤ, Bool, true, false, List, length, drop, map, Option, Some, None, Result, Ok, Err, if◌then◌else◌}
use Rattle.std.specs.Ordering.{int_eq}
use Rattle.std.specs.BTreeMap.{BTreeMap}
use Rattle.std.specs.Map.{lookup}
use Rattle.ipc_format_column_writing.specs.columnar_memory.Equality.{same_type}
use Rattle.ipc_format_column_writing.specs.columnar_memory.Error.{IsOutOfMemory, IsOutOfSpec}
use Rattle.ipc_format_column_writing.specs.columnar_memory.Numbers.{Numbers, first_number}
use Rattle.ipc_format_column_writing.specs.columnar_memory.declared.DataType.{DataType}
use Rattle.ipc_format_column_writing.specs.columnar_memory.declared.DataType.TheOpen as layer
use Rattle.ipc_format_column_writing.specs.columnar_memory.declared.Error.{Error}
use Rattle.ipc_format_column_writing.specs.columnar_memory.declared.Field.{Field}
use Rattle.ipc_format_column_writing.specs.columnar_memory.declared.PrimitiveType.{PrimitiveType}
use Rattle.ipc_format_column_writing.specs.nested_arrays.Slots.{Slot}
use Rattle.ipc_format_column_writing.specs.nested_arrays.SoundColumns.{has_value_at, holds_below}
use Rattle.ipc_format_column_writing.specs.nested_arrays.StoredColumns.{Column, column_len, column_type, dictionary, slots}
use Rattle.ipc_format_column_writing.specs.flatbuffers.Reading.{◌>>=◌}
use Rattle.ipc_format_column_writing.specs.messages.declared.values.Buffer.{Buffer}
use Rattle.ipc_format_column_writing.specs.messages.declared.values.FieldNode.{FieldNode}
use Rattle.ipc_format_column_writing.specs.column_reading.Buffers.{next_values}
use Rattle.ipc_format_column_writing.specs.column_reading.Reads.{next_marked}

-- ---- the values that stand

-- whether a type of this layer is of dictionaries whose values have another
abbrev pub has_values : layer.DataType-F DataType Field → DataType → Bool
has_values (layer.Dictionary key value is_ordered) child = same_type child value
has_values _ child = false

abbrev pub if_values : layer.DataType-F DataType Field → Column → Option Column
if_values type_layer values = if has_values type_layer (column_type values) then Some values else None

-- the values that stand under an id, where they have the type that a type of dictionaries says
abbrev pub values_for : layer.DataType-F DataType Field → Option ℤ → BTreeMap ℤ Column → Option Column
values_for type_layer id dictionaries = do
  number ← id
  values ← lookup (int_eq number) dictionaries.entries
  if_values type_layer values

-- ---- keys

-- the mask and the keys of the column at the fronts of the queues, those under nulls too
abbrev pub next_keys : PrimitiveType → Bool → List FieldNode → Option ℕ → List Buffer → ℕ → List ℕ → Option (Option (List Bool) × List Numbers)
next_keys kind is_little_endian nodes limit buffers origin room = do
  marks ← next_marked nodes limit buffers origin room
  keys ← next_values kind is_little_endian (drop 1 buffers) origin marks.0 room
  Some (marks.1, keys)

-- ---- the column of both

-- the column of a mask and keys, where each key that the mask says is valid is the place of a value
abbrev pub keyed_column : DataType → Column → Option (List Bool) → List ℤ → Option Column
keyed_column data_type values mask keys =
    if holds_below (length keys) (has_value_at mask keys (column_len values)) then Some (dictionary data_type mask keys values) else None

-- its slots
abbrev pub keyed_slots : DataType → Column → Option (List Bool) × List Numbers → Option (List Slot)
keyed_slots data_type values found = do
  column ← keyed_column data_type values found.0 (map first_number found.1)
  Some (slots column)

-- what a call answers that makes it
abbrev pub MakesKeyed : DataType → Column → Option (List Bool) → List Numbers → Result Column Error → Type 0
MakesKeyed data_type values mask keys (Ok array) = keyed_column data_type values mask (map first_number keys) ≡ Some array
MakesKeyed data_type values mask keys (Err error) =
    IsOutOfMemory error ⊎ (IsOutOfSpec error × (keyed_column data_type values mask (map first_number keys) ≡ None))
