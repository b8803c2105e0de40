-- Which array is read of a column of any type at the fronts of the queues of nodes and buffers (Arrow IPC, "RecordBatch message",
-- "Dictionary Messages"; Arrow columnar format, "Physical Memory Layout").
use Rattle.std.specs.Prelude.{Bool, true, false, nat_lt, ◌&&◌, ℕ, List, [], ◌∷◌, length, Option, Result}
use Rattle.ipc_format_column_writing.specs.column_reading.columnar_memory.declared.DataType.{DataType}
use Rattle.ipc_format_column_writing.specs.column_reading.columnar_memory.declared.DataType.TheFolds.{para-DataType}
use Rattle.ipc_format_column_writing.specs.column_reading.columnar_memory.declared.DataType.TheOpen as layer
use Rattle.ipc_format_column_writing.specs.column_reading.columnar_memory.declared.DataType.TheViews.{out-DataType}
use Rattle.ipc_format_column_writing.specs.column_reading.columnar_memory.declared.Error.{Error}
use Rattle.ipc_format_column_writing.specs.column_reading.columnar_memory.declared.Field.{Field}
use Rattle.ipc_format_column_writing.specs.column_reading.columns.Slots.{Slot}
use Rattle.ipc_format_column_writing.specs.column_reading.columns.SoundColumns.{has_an_id_each, is_entry}
use Rattle.ipc_format_column_writing.specs.column_reading.flatbuffers.Reading.{◌>>=◌, guard}
use Rattle.ipc_format_column_writing.specs.column_reading.grammar.Columns.{Place, ids_below, slots_in}
use Rattle.ipc_format_column_writing.specs.column_reading.grammar.Schemas.{Ids, IdsList, no_ids, ids_then}
use Rattle.ipc_format_column_writing.specs.column_reading.Queues.{TakesOff}
use Rattle.ipc_format_column_writing.specs.column_reading.Rooms.{Told, ReadsAs}

-- ---- types that have arrays

-- the fields below one layer of a type
abbrev pub fields_below : {A B : Type 0} → layer.DataType-F A B → List B
fields_below (layer.List item) = item ∷ []
fields_below (layer.LargeList item) = item ∷ []
fields_below (layer.FixedSizeList item size) = item ∷ []
fields_below (layer.Map entry is_sorted) = entry ∷ []
fields_below (layer.Struct fields) = fields
fields_below (layer.Union fields numbers mode) = fields
fields_below _ = []

-- Whether there are arrays of types of this layer, whatever is below it: none of floats, none of byte strings or lists of size 0, no struct
-- without a field, no map whose entries are no structs of two, no union with another number of ids than of children.
abbrev pub has_arrays : {X : Type 0} → layer.DataType-F (DataType × X) (Field × X) → Bool
has_arrays layer.Float16 = false
has_arrays layer.Float32 = false
has_arrays layer.Float64 = false
has_arrays (layer.FixedSizeBinary size) = nat_lt 0 size
has_arrays (layer.FixedSizeList item size) = nat_lt 0 size
has_arrays (layer.Map entry is_sorted) = is_entry (out-DataType entry.0.data_type)
has_arrays (layer.Struct []) = false
has_arrays (layer.Union fields numbers mode) = has_an_id_each numbers (length fields)
has_arrays _ = true

-- a test of the dictionary ids beside a field
abbrev pub Test : Type 0
Test = Ids → Bool

-- there are ids beside each field, and they pass its test; ids beyond the fields are not looked at
abbrev pub pass_each : List (Field × Test) → IdsList → Bool
pass_each [] below = true
pass_each (field ∷ fields) no_ids = false
pass_each (field ∷ fields) (ids_then first others) = field.1 first && pass_each fields others

abbrev pub readable_step : layer.DataType-F (DataType × Test) (Field × Test) → Test
readable_step (layer.Extension name inner metadata) here = inner.1 here
readable_step type_layer here = has_arrays type_layer && pass_each (fields_below type_layer) (ids_below here)

-- whether there are arrays of a type, and ids beside each field below it, at every depth
abbrev pub is_readable : DataType → Test
is_readable = para-DataType Test Test readable_step (λ field. field.data_type.1)

-- The slots of the array that is read of a column: those that the format gives, where there are arrays of its type.
abbrev pub array_slots : DataType → Place → Option (List Slot)
array_slots data_type at = guard (is_readable data_type at.ids) >>= (λ _. slots_in data_type at)

-- ---- what a call answers

-- What is read is what the format gives, or the call is refused. So many nodes and so many buffers come off the fronts of the queues; where the
-- call is refused, each holds an end of what it held.
abbrev pub Takes : {A B X Y : Type 0} → Bool → Told → Told → (A → B) → (List ℕ → Option B) → ℕ → ℕ → List X → List X → List Y → List Y
    → Result A Error → Type 0
Takes is_compressed old new view given n b nodes nodes_after buffers buffers_after r =
    ReadsAs is_compressed old new view given r × TakesOff n nodes nodes_after r × TakesOff b buffers buffers_after r
