-- What calls answer that read a column without children at the fronts of the queues.
use Rattle.std.specs.Prelude.{◌≡◌, ◌⊎◌, ℕ, ◌^◌, ◌<◌, ◌≤◌, Bool, List, [], ◌∷◌, Option, Some, None, Result, Ok, Err}
use Rattle.ipc_format_column_writing.specs.column_reading.columnar_memory.Error.{IsOutOfSpec}
use Rattle.ipc_format_column_writing.specs.column_reading.columnar_memory.Layouts.{physical_type}
use Rattle.ipc_format_column_writing.specs.column_reading.columnar_memory.declared.DataType.{DataType}
use Rattle.ipc_format_column_writing.specs.column_reading.columnar_memory.declared.Error.{Error}
use Rattle.ipc_format_column_writing.specs.column_reading.columnar_memory.declared.PhysicalType.TheVariants as layouts
use Rattle.ipc_format_column_writing.specs.column_reading.columns.Slots.{Slot}
use Rattle.ipc_format_column_writing.specs.column_reading.columns.StoredColumns.{Column, column_type, slots}
use Rattle.ipc_format_column_writing.specs.column_reading.grammar.Messages.{natural}
use Rattle.ipc_format_column_writing.specs.column_reading.messages.declared.values.Buffer.{Buffer}
use Rattle.ipc_format_column_writing.specs.column_reading.messages.declared.values.FieldNode.{FieldNode}
use Rattle.ipc_format_column_writing.specs.column_reading.Queues.{IsEnd, TakesOff}
use Rattle.ipc_format_column_writing.specs.column_reading.Reads.{front}
use Rattle.ipc_format_array_reading.specs.ArrayReads.{array_slots}

-- the slots of an array at the fronts of the queues, without dictionaries
abbrev pub front_array : DataType → List FieldNode → List Buffer → Bool → Option ℕ → ℕ → List ℕ → Option (List Slot)
front_array data_type nodes buffers is_little_endian limit origin room =
    array_slots data_type (front nodes buffers is_little_endian limit origin room)

-- A column of nulls, by its node alone. A type of another kind is refused, and nothing is taken.
abbrev pub ReadsNulls : DataType → Option (List Slot) → List FieldNode → List FieldNode → Result Column Error → Type 0
ReadsNulls data_type given nodes nodes_after (Ok array) =
    (physical_type data_type ≡ layouts.Null) × (column_type array ≡ data_type) × (given ≡ Some (slots array))
    × TakesOff 1 nodes nodes_after (Ok array)
ReadsNulls data_type given nodes nodes_after (Err error) = IsOutOfSpec error
    × (((physical_type data_type ≡ layouts.Null) × (given ≡ None) × IsEnd nodes nodes_after)
    ⊎ (¬ (physical_type data_type ≡ layouts.Null) × (nodes_after ≡ nodes)))

-- the next buffer, if there is one, states fewer than 2^64 bytes
abbrev pub StatesSmall : List Buffer → Type 0
StatesSmall [] = Unit {0}
StatesSmall (buffer ∷ others) = (stated : ℕ) → natural buffer.length ≡ Some stated → stated < 2 ^ 64

-- so many bytes; or none, where that is more than 64 bits count and the next buffer has fewer
abbrev pub IsNeeded : ℕ → List Buffer → Option ℕ → Type 0
IsNeeded needed buffers (Some count) = count ≡ needed
IsNeeded needed buffers None = (2 ^ 64 ≤ needed) × StatesSmall buffers
