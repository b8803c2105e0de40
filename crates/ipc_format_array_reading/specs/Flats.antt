-- What calls answer that read columns whose arrays lie flat in memory.
use Rattle.std.specs.Prelude.{◌≡◌, ℕ, Bool, true, false, List, Option, Result, Ok, Err, IfOk}
use Rattle.ipc_format_column_writing.specs.columnar_memory.declared.DataType.{DataType}
use Rattle.ipc_format_column_writing.specs.columnar_memory.declared.Error.{Error}
use Rattle.ipc_format_column_writing.specs.columnar_memory.declared.PhysicalType.{PhysicalType}
use Rattle.ipc_format_column_writing.specs.columnar_memory.declared.PhysicalType.TheVariants as physical
use Rattle.ipc_format_column_writing.specs.columnar_memory.declared.PrimitiveType.TheVariants as kinds
use Rattle.ipc_format_column_writing.specs.nested_arrays.StoredColumns.{Column, column_type, slots}
use Rattle.ipc_format_column_writing.specs.grammar.Layouts.{buffer_count, node_count}
use Rattle.ipc_format_column_writing.specs.grammar.Messages.{V5}
use Rattle.ipc_format_column_writing.specs.messages.declared.values.Buffer.{Buffer}
use Rattle.ipc_format_column_writing.specs.messages.declared.values.FieldNode.{FieldNode}
use Rattle.ipc_format_column_writing.specs.column_reading.Rooms.{Told}
use Rattle.ipc_format_array_reading.specs.ArrayReads.{Takes}
use Rattle.ipc_format_array_reading.specs.TypedReads.{front_array}

-- the same array, or the same refusal
abbrev pub IsAnyOf : {A : Type 0} → (A → Column) → Result A Error → Result Column Error → Type 0
IsAnyOf column (Ok array) (Ok any) = any ≡ column array
IsAnyOf column (Err error) (Err refusal) = refusal ≡ error
IsAnyOf column _ _ = ⊥

-- What is read of a column at the fronts of the queues, by no dictionary: an array of the type, whose slots are those that the format gives,
-- where there are arrays of the type.
abbrev pub ReadsFlat : Told → Told → DataType → Bool → Option ℕ → ℕ → List FieldNode → List FieldNode → List Buffer → List Buffer
    → Result Column Error → Type 0
ReadsFlat old new data_type is_little_endian limit origin nodes nodes_after buffers buffers_after r =
    Takes false old new slots (front_array data_type nodes buffers is_little_endian limit origin) (node_count data_type)
    (buffer_count V5 data_type) nodes nodes_after buffers buffers_after r
    × IfOk r (λ array. column_type array ≡ data_type)

-- layouts whose types all have arrays
abbrev pub has_all : PhysicalType → Bool
has_all physical.Null = true
has_all physical.Boolean = true
has_all (physical.Primitive kinds.Float16) = false
has_all (physical.Primitive kinds.Float32) = false
has_all (physical.Primitive kinds.Float64) = false
has_all (physical.Primitive kind) = true
has_all physical.Binary = true
has_all physical.LargeBinary = true
has_all physical.Utf8 = true
has_all physical.LargeUtf8 = true
has_all _ = false
