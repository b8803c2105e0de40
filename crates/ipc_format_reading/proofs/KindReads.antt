-- What readers of one kind of columns answer, by the reader of every kind.
use Rattle.std.proofs.Common.{◌≡◌, ◌∙◌, ℕ, Bool, List, inl, refl, ap}
use Rattle.std.specs.Prelude.{Option, Result, Ok, Err}
use Rattle.ipc_format_array_reading.specs.ReadArrays.{ReadsArray}
use Rattle.ipc_format_array_reading.specs.ArrayReads.{array_slots}
use Rattle.ipc_format_array_reading.specs.Reads.{ReadsColumn}
use Rattle.ipc_format_array_reading.specs.Rooms.{Told}
use Rattle.ipc_format_array_reading.specs.columnar_memory.Layouts.{physical_type}
use Rattle.ipc_format_array_reading.specs.columnar_memory.declared.DataType.{DataType}
use Rattle.ipc_format_array_reading.specs.columnar_memory.declared.Error.{Error}
use Rattle.ipc_format_array_reading.specs.columnar_memory.declared.PhysicalType.{PhysicalType}
use Rattle.ipc_format_array_reading.specs.columns.StoredColumns.{Column, column_type}
use Rattle.ipc_format_array_reading.specs.grammar.Columns.{Place}
use Rattle.ipc_format_array_reading.specs.grammar.Layouts.{buffer_count, node_count}
use Rattle.ipc_format_array_reading.specs.grammar.Messages.{Version}
use Rattle.ipc_format_array_reading.specs.messages.declared.values.Buffer.{Buffer}
use Rattle.ipc_format_array_reading.specs.messages.declared.values.FieldNode.{FieldNode}

abbrev pub ReadsKind : PhysicalType → Bool → Told → Told → DataType → (List ℕ → Place) → Version → List FieldNode → List FieldNode → List Buffer
    → List Buffer → Result Column Error → Type 0
ReadsKind layout is_compressed old new t at version nodes nodes_after buffers buffers_after r =
    ReadsColumn (physical_type t ≡ layout) is_compressed old new (λ (array : Column). array) t (λ room. array_slots t (at room))
    (node_count t) (buffer_count version t) nodes nodes_after buffers buffers_after r

-- a column of the kind
pub of_kind : (layout : PhysicalType) (is_compressed : Bool) (old new : Told) (t : DataType) (at : List ℕ → Place) (version : Version)
    (nodes nodes1 : List FieldNode) (buffers buffers1 : List Buffer) (r : Result Column Error) → physical_type t ≡ layout
    → ReadsArray is_compressed old new t at version nodes nodes1 buffers buffers1 r
    → ReadsKind layout is_compressed old new t at version nodes nodes1 buffers buffers1 r
of_kind layout is_compressed old new t at version nodes nodes1 buffers buffers1 (Ok array) is read =
    (is, read.1, read.0.0, read.0.1, read.0.2)
of_kind layout is_compressed old new t at version nodes nodes1 buffers buffers1 (Err error) is read =
    inl (is, read.0.0, read.0.1, read.0.2)

-- the kind of an array that was read
pub kind_of_read : (layout : PhysicalType) (is_compressed : Bool) (old new : Told) (t : DataType) (at : List ℕ → Place) (version : Version)
    (nodes nodes1 : List FieldNode) (buffers buffers1 : List Buffer) (array : Column)
    → ReadsKind layout is_compressed old new t at version nodes nodes1 buffers buffers1 (Ok array) → physical_type (column_type array) ≡ layout
kind_of_read layout is_compressed old new t at version nodes nodes1 buffers buffers1 array read = ap physical_type read.1 ∙ read.0
