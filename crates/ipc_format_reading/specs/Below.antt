-- The arrays that are read of the columns of some fields, one after another (Arrow IPC, "RecordBatch message").
use Rattle.std.specs.Prelude.{ℕ, List, [], ◌∷◌, map, Option, Some, None}
use Rattle.ipc_format_array_reading.specs.ArrayReads.{array_slots}
use Rattle.ipc_format_array_reading.specs.columnar_memory.declared.DataType.{DataType}
use Rattle.ipc_format_array_reading.specs.columnar_memory.declared.Field.{Field}
use Rattle.ipc_format_array_reading.specs.columns.Slots.{Slot}
use Rattle.ipc_format_array_reading.specs.flatbuffers.Reading.{◌>>=◌}
use Rattle.ipc_format_array_reading.specs.grammar.Columns.{Place, behind_column}
use Rattle.ipc_format_array_reading.specs.grammar.Layouts.{buffer_count, node_count, total}
use Rattle.ipc_format_array_reading.specs.grammar.Messages.{Version}
use Rattle.ipc_format_array_reading.specs.grammar.Schemas.{Ids, IdsList, ids, ids_then, no_ids}

-- The slots of the arrays of some fields' columns, the first of them at a place, by the ids at the fields. Ids beyond the fields are not
-- looked at.
abbrev pub arrays_below : List Field → Place → IdsList → Option (List (List Slot))
arrays_below [] at below = Some []
arrays_below (field ∷ fields) at no_ids = None
arrays_below (field ∷ fields) at (ids_then first others) = do
  column ← array_slots field.data_type (record at { ids = first })
  columns ← arrays_below fields (behind_column at field.data_type) others
  Some (column ∷ columns)

abbrev pub type_of : Field → DataType
type_of field = field.data_type

-- how many nodes and how many buffers the columns of some fields have
abbrev pub nodes_below : List Field → ℕ
nodes_below fields = total (map (λ field. node_count (type_of field)) fields)

abbrev pub buffers_below : Version → List Field → ℕ
buffers_below version fields = total (map (λ field. buffer_count version (type_of field)) fields)

-- no id, for a place whose columns have their own
abbrev pub no_own_ids : Ids
no_own_ids = ids None no_ids
