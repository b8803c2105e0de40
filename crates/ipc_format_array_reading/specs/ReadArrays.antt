-- What a call answers that reads a column of any type at the fronts of the queues of nodes and buffers, among the dictionaries that stand
-- (Arrow IPC, "RecordBatch message", "Dictionary Messages").
use Rattle.std.specs.Prelude.{◌≡◌, ℕ, ℤ, Bool, List, map, Option, Result, IfOk}
use Rattle.std.specs.BTreeMap.{BTreeMap}
use Rattle.ipc_format_column_writing.specs.columnar_memory.declared.DataType.{DataType}
use Rattle.ipc_format_column_writing.specs.columnar_memory.declared.Error.{Error}
use Rattle.ipc_format_column_writing.specs.nested_arrays.StoredColumns.{Column, column_type, slots}
use Rattle.ipc_format_column_writing.specs.grammar.Columns.{Dictionary, Place}
use Rattle.ipc_format_column_writing.specs.grammar.Layouts.{buffer_count, node_count}
use Rattle.ipc_format_column_writing.specs.grammar.Messages.{Version}
use Rattle.ipc_format_column_writing.specs.grammar.Schemas.{Ids}
use Rattle.ipc_format_column_writing.specs.messages.declared.values.Buffer.{Buffer}
use Rattle.ipc_format_column_writing.specs.messages.declared.values.FieldNode.{FieldNode}
use Rattle.ipc_format_column_writing.specs.column_reading.Buffers.{source_of}
use Rattle.ipc_format_column_writing.specs.column_reading.Rooms.{Told}
use Rattle.ipc_format_array_reading.specs.ArrayReads.{Takes, array_slots}

-- ---- dictionaries

-- a dictionary that stands under an id: the array of its values
abbrev pub dictionary_of : ℤ × Column → Dictionary
dictionary_of entry = record { id = entry.0; data_type = column_type entry.1; slots = slots entry.1 }

-- the dictionaries that stand, each under its id
abbrev pub standing_in : BTreeMap ℤ Column → List Dictionary
standing_in dictionaries = map dictionary_of dictionaries.entries

-- ---- columns

-- where the column is read whose node and buffers are the first of the queues, by the ids at its field
abbrev pub at_front : List FieldNode → List Buffer → Version → Bool → List Dictionary → Option ℕ → ℕ → Ids → List ℕ → Place
at_front nodes buffers version is_little_endian standing limit origin here room = record {
  source = record (source_of nodes buffers is_little_endian room origin) { version = version };
  standing = standing;
  limit = limit;
  node = 0;
  buffer = 0;
  ids = here;
}

-- What is read of a column of a type: an array of the type, whose slots are those that the format gives, where there are arrays of the type.
-- The column's nodes and buffers come off the fronts of the queues.
abbrev pub ReadsArray : Bool → Told → Told → DataType → (List ℕ → Place) → Version → List FieldNode → List FieldNode → List Buffer
    → List Buffer → Result Column Error → Type 0
ReadsArray is_compressed old new data_type at version nodes nodes_after buffers buffers_after r =
    Takes is_compressed old new slots (λ room. array_slots data_type (at room)) (node_count data_type) (buffer_count version data_type)
    nodes nodes_after buffers buffers_after r
    × IfOk r (λ array. column_type array ≡ data_type)
