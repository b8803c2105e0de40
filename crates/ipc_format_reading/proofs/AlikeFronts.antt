-- The arrays of columns below a column, and of those behind one, are read at the fronts of what is left of the queues.
use Rattle.std.proofs.Common.{◌≡◌, ℕ, Bool, List, map, drop}
use Rattle.std.specs.Prelude.{Option}
use Rattle.ipc_format_array_reading.specs.ReadArrays.{at_front}
use Rattle.ipc_format_array_reading.specs.Limits.{AlikeLimits}
use Rattle.ipc_format_array_reading.specs.Buffers.{node_of, buffer_of}
use Rattle.ipc_format_array_reading.specs.columnar_memory.declared.DataType.{DataType}
use Rattle.ipc_format_array_reading.specs.columnar_memory.declared.Field.{Field}
use Rattle.ipc_format_array_reading.specs.grammar.Columns.{Dictionary, behind_column, first_below}
use Rattle.ipc_format_array_reading.specs.grammar.Layouts.{buffer_count, node_count}
use Rattle.ipc_format_array_reading.specs.grammar.Messages.{Version}
use Rattle.ipc_format_array_reading.specs.grammar.Schemas.{Ids, IdsList}
use Rattle.ipc_format_array_reading.specs.messages.declared.values.Buffer.{Buffer}
use Rattle.ipc_format_array_reading.specs.messages.declared.values.FieldNode.{FieldNode}
use Rattle.ipc_format_reading.specs.Below.{arrays_below}
use Rattle.ipc_format_reading.proofs.AlikeArrays.{behind_at_front, below_at_front}

-- below a column, under a limit that takes the same of each column
pub below_fronts : (fields : List Field) (nodes : List FieldNode) (buffers : List Buffer) (version : Version) (little : Bool)
    (standing : List Dictionary) (limit l m : Option ℕ) (origin own : ℕ) (here there : Ids) (room : List ℕ) (below : IdsList)
    → AlikeLimits (map node_of (drop 1 nodes)) l m
    → arrays_below fields (first_below (at_front nodes buffers version little standing limit origin here room) own l) below
    ≡ arrays_below fields (at_front (drop 1 nodes) (drop own buffers) version little standing m origin there room) below
below_fronts fields nodes buffers version little standing limit l m origin own here there room below agree =
    below_at_front node_of buffer_of fields nodes buffers version little standing limit l m origin own here there room below agree

-- behind a column
pub behind_fronts : (fields : List Field) (nodes : List FieldNode) (buffers : List Buffer) (version : Version) (little : Bool)
    (standing : List Dictionary) (limit : Option ℕ) (origin : ℕ) (here there : Ids) (room : List ℕ) (below : IdsList) (t : DataType)
    → arrays_below fields (behind_column (at_front nodes buffers version little standing limit origin here room) t) below
    ≡ arrays_below fields
    (at_front (drop (node_count t) nodes) (drop (buffer_count version t) buffers) version little standing limit origin there room) below
behind_fronts fields nodes buffers version little standing limit origin here there room below t =
    behind_at_front node_of buffer_of fields nodes buffers version little standing limit origin here there room below t
