-- How many nodes and buffers types with several fields have.
use Rattle.std.proofs.Common.{◌≡◌, ◌+◌, ℕ, List, map}
use Rattle.std.specs.Prelude.{Option, ℤ, length}
use denote.Hole.Carrier
use Rattle.ipc_format_column_bytes.specs.streams.columnar_memory.declared.DataType.{DataType, map-DataType}
use Rattle.ipc_format_column_bytes.specs.streams.columnar_memory.declared.DataType.TheOpen as layer
use Rattle.ipc_format_column_bytes.specs.streams.columnar_memory.declared.DataType.TheVariants as types
use Rattle.ipc_format_column_bytes.specs.streams.columnar_memory.declared.DataType.TheViews.{roll-DataType}
use Rattle.ipc_format_column_bytes.specs.streams.columnar_memory.declared.DataType.TheFolds.{fold-roll-DataType}
use Rattle.ipc_format_column_bytes.specs.streams.columnar_memory.declared.Field.{Field}
use Rattle.ipc_format_column_bytes.specs.streams.columnar_memory.declared.UnionMode.{UnionMode}
use Rattle.ipc_format_column_bytes.specs.streams.grammar.Layouts.{node_step, buffer_step, node_count, buffer_count, union_parts, total}
use Rattle.ipc_format_column_bytes.specs.streams.grammar.Messages.{Version}
use Rattle.ipc_format_column_reading.specs.Queues.{field_nodes_of, field_buffers_of}

nodes : (x : layer.DataType-F DataType Field)
    → node_count (roll-DataType x) ≡ node_step (map-DataType DataType Field ℕ ℕ node_count field_nodes_of x)
nodes = fold-roll-DataType ℕ ℕ node_step (λ field. field.data_type)

buffers : (version : Version) (x : layer.DataType-F DataType Field)
    → buffer_count version (roll-DataType x) ≡ buffer_step version (map-DataType DataType Field ℕ ℕ (buffer_count version) (field_buffers_of
    version) x)
buffers version = fold-roll-DataType ℕ ℕ (buffer_step version) (λ field. field.data_type)

pub struct_nodes : (fields : List Field) → node_count (types.Struct fields) ≡ 1 + total (map field_nodes_of fields)
unfolding roll-DataType denote.Hole.Carrier.roll
struct_nodes fields = nodes (layer.Struct fields)

pub struct_buffers : (version : Version) (fields : List Field)
    → buffer_count version (types.Struct fields) ≡ 1 + total (map (field_buffers_of version) fields)
unfolding roll-DataType denote.Hole.Carrier.roll
struct_buffers version fields = buffers version (layer.Struct fields)

pub union_nodes : (fields : List Field) (ids : Option (List ℤ)) (mode : UnionMode)
    → node_count (types.Union fields ids mode) ≡ 1 + total (map field_nodes_of fields)
unfolding roll-DataType denote.Hole.Carrier.roll
union_nodes fields ids mode = nodes (layer.Union fields ids mode)

pub union_buffers : (version : Version) (fields : List Field) (ids : Option (List ℤ)) (mode : UnionMode)
    → buffer_count version (types.Union fields ids mode) ≡ length (union_parts version mode) + total (map (field_buffers_of version) fields)
unfolding roll-DataType denote.Hole.Carrier.roll
union_buffers version fields ids mode = buffers version (layer.Union fields ids mode)
