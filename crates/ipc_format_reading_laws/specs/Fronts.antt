-- A column is read from the fronts of two queues: what is left of a batch's nodes and of its buffers. A column that reads has all its nodes
-- and buffers there (Arrow IPC, "RecordBatch message").
use Rattle.std.specs.Prelude.{◌≡◌, ◌+◌, ◌≤◌, List, Some, length, drop}
use Rattle.ipc_format_laws.specs.columnar_memory.declared.DataType.{DataType}
use Rattle.ipc_format_laws.specs.columns.Slots.{Slot}
use Rattle.ipc_format_laws.specs.grammar.Layouts.{node_count, buffer_count}
use Rattle.ipc_format_laws.specs.grammar.Columns.{Place, slots_in}

-- the same place, where the nodes and buffers before it are taken off
abbrev pub at_fronts : Place → Place
at_fronts at = record at {
  source = record at.source { nodes = drop at.node at.source.nodes; buffers = drop at.buffer at.source.buffers };
  node = 0;
  buffer = 0;
}

-- what stands before a column's nodes and buffers says nothing of it
abbrev pub ColumnsReadAtFronts : Type 0
ColumnsReadAtFronts = (data_type : DataType) (at : Place) → slots_in data_type at ≡ slots_in data_type (at_fronts at)

-- As many nodes and buffers as a type has stand from a place on. A type without buffers needs none, even past the last one.
pub record HasParts (data_type : DataType) (at : Place) : Type 0 where
  pub nodes : at.node + node_count data_type ≤ length at.source.nodes
  pub buffers : buffer_count at.source.version data_type ≤ length (drop at.buffer at.source.buffers)

-- a column that reads has all its nodes and buffers
abbrev pub ColumnsHaveParts : Type 0
ColumnsHaveParts = (data_type : DataType) (at : Place) (some : List Slot) → slots_in data_type at ≡ Some some → HasParts data_type at
