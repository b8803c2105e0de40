-- The nodes before the place are small.
use Rattle.std.proofs.Common.{map}
use Rattle.ipc_format_column_writing.specs.column_reading.Buffers.{node_of}
use Rattle.ipc_format_array_reading.proofs.SmallNodes.{SmallBelow}
use Rattle.ipc_format_array_reading.proofs.begun.read_lengths.Given as goal

abbrev pub invariant-loop-k : goal.invariant-loop-k
invariant-loop-k l = SmallBelow l.k (map node_of l.field_nodes.items)
