-- The nodes before the place stand in the queue.
use Rattle.ipc_format_values.specs.flatbuffers.Views.{vector_of}
use Rattle.ipc_format_values.specs.grammar.Messages.{as_node}
use Rattle.ipc_format_streams.specs.Queues.{node_of}
use Rattle.ipc_format_streams.proofs.Structs.{AreTaken}
use Rattle.ipc_format_streams.proofs.queues.nodes_of.Given as goal

abbrev pub invariant-loop-k : goal.invariant-loop-k
invariant-loop-k l = AreTaken node_of as_node l.nodes.bytes.now (vector_of l.nodes.vector) l.queue.items l.k
