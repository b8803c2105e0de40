-- The buffers before the place stand in the queue.
use Rattle.ipc_format_values.specs.flatbuffers.Views.{vector_of}
use Rattle.ipc_format_values.specs.grammar.Messages.{as_buffer}
use Rattle.ipc_format_streams.specs.Queues.{buffer_of}
use Rattle.ipc_format_streams.proofs.Structs.{AreTaken}
use Rattle.ipc_format_streams.proofs.queues.buffers_of.Given as goal

abbrev pub invariant-loop-k : goal.invariant-loop-k
invariant-loop-k l = AreTaken buffer_of as_buffer l.buffers.bytes.now (vector_of l.buffers.vector) l.queue.items l.k
