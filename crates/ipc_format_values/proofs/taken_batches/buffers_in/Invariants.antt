use Rattle.ipc_format_writing.specs.messages.MessageViews.{buffers_view}
use Rattle.ipc_format_values.specs.OwnedMessages.{buffer_at}
use Rattle.ipc_format_values.proofs.Gathered.{GatheredLeft}
use Rattle.ipc_format_values.proofs.taken_batches.buffers_in.Given as goal

abbrev pub invariant-loop-k : goal.invariant-loop-k
invariant-loop-k l = GatheredLeft (buffer_at (buffers_view l.buffers)) l.buffers.vector.count l.made l.k
