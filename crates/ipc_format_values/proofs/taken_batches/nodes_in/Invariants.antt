use Rattle.ipc_format_writing.specs.messages.MessageViews.{nodes_view}
use Rattle.ipc_format_values.specs.OwnedMessages.{node_at}
use Rattle.ipc_format_values.proofs.Gathered.{GatheredLeft}
use Rattle.ipc_format_values.proofs.taken_batches.nodes_in.Given as goal

abbrev pub invariant-loop-k : goal.invariant-loop-k
invariant-loop-k l = GatheredLeft (node_at (nodes_view l.nodes)) l.nodes.vector.count l.made l.k
