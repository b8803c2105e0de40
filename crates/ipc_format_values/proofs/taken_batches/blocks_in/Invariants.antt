use Rattle.ipc_format_writing.specs.messages.MessageViews.{blocks_view}
use Rattle.ipc_format_values.specs.OwnedMessages.{stated_at}
use Rattle.ipc_format_values.proofs.Gathered.{GatheredLeft}
use Rattle.ipc_format_values.proofs.taken_batches.blocks_in.Given as goal

abbrev pub invariant-loop-k : goal.invariant-loop-k
invariant-loop-k l = GatheredLeft (stated_at (blocks_view l.blocks)) l.blocks.vector.count l.made l.k
