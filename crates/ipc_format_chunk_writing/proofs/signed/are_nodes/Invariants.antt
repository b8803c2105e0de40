-- The numbers of the nodes that were looked at are signed.
use Rattle.std.proofs.Common.{take}
use Rattle.std.specs.List.{AllByRecursion}
use Rattle.ipc_format_batch_reading.specs.Placing.{IsSignedNode}
use Rattle.ipc_format_chunk_writing.proofs.signed.are_nodes.Given as goal

abbrev pub invariant-loop-k : goal.invariant-loop-k
invariant-loop-k l = AllByRecursion IsSignedNode (take l.k l.nodes)
