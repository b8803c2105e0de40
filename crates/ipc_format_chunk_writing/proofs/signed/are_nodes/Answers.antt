use Rattle.std.proofs.Common.{rules, arith, take, subst, sym}
use Rattle.std.specs.List.{AllByRecursion}
use Rattle.std.proofs.lemmas.List.{take_more}
use Rattle.ipc_format_batch_reading.specs.Placing.{IsSignedNode}
use Rattle.ipc_format_batch_reading.proofs.Stated.{all_looked, all_more}
use Rattle.ipc_format_chunk_writing.proofs.signed.are_nodes.Goals as goal

pub loop-k-preserved : goal.loop-k-preserved
loop-k-preserved c = subst (AllByRecursion IsSignedNode) (sym (take_more c.args.nodes.now c.loop-k.k _ (search rules)))
    (all_more IsSignedNode (take c.loop-k.k c.args.nodes.now) _ c.loop-k.invariant c.is_node.ensures)

pub returns : goal.returns
returns c = all_looked IsSignedNode c.args.nodes.now c.loop-k.k (omega arith) c.loop-k.invariant
