use Rattle.std.proofs.Common.{rules, arith, take, subst, sym}
use Rattle.std.specs.List.{AllByRecursion}
use Rattle.std.proofs.lemmas.List.{take_more}
use Rattle.ipc_format_column_bytes.specs.Placing.{IsSignedBuffer}
use Rattle.ipc_format_column_bytes.proofs.Stated.{all_looked, all_more}
use Rattle.ipc_format_column_bytes.proofs.placed.are_buffers.Goals as goal

pub loop-k-preserved : goal.loop-k-preserved
loop-k-preserved c = subst (AllByRecursion IsSignedBuffer) (sym (take_more c.args.buffers.now c.loop-k.k _ (search rules)))
    (all_more IsSignedBuffer (take c.loop-k.k c.args.buffers.now) _ c.loop-k.invariant c.is_buffer.ensures)

pub returns : goal.returns
returns c = all_looked IsSignedBuffer c.args.buffers.now c.loop-k.k (omega arith) c.loop-k.invariant
