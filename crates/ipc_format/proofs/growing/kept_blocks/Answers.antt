-- One block more is written as it was read.
use Rattle.std.proofs.Common.{rules}
use Rattle.std.specs.Int.{w64}
use Rattle.std.specs.Int.RustNames.{FitsSigned}
use Rattle.ipc_format.proofs.GrownBlocks.{kept_more, positive_at, stated_again}
use Rattle.ipc_format.proofs.growing.kept_blocks.Goals as goal

pub loop-block-preserved : goal.loop-block-preserved
loop-block-preserved c =
    let block = c.block-item.result in
    let fits : FitsSigned w64 block.body_length = search rules in
    let offset = c.cast_signed.result in
    let length = c.cast_signed-in-loop-block.result in
    let positive = positive_at c.args.blocks.now c.loop-block.block-index block c.loop-block-test.true c.block-item.is c.requires in
    kept_more c.args.blocks.now c.loop-block.block-index block c.loop-block.kept.items c.push.new.self.items _ c.loop-block-test.true c.block-item.is
    c.loop-block.invariant c.in_ok-push.ensures.items
    (stated_again block offset length fits positive c.cast_signed.ensures c.cast_signed-in-loop-block.ensures)
