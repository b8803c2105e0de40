use Rattle.std.proofs.Common.{◌∙◌, arith}
use Rattle.ipc_format_column_bytes.proofs.Added.{one_item_more}
use Rattle.ipc_format_column_bytes.proofs.reserved.push_bytes.Goals as goal

pub loop-byte-preserved : goal.loop-byte-preserved
loop-byte-preserved c = (
  one_item_more c.args.bytes.now c.loop-byte.byte-index 0 c.args.to.now.items c.loop-byte.to.items c.push_reserved.new.self.items
      c.loop-byte-test.true c.loop-byte.invariant.0 c.push_reserved.ensures.items,
  omega (arith, c.loop-byte.invariant.1, c.push_reserved.ensures.len),
  c.push_reserved.ensures.capacity ∙ c.loop-byte.invariant.2,
)
