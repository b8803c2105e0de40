use Rattle.std.proofs.Common.{◌-◌, ◌<◌, arith, refl, slice_index}
use Rattle.columnar_memory_bitmap.proofs.Combining.{turned_more}
use Rattle.columnar_memory_bitmap.proofs.operators.invert_bytes.Goals as goal

pub loop-i-preserved : goal.loop-i-preserved
loop-i-preserved c =
    let now = c.loop-i.bytes in
    let i = c.loop-i.i in
    let small : slice_index now i < 256 = omega arith in
    turned_more c.args.bytes.now now i (255 - slice_index now i) (omega arith) small refl c.loop-i.invariant.0 c.loop-i.invariant.1
