use Rattle.columnar_memory_bits.specs.Bits.{bit_at}
use Rattle.columnar_memory_bitmap.proofs.SameWords.{false_of_lengths}
use Rattle.columnar_memory_bitmap.proofs.mutable.MutableBitmap.has_bits_of.Goals as goal

pub returns-then-self-other : goal.returns-then-self-other
returns-then-self-other c =
    let a = c.self.inside in
    let b = c.other.inside in
    false_of_lengths (bit_at a.buffer.items) (bit_at b.buffer.items) 0 0 a.len b.len _ _ c.if-self-other.true c.self.view_is c.other.view_is
