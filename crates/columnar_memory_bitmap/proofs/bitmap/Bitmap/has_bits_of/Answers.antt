use Rattle.columnar_memory_bits.specs.Bits.{bit_at}
use Rattle.columnar_memory_bitmap.proofs.SameWords.{false_of_lengths}
use Rattle.columnar_memory_bitmap.proofs.bitmap.Bitmap.has_bits_of.Goals as goal

pub returns-then-self-other : goal.returns-then-self-other
returns-then-self-other c =
    let a = c.self.inside in
    let b = c.other.inside in
    false_of_lengths (bit_at a.bytes.value.items) (bit_at b.bytes.value.items) a.offset b.offset a.len b.len _ _
    c.if-self-other.true c.self.view_is c.other.view_is
