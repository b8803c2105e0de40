use Rattle.std.proofs.Common.{◌∙◌, ap, sym, length}
use Rattle.columnar_memory_bitmap.specs.bits.Bits.{bit_at}
use Rattle.columnar_memory_bitmap.proofs.bits_lemmas.Windows.{length_window}
use Rattle.columnar_memory_kernels.proofs.words.BitWords.len.Goals as goal

pub returns : goal.returns
returns c =
    let it = c.self.inside in
    sym (ap length (sym c.self.view_is) ∙ length_window (bit_at it.bytes.now) it.offset it.len)
