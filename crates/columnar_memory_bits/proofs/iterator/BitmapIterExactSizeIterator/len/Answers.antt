use Rattle.std.proofs.Common.{◌∙◌, ◌-◌, ap, sym, length}
use Rattle.columnar_memory_bits.specs.Bits.{bit_at}
use Rattle.columnar_memory_bits.proofs.Windows.{length_window}
use Rattle.columnar_memory_bits.proofs.iterator.BitmapIterExactSizeIterator.len.Goals as goal

pub returns-clause-value : goal.returns-clause-value
returns-clause-value c =
    let it = c.self.inside in
    sym (ap length (sym c.self.view_is) ∙ length_window (bit_at it.bytes.now) it.start (it.end - it.start))
