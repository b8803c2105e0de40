use Rattle.std.proofs.Common.{◌≡◌, ◌∙◌, ◌∷◌, ◌+◌, ◌-◌, ◌<◌, length, suc, Bool, ap, sym, arith, rules}
use Rattle.columnar_memory_bitmap.specs.bits.Windows.{window}
use Rattle.columnar_memory_bitmap.specs.bits.Bits.{bit}
use Rattle.columnar_memory_bitmap.proofs.bits_lemmas.Windows.{window_first}
use Rattle.columnar_memory_kernels.proofs.bit_chunk_iter.BitChunkIterIterator.next.Goals as goal

pub returns-clause-steps : goal.returns-clause-steps
returns-clause-steps g c =
    let it = c.self.inside in
    let n = it.end - (it.start + 1) in
    let more : it.end - it.start ≡ suc n = omega arith in
    sym c.self.view_is ∙ window_first (bit it.word) it.start (it.end - it.start) n more
    ∙ ap (λ (b : Bool). b ∷ window (bit it.word) (it.start + 1) n) (sym c.word_bit.ensures)

pub returns-clause-goes : goal.returns-clause-goes
returns-clause-goes g c =
    let it = c.self.inside in
    let n = it.end - (it.start + 1) in
    let more : it.end - it.start ≡ suc n = omega arith in
    let step = sym c.self.view_is ∙ window_first (bit it.word) it.start (it.end - it.start) n more in
    let shorter : length (window (bit it.word) (it.start + 1) n) < length c.args.self.now = omega (arith, ap length step) in
    search rules
