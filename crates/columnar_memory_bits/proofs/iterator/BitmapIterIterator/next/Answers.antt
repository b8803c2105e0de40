use Rattle.std.proofs.Common.{◌≡◌, ◌∙◌, ◌∷◌, ◌+◌, ◌-◌, ◌<◌, length, suc, Bool, ap, sym, arith, rules}
use Rattle.columnar_memory_bits.specs.Bits.{bit_at, bits_of}
use Rattle.columnar_memory_bits.proofs.Windows.{window_first}
use Rattle.columnar_memory_bits.proofs.iterator.BitmapIterIterator.next.Goals as goal
use Rattle.columnar_memory_bits.proofs.iterator.BitmapIterIterator.next.Goals.{After-get_bit}

stepped : (c : After-get_bit) → c.args.self.now
    ≡ c.get_bit.result ∷ bits_of c.self.inside.bytes.now (c.self.inside.start + 1) (c.self.inside.end - (c.self.inside.start + 1))
stepped c =
    let it = c.self.inside in
    let more : it.end - it.start ≡ suc (it.end - (it.start + 1)) = omega arith in
    sym c.self.view_is ∙ window_first (bit_at it.bytes.now) it.start (it.end - it.start) (it.end - (it.start + 1)) more
    ∙ ap (λ (b : Bool). b ∷ bits_of it.bytes.now (it.start + 1) (it.end - (it.start + 1))) (sym c.get_bit.ensures)

pub returns-clause-steps : goal.returns-clause-steps
returns-clause-steps c = stepped c

pub returns-clause-goes : goal.returns-clause-goes
returns-clause-goes c =
    let it = c.self.inside in
    let shorter : length (bits_of it.bytes.now (it.start + 1) (it.end - (it.start + 1))) < length c.args.self.now = omega (
      arith,
      ap length (stepped c),
    ) in
    search rules
