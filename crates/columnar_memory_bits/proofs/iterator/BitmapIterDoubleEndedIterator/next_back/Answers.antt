use Rattle.std.proofs.Common.{◌≡◌, ◌∙◌, ◌∷◌, ◌++◌, [], ◌+◌, ◌-◌, ◌<◌, length, length-append, suc, Bool, ap, sym, arith, rules}
use Rattle.columnar_memory_bits.specs.Bits.{bit_at, bits_of}
use Rattle.columnar_memory_bits.proofs.Windows.{window_last}
use Rattle.columnar_memory_bits.proofs.iterator.BitmapIterDoubleEndedIterator.next_back.Goals as goal
use Rattle.columnar_memory_bits.proofs.iterator.BitmapIterDoubleEndedIterator.next_back.Goals.{After-get_bit}

stepped : (c : After-get_bit) → c.args.self.now
    ≡ bits_of c.self.inside.bytes.now c.self.inside.start (c.self.inside.end - 1 - c.self.inside.start) ++ c.get_bit.result ∷ []
stepped c =
    let it = c.self.inside in
    let n = it.end - 1 - it.start in
    let more : it.end - it.start ≡ suc n = omega arith in
    let place : it.start + n ≡ it.end - 1 = omega arith in
    sym c.self.view_is ∙ window_last (bit_at it.bytes.now) it.start (it.end - it.start) n (it.end - 1) more place
    ∙ ap (λ (b : Bool). bits_of it.bytes.now it.start n ++ b ∷ []) (sym c.get_bit.ensures)

pub returns-clause-steps : goal.returns-clause-steps
returns-clause-steps c = stepped c

pub returns-clause-goes : goal.returns-clause-goes
returns-clause-goes c =
    let it = c.self.inside in
    let left = bits_of it.bytes.now it.start (it.end - 1 - it.start) in
    let shorter : length left < length c.args.self.now = omega (arith, ap length (stepped c), length-append left (c.get_bit.result ∷ [])) in
    search rules
