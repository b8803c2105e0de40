use Rattle.std.proofs.Common.{◌≡◌, ◌+◌, ◌-◌, ◌∙◌, ◌++◌, ◌∷◌, [], arith, ap, sym, refl}
use Rattle.columnar_memory_bits.specs.Bits.{bit_at, bits_of}
use Rattle.columnar_memory_bitmap.proofs.Places.{bits_of-more}
use Rattle.columnar_memory_bitmap.proofs.mutable.MutableBitmap.pop.Goals as goal

pub returns-clause-last : goal.returns-clause-last
returns-clause-last c =
    let b = c.self.inside in
    let last = b.len - 1 in
    let count : b.len ≡ last + 1 = omega arith in
    let read : bit_at b.buffer.items last ≡ c.get_bit-value.result =
    ap (λ xs. bit_at xs last) (sym c.deref.ensures.value) ∙ sym c.get_bit-value.ensures in
    sym c.self.view_is ∙ ap (λ k. bits_of b.buffer.items 0 k) count
    ∙ bits_of-more b.buffer.items b.buffer.items last c.get_bit-value.result (λ j before. refl) read
    ∙ ap (λ xs. xs ++ c.get_bit-value.result ∷ []) (sym c.keep_bits.ensures.same)
