use Rattle.std.proofs.Common.{◌≡◌, ◌*◌, ◌<◌, subst, refl, arith}
use Rattle.columnar_memory_kernels.specs.Writes.{WritesWord}
use Rattle.columnar_memory_kernels.proofs.InPlace.{no_bits, one_bit, one_byte}
use Rattle.columnar_memory_kernels.proofs.write.write_word.Goals as goal

pub loop-k-init : goal.loop-k-init
loop-k-init c = no_bits _ _ _

pub loop-k-preserved : goal.loop-k-preserved
loop-k-preserved c =
    let some : 0 < c.whole_bytes-whole.result = omega arith in
    one_byte _ _ _ _ _ c.loop-k.k _ _ c.loop-k.invariant c.word_byte.ensures c.write_byte.ensures refl (c.whole_bytes-whole.ensures.aligned some)
    (omega arith)

pub loop-i-init : goal.loop-i-init
loop-i-init c =
    let end : 8 * c.loop-k.k ≡ 8 * c.whole_bytes-whole.result = omega arith in
    subst (λ n. WritesWord c.args.to.now c.loop-k.to c.args.first c.args.word n) end c.loop-k.invariant

pub loop-i-preserved : goal.loop-i-preserved
loop-i-preserved c = one_bit _ _ _ _ _ _ _ c.loop-i.invariant c.word_bit.ensures c.set_bit.ensures
