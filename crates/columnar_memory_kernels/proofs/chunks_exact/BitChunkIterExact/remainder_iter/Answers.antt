use Rattle.std.proofs.Common.{◌∙◌, ap₂, arith}
use Rattle.columnar_memory_bitmap.specs.bits.Words.{word_bits}
use Rattle.columnar_memory_bitmap.proofs.bits_lemmas.Words.{word_bits_of_word}
use Rattle.columnar_memory_kernels.proofs.chunks_exact.BitChunkIterExact.remainder_iter.Goals as goal

pub new-requires : goal.new-requires
new-requires g c = omega (arith, c.remainder_len.ensures.fewer)

pub returns : goal.returns
returns g c =
    c.new.ensures ∙ ap₂ word_bits c.remainder_len.ensures.len c.remainder.ensures
    ∙ word_bits_of_word (g.Self.BitChunkIterExact.rest c.args.self.now)
