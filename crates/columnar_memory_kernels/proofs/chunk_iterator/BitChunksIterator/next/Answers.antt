use Rattle.std.proofs.Common.{◌∙◌, ◌+◌, ◌-◌, ◌<◌, ap, sym, length, List, ℕ, Bool, arith, rules}
use Rattle.columnar_memory_bitmap.specs.bits.Words.{words_from}
use Rattle.columnar_memory_kernels.proofs.Chunks.{word_fits, chunk_step, chunk_rest}
use Rattle.columnar_memory_kernels.proofs.chunk_iterator.BitChunksIterator.next.Goals as goal

pub from_word-chunk-requires : goal.from_word-chunk-requires
from_word-chunk-requires g c =
    word_fits c.self.inside.bytes.now c.self.inside.start c.bits-bits.result g.T.ChunkWidth.bits c.load_word.result (omega (
      arith,
      c.bits-bits.ensures,
    )) c.load_word.ensures

pub returns-clause-steps : goal.returns-clause-steps
returns-clause-steps g c =
    let it = c.self.inside in
    let w = g.T.ChunkWidth.bits in (
      ap (λ (s : List ℕ × List Bool). s.0) (sym c.self.view_is)
          ∙ chunk_step w c.bits-bits.result it.bytes.now it.start it.chunks
          (g.T.FixedWidth.bits_of c.from_word-chunk.result) c.bits-bits.ensures c.if-self-eq0.false
          (c.from_word-chunk.ensures ∙ c.load_word.ensures),
      chunk_rest w c.bits-bits.result it.bytes.now it.start it.chunks it.rest c.bits-bits.ensures c.if-self-eq0.false
          ∙ ap (λ (s : List ℕ × List Bool). s.1) c.self.view_is,
    )

pub returns-clause-goes : goal.returns-clause-goes
returns-clause-goes g c =
    let it = c.self.inside in
    let w = g.T.ChunkWidth.bits in
    let step = ap (λ (s : List ℕ × List Bool). s.0) (sym c.self.view_is)
    ∙ chunk_step w c.bits-bits.result it.bytes.now it.start it.chunks
    (g.T.FixedWidth.bits_of c.from_word-chunk.result) c.bits-bits.ensures c.if-self-eq0.false
    (c.from_word-chunk.ensures ∙ c.load_word.ensures) in
    let shorter : length (words_from w it.bytes.now (it.start + c.bits-bits.result) (it.chunks - 1)) < length c.args.self.now.0 = omega (
      arith,
      ap length step,
    ) in
    search rules
