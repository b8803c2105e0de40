use Rattle.std.proofs.Common.{◌∙◌, ◌+◌, ◌*◌, ◌/◌, ◌%◌, ap, ap₂}
use Rattle.columnar_memory_bitmap.specs.bits.Bits.{bits_of}
use Rattle.columnar_memory_bitmap.specs.bits.Words.{words_from}
use Rattle.columnar_memory_kernels.proofs.Chunks.{whole_words_are, rest_bits_are}
use Rattle.columnar_memory_kernels.proofs.chunk_iterator.BitChunks.new.Goals as goal

pub returns : goal.returns
returns g c =
    let w = g.T.ChunkWidth.bits in
    let bytes = c.args.bytes.now in
    let offset = c.args.offset in
    let len = c.args.len in
    let whole = ap (λ b. words_from w bytes offset (len / b)) c.bits.ensures ∙ whole_words_are w bytes offset len g.met.T.ChunkWidth.some in
    let rest = ap₂ (λ a b. bits_of bytes (offset + w * (len / a)) (len % b)) c.bits.ensures c.bits-2.ensures
    ∙ rest_bits_are w bytes offset len g.met.T.ChunkWidth.some in
    λ i. (whole i, rest i)
