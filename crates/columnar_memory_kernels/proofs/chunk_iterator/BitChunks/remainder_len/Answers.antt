use Rattle.std.proofs.Common.{◌∙◌, ◌+◌, ◌*◌, ap, sym, length, List, ℕ, Bool}
use Rattle.columnar_memory_bitmap.specs.bits.Bits.{bit_at}
use Rattle.columnar_memory_bitmap.proofs.bits_lemmas.Windows.{length_window}
use Rattle.columnar_memory_kernels.proofs.chunk_iterator.BitChunks.remainder_len.Goals as goal

pub returns-clause-len : goal.returns-clause-len
returns-clause-len g c =
    let it = c.self.inside in
    sym (length_window (bit_at it.bytes.now) (it.start + g.T.ChunkWidth.bits * it.chunks) it.rest)
    ∙ ap (λ (s : List ℕ × List Bool). length s.1) c.self.view_is
