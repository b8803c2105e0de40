use Rattle.std.proofs.Common.{◌∙◌, ◌+◌, ◌*◌, ap, sym, length, List, ℕ, Bool}
use Rattle.columnar_memory_bitmap.specs.bits.Bits.{bits_of}
use Rattle.columnar_memory_bitmap.specs.bits.Words.{word}
use Rattle.columnar_memory_bitmap.proofs.bits_lemmas.Windows.{length_window}
use Rattle.columnar_memory_kernels.proofs.chunk_iterator.BitChunksExactSizeIterator.len.Goals as goal

pub returns-clause-value : goal.returns-clause-value
returns-clause-value g c =
    let it = c.self.inside in
    sym (length_window (λ k. word (bits_of it.bytes.now (it.start + g.T.ChunkWidth.bits * k) g.T.ChunkWidth.bits)) 0 it.chunks)
    ∙ ap (λ (s : List ℕ × List Bool). length s.0) c.self.view_is
