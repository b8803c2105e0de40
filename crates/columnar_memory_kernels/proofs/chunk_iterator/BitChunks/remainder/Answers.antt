use Rattle.std.proofs.Common.{arith}
use Rattle.columnar_memory_kernels.proofs.Chunks.{word_fits}
use Rattle.columnar_memory_kernels.proofs.chunk_iterator.BitChunks.remainder.Goals as goal

pub from_word-requires : goal.from_word-requires
from_word-requires g c =
    word_fits c.self.inside.bytes.now _ c.self.inside.rest g.T.ChunkWidth.bits c.load_word.result (omega (
      arith,
      c.self.invariant.2,
    )) c.load_word.ensures
