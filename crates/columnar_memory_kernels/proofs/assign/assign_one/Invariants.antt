use Rattle.columnar_memory_bitmap.specs.bits.Bits.{bits_of}
use Rattle.columnar_memory_bitmap.specs.bits.Words.{word_at}
use Rattle.columnar_memory_kernels.specs.Kernels.{AnswersOne}
use Rattle.columnar_memory_kernels.proofs.InPlace.{IsWritten}
use Rattle.columnar_memory_kernels.proofs.assign.assign_one.Given as goal

abbrev pub invariant-loop-k : goal.invariant-loop-k
invariant-loop-k g l = record {
  callable : goal.F-IsAlwaysCallable g l.op;
  written : IsWritten g.T.ChunkWidth.bits (λ j. AnswersOne g.T.FixedWidth.bits_of (λ x y. g.F.Fn.post l.op (x, tt) y)
      (word_at g.T.ChunkWidth.bits (bits_of l.fn.bytes 0 l.len) j)) l.len l.k l.fn.bytes l.bytes;
}
