use Rattle.std.proofs.Common.{ap, ◌==◌}
use Rattle.std.proofs.lemmas.Nat.Bits.{shr_and_one}
use Rattle.columnar_memory_bitmap.specs.bits.Bits.{bit}
use Rattle.columnar_memory_kernels.proofs.bit_chunk_iter.word_bit.Goals as goal

pub returns : goal.returns
unfolding bit
returns c = ap (λ n. n == 1) (shr_and_one c.args.word c.args.i)
