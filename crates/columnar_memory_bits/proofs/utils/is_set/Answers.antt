use Rattle.std.proofs.Common.{ap, ◌==◌}
use Rattle.std.proofs.lemmas.Nat.Bits.{shr_and_one}
use Rattle.columnar_memory_bits.specs.Bits as format
use Rattle.columnar_memory_bits.proofs.utils.is_set.Goals as goal

pub returns : goal.returns
unfolding format.bit
returns c = ap (λ n. n == 1) (shr_and_one c.args.byte c.args.i)
