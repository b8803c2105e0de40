use Rattle.std.proofs.Common.{◌||◌, bit_or, rules}
use Rattle.columnar_memory_bitmap.proofs.Combining.{bit-or}
use Rattle.columnar_memory_kernels.proofs.Pairwise.{pairwise_or_none}
use Rattle.columnar_memory_kernels.proofs.kernels.or.Goals as goal

pub returns : goal.returns
returns c = pairwise_or_none (λ x y. x || y) bit_or _ c.args.lhs.now c.args.rhs.now c.binary.result c.binary.ensures.words c.requires bit-or
    (λ k y h. search rules)
