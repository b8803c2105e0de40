use Rattle.std.proofs.Common.{◌&&◌, bit_and, rules}
use Rattle.columnar_memory_bitmap.proofs.Combining.{bit-and}
use Rattle.columnar_memory_kernels.proofs.Pairwise.{pairwise_or_none}
use Rattle.columnar_memory_kernels.proofs.kernels.and.Goals as goal

pub returns : goal.returns
returns c = pairwise_or_none (λ x y. x && y) bit_and _ c.args.lhs.now c.args.rhs.now c.binary.result c.binary.ensures.words c.requires bit-and
    (λ k y h. search rules)
