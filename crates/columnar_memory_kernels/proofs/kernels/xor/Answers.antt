use Rattle.std.proofs.Common.{bit_xor, rules}
use Rattle.columnar_memory_bitmap.specs.Operators as operator
use Rattle.columnar_memory_bitmap.proofs.Combining.{bit-xor}
use Rattle.columnar_memory_kernels.proofs.Pairwise.{pairwise_or_none}
use Rattle.columnar_memory_kernels.proofs.kernels.xor.Goals as goal

pub returns : goal.returns
returns c = pairwise_or_none operator.xor bit_xor _ c.args.lhs.now c.args.rhs.now c.binary.result c.binary.ensures.words c.requires bit-xor
    (λ k y h. search rules)
