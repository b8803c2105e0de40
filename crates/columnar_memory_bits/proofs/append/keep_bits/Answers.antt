use Rattle.std.proofs.Common.{◌+◌, arith}
use Rattle.columnar_memory_bits.specs.Bits.{bit_at}
use Rattle.columnar_memory_bits.proofs.Windows.{window_same}
use Rattle.columnar_memory_bits.proofs.append.keep_bits.Goals as goal

pub returns-clause-same : goal.returns-clause-same
returns-clause-same c =
    window_same (bit_at c.cut_bits.new.to.items) (bit_at c.args.to.now.items) 0 0 c.args.len (λ i h. c.cut_bits.ensures.before (0 + i) (omega arith))
