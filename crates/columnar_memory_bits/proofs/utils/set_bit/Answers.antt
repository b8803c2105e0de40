use Rattle.std.proofs.Common.{refl, arith}
use Rattle.columnar_memory_bits.proofs.Bits.{bit_at_set}
use Rattle.columnar_memory_bits.proofs.utils.set_bit.Goals as goal

pub returns : goal.returns
returns c j = bit_at_set c.args.bytes.now _ c.args.i c.set.result c.args.value j (omega arith) refl c.set.ensures
