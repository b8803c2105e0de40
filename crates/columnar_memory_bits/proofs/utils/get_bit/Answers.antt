use Rattle.std.proofs.Common.{◌∙◌, sym}
use Rattle.columnar_memory_bits.proofs.Bits.{bit_at_byte}
use Rattle.columnar_memory_bits.proofs.utils.get_bit.Goals as goal

pub returns : goal.returns
returns c = c.is_set.ensures ∙ sym (bit_at_byte c.args.bytes.now c.args.i)
