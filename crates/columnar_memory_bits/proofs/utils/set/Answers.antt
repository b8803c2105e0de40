use Rattle.std.proofs.Common.{refl, ◌∙◌}
use Rattle.columnar_memory_bits.proofs.Bits.{bit_set, bit_clear}
use Rattle.columnar_memory_bits.proofs.utils.set.Goals as goal

pub returns-then-value : goal.returns-then-value
returns-then-value c j =
    bit_set c.args.byte c.args.i j c.requires ∙ rw c.if-value.true refl

pub returns-else-value : goal.returns-else-value
returns-else-value c j =
    bit_clear c.args.byte c.args.i j c.ranges.byte.fits c.requires ∙ rw c.if-value.false refl
