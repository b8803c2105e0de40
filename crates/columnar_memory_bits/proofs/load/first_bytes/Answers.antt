use Rattle.std.proofs.Common.{ap, ◌∙◌, refl}
use Rattle.std.specs.Int as number
use Rattle.columnar_memory_bits.proofs.Words.{digit_number, digit_eight}
use Rattle.columnar_memory_bits.proofs.load.first_bytes.Goals as goal

pub returns-then-bytes-lt8 : goal.returns-then-bytes-lt8
returns-then-bytes-lt8 c i h =
    ap (λ n. number.bit_at n i) c.few_bytes.ensures ∙ digit_number c.args.bytes.now (λ k. (c.type_inv.bytes k).fits) i

pub returns-else-bytes-lt8 : goal.returns-else-bytes-lt8
returns-else-bytes-lt8 c i h =
    ap (λ n. number.bit_at n i) c.from_le_bytes.ensures ∙ digit_eight c.args.bytes.now _ i (λ k. (c.type_inv.bytes k).fits) h refl
