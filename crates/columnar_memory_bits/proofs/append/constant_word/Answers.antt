use Rattle.std.proofs.Common.{◌∙◌, ◌-◌, ap, sym}
use Rattle.std.proofs.lemmas.Nat.{one_shl}
use Rattle.columnar_memory_bits.specs.Bits.{bit}
use Rattle.columnar_memory_bits.proofs.LastBytes.{ones_set, zero_unset}
use Rattle.columnar_memory_bits.proofs.append.constant_word.Goals as goal

pub returns-then-value-clause-bits : goal.returns-then-value-clause-bits
returns-then-value-clause-bits c i h =
    ap (λ n. bit (n - 1) i) (one_shl c.args.len 64 c.requires) ∙ ones_set c.args.len i h ∙ sym c.if-value.true

pub returns-else-value-clause-bits : goal.returns-else-value-clause-bits
returns-else-value-clause-bits c i h = zero_unset i ∙ sym c.if-value.false
