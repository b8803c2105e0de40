use Rattle.std.proofs.Common.{true, ap, ◌∙◌}
use Rattle.std.specs.Prelude.{Some}
use Rattle.flat_arrays_bytes.proofs.Slots.{null_at, slot_at}
use Rattle.flat_arrays_byte_values_builders.proofs.builder.ByteBuilder.get.Goals as goal

pub returns-then-is_valid : goal.returns-then-is_valid
returns-then-is_valid g c =
    slot_at c.args.self.now c.args.index c.value.result.now true c.value.ensures (c.is_valid.ensures ∙ ap (λ mark. Some mark) c.if-is_valid.true)

pub returns-else-is_valid : goal.returns-else-is_valid
returns-else-is_valid g c =
    null_at c.args.self.now c.args.index c.requires (c.is_valid.ensures ∙ ap (λ mark. Some mark) c.if-is_valid.false)
