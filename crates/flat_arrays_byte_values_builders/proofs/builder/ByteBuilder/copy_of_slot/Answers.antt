use Rattle.std.proofs.Common.{true, List, ℕ, ap, sym, ◌∙◌}
use Rattle.std.specs.Prelude.{Some}
use Rattle.flat_arrays_bytes.proofs.Slots.{null_at, slot_at}
use Rattle.flat_arrays_byte_values_builders.proofs.builder.ByteBuilder.copy_of_slot.Goals as goal

pub returns-then-not-is_valid : goal.returns-then-not-is_valid
returns-then-not-is_valid g c =
    null_at c.args.self.now c.args.index c.requires (c.is_valid.ensures ∙ ap (λ mark. Some mark) c.if-not-is_valid.true)

pub returns : goal.returns
returns g c =
    slot_at c.args.self.now c.args.index c.in_ok-copy.copy.items true
    (c.value.ensures ∙ ap (λ (x : List ℕ). Some x) (sym c.in_ok-copy.ensures.items))
    (c.is_valid.ensures ∙ ap (λ mark. Some mark) c.if-not-is_valid.false)
