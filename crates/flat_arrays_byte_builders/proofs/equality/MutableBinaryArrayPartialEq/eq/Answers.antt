use Rattle.std.proofs.Common.{◌∙◌}
use Rattle.std.specs.Bool.{one_answer}
use Rattle.flat_arrays_byte_builders.specs.ByteSlotsEqual.{same_slots, same_slots-Decides}
use Rattle.flat_arrays_byte_builders.proofs.equality.MutableBinaryArrayPartialEq.eq.Goals as goal

pub returns-clause-value : goal.returns-clause-value
returns-clause-value g c =
    let a = c.self.inside.builder in
    let b = c.other.inside.builder in
    one_answer c.has_slots_of.result (same_slots a b) c.has_slots_of.ensures (same_slots-Decides a b)
    ∙ (λ i. same_slots (c.self.view_is i) (c.other.view_is i))
