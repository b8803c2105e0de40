use Rattle.std.proofs.Common.{◌≡◌, ◌∙◌, ap, length}
use Rattle.nested_arrays_builder_parts.specs.Open.{Open}
use Rattle.nested_arrays_builder_parts.proofs.KeptSlots.{kept_count}
use Rattle.nested_arrays_builder_parts.proofs.flat.FlatBuilder.len.Goals as goal

pub returns : goal.returns
returns c =
    let own = c.self.inside in
    c.len.ensures.value ∙ kept_count own.data_type own.marks own.values c.self.invariant ∙ ap (λ (o : Open). length o.slots) c.self.view_is
