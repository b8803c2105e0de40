use Rattle.nested_arrays_builder_parts.proofs.FrozenValues.{freezable_as}
use Rattle.nested_arrays_builder_parts.proofs.flat.freeze_parts.Goals as goal

pub freeze-requires-2 : goal.freeze-requires-2
freeze-requires-2 c =
    freezable_as c.args.data_type c.args.marks c.args.values c.len-len.result c.in_ok-validity.validity c.requires c.len-len.ensures.value
    c.in_ok-validity.ensures
