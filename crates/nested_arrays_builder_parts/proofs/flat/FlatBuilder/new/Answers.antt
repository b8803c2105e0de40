use Rattle.nested_arrays_builder_parts.proofs.KeptSlots.{new_kept}
use Rattle.nested_arrays_builder_parts.proofs.flat.FlatBuilder.new.Goals as goal

pub invariant_of-result : goal.invariant_of-result
invariant_of-result c =
    new_kept c.args.data_type c.new-2.result c.in_ok-values.values c.new-2.ensures c.in_ok-values.ensures.0 c.in_ok-values.ensures.1
