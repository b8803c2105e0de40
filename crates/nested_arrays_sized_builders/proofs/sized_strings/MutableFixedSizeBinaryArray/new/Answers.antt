use Rattle.nested_arrays_sized_builders.proofs.SizedPushes.{new_sized}
use Rattle.nested_arrays_sized_builders.proofs.sized_strings.MutableFixedSizeBinaryArray.new.Goals as goal

pub invariant_of-result : goal.invariant_of-result
invariant_of-result c = new_sized c.args.size c.requires c.new.result c.new-2.result.items c.new.ensures c.new-2.ensures.items
