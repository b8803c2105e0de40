use Rattle.nested_arrays_sized_builders.proofs.SizedPushes.{are_sound}
use Rattle.nested_arrays_sized_builders.proofs.sized_strings.MutableFixedSizeBinaryArray.whole.Goals as goal

pub returns : goal.returns
returns c = rw (← c.self.view_is) (are_sound c.self.invariant)
