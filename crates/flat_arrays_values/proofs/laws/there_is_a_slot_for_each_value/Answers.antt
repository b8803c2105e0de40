use Rattle.flat_arrays_values.proofs.Cuts.{slots_count}
use Rattle.flat_arrays_values.proofs.laws.there_is_a_slot_for_each_value.Goals as goal

pub returns : goal.returns
returns g c = slots_count
