use Rattle.nested_arrays_columns.proofs.Values.{keys_stay}
use Rattle.nested_arrays_columns.proofs.value_laws.slots_keep_their_keys.Goals as goal

pub returns : goal.returns
returns c = keys_stay
