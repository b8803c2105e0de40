use Rattle.nested_arrays_columns.proofs.Values.{not_among}
use Rattle.nested_arrays_columns.proofs.value_laws.what_no_place_has_is_not_among_them.Goals as goal

pub returns : goal.returns
returns c = not_among
