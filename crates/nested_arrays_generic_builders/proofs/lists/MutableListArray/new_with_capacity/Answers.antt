use Rattle.nested_arrays_generic_builders.proofs.ListsStored.{default_lies}
use Rattle.nested_arrays_generic_builders.proofs.lists.MutableListArray.new_with_capacity.Goals as goal

pub new_from-requires : goal.new_from-requires
new_from-requires g c = rw c.in_ok-data_type.ensures (default_lies _ _)
