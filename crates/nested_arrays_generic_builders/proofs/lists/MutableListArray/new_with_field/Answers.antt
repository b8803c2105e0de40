use Rattle.nested_arrays_generic_builders.proofs.ListsStored.{listed_lies}
use Rattle.nested_arrays_generic_builders.proofs.lists.MutableListArray.new_with_field.Goals as goal

pub new_from-requires : goal.new_from-requires
new_from-requires g c = rw c.lists_of.ensures (listed_lies _ _)
