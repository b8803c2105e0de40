use Rattle.nested_arrays_sized_builders.proofs.FixedColumns.{type_size}
use Rattle.nested_arrays_sized_builders.proofs.fixed_lists.MutableFixedSizeListArray.new_with_field.Goals as goal

pub new_from-requires : goal.new_from-requires
new_from-requires g c = record { sized = type_size _ _; some = c.requires }
