use Rattle.std.proofs.Common.{◌∙◌, ap}
use Rattle.nested_arrays_generic_builders.specs.nulls.arrays.Lengths.{size_of}
use Rattle.nested_arrays_sized_builders.proofs.FixedColumns.{type_size}
use Rattle.nested_arrays_sized_builders.proofs.fixed_lists.MutableFixedSizeListArray.new.Goals as goal

pub new_from-requires : goal.new_from-requires
new_from-requires g c = record { sized = ap size_of c.in_ok-data_type.ensures ∙ type_size _ _; some = c.requires }
