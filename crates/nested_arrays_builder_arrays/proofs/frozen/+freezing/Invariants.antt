use Rattle.std.proofs.Common.{◌≡◌, ◌+◌, ◌*◌, map}
use Rattle.nested_arrays_builders.specs.parts.Open.{column_of}
use Rattle.nested_arrays_builders.specs.Nodes.{parts_of}
use Rattle.nested_arrays_builders.specs.Parts.{parts_size, type_size, types_size}
use Rattle.nested_arrays_builder_arrays.proofs.frozen.+freezing.Given as goal

-- an array of each builder so far
abbrev pub invariant-freeze_each-loop-builder : goal.invariant-freeze_each-loop-builder
invariant-freeze_each-loop-builder l = l.arrays.items ≡ map column_of l.yielded

abbrev pub decreases-into_array : goal.decreases-into_array
decreases-into_array l = 4 * type_size l.builder.data_type

abbrev pub decreases-freeze_nested : goal.decreases-freeze_nested
decreases-freeze_nested l = 4 * parts_size (parts_of l.children) + 3

abbrev pub decreases-freeze_list : goal.decreases-freeze_list
decreases-freeze_list l = 4 * type_size l.values.data_type + 1

abbrev pub decreases-freeze_sized : goal.decreases-freeze_sized
decreases-freeze_sized l = 4 * type_size l.values.data_type + 1

abbrev pub decreases-freeze_keyed : goal.decreases-freeze_keyed
decreases-freeze_keyed l = 4 * type_size l.values.data_type + 1

abbrev pub decreases-freeze_struct : goal.decreases-freeze_struct
decreases-freeze_struct l = 4 * types_size l.fields.items + 2

abbrev pub decreases-freeze_each : goal.decreases-freeze_each
decreases-freeze_each l = 4 * types_size l.builders.items + 1
