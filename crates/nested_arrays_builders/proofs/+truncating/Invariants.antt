use Rattle.std.proofs.Common.{◌≡◌, ◌+◌, take, drop, map, ◌++◌, ◌*◌}
use Rattle.nested_arrays_builder_values.specs.parts.Open.{first_slots}
use Rattle.nested_arrays_builders.specs.Nodes.{parts_of}
use Rattle.nested_arrays_builders.specs.Parts.{parts_size, type_size, types_size}
use Rattle.nested_arrays_builders.proofs.+truncating.Given as goal

abbrev pub invariant-children::truncate_each-loop-child : goal.invariant-children::truncate_each-loop-child
invariant-children::truncate_each-loop-child l =
    l.child-items ≡ map (λ o. first_slots o l.len) (take l.child-index l.fn.children.items) ++ drop l.child-index l.fn.children.items

abbrev pub decreases-any::AnyMutableArray::truncate : goal.decreases-any::AnyMutableArray::truncate
decreases-any::AnyMutableArray::truncate l = 6 * type_size l.self.now.data_type

abbrev pub decreases-children::truncate_nested : goal.decreases-children::truncate_nested
decreases-children::truncate_nested l = 6 * parts_size (parts_of l.children.now) + 2

abbrev pub decreases-children::truncate_each : goal.decreases-children::truncate_each
decreases-children::truncate_each l = 6 * types_size l.children.now.items + 1

abbrev pub decreases-lists::truncate_list : goal.decreases-lists::truncate_list
decreases-lists::truncate_list l = 6 * type_size l.values.now.data_type + 1

abbrev pub decreases-lists::truncate_sized : goal.decreases-lists::truncate_sized
decreases-lists::truncate_sized l = 6 * type_size l.values.now.data_type + 1

abbrev pub decreases-keyed::truncate_keyed : goal.decreases-keyed::truncate_keyed
decreases-keyed::truncate_keyed l = 6 * type_size l.values.now.data_type + 1
