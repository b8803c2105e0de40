use Rattle.std.proofs.Common.{◌≡◌, ◌+◌, ◌*◌}
use Rattle.nested_arrays_builders.specs.Nodes.{parts_of}
use Rattle.nested_arrays_builders.specs.Parts.{parts_size, type_size, types_size}
use Rattle.nested_arrays_builders.proofs.+reserving.Given as goal

abbrev pub invariant-room::reserve_each-loop-child : goal.invariant-room::reserve_each-loop-child
invariant-room::reserve_each-loop-child l = l.child-items ≡ l.fn.children.items

abbrev pub decreases-any::AnyMutableArray::reserve : goal.decreases-any::AnyMutableArray::reserve
decreases-any::AnyMutableArray::reserve l = 4 * type_size l.self.now.data_type

abbrev pub decreases-room::reserve_nested : goal.decreases-room::reserve_nested
decreases-room::reserve_nested l = 4 * parts_size (parts_of l.children.now) + 3

abbrev pub decreases-room::reserve_below : goal.decreases-room::reserve_below
decreases-room::reserve_below l = 4 * parts_size (parts_of l.children.now) + 2

abbrev pub decreases-room::reserve_each : goal.decreases-room::reserve_each
decreases-room::reserve_each l = 4 * types_size l.children.now.items + 1
