use Rattle.std.proofs.Common.{◌≡◌, ◌+◌, ◌*◌}
use Rattle.nested_arrays_builders.specs.Nodes.{parts_of}
use Rattle.nested_arrays_builders.specs.Parts.{parts_size, type_size, types_size}
use Rattle.nested_arrays_builders.proofs.+shrinking.Given as goal

abbrev pub invariant-room::shrink_each-loop-child : goal.invariant-room::shrink_each-loop-child
invariant-room::shrink_each-loop-child l = l.child-items ≡ l.fn.children.items

abbrev pub decreases-any::AnyMutableArray::shrink_to_fit : goal.decreases-any::AnyMutableArray::shrink_to_fit
decreases-any::AnyMutableArray::shrink_to_fit l = 4 * type_size l.self.now.data_type

abbrev pub decreases-room::shrink_nested : goal.decreases-room::shrink_nested
decreases-room::shrink_nested l = 4 * parts_size (parts_of l.children.now) + 3

abbrev pub decreases-room::shrink_each : goal.decreases-room::shrink_each
decreases-room::shrink_each l = 4 * types_size l.children.now.items + 1
