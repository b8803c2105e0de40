use Rattle.std.proofs.Common.{◌≡◌}
use Rattle.nested_arrays_generic_builders.proofs.fields.shrink_each.Given as goal

abbrev pub invariant-loop-builder : goal.invariant-loop-builder
invariant-loop-builder l = l.builder-items ≡ l.fn.builders.items
