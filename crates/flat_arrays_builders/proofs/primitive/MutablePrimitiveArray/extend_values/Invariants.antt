use Rattle.std.proofs.Common.{◌≡◌}
use Rattle.flat_arrays_values.specs.Growth.{with_values}
use Rattle.flat_arrays_builders.proofs.primitive.MutablePrimitiveArray.extend_values.Given as goal

abbrev pub invariant-loop-value : goal.invariant-loop-value
invariant-loop-value g l = l.self ≡ with_values l.fn.self l.yielded
