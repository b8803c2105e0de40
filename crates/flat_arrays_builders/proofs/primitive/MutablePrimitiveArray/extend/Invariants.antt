use Rattle.std.proofs.Common.{◌≡◌}
use Rattle.flat_arrays_values.specs.Growth.{with_slots}
use Rattle.flat_arrays_builders.proofs.primitive.MutablePrimitiveArray.extend.Given as goal

abbrev pub invariant-loop-slot : goal.invariant-loop-slot
invariant-loop-slot g l = l.self ≡ with_slots l.zero l.fn.self l.yielded
