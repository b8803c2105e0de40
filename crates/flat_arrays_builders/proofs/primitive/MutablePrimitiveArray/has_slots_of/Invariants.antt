use Rattle.std.proofs.Common.{◌≡◌, take}
use Rattle.flat_arrays_values.specs.Flat.{slots_of}
use Rattle.flat_arrays_builders.proofs.primitive.MutablePrimitiveArray.has_slots_of.Given as goal

abbrev pub invariant-loop-i : goal.invariant-loop-i
invariant-loop-i g l = take l.i (slots_of l.self) ≡ take l.i (slots_of l.other)
