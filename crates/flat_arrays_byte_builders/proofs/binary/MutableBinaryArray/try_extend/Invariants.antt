use Rattle.std.proofs.Common.{◌≡◌, map}
use Rattle.std.specs.Prelude.{option_map}
use Rattle.flat_arrays_byte_values_builders.specs.Growing.{with_slots}
use Rattle.flat_arrays_byte_builders.proofs.binary.MutableBinaryArray.try_extend.Given as goal

abbrev pub invariant-loop-slot : goal.invariant-loop-slot
invariant-loop-slot g l = l.self ≡ with_slots l.fn.self (map (option_map g.P.AsSlice.items) l.yielded)
