use Rattle.std.proofs.Common.{◌≡◌, map}
use Rattle.std.specs.Prelude.{Some}
use Rattle.flat_arrays_byte_values_builders.specs.Growing.{with_slots}
use Rattle.flat_arrays_byte_builders.proofs.binary.MutableBinaryArray.extend_values.Given as goal

abbrev pub invariant-loop-value : goal.invariant-loop-value
invariant-loop-value g l = l.self ≡ with_slots l.fn.self (map (λ value. Some (g.P.AsSlice.items value)) l.yielded)
