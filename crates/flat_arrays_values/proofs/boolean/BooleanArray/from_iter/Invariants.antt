use Rattle.std.proofs.Common.{◌≡◌, map, false}
use Rattle.std.specs.Prelude.{is_some, unwrap_or}
use Rattle.flat_arrays_values.proofs.boolean.BooleanArray.from_iter.Given as goal

abbrev pub invariant-loop-slot : goal.invariant-loop-slot
invariant-loop-slot g l = (l.values ≡ map (λ slot. unwrap_or slot false) l.yielded) × (l.mask ≡ map is_some l.yielded)
