use Rattle.std.proofs.Common.{◌≡◌}
use Rattle.std.specs.Prelude.{pos}
use Rattle.nested_arrays_iterators.specs.columns.Slots.{window}
use Rattle.nested_arrays_nulls.proofs.layouts.places.Given as goal

abbrev pub invariant-loop-place : goal.invariant-loop-place
invariant-loop-place l = l.places.items ≡ window pos 0 l.place
