use Rattle.nested_arrays_generic_builders.specs.TakenBack.{without_last}
use Rattle.nested_arrays_generic_builders.proofs.FieldLoops.{Over}
use Rattle.nested_arrays_generic_builders.proofs.fields.take_back.Given as goal

abbrev pub invariant-loop-place : goal.invariant-loop-place
invariant-loop-place l = Over without_last l.fn.builders.items l.place l.builders.items
