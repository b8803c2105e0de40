use Rattle.nested_arrays_cells.specs.parts.Open.{first_slots}
use Rattle.nested_arrays_generic_builders.proofs.FieldLoops.{Over}
use Rattle.nested_arrays_generic_builders.proofs.fields.truncate_each.Given as goal

abbrev pub invariant-loop-builder : goal.invariant-loop-builder
invariant-loop-builder l = Over (λ o. first_slots o l.len) l.fn.builders.items l.builder-index l.builder-items
