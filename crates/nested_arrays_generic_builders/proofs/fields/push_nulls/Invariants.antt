use Rattle.std.proofs.Common.{◌≡◌, take, true}
use Rattle.std.specs.List.{list_all}
use Rattle.nested_arrays_generic_builders.specs.StructBuilders.{takes_null, with_null}
use Rattle.nested_arrays_generic_builders.proofs.FieldLoops.{Over}
use Rattle.nested_arrays_generic_builders.proofs.fields.push_nulls.Given as goal

abbrev pub invariant-loop-place : goal.invariant-loop-place
invariant-loop-place l = record {
  grown : Over with_null l.fn.builders.items l.place l.builders.items;
  taking : list_all takes_null (take l.place l.fn.builders.items) ≡ true;
}
