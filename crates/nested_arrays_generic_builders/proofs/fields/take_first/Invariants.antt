use Rattle.std.proofs.Common.{◌≡◌, ◌++◌, map, take}
use Rattle.nested_arrays_cells.specs.parts.Open.{column_of}
use Rattle.nested_arrays_generic_builders.specs.StructBuilders.{emptied}
use Rattle.nested_arrays_generic_builders.proofs.FieldLoops.{Over}
use Rattle.nested_arrays_generic_builders.proofs.fields.take_first.Given as goal

abbrev pub invariant-loop-place : goal.invariant-loop-place
invariant-loop-place l = record {
  taken : Over emptied l.fn.builders.items l.place l.builders.items;
  made : l.arrays.items ≡ l.fn.arrays.items ++ map column_of (take l.place l.fn.builders.items);
}
