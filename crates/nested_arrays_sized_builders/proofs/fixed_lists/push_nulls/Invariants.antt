use Rattle.std.proofs.Common.{◌++◌, replicate}
use Rattle.nested_arrays_generic_builders.specs.nulls.columns.Slots.{null}
use Rattle.nested_arrays_generic_builders.specs.nulls.columns.StoredColumns.{slots}
use Rattle.nested_arrays_generic_builders.specs.cells.taken.OpenColumns.{Becomes}
use Rattle.nested_arrays_sized_builders.proofs.fixed_lists.push_nulls.Given as goal

-- the nulls so far
abbrev pub invariant-loop : goal.invariant-loop
invariant-loop g l =
    let column = g.M.MutableArray.column in
    Becomes (column l.initial.values) (slots (column l.initial.values) ++ replicate l.counter null) (column l.values)
