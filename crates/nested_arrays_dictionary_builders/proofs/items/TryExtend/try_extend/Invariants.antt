use Rattle.std.proofs.Common.{◌++◌, map, take}
use Rattle.nested_arrays_sized_builders.specs.nulls.columns.StoredColumns.{slots}
use Rattle.nested_arrays_sized_builders.specs.cells.taken.OpenColumns.{Becomes}
use Rattle.nested_arrays_dictionary_builders.proofs.items.TryExtend.try_extend.Given as goal

-- the slots so far
abbrev pub invariant-loop-item : goal.invariant-loop-item
invariant-loop-item g l =
    let column = g.Self.MutableArray.column in
    Becomes (column l.initial.self) (slots (column l.initial.self) ++ take l.item-index (map g.Self.TryPush.slot l.items)) (column l.self)
