-- The columns so far are the same.
use Rattle.tables_chunks.proofs.SameColumns.{ColumnsSameUntil}
use Rattle.tables_chunks.proofs.same.same_windows.Given as goal

abbrev pub invariant-loop-k : goal.invariant-loop-k
invariant-loop-k l = ColumnsSameUntil l.left l.right l.i l.j l.count l.k l.initial.steps.count l.steps.count
