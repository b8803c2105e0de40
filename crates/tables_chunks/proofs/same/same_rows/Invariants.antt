-- The rows before the two places are the same.
use Rattle.std.proofs.Common.{length, ◌+◌, ◌-◌}
use Rattle.tables_chunks.specs.SameRows.{IsPlace}
use Rattle.tables_chunks.proofs.SamePlaces.{AreSameUntil}
use Rattle.tables_chunks.proofs.same.same_rows.Given as goal

abbrev pub invariant-loop-here : goal.invariant-loop-here
invariant-loop-here l = record {
  so_far : AreSameUntil l.left l.right l.here.batch l.here.row l.there.batch l.there.row l.initial.steps.count l.steps.count;
  left_place : IsPlace l.left l.here.batch l.here.row;
  right_place : IsPlace l.right l.there.batch l.there.row;
}

abbrev pub decreases-loop-here : goal.decreases-loop-here
decreases-loop-here l = (length l.left - l.here.batch) + (length l.right - l.there.batch)
