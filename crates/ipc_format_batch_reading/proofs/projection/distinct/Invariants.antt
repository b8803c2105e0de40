-- What is left has no number twice exactly where all have none.
use Rattle.std.proofs.Common.{◌≡◌, length}
use Rattle.ipc_format_batch_reading.specs.Projections.{are_distinct}
use Rattle.ipc_format_batch_reading.proofs.projection.distinct.Given as goal

abbrev pub invariant-loop-rest : goal.invariant-loop-rest
invariant-loop-rest l = are_distinct l.columns ≡ are_distinct l.rest

abbrev pub decreases-loop-rest : goal.decreases-loop-rest
decreases-loop-rest l = length l.rest
