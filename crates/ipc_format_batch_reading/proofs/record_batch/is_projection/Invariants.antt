-- Whether the columns from the place on rise is what is left to test.
use Rattle.std.specs.Prelude.{◌≡◌, drop}
use Rattle.ipc_format_batch_reading.specs.BatchReads.{rise_below}
use Rattle.ipc_format_batch_reading.proofs.Projections.{rises_from}
use Rattle.ipc_format_batch_reading.proofs.record_batch.is_projection.Given as goal

abbrev pub invariant-loop-k : goal.invariant-loop-k
invariant-loop-k l = rise_below l.width l.columns ≡ rises_from l.width l.least (drop l.k l.columns)
