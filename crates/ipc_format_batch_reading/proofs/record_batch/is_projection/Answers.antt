-- Columns rise where each is above the one before it.
use Rattle.ipc_format_batch_reading.proofs.Projections.{rises_are}
use Rattle.ipc_format_batch_reading.proofs.record_batch.is_projection.Goals as goal

pub loop-k-init : goal.loop-k-init
loop-k-init c = rises_are c.args.width c.args.columns.now
