-- Whether all places rise is whether those from the place on do.
use Rattle.std.specs.Prelude.{◌≡◌, drop}
use Rattle.ipc_format_batch_reading.specs.Projections.{rise_from}
use Rattle.ipc_format_batch_reading.proofs.projection.rises.Given as goal

abbrev pub invariant-loop-k : goal.invariant-loop-k
invariant-loop-k l = rise_from 0 l.places ≡ rise_from l.least (drop l.k l.places)
