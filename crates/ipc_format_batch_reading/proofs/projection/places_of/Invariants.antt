-- The columns so far have their places.
use Rattle.std.proofs.Common.{◌≤◌, length}
use Rattle.ipc_format_batch_reading.proofs.PutBackPlaces.{IsPlaced}
use Rattle.ipc_format_batch_reading.proofs.projection.places_of.Given as goal

abbrev pub invariant-loop-asked : goal.invariant-loop-asked
invariant-loop-asked l = (l.asked ≤ length l.columns) × IsPlaced l.rising l.columns l.asked l.places.entries
