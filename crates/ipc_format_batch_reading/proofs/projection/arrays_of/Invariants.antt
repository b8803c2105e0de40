-- The arrays so far are those at the places so far.
use Rattle.std.proofs.Common.{◌≡◌, take}
use Rattle.ipc_format_reading.specs.columns.Tables.{chosen}
use Rattle.ipc_format_batch_reading.proofs.projection.arrays_of.Given as goal

abbrev pub invariant-loop-place : goal.invariant-loop-place
invariant-loop-place l = l.arrays.items ≡ chosen (take l.place-index l.places) l.all
