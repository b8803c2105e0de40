-- The fields so far are those of the columns so far.
use Rattle.std.proofs.Common.{◌≡◌, take}
use Rattle.ipc_format_reading.specs.columns.Tables.{chosen}
use Rattle.ipc_format_batch_reading.proofs.projection.fields_of.Given as goal

abbrev pub invariant-loop-column : goal.invariant-loop-column
invariant-loop-column l = l.asked.items ≡ chosen (take l.column-index l.columns) l.fields
