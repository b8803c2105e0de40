-- The arrays so far are those of the places so far.
use Rattle.std.proofs.Common.{◌≡◌, take}
use Rattle.ipc_format.specs.columns.Tables.{chosen}
use Rattle.tables_chunks.proofs.choices.choose_of.Given as goal

abbrev pub invariant-loop-column : goal.invariant-loop-column
invariant-loop-column l = l.arrays.items ≡ chosen (take l.column-index l.columns) l.all
