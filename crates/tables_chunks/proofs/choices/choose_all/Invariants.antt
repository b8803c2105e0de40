-- The batches so far are chosen from.
use Rattle.std.proofs.Common.{◌≡◌, map, take}
use Rattle.ipc_format.specs.columns.Tables.{chosen}
use Rattle.tables_chunks.proofs.choices.choose_all.Given as goal

abbrev pub invariant-loop-batch : goal.invariant-loop-batch
invariant-loop-batch l = l.picked.items ≡ map (chosen l.columns) (take l.batch-index l.batches)
