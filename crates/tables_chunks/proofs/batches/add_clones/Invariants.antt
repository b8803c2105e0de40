-- The clones so far stand behind what was there.
use Rattle.std.proofs.Common.{◌≡◌, ◌++◌, take}
use Rattle.tables_chunks.proofs.batches.add_clones.Given as goal

abbrev pub invariant-loop-batch : goal.invariant-loop-batch
invariant-loop-batch l = l.batches.items ≡ l.initial.batches.items ++ take l.batch-index l.others
