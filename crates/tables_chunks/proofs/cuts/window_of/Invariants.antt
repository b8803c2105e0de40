-- The arrays so far are the cuts of those of the batch.
use Rattle.std.proofs.Common.{◌≡◌, take}
use Rattle.tables_chunks.specs.Batches.{cut_batch}
use Rattle.tables_chunks.proofs.cuts.window_of.Given as goal

abbrev pub invariant-loop-array : goal.invariant-loop-array
invariant-loop-array l = l.arrays.items ≡ cut_batch l.offset l.count (take l.array-index l.array-items)
