-- The cut is the windows so far, and the cut of the batches that are left.
use Rattle.std.proofs.Common.{◌≡◌, ◌++◌, drop}
use Rattle.tables_chunks.specs.Batches.{cut_batches}
use Rattle.tables_chunks.proofs.cuts.cut_all.Given as goal

abbrev pub invariant-loop-batch : goal.invariant-loop-batch
invariant-loop-batch l =
    cut_batches l.offset l.length l.batches ≡ l.windows.items ++ cut_batches l.skipped l.missing (drop l.batch-index l.batches)
