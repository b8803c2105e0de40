-- The batches so far are whole.
use Rattle.std.proofs.Common.{◌≡◌, true, take}
use Rattle.std.specs.List.{list_all}
use Rattle.tables_chunks.specs.Batches.{is_batch}
use Rattle.tables_chunks.proofs.batches.are_batches.Given as goal

abbrev pub invariant-loop-batch : goal.invariant-loop-batch
invariant-loop-batch l = list_all is_batch (take l.batch-index l.batches) ≡ true
