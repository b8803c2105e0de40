-- The rows of the batches so far are counted, and fit 64 bits.
use Rattle.std.proofs.Common.{◌≡◌, ◌<◌, ◌^◌, length, take}
use Rattle.tables_chunks.specs.Batches.{stored_rows}
use Rattle.tables_chunks.proofs.batches.rows_of.Given as goal

abbrev pub invariant-loop-batch : goal.invariant-loop-batch
invariant-loop-batch l = record {
  counted : l.rows ≡ length (stored_rows (take l.batch-index l.batches));
  fits : l.rows < 2 ^ 64;
}
