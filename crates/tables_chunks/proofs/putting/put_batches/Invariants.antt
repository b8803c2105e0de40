-- The batches before the place are written, and their dictionaries are told.
use Rattle.ipc_format.specs.Tracking.{tracked}
use Rattle.tables_chunks.proofs.PutTables.{FirstPut}
use Rattle.tables_chunks.proofs.putting.put_batches.Given as goal

abbrev pub invariant-loop-batch : goal.invariant-loop-batch
invariant-loop-batch g l =
    FirstPut (g.W.Write.contents l.fn.writer) (g.W.Write.contents l.writer) (tracked l.tracker) l.schema l.batches l.batch-index
