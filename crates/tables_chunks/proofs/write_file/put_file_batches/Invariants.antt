-- The batches before the place are written and placed, and their dictionaries are told.
use Rattle.ipc_format.specs.Tracking.{tracked}
use Rattle.tables_chunks.specs.WrittenFiles.{places_of}
use Rattle.tables_chunks.proofs.PutFileBatches.{FirstFilePut}
use Rattle.tables_chunks.proofs.write_file.put_file_batches.Given as goal

abbrev pub invariant-loop-batch : goal.invariant-loop-batch
invariant-loop-batch g l =
    FirstFilePut l.place (g.W.Write.contents l.fn.writer) (g.W.Write.contents l.writer) (tracked l.tracker) (places_of l.places) l.schema l.batches
    l.batch-index
