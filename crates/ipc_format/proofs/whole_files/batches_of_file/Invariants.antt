-- The batches of the blocks so far are read.
use Rattle.ipc_format_readers.specs.chunk_writing.ReadArrays.{standing_in}
use Rattle.ipc_format.proofs.WholeFiles.{AreRead}
use Rattle.ipc_format.proofs.whole_files.batches_of_file.Given as goal

abbrev pub invariant-loop-index : goal.invariant-loop-index
invariant-loop-index l = AreRead l.metadata l.bytes (standing_in l.dictionaries) l.index l.chunks.items
