-- The blocks that were read, and those that are left, are all.
use Rattle.ipc_format_chunk_writing.specs.flatbuffers.Views.{vector_of}
use Rattle.ipc_format_readers.specs.FileStarts.{blocks_view}
use Rattle.ipc_format_readers.proofs.BlockLists.{AreLeft}
use Rattle.ipc_format_readers.proofs.footer.blocks_of.Given as goal

abbrev pub invariant-loop-k : goal.invariant-loop-k
invariant-loop-k l = AreLeft l.footer (vector_of l.vector) (blocks_view l.blocks) l.k
