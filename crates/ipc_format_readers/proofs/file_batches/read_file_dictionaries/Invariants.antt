-- The dictionaries of the blocks so far stand, and the room stayed.
use Rattle.ipc_format_chunk_writing.specs.BatchReads.{sized}
use Rattle.ipc_format_readers.specs.FileStarts.{blocks_view, layout_in}
use Rattle.ipc_format_readers.proofs.BlocksRead.{Taken}
use Rattle.ipc_format_readers.proofs.file_batches.read_file_dictionaries.Given as goal

abbrev pub invariant-loop-block : goal.invariant-loop-block
invariant-loop-block g l =
    Taken (layout_in l.metadata) (blocks_view l.metadata.dictionaries) l.block-index
    (sized l.metadata.size (g.R.Room.told l.initial.reader)) (sized l.metadata.size (g.R.Room.told l.reader)) l.dictionaries
