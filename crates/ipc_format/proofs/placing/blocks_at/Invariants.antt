-- The messages before the place have their blocks.
use Rattle.std.proofs.Common.{◌≡◌, map}
use Rattle.ipc_format_readers.specs.chunk_writing.EncodedChunks.{message_in}
use Rattle.ipc_format_readers.specs.streams.owned.writing.FooterWriting.{block_view}
use Rattle.ipc_format_readers.proofs.chunk_lemmas.PutMessages.{FirstMessages}
use Rattle.ipc_format.specs.BlockPlacing.{blocks_of, place_behind}
use Rattle.ipc_format.proofs.placing.blocks_at.Given as goal

abbrev pub invariant-loop-message : goal.invariant-loop-message
invariant-loop-message l =
    (map block_view l.blocks.items ≡ blocks_of l.fn.place (FirstMessages message_in l.messages l.message-index))
    × (l.here ≡ place_behind l.fn.place (FirstMessages message_in l.messages l.message-index))
