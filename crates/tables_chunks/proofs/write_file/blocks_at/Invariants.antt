-- The messages before the place have their blocks.
use Rattle.std.proofs.Common.{◌≡◌, map}
use Rattle.ipc_format.specs.EncodedChunks.{message_in}
use Rattle.ipc_format.specs.FooterWriting.{block_view}
use Rattle.ipc_format.proofs.PutMessages.{FirstMessages}
use Rattle.ipc_format.specs.BlockPlacing.{blocks_of, place_behind}
use Rattle.tables_chunks.proofs.write_file.blocks_at.Given as goal

abbrev pub invariant-loop-message : goal.invariant-loop-message
invariant-loop-message l =
    (map block_view l.blocks.items ≡ blocks_of l.fn.place (FirstMessages message_in l.messages l.message-index))
    × (l.here ≡ place_behind l.fn.place (FirstMessages message_in l.messages l.message-index))
