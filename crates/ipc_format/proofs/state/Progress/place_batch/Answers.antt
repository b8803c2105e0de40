-- The messages have their blocks, and these are added.
use Rattle.std.proofs.Common.{refl}
use Rattle.ipc_format_readers.specs.chunk_writing.EncodedChunks.{message_in, messages_in}
use Rattle.ipc_format_readers.proofs.chunk_lemmas.PutMessages.{parts_fit, prefix_fits}
use Rattle.ipc_format.proofs.state.Progress.place_batch.Goals as goal

pub blocks_at-requires : goal.blocks_at-requires
blocks_at-requires c = (parts_fit (messages_in c.args.dictionaries.now) (message_in c.args.batch.now) c.requires).0

pub block_at-requires : goal.block_at-requires
block_at-requires c =
    prefix_fits (message_in c.args.batch.now) c.args.batch.now.ipc_message.items refl
    (parts_fit (messages_in c.args.dictionaries.now) (message_in c.args.batch.now) c.requires).1
