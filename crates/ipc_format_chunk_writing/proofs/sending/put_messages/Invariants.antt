-- The messages before the place are written.
use Rattle.std.specs.Io.KnownBytes.{Appends}
use Rattle.ipc_format_batch_reading.specs.grammar.WrittenStreams.{bytes_of_messages}
use Rattle.ipc_format_chunk_writing.specs.EncodedChunks.{message_in}
use Rattle.ipc_format_chunk_writing.proofs.PutMessages.{FirstMessages}
use Rattle.ipc_format_chunk_writing.proofs.sending.put_messages.Given as goal

abbrev pub invariant-loop-message : goal.invariant-loop-message
invariant-loop-message g l =
    Appends (g.W.Write.contents l.initial.writer) (g.W.Write.contents l.writer)
    (bytes_of_messages (FirstMessages message_in l.messages l.message-index))
