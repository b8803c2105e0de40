-- The start and the message behind one another.
use Rattle.std.proofs.Common.{rules, ℕ, List, ap₂, subst}
use Rattle.ipc_format_readers.specs.chunk_writing.EncodedChunks.{message_in}
use Rattle.ipc_format_readers.specs.chunk_writing.grammar.WrittenFiles.{file_start}
use Rattle.ipc_format_readers.specs.chunk_writing.grammar.WrittenMessages.{framed, message_bytes}
use Rattle.ipc_format_readers.specs.streams.Devices.{Puts}
use Rattle.ipc_format_readers.proofs.chunk_lemmas.Appending.{puts_behind, puts_first}
use Rattle.ipc_format.proofs.sending.put_start.Goals as goal

pub returns-in_err-put : goal.returns-in_err-put
returns-in_err-put g c =
    let whole = puts_first c.in_err-put.field-0.0 _ _ file_start (message_bytes (message_in c.args.message.now)) c.in_err-put.ensures in
    search (rules, whole)

pub returns : goal.returns
returns g c =
    let between = g.W.Write.contents c.put.new.writer in
    let new = g.W.Write.contents c.put_message.new.writer in
    let put = subst (λ (bytes : List ℕ). Puts c.put_message.result between new bytes)
    (ap₂ framed c.as_slice.ensures.value c.as_slice-2.ensures.value) c.put_message.ensures in
    puts_behind c.put_message.result _ _ _ file_start (message_bytes (message_in c.args.message.now)) c.in_ok-put.ensures put
