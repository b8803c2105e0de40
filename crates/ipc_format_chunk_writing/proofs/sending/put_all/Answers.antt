-- The messages, and the last one behind them.
use Rattle.std.proofs.Common.{rules, ℕ, List, ap₂, subst}
use Rattle.ipc_format_chunk_writing.specs.EncodedChunks.{message_in, messages_in}
use Rattle.ipc_format_batch_reading.specs.grammar.WrittenMessages.{framed, message_bytes}
use Rattle.ipc_format_batch_reading.specs.grammar.WrittenStreams.{bytes_of_messages}
use Rattle.ipc_format_batch_reading.specs.streams.Devices.{Puts}
use Rattle.ipc_format_batch_reading.proofs.Appending.{puts_behind, puts_first, puts_same, refused_same}
use Rattle.ipc_format_chunk_writing.proofs.PutMessages.{bytes_behind, parts_fit, prefix_fits}
use Rattle.ipc_format_chunk_writing.proofs.sending.put_all.Goals as goal

pub put_messages-requires : goal.put_messages-requires
put_messages-requires g c = (parts_fit (messages_in c.args.messages.now) (message_in c.args.last.now) c.requires).0

pub put_message-requires : goal.put_message-requires
put_message-requires g c =
    prefix_fits (message_in c.args.last.now) c.as_slice.result.now c.as_slice.ensures.value
    (parts_fit (messages_in c.args.messages.now) (message_in c.args.last.now) c.requires).1

pub returns-in_err-put_messages : goal.returns-in_err-put_messages
returns-in_err-put_messages g c =
    let before = messages_in c.args.messages.now in
    let last = message_in c.args.last.now in
    let whole = refused_same c.in_err-put_messages.field-0.0 _ _ _ _ (bytes_behind before last)
    (puts_first c.in_err-put_messages.field-0.0 _ _ (bytes_of_messages before) (message_bytes last) c.in_err-put_messages.ensures) in
    search (rules, whole)

pub returns : goal.returns
returns g c =
    let before = messages_in c.args.messages.now in
    let last = message_in c.args.last.now in
    let between = g.W.Write.contents c.put_messages.new.writer in
    let new = g.W.Write.contents c.put_message.new.writer in
    let put = subst (λ (bytes : List ℕ). Puts c.put_message.result between new bytes)
    (ap₂ framed c.as_slice.ensures.value c.as_slice-2.ensures.value) c.put_message.ensures in
    puts_same c.put_message.result _ _ _ _ (bytes_behind before last)
    (puts_behind c.put_message.result _ _ _ (bytes_of_messages before) (message_bytes last) c.in_ok-put_messages.ensures put)
