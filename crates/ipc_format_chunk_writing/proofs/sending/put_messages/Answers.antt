-- One message more.
use Rattle.std.proofs.Common.{rules, ◌≡◌, ◌<◌, ℕ, List, ap₂, length, get_or, subst}
use Rattle.std.specs.Io.KnownBytes.{Appends}
use Rattle.columnar_memory_types.specs.Error.{IsIo}
use Rattle.ipc_format_batch_reading.specs.grammar.WrittenMessages.{framed}
use Rattle.ipc_format_chunk_writing.specs.EncodedChunks.{message_in}
use Rattle.ipc_format_batch_reading.specs.streams.Devices.{AppendsBeginning}
use Rattle.ipc_format_chunk_writing.proofs.PutMessages.{message_fits, message_more, message_refused, prefix_fits}
use Rattle.ipc_format_chunk_writing.proofs.sending.put_messages.Goals as goal

pub put_message-requires : goal.put_message-requires
put_message-requires g c =
    let messages = c.args.messages.now in
    let message = c.message-item.result in
    let here : get_or messages c.loop-message.message-index message ≡ message = search rules in
    let inside : c.loop-message.message-index < length messages = search rules in
    prefix_fits (message_in message) c.as_slice.result.now c.as_slice.ensures.value
    (message_fits message_in messages c.loop-message.message-index message inside here c.requires)

pub loop-message-preserved : goal.loop-message-preserved
loop-message-preserved g c =
    let messages = c.args.messages.now in
    let message = c.message-item.result in
    let here : get_or messages c.loop-message.message-index message ≡ message = search rules in
    let inside : c.loop-message.message-index < length messages = search rules in
    let between = g.W.Write.contents c.loop-message.writer in
    let new = g.W.Write.contents c.put_message.new.writer in
    let put = subst (λ (bytes : List ℕ). Appends between new bytes)
    (ap₂ framed c.as_slice.ensures.value c.as_slice-in-loop-message.ensures.value) c.in_ok-put_message.ensures in
    message_more message_in _ between new messages c.loop-message.message-index message inside here c.loop-message.invariant put

pub returns-in_err-put_message : goal.returns-in_err-put_message
returns-in_err-put_message g c =
    let messages = c.args.messages.now in
    let message = c.message-item.result in
    let error = c.in_err-put_message.field-0.0 in
    let here : get_or messages c.loop-message.message-index message ≡ message = search rules in
    let inside : c.loop-message.message-index < length messages = search rules in
    let between = g.W.Write.contents c.loop-message.writer in
    let new = g.W.Write.contents c.put_message.new.writer in
    let refused = subst (λ (bytes : List ℕ). IsIo error × AppendsBeginning between new bytes)
    (ap₂ framed c.as_slice.ensures.value c.as_slice-in-loop-message.ensures.value) c.in_err-put_message.ensures in
    let whole = message_refused message_in error _ between new messages c.loop-message.message-index message inside here c.loop-message.invariant
    refused in
    search (rules, whole)
