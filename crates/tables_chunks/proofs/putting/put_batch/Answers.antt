-- The dictionaries, and the batch behind them.
use Rattle.std.proofs.Common.{rules, ◌∙◌, ℕ, List, ap, ap₂, subst}
use Rattle.std.specs.List.{list_all}
use Rattle.std.specs.Io.KnownBytes.{Appends}
use Rattle.columnar_memory_types.specs.Error.{IsIo}
use Rattle.ipc_format.specs.WrittenMessages.{fits_limit, framed}
use Rattle.ipc_format.specs.WrittenStreams.{batch_of_stored, bytes_of_messages}
use Rattle.ipc_format.specs.EncodedChunks.{message_in, messages_in}
use Rattle.ipc_format.specs.Tracking.{tracked}
use Rattle.ipc_format.specs.metadata.Views.{ids_views}
use Rattle.ipc_format.specs.streams.Devices.{AppendsBeginning, Puts}
use Rattle.ipc_format.specs.streams.declared.EncodedData.{EncodedData}
use Rattle.ipc_format.proofs.PutMessages.{prefix_fits}
use Rattle.tables_chunks.proofs.PutBatches.{batch_put, batch_unwritten, own_fits, sent_fit, sent_refused}
use Rattle.tables_chunks.proofs.putting.put_batch.Goals as goal

pub returns-in_err-dictionaries : goal.returns-in_err-dictionaries
returns-in_err-dictionaries g c =
    let batch = batch_of_stored (ids_views c.args.ids.now) c.args.batch.now in
    let after = tracked c.encode_batch.new.tracker in
    let whole = batch_unwritten c.in_err-dictionaries.field-0.0 (g.W.Write.contents c.args.writer.now) (tracked c.args.tracker.now) after after batch
    (message_in c.encode_batch.new.encoded) c.requires c.in_err-dictionaries.ensures in
    search (rules, whole)

pub put_messages-requires : goal.put_messages-requires
put_messages-requires g c =
    ap (λ (messages : List EncodedData). list_all fits_limit (messages_in messages)) c.deref.ensures.value
    ∙ sent_fit _ _ _ _ _ c.in_ok-dictionaries.ensures

pub returns-in_err-put_messages : goal.returns-in_err-put_messages
returns-in_err-put_messages g c =
    let error = c.in_err-put_messages.field-0.0 in
    let old = g.W.Write.contents c.args.writer.now in
    let new = g.W.Write.contents c.put_messages.new.writer in
    let refused = subst (λ (messages : List EncodedData). IsIo error × AppendsBeginning old new (bytes_of_messages (messages_in messages)))
    c.deref.ensures.value c.in_err-put_messages.ensures in
    let whole = sent_refused error old new _ _ _ _ _ c.in_ok-dictionaries.ensures refused in
    search (rules, whole)

pub put_message-requires : goal.put_message-requires
put_message-requires g c =
    prefix_fits (message_in c.encode_batch.new.encoded) c.as_slice.result.now c.as_slice.ensures.value
    (own_fits _ _ _ _ _ c.in_ok-dictionaries.ensures)

pub returns : goal.returns
returns g c =
    let old = g.W.Write.contents c.args.writer.now in
    let between = g.W.Write.contents c.put_messages.new.writer in
    let new = g.W.Write.contents c.put_message.new.writer in
    let first = subst (λ (messages : List EncodedData). Appends old between (bytes_of_messages (messages_in messages)))
    c.deref.ensures.value c.in_ok-put_messages.ensures in
    let put = subst (λ (bytes : List ℕ). Puts c.put_message.result between new bytes)
    (ap₂ framed c.as_slice.ensures.value c.as_slice-2.ensures.value)
    c.put_message.ensures in
    batch_put c.put_message.result old between new _ _ _ _ _ c.in_ok-dictionaries.ensures first put
