-- A batch is added, and its messages are put behind the bytes.
use Rattle.std.proofs.Common.{rules, ◌≡◌, ◌∙◌, List, [], ◌∷◌, ◌++◌, ap, subst}
use Rattle.std.specs.Prelude.{Err}
use Rattle.std.specs.List.{list_all}
use Rattle.ipc_format_readers.specs.chunk_writing.EncodedChunks.{message_in, messages_in}
use Rattle.ipc_format_readers.specs.chunk_writing.grammar.WrittenMessages.{fits_limit}
use Rattle.ipc_format_readers.specs.chunk_writing.grammar.WrittenStreams.{bytes_of_messages}
use Rattle.ipc_format_readers.specs.chunk_writing.metadata.Views.{ids_views}
use Rattle.ipc_format_readers.specs.streams.declared.EncodedData.{EncodedData}
use Rattle.ipc_format_readers.specs.chunk_writing.metadata.declared.ipc_schema.IpcField.{IpcField}
use Rattle.ipc_format.specs.Adding.{IsAdded, IsNotAdded}
use Rattle.ipc_format.specs.FilePhases.{progress_of}
use Rattle.ipc_format.proofs.AppendSteps.{appended_by}
use Rattle.ipc_format.proofs.FileAdded.{limits_of}
use Rattle.ipc_format.proofs.appending.append_batch.Goals as goal

pub returns-in_err-dictionaries : goal.returns-in_err-dictionaries
returns-in_err-dictionaries c told tells =
    let metadata = c.args.metadata.now in
    let old = progress_of c.args.file.now in
    let error = c.in_err-dictionaries.field-0.0 in
    let is : c.from_residual.result ≡ Err error = search rules in
    rw is (subst (λ (fields : List IpcField). IsNotAdded error metadata.schema (ids_views fields) told c.args.columns.now old)
    c.as_slice-ids.ensures (c.in_err-dictionaries.ensures told tells).0)

pub send-requires : goal.send-requires
send-requires c =
    ap (λ (messages : List EncodedData). list_all fits_limit (messages_in messages ++ message_in c.add_batch.new.encoded ∷ []))
    c.deref.ensures.value
    ∙ limits_of _ _ _ _ _ _ _ c.in_ok-dictionaries.ensures

pub returns-in-Ok : goal.returns-in-Ok
returns-in-Ok c told tells =
    let metadata = c.args.metadata.now in
    let old = progress_of c.args.file.now in
    let new = progress_of c.add_batch.new.file in
    let messages = messages_in c.in_ok-dictionaries.dictionaries.items ++ message_in c.add_batch.new.encoded ∷ [] in
    let added = subst (λ (fields : List IpcField). IsAdded old new metadata.schema told (ids_views fields) c.args.columns.now messages)
    c.as_slice-ids.ensures (c.in_ok-dictionaries.ensures told tells) in
    let put : c.send.new.writer.items ≡ c.args.bytes.now.items ++ bytes_of_messages messages =
    c.in-Ok.ensures.1 ∙ ap (λ (them : List EncodedData). c.args.bytes.now.items
    ++ bytes_of_messages (messages_in them ++ message_in c.add_batch.new.encoded ∷ [])) c.deref.ensures.value in
    appended_by metadata.schema (ids_views metadata.ipc_schema.fields) told old new c.args.columns.now messages c.args.bytes.now.items
    c.send.new.writer.items added put
