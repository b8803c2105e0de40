-- The messages of a batch are encoded and placed, and sent.
use Rattle.std.proofs.Common.{rules, ◌≡◌, ◌∙◌, List, [], ◌∷◌, ◌++◌, ap, subst}
use Rattle.std.specs.Prelude.{None, Ok}
use Rattle.std.specs.List.{list_all}
use Rattle.std.specs.Option.{option_copied}
use Rattle.std.specs.Io.KnownBytes.{Appends}
use Rattle.ipc_format_readers.specs.chunk_writing.Opening.{fields_or}
use Rattle.ipc_format_readers.specs.chunk_writing.EncodedChunks.{message_in, messages_in}
use Rattle.ipc_format_readers.specs.chunk_writing.columnar_memory.declared.Schema.{Schema}
use Rattle.ipc_format_readers.specs.chunk_writing.grammar.WrittenMessages.{fits_limit}
use Rattle.ipc_format_readers.specs.chunk_writing.grammar.WrittenStreams.{bytes_of_messages}
use Rattle.ipc_format_readers.specs.chunk_writing.metadata.Views.{ids_views}
use Rattle.ipc_format_readers.specs.chunk_writing.metadata.declared.ipc_schema.IpcField.{IpcField}
use Rattle.ipc_format_readers.specs.streams.declared.EncodedData.{EncodedData}
use Rattle.ipc_format.specs.Adding.{AddsBatch}
use Rattle.ipc_format.specs.FilePhases.{progress_of, started}
use Rattle.ipc_format.proofs.FileAdded.{limits_of}
use Rattle.ipc_format.proofs.Writes.{batch_written}
use Rattle.ipc_format.proofs.writer.FileWriter.write.Goals as goal

pub send-requires : goal.send-requires
send-requires g c =
    ap (λ (messages : List EncodedData). list_all fits_limit (messages_in messages ++ message_in c.add_batch.new.encoded ∷ []))
    c.deref.ensures.value
    ∙ limits_of _ _ _ _ _ _ _ c.in_ok-dictionaries.ensures

pub returns-in-Ok : goal.returns-in-Ok
returns-in-Ok g c =
    let writer = c.args.self.now in
    let before = progress_of c.in-Started.file in
    let after = progress_of c.add_batch.new.file in
    let given = option_copied c.args.ipc_fields in
    let dictionaries = c.in_ok-dictionaries.dictionaries.items in
    let last = message_in c.add_batch.new.encoded in
    let old = g.W.Write.contents c.self.inside.writer in
    let new = g.W.Write.contents c.send.new.writer in
    let phase : started before ≡ writer.phase = search rules in
    let none : None ≡ writer.compression = search rules in
    let ids : c.fields_or-ids.result.now ≡ fields_or writer.ids given = search rules in
    let schema : c.self.inside.schema ≡ writer.schema = search rules in
    let columns = c.args.columns.now in
    let adds = subst (λ (fields : List IpcField). AddsBatch c.self.inside.schema before after (ids_views fields) columns
    (Ok (messages_in dictionaries)) last) ids c.in_ok-dictionaries.ensures in
    let own = ids_views (fields_or writer.ids given) in
    let added = subst (λ (it : Schema). AddsBatch it before after own columns (Ok (messages_in dictionaries)) last) schema adds in
    let sent = subst (λ (messages : List EncodedData). Appends old new (bytes_of_messages (messages_in messages ++ last ∷ []))) c.deref.ensures.value
    c.in-Ok.ensures.1 in
    let count = c.in-Ok.ensures.0 in
    batch_written g.W.Write.contents g.W.Faults.failures g.W.Faults.in_memory writer _ before after given columns (messages_in dictionaries) last
    phase none added (search (rules, sent)) (search (rules, count)) (search rules) (search rules) (search rules) (search rules)
