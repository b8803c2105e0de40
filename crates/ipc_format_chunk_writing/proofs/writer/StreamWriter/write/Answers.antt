-- The messages of a batch are encoded, and sent.
use Rattle.std.proofs.Common.{rules, ◌≡◌, ◌∙◌, List, [], ◌∷◌, ◌++◌, ap, subst}
use Rattle.std.specs.Prelude.{None, Ok, Err}
use Rattle.std.specs.List.{list_all}
use Rattle.std.specs.Option.{option_copied}
use Rattle.std.specs.Io.KnownBytes.{Appends}
use Rattle.ipc_format_chunk_writing.specs.EncodedChunks.{message_in, messages_in}
use Rattle.ipc_format_chunk_writing.specs.Tracking.{tracked}
use Rattle.ipc_format_batch_reading.specs.grammar.WrittenMessages.{fits_limit}
use Rattle.ipc_format_batch_reading.specs.grammar.WrittenStreams.{bytes_of_messages}
use Rattle.ipc_format_batch_reading.specs.metadata.Views.{ids_views}
use Rattle.ipc_format_batch_reading.specs.metadata.declared.ipc_schema.IpcField.{IpcField}
use Rattle.ipc_format_batch_reading.specs.streams.declared.EncodedData.{EncodedData}
use Rattle.ipc_format_chunk_writing.specs.Opening.{fields_or}
use Rattle.ipc_format_chunk_writing.specs.Phases.{started}
use Rattle.ipc_format_chunk_writing.specs.Streams.{EncodesBatch}
use Rattle.ipc_format_chunk_writing.proofs.Batches.{kind_stays, limits_hold}
use Rattle.ipc_format_chunk_writing.proofs.Writes.{batch_refused, batch_written, started_with}
use Rattle.ipc_format_chunk_writing.proofs.writer.StreamWriter.write.Goals as goal

pub invariant_of-stream : goal.invariant_of-stream
invariant_of-stream g c = record {
  replaces =
      kind_stays _ (tracked c.in-Started.stream.tracker) (tracked c.encode.new.tracker) _ _ _ _ c.encode.ensures ∙ c.in-Started.stream.replaces;
}

pub returns-in_err-dictionaries : goal.returns-in_err-dictionaries
returns-in_err-dictionaries g c =
    let stream = c.in-Started.stream in
    let inside = c.self.inside in
    let error = c.in_err-dictionaries.field-0.0 in
    let was : started_with g.W.Write.contents g.W.Faults.failures g.W.Faults.in_memory inside.writer inside.options.compression stream.schema
    stream.ids stream.tracker.dictionaries.entries ≡ c.args.self.now = search rules in
    let none : None ≡ inside.options.compression = search rules in
    let ids : c.fields_or-ids.result.now ≡ fields_or stream.ids (option_copied c.args.ipc_fields) = search rules in
    let encodes = subst (λ (fields : List IpcField). EncodesBatch stream.schema (tracked stream.tracker) (tracked c.encode.new.tracker)
    (ids_views fields) c.args.columns.now (Err error) (message_in c.encode.new.encoded)) ids c.in_err-dictionaries.ensures in
    let whole = batch_refused g.W.Write.contents g.W.Faults.failures g.W.Faults.in_memory inside.writer inside.options.compression c.args.self.now
    stream.schema stream.ids (option_copied c.args.ipc_fields) c.args.columns.now (tracked stream.tracker) (tracked c.encode.new.tracker) error
    (message_in c.encode.new.encoded) was none stream.replaces encodes in
    search (rules, whole)

pub send-requires : goal.send-requires
send-requires g c =
    ap (λ (messages : List EncodedData). list_all fits_limit (messages_in messages ++ message_in c.encode.new.encoded ∷ [])) c.deref.ensures.value
    ∙ limits_hold _ _ _ _ _ _ _ c.in_ok-dictionaries.ensures

pub returns-in-Ok : goal.returns-in-Ok
returns-in-Ok g c =
    let stream = c.in-Started.stream in
    let dictionaries = c.in_ok-dictionaries.dictionaries.items in
    let old = g.W.Write.contents c.self.inside.writer in
    let new = g.W.Write.contents c.send.new.writer in
    let phase : started stream.schema stream.ids stream.tracker.dictionaries.entries ≡ c.args.self.now.phase = search rules in
    let none : None ≡ c.args.self.now.compression = search rules in
    let ids : c.fields_or-ids.result.now ≡ fields_or stream.ids (option_copied c.args.ipc_fields) = search rules in
    let encodes = subst (λ (fields : List IpcField). EncodesBatch stream.schema (tracked stream.tracker) (tracked c.encode.new.tracker)
    (ids_views fields) c.args.columns.now (Ok (messages_in dictionaries)) (message_in c.encode.new.encoded)) ids c.in_ok-dictionaries.ensures in
    let sent = subst (λ (messages : List EncodedData). Appends old new
    (bytes_of_messages (messages_in messages ++ message_in c.encode.new.encoded ∷ [])))
    c.deref.ensures.value c.in-Ok.ensures.1 in
    let count = c.in-Ok.ensures.0 in
    batch_written g.W.Write.contents g.W.Faults.failures g.W.Faults.in_memory c.args.self.now _ stream.schema stream.ids
    (option_copied c.args.ipc_fields) c.args.columns.now (tracked stream.tracker) (tracked c.encode.new.tracker) (messages_in dictionaries)
    (message_in c.encode.new.encoded) phase none stream.replaces encodes (search (rules, sent)) (search (rules, count)) (search rules) (search rules)
