-- The arrays are those of the chunk, and what is told and encoded are the dictionaries that are found in them.
use Rattle.std.proofs.Common.{◌∙◌, List, ap, map, refl, rules, subst, true}
use Rattle.std.specs.List.{list_all}
use Rattle.std.specs.Prelude.{Ok, Err}
use Rattle.ipc_format_batch_reading.specs.Placing.{IsNotEncoded, is_within}
use Rattle.ipc_format_batch_reading.specs.columns.StoredColumns.{Column}
use Rattle.ipc_format_batch_reading.specs.grammar.Encoding.{joined_columns}
use Rattle.ipc_format_batch_reading.specs.grammar.StoredEncoding.{encode_stored}
use Rattle.ipc_format_batch_reading.specs.grammar.WrittenMessages.{record_message}
use Rattle.ipc_format_batch_reading.specs.grammar.WrittenStreams.{batch_of_stored, given_of_stored}
use Rattle.ipc_format_batch_reading.specs.metadata.Views.{ids_views}
use Rattle.ipc_format_chunk_writing.specs.EncodedChunks.{EncodesDictionaries, EncodesMessage, is_given_within, message_in, messages_in}
use Rattle.ipc_format_chunk_writing.specs.Found.{given_in}
use Rattle.ipc_format_chunk_writing.specs.Telling.{TellsAll}
use Rattle.ipc_format_chunk_writing.specs.Tracking.{tracked}
use Rattle.ipc_format_chunk_writing.specs.declared.found.Found.{Found}
use Rattle.ipc_format_chunk_writing.proofs.Encoding.{all_encoded, behind_copy, dictionaries_not, no_memory, not_told_batch, record_not, rows_same}
use Rattle.ipc_format_chunk_writing.proofs.chunk.encode_batch.Goals as goal

pub returns-in_err-found : goal.returns-in_err-found
returns-in_err-found c =
    let whole = no_memory c.in_err-found.field-0.0 (tracked c.args.tracker.now) (tracked c.args.tracker.now)
    (batch_of_stored (ids_views c.args.fields.now) c.args.chunk.now) (message_in c.args.encoded.now) c.in_err-found.ensures refl in
    search (rules, whole)

pub returns-in_err-told : goal.returns-in_err-told
returns-in_err-told c =
    let whole = no_memory c.in_err-told.field-0.0 (tracked c.args.tracker.now) (tracked c.args.tracker.now)
    (batch_of_stored (ids_views c.args.fields.now) c.args.chunk.now) (message_in c.args.encoded.now) c.in_err-told.ensures refl in
    search (rules, whole)

pub returns-in_err-sent : goal.returns-in_err-sent
returns-in_err-sent c =
    let old = tracked c.args.tracker.now in
    let told = tracked c.tell.new.told in
    let error = c.in_err-sent.field-0.0 in
    let found = c.in_ok-found.found.items in
    let all = subst (λ (items : List Found). TellsAll (tracked c.in_ok-told.told) told (map given_in items) (Err error)) c.deref.ensures.value
    c.in_err-sent.ensures in
    let whole = not_told_batch error old told old (ids_views c.args.fields.now) c.args.chunk.now (map given_in found)
    (message_in c.args.encoded.now) (c.in_ok-found.ensures ∙ ap (given_of_stored (ids_views c.args.fields.now)) c.arrays.ensures)
    (behind_copy old (tracked c.in_ok-told.told) told (map given_in found) (Err error) c.in_ok-told.ensures all) refl in
    search (rules, whole)

pub returns-in_err-dictionaries : goal.returns-in_err-dictionaries
returns-in_err-dictionaries c =
    let old = tracked c.args.tracker.now in
    let told = tracked c.tell.new.told in
    let error = c.in_err-dictionaries.field-0.0 in
    let found = c.in_ok-found.found.items in
    let sent = c.in_ok-sent.sent.items in
    let all = subst (λ (items : List Found). TellsAll (tracked c.in_ok-told.told) told (map given_in items) (Ok (map given_in sent)))
    c.deref.ensures.value c.in_ok-sent.ensures in
    let past = subst (λ (items : List Found). IsNotEncoded error (list_all is_given_within (map given_in items))) c.deref-2.ensures.value
    c.in_err-dictionaries.ensures in
    let whole = dictionaries_not error old told old (ids_views c.args.fields.now) c.args.chunk.now (map given_in found) (map given_in sent)
    (message_in c.args.encoded.now) (c.in_ok-found.ensures ∙ ap (given_of_stored (ids_views c.args.fields.now)) c.arrays.ensures)
    (behind_copy old (tracked c.in_ok-told.told) told (map given_in found) (Ok (map given_in sent)) c.in_ok-told.ensures all) past refl in
    search (rules, whole)

pub returns-in_err-encode_record : goal.returns-in_err-encode_record
returns-in_err-encode_record c =
    let old = tracked c.args.tracker.now in
    let told = tracked c.tell.new.told in
    let error = c.in_err-encode_record.field-0.0 in
    let found = c.in_ok-found.found.items in
    let sent = c.in_ok-sent.sent.items in
    let all = subst (λ (items : List Found). TellsAll (tracked c.in_ok-told.told) told (map given_in items) (Ok (map given_in sent)))
    c.deref.ensures.value c.in_ok-sent.ensures in
    let past = subst (λ (columns : List Column). IsNotEncoded error (is_within (joined_columns (map (encode_stored true) columns))
    (record_message c.len.result (map (encode_stored true) columns)))) c.arrays-2.ensures c.in_err-encode_record.ensures in
    let whole = record_not error old told old (ids_views c.args.fields.now) c.args.chunk.now c.len.result (map given_in found) (map given_in sent)
    (message_in c.encode_record.new.encoded) (c.in_ok-found.ensures ∙ ap (given_of_stored (ids_views c.args.fields.now)) c.arrays.ensures)
    (rows_same c.args.chunk.now c.len.result c.len.ensures)
    (behind_copy old (tracked c.in_ok-told.told) told (map given_in found) (Ok (map given_in sent)) c.in_ok-told.ensures all) past refl in
    search (rules, whole)

pub returns : goal.returns
returns c =
    let old = tracked c.args.tracker.now in
    let told = tracked c.tell.new.told in
    let found = c.in_ok-found.found.items in
    let sent = c.in_ok-sent.sent.items in
    let messages = messages_in c.in_ok-dictionaries.dictionaries.items in
    let own = message_in c.encode_record.new.encoded in
    let all = subst (λ (items : List Found). TellsAll (tracked c.in_ok-told.told) told (map given_in items) (Ok (map given_in sent)))
    c.deref.ensures.value c.in_ok-sent.ensures in
    let encoded = subst (λ (items : List Found). EncodesDictionaries (Ok messages) (map given_in items)) c.deref-2.ensures.value
    c.in_ok-dictionaries.ensures in
    let record_is = subst (λ (columns : List Column). EncodesMessage (Ok tt) own (joined_columns (map (encode_stored true) columns))
    (record_message c.len.result (map (encode_stored true) columns))) c.arrays-2.ensures c.in_ok-encode_record.ensures in
    all_encoded old told _ (ids_views c.args.fields.now) c.args.chunk.now c.len.result (map given_in found) (map given_in sent) messages own
    (c.in_ok-found.ensures ∙ ap (given_of_stored (ids_views c.args.fields.now)) c.arrays.ensures)
    (rows_same c.args.chunk.now c.len.result c.len.ensures)
    (behind_copy old (tracked c.in_ok-told.told) told (map given_in found) (Ok (map given_in sent)) c.in_ok-told.ensures all) encoded record_is
    refl refl
