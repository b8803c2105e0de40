-- A batch is encoded behind what a copy tells, and placed.
use Rattle.std.proofs.Common.{rules, ◌≡◌, ◌∙◌, true, List, [], ◌∷◌, ◌++◌, ap}
use Rattle.std.specs.Prelude.{Ok, Err}
use Rattle.std.specs.List.{list_all}
use Rattle.ipc_format_readers.specs.chunk_writing.EncodedChunks.{message_in, messages_in}
use Rattle.ipc_format_readers.specs.chunk_writing.Tracking.{tracked}
use Rattle.ipc_format_readers.specs.chunk_writing.grammar.WrittenMessages.{fits_limit}
use Rattle.ipc_format_readers.specs.chunk_writing.metadata.Views.{ids_views}
use Rattle.ipc_format_readers.specs.streams.declared.EncodedData.{EncodedData}
use Rattle.ipc_format_readers.proofs.chunk_lemmas.Batches.{kind_stays, limits_hold}
use Rattle.ipc_format.specs.FilePhases.{progress_of}
use Rattle.ipc_format.specs.BlockPlacing.{PlacesBatch}
use Rattle.ipc_format.proofs.FileAdded.{batch_added, not_encoded, not_placed}
use Rattle.ipc_format.proofs.batches.add_batch.Goals as goal

pub returns-in_err-dictionaries : goal.returns-in_err-dictionaries
returns-in_err-dictionaries c =
    let old = progress_of c.args.file.now in
    let was : tracked c.in_ok-told.told ≡ (old.told, true) = search rules in
    let whole = not_encoded c.args.schema.now old (tracked c.in_ok-told.told) (tracked c.encode.new.tracker) (ids_views c.args.ids.now)
    c.args.columns.now c.in_err-dictionaries.field-0.0 (message_in c.encode.new.encoded) was c.in_err-dictionaries.ensures in
    search (rules, whole)

pub returns-in_err-place_batch : goal.returns-in_err-place_batch
returns-in_err-place_batch c =
    let old = progress_of c.args.file.now in
    let new = progress_of c.place_batch.new.self in
    let messages = messages_in c.in_ok-dictionaries.dictionaries.items in
    let own = message_in c.encode.new.encoded in
    let error = c.in_err-place_batch.field-0.0 in
    let was : tracked c.in_ok-told.told ≡ (old.told, true) = search rules in
    let placed : PlacesBatch old new messages own (Err error) = search rules in
    let whole = not_placed c.args.schema.now old new (tracked c.in_ok-told.told) (tracked c.encode.new.tracker) (ids_views c.args.ids.now)
    c.args.columns.now messages own error was c.in_ok-dictionaries.ensures placed in
    search (rules, whole)

pub place_batch-requires : goal.place_batch-requires
place_batch-requires c =
    ap (λ (messages : List EncodedData). list_all fits_limit (messages_in messages ++ message_in c.encode.new.encoded ∷ [])) c.deref.ensures.value
    ∙ limits_hold _ _ _ _ _ _ _ c.in_ok-dictionaries.ensures

pub invariant_of-file : goal.invariant_of-file
invariant_of-file c =
    let was : (tracked c.in_ok-told.told).1 ≡ true = search rules in
    record { replaces = kind_stays _ (tracked c.in_ok-told.told) (tracked c.encode.new.tracker) _ _ _ _ c.encode.ensures ∙ was }

pub returns : goal.returns
returns c =
    let old = progress_of c.args.file.now in
    let messages = messages_in c.in_ok-dictionaries.dictionaries.items in
    let own = message_in c.encode.new.encoded in
    let was : tracked c.in_ok-told.told ≡ (old.told, true) = search rules in
    let placed : PlacesBatch old (progress_of c.place_batch.new.self) messages own (Ok tt) = search rules in
    batch_added c.args.schema.now old (progress_of c.place_batch.new.self) _ (tracked c.in_ok-told.told) (tracked c.encode.new.tracker)
    (ids_views c.args.ids.now) c.args.columns.now messages own was c.in_ok-dictionaries.ensures placed (search rules)
