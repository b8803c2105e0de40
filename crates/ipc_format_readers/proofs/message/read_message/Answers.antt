-- A dictionary stands from then on.
use Rattle.std.proofs.Common.{◌≡◌, ◌∙◌, ℕ, List, sym, ap, subst}
use Rattle.std.specs.Prelude.{Ok}
use Rattle.std.specs.Option.{option_copied}
use Rattle.ipc_format_chunk_writing.specs.ReadArrays.{standing_in}
use Rattle.ipc_format_chunk_writing.specs.flatbuffers.Views.{table_of}
use Rattle.ipc_format_chunk_writing.specs.messages.MessageViews.{header_view, kind_view, version_view}
use Rattle.ipc_format_chunk_writing.specs.messages.WholeMessages.{message_parts_view}
use Rattle.ipc_format_chunk_writing.specs.messages.declared.messages.MessageHeaderRef.{MessageHeaderRef}
use Rattle.ipc_format_chunk_writing.specs.metadata.Views.{ids_views}
use Rattle.ipc_format_readers.specs.Hearing.{HearsDictionary}
use Rattle.ipc_format_readers.proofs.Heard.{dictionary_stood}
use Rattle.ipc_format_readers.proofs.Turning.{layout_with}
use Rattle.ipc_format_readers.proofs.message.read_message.Goals as goal

pub returns-in_ok-take_dictionary-in-DictionaryBatch : goal.returns-in_ok-take_dictionary-in-DictionaryBatch
returns-in_ok-take_dictionary-in-DictionaryBatch c =
    let layout = layout_with c.args.fields.now (ids_views c.args.ipc_schema.now.fields) c.args.ipc_schema.now.is_little_endian in
    let batch = c.in-DictionaryBatch.batch in
    let bytes_are : batch.table.bytes.now ≡ c.args.metadata.now =
    sym (ap (λ (h : MessageHeaderRef). (header_view h).bytes) c.in-DictionaryBatch.is) ∙ c.in-Some.ensures.stands in
    let read = subst (λ (m : List ℕ). HearsDictionary layout (version_view c.args.version) (standing_in c.args.dictionaries.now)
    (standing_in c.take_dictionary.new.dictionaries) m (table_of batch.table.place) c.args.body.now
    (Ok c.in_ok-take_dictionary-in-DictionaryBatch.field-0))
    bytes_are c.in_ok-take_dictionary-in-DictionaryBatch.ensures in
    dictionary_stood (option_copied c.args.columns) layout (version_view c.args.version) (standing_in c.args.dictionaries.now)
    (standing_in c.take_dictionary.new.dictionaries) c.args.in_a_row c.args.metadata.now c.args.body.now
    (message_parts_view c.in-Some.message) (table_of batch.table.place) c.in_ok-take_dictionary-in-DictionaryBatch.field-0
    (sym c.in-Some.ensures.value) (ap kind_view c.in-DictionaryBatch.is) c.if-in_a_row-ge-MOST_DICTIONARIES.false read
