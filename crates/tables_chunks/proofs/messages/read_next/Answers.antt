-- What stands at the place is what the format gives there.
use Rattle.std.proofs.Common.{rules, ◌≡◌, ◌∙◌, true, List, length, map, refl, sym, ap, subst, inl, inr}
use Rattle.std.specs.Prelude.{Some, None, Result, Ok, Err, ⊤}
use Rattle.ipc_format.specs.BatchReads.{entry_in}
use Rattle.ipc_format.specs.DictionaryReads.{is_unread}
use Rattle.ipc_format.specs.ReadArrays.{standing_in}
use Rattle.ipc_format.specs.columnar_memory.declared.Error.{Error}
use Rattle.ipc_format.specs.columns.StoredColumns.{Column, slots}
use Rattle.ipc_format.specs.Views.{table_of}
use Rattle.ipc_format.specs.Dictionaries.{dictionary_in}
use Rattle.ipc_format.specs.Framing.{Framed, nothing_whole, at_end, message_then, next_at}
use Rattle.ipc_format.specs.Messages.{dictionary_batch, record_batch}
use Rattle.ipc_format.specs.Tables.{batch_in}
use Rattle.ipc_format.specs.MessageViews.{header_view, kind_view, version_view}
use Rattle.ipc_format.specs.messages.declared.messages.MessageHeaderRef.{MessageHeaderRef}
use Rattle.ipc_format.specs.messages.declared.messages.MessageHeaderRef.TheVariants as headers
use Rattle.ipc_format.specs.metadata.Reading.{Reads}
use Rattle.ipc_format.specs.Frames.{ReachesBehind}
use Rattle.ipc_format.specs.streams.Queues.{is_compressed}
use Rattle.ipc_format.specs.streams.declared.frames.Framed as code
use Rattle.ipc_format.specs.streams.declared.frames.NextMessage.TheVariants as nexts
use Rattle.tables_chunks.specs.Messages.{AreOfFields, ReadsNext, TakesDictionary, layout_by}
use Rattle.tables_chunks.proofs.NextRefused.{dictionary_refused, batch_refused, too_many, dictionary_framed, batch_framed}
use Rattle.ipc_format.proofs.StreamStepsPlaces.{no_step, ended_step, schema_step, dictionary_step, batch_step}
use Rattle.ipc_format.proofs.Steps.{cut_step}
use Rattle.tables_chunks.proofs.messages.read_next.Goals as goal

pub returns-in-None : goal.returns-in-None
returns-in-None c =
    let there : next_at c.args.bytes.now c.args.place ≡ None = search rules in
    let none = no_step (layout_by c.args.fields.now c.args.ipc_schema.now) (version_view c.args.version) (standing_in c.args.dictionaries.now)
    c.args.bytes.now c.args.place there in
    search (rules, none)

pub returns-in-Some-Truncated : goal.returns-in-Some-Truncated
returns-in-Some-Truncated c =
    let there : next_at c.args.bytes.now c.args.place ≡ Some nothing_whole = search rules in
    cut_step (layout_by c.args.fields.now c.args.ipc_schema.now) (version_view c.args.version) (standing_in c.args.dictionaries.now)
    c.args.bytes.now c.args.place there

pub returns-in-Some-End : goal.returns-in-Some-End
returns-in-Some-End c =
    let there : next_at c.args.bytes.now c.args.place ≡ Some at_end = search rules in
    ended_step (layout_by c.args.fields.now c.args.ipc_schema.now) (version_view c.args.version) (standing_in c.args.dictionaries.now)
    c.args.bytes.now c.args.place there

-- the message as the definitions have it
abbrev framed_of : code.Framed → Framed
framed_of framed = record { metadata = framed.metadata.now; header = kind_view framed.header; body = framed.body.now }

-- a header stands in the metadata of its message
stands_in : (framed : code.Framed) (header : MessageHeaderRef) → framed.header ≡ header → (header_view header).bytes ≡ framed.metadata.now
stands_in framed header is = ap (λ (h : MessageHeaderRef). (header_view h).bytes) (sym is) ∙ framed.of_metadata

pub returns-in-Schema : goal.returns-in-Schema
returns-in-Schema c =
    let framed = framed_of c.in-Some-Message.framed in
    let there : next_at c.args.bytes.now c.args.place ≡ Some (message_then framed c.in-Some-Message.after) = search rules in
    inl (schema_step (layout_by c.args.fields.now c.args.ipc_schema.now) (version_view c.args.version) (standing_in c.args.dictionaries.now)
    c.args.bytes.now c.args.place c.in-Some-Message.after framed (table_of c.in-Schema.field-0.table.place) there (ap kind_view c.in-Schema.is))

pub returns-then-in_a_row-ge-MOST_DICTIONARIES : goal.returns-then-in_a_row-ge-MOST_DICTIONARIES
returns-then-in_a_row-ge-MOST_DICTIONARIES c =
    let framed = framed_of c.in-Some-Message.framed in
    let there : next_at c.args.bytes.now c.args.place ≡ Some (message_then framed c.in-Some-Message.after) = search rules in
    inr (too_many c.args.bytes.now c.args.place c.args.in_a_row c.in-Some-Message.after framed (table_of c.in-DictionaryBatch.header.table.place)
    (record { there = there; header = ap kind_view c.in-DictionaryBatch.is }) c.if-in_a_row-ge-MOST_DICTIONARIES.true)

pub returns-in_err-take_dictionary-in-DictionaryBatch : goal.returns-in_err-take_dictionary-in-DictionaryBatch
returns-in_err-take_dictionary-in-DictionaryBatch c =
    let layout = layout_by c.args.fields.now c.args.ipc_schema.now in
    let version = version_view c.args.version in
    let old = standing_in c.args.dictionaries.now in
    let new = standing_in c.take_dictionary.new.dictionaries in
    let framed = framed_of c.in-Some-Message.framed in
    let header = c.in-DictionaryBatch.header in
    let table = table_of header.table.place in
    let error = c.in_err-take_dictionary-in-DictionaryBatch.field-0.0 in
    let there : next_at c.args.bytes.now c.args.place ≡ Some (message_then framed c.in-Some-Message.after) = search rules in
    let same : header.table.bytes.now ≡ framed.metadata =
    stands_in c.in-Some-Message.framed (headers.DictionaryBatch header) c.in-DictionaryBatch.is in
    let is : framed.header ≡ dictionary_batch table = ap kind_view c.in-DictionaryBatch.is in
    let refused : TakesDictionary {A = ⊤} old new (is_unread header.table.bytes.now table ≡ true)
    (dictionary_in layout old (entry_in header.table.bytes.now (dictionary_batch table) version 0 framed.body) table) (Err error) = search rules in
    let whole : ReadsNext c.args.fields.now layout version old new c.args.bytes.now c.args.place c.args.in_a_row (Err error) =
    dictionary_refused error layout version old c.args.bytes.now c.args.place c.args.in_a_row c.in-Some-Message.after framed table
    (record { there = there; header = is })
    (dictionary_framed {A = ⊤} layout version old new header.table.bytes.now framed table (Err error) same is refused) in
    search (rules, whole)

pub returns-in_ok-take_dictionary-in-DictionaryBatch : goal.returns-in_ok-take_dictionary-in-DictionaryBatch
returns-in_ok-take_dictionary-in-DictionaryBatch c =
    let layout = layout_by c.args.fields.now c.args.ipc_schema.now in
    let version = version_view c.args.version in
    let old = standing_in c.args.dictionaries.now in
    let new = standing_in c.take_dictionary.new.dictionaries in
    let framed = framed_of c.in-Some-Message.framed in
    let after = c.in-Some-Message.after in
    let header = c.in-DictionaryBatch.header in
    let table = table_of header.table.place in
    let there : next_at c.args.bytes.now c.args.place ≡ Some (message_then framed after) = search rules in
    let same : header.table.bytes.now ≡ framed.metadata =
    stands_in c.in-Some-Message.framed (headers.DictionaryBatch header) c.in-DictionaryBatch.is in
    let is : framed.header ≡ dictionary_batch table = ap kind_view c.in-DictionaryBatch.is in
    let is_done : c.take_dictionary.result ≡ Ok tt = search rules in
    let done = subst (λ (result : Result ⊤ Error). TakesDictionary old new (is_unread header.table.bytes.now table ≡ true)
    (dictionary_in layout old (entry_in header.table.bytes.now (dictionary_batch table) version 0 framed.body) table) result) is_done
    c.take_dictionary.ensures in
    let taken = dictionary_framed {A = ⊤} layout version old new header.table.bytes.now framed table (Ok tt) same is done in
    let reach : ReachesBehind c.args.place (length c.args.bytes.now) (nexts.Message c.in-Some-Message.framed after) = search rules in (
      taken.0,
      dictionary_step layout version old c.args.bytes.now c.args.place after framed table (Some taken.0) there is taken.1,
      taken.2,
      c.if-in_a_row-ge-MOST_DICTIONARIES.false,
      reach.0,
      reach.1,
    )

pub returns-in_err-chunk-in-RecordBatch : goal.returns-in_err-chunk-in-RecordBatch
returns-in_err-chunk-in-RecordBatch c =
    let layout = layout_by c.args.fields.now c.args.ipc_schema.now in
    let version = version_view c.args.version in
    let standing = standing_in c.args.dictionaries.now in
    let framed = framed_of c.in-Some-Message.framed in
    let header = c.in-RecordBatch.header in
    let table = table_of header.table.place in
    let error = c.in_err-chunk-in-RecordBatch.field-0.0 in
    let there : next_at c.args.bytes.now c.args.place ≡ Some (message_then framed c.in-Some-Message.after) = search rules in
    let same : header.table.bytes.now ≡ framed.metadata = stands_in c.in-Some-Message.framed (headers.RecordBatch header) c.in-RecordBatch.is in
    let is : framed.header ≡ record_batch table = ap kind_view c.in-RecordBatch.is in
    let refused : Reads {A = List Column} (map slots) (is_compressed header.table.bytes.now table ≡ true) (Err error)
    (batch_in layout standing (entry_in header.table.bytes.now (record_batch table) version 0 framed.body) table) = search rules in
    let whole : ReadsNext c.args.fields.now layout version standing standing c.args.bytes.now c.args.place c.args.in_a_row (Err error) =
    batch_refused error layout version standing c.args.bytes.now c.args.place c.args.in_a_row c.in-Some-Message.after framed table
    (record { there = there; header = is })
    (batch_framed layout version standing header.table.bytes.now framed table (Err error) same is refused) in
    search (rules, whole)

pub returns-in_ok-chunk-in-RecordBatch : goal.returns-in_ok-chunk-in-RecordBatch
returns-in_ok-chunk-in-RecordBatch c =
    let layout = layout_by c.args.fields.now c.args.ipc_schema.now in
    let version = version_view c.args.version in
    let standing = standing_in c.args.dictionaries.now in
    let framed = framed_of c.in-Some-Message.framed in
    let after = c.in-Some-Message.after in
    let header = c.in-RecordBatch.header in
    let table = table_of header.table.place in
    let chunk = c.in_ok-chunk-in-RecordBatch.chunk in
    let there : next_at c.args.bytes.now c.args.place ≡ Some (message_then framed after) = search rules in
    let same : header.table.bytes.now ≡ framed.metadata = stands_in c.in-Some-Message.framed (headers.RecordBatch header) c.in-RecordBatch.is in
    let is : framed.header ≡ record_batch table = ap kind_view c.in-RecordBatch.is in
    let read : Reads {A = List Column} (map slots) (is_compressed header.table.bytes.now table ≡ true) (Ok chunk)
    (batch_in layout standing (entry_in header.table.bytes.now (record_batch table) version 0 framed.body) table) = search rules in
    let found = batch_framed layout version standing header.table.bytes.now framed table (Ok chunk) same is read in
    let fits : AreOfFields c.args.fields.now chunk = search rules in
    let reach : ReachesBehind c.args.place (length c.args.bytes.now) (nexts.Message c.in-Some-Message.framed after) = search rules in (
      batch_step layout version standing c.args.bytes.now c.args.place after framed table (Some (map slots chunk)) there is found,
      refl,
      fits,
      reach.0,
      reach.1,
    )
