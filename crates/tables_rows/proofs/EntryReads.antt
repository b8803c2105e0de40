-- What is read of one message: its dictionary, or its chosen columns in the asked order.
use Rattle.std.proofs.Common.{◌≡◌, ◌∙◌, ℕ, true, List, length, map, refl, sym, ap, subst, arith, inl}
use Rattle.std.specs.Prelude.{Option, Some, Result, Ok, Err}
use Rattle.std.proofs.lemmas.List.{length-map}
use Rattle.tables_chunks.specs.Choices.{are_below}
use Rattle.tables_chunks.specs.Messages.{AreOfFields, TakesDictionary, type_of}
use Rattle.tables_chunks.specs.ipc_format.FileEntries.{entry_view}
use Rattle.tables_chunks.specs.ipc_format.BlockMessages.{dictionary_by}
use Rattle.tables_chunks.specs.ipc_format.readers.declared.entries.Entry as code
use Rattle.tables_chunks.specs.ipc_format.BatchReads.{chosen_record_arrays, entry_in, sized}
use Rattle.tables_chunks.specs.ipc_format.Chunks.{AreAsLong}
use Rattle.tables_chunks.specs.ipc_format.Columns.{Dictionary}
use Rattle.tables_chunks.specs.ipc_format.Dictionaries.{Entry, Layout, dictionary_in}
use Rattle.tables_chunks.specs.ipc_format.DictionaryReads.{is_unread}
use Rattle.tables_chunks.specs.ipc_format.FlatBuffers.{TablePlace}
use Rattle.tables_chunks.specs.ipc_format.MessageViews.{header_view, kind_view, version_view}
use Rattle.tables_chunks.specs.ipc_format.Messages.{Version, dictionary_batch, dictionary_batch_in, record_batch}
use Rattle.tables_chunks.specs.ipc_format.Readable.{HasArrays}
use Rattle.tables_chunks.specs.ipc_format.Rooms.{ReadsAs}
use Rattle.tables_chunks.specs.ipc_format.Views.{table_of}
use Rattle.tables_chunks.specs.ipc_format.columnar_memory.declared.Error.{Error}
use Rattle.tables_chunks.specs.ipc_format.columnar_memory.declared.Error.TheVariants as errors
use Rattle.tables_chunks.specs.ipc_format.columnar_memory.declared.Field.{Field}
use Rattle.tables_chunks.specs.ipc_format.columns.StoredColumns.{Column, column_type, slots}
use Rattle.tables_chunks.specs.ipc_format.columns.Tables.{chosen}
use Rattle.tables_chunks.specs.ipc_format.grammar.Tables.{chosen_batch_in}
use Rattle.tables_chunks.specs.ipc_format.messages.declared.batches.DictionaryBatchRef.{DictionaryBatchRef}
use Rattle.tables_chunks.specs.ipc_format.messages.declared.batches.RecordBatchRef.{RecordBatchRef}
use Rattle.tables_chunks.specs.ipc_format.messages.declared.messages.MessageHeaderRef.{MessageHeaderRef}
use Rattle.tables_chunks.specs.ipc_format.messages.declared.messages.MessageHeaderRef.TheVariants as headers
use Rattle.tables_chunks.specs.ipc_format.metadata.Reading.{Refuses}
use Rattle.tables_chunks.specs.ipc_format.streams.Queues.{is_compressed}
use Rattle.tables_chunks.proofs.Lists.{chosen-map}
use Rattle.tables_chunks.proofs.ipc_format_lemmas.BlockReads.{refused_too}
use Rattle.tables_chunks.proofs.ipc_format_lemmas.RoomReads.{in_memory, sized_whole, compressed_source}
use Rattle.tables_chunks.proofs.ipc_format_lemmas.UnreadBlocks.{compressed, either_by}
use Rattle.tables_rows.specs.EntryChoices.{IsUnread, chosen_by}
use Rattle.tables_rows.specs.Orders.{IsOrder, asked}
use Rattle.tables_rows.specs.declared.order.Order.{Order}
use Rattle.tables_rows.proofs.Choices.{chosen_chosen, chosen_length, risen_below}
use Rattle.tables_rows.proofs.ChosenOrders.{batch_asked, batch_unasked, batch_unsourced}

-- ---- messages

-- a message with some header
abbrev with_header : code.Entry → MessageHeaderRef → Entry
with_header entry header = entry_in (header_view header).bytes (kind_view header) (version_view entry.version) entry.origin entry.room.now

-- ---- dictionaries

unread_message : (metadata : List ℕ) (table : TablePlace) (version : Version) (origin : ℕ) (room : List ℕ) → is_unread metadata table ≡ true
    → IsUnread (entry_in metadata (dictionary_batch table) version origin room)
unread_message metadata table version origin room unread =
    either_by metadata table (dictionary_batch_in metadata table) refl unread

taken_as : {A : Type 0} (layout : Layout) (old new : List Dictionary) (metadata : List ℕ) (table : TablePlace) (version : Version) (origin : ℕ)
    (room : List ℕ) (result : Result A Error)
    → TakesDictionary old new (is_unread metadata table ≡ true)
    (dictionary_in layout old (entry_in metadata (dictionary_batch table) version origin room) table) result
    → TakesDictionary old new (IsUnread (entry_in metadata (dictionary_batch table) version origin room))
    (dictionary_by layout old (entry_in metadata (dictionary_batch table) version origin room) (dictionary_batch table)) result
taken_as layout old new metadata table version origin room (Ok done) taken = taken
taken_as layout old new metadata table version origin room (Err error) taken =
    refused_too (is_unread metadata table ≡ true) (IsUnread (entry_in metadata (dictionary_batch table) version origin room)) error
    (dictionary_in layout old (entry_in metadata (dictionary_batch table) version origin room) table)
    (dictionary_in layout old (entry_in metadata (dictionary_batch table) version origin room) table) (λ none. none)
    (unread_message metadata table version origin room) taken

pub entry_taken : {A : Type 0} (layout : Layout) (old new : List Dictionary) (entry : code.Entry) (header : DictionaryBatchRef)
    (result : Result A Error) → entry.header ≡ headers.DictionaryBatch header
    → TakesDictionary old new (is_unread header.table.bytes.now (table_of header.table.place) ≡ true)
    (dictionary_in layout old (entry_in header.table.bytes.now (dictionary_batch (table_of header.table.place)) (version_view entry.version)
    entry.origin entry.room.now) (table_of header.table.place)) result
    → TakesDictionary old new (IsUnread (entry_view entry)) (dictionary_by layout old (entry_view entry) (entry_view entry).header) result
entry_taken layout old new entry header result is taken =
    subst (λ (h : MessageHeaderRef). TakesDictionary old new (IsUnread (with_header entry h))
    (dictionary_by layout old (with_header entry h) (kind_view h)) result) (sym is)
    (taken_as layout old new header.table.bytes.now (table_of header.table.place) (version_view entry.version) entry.origin entry.room.now result
    taken)

-- ---- chosen columns

-- what is read of the columns that rise is what the format gives, of these and of those that are asked for
pub rising_read : (layout : Layout) (standing : List Dictionary) (limit : Option ℕ) (rising : List ℕ) (metadata : List ℕ) (table : TablePlace)
    (version : Version) (origin size : ℕ) (room after : List ℕ) (found : List Column) → HasArrays layout → size ≡ length room
    → ReadsAs (is_compressed metadata table) (sized size (in_memory room)) (sized size (in_memory after)) (map slots)
    (λ bytes. chosen_record_arrays layout standing limit rising (entry_in metadata (record_batch table) version origin bytes) table) (Ok found)
    → chosen_batch_in layout standing (entry_in metadata (record_batch table) version origin room) limit rising table ≡ Some (map slots found)
rising_read layout standing limit rising metadata table version origin size room after found have same read =
    sym (have.choices standing limit rising (entry_in metadata (record_batch table) version origin room) table)
    ∙ read.2 room (sized_whole size room same)

rising_refused : (layout : Layout) (standing : List Dictionary) (limit : Option ℕ) (order : Order) (metadata : List ℕ) (table : TablePlace)
    (version : Version) (origin size : ℕ) (room after : List ℕ) (error : Error) → HasArrays layout → IsOrder (length layout.fields) order
    → size ≡ length room
    → ReadsAs {A = List Column} (is_compressed metadata table) (sized size (in_memory room)) (sized size (in_memory after)) (map slots)
    (λ bytes. chosen_record_arrays layout standing limit order.rising.items (entry_in metadata (record_batch table) version origin bytes) table)
    (Err error)
    → Refuses (IsUnread (entry_in metadata (record_batch table) version origin room)) error
    (chosen_by layout standing (entry_in metadata (record_batch table) version origin room) limit (asked order) (record_batch table))
rising_refused layout standing limit order metadata table version origin size room after (errors.OutOfSpec what) have is same read =
    batch_unasked layout standing limit (entry_in metadata (record_batch table) version origin room) table order.rising.items (asked order)
    is.wanted
    (sym (have.choices standing limit order.rising.items (entry_in metadata (record_batch table) version origin room) table)
    ∙ read.1 room (sized_whole size room same))
rising_refused layout standing limit order metadata table version origin size room after (errors.NotYetImplemented what) have is same read = (
  batch_unsourced layout standing limit (entry_in metadata (record_batch table) version origin room) table (asked order)
      (compressed_source layout.is_little_endian (entry_in metadata (record_batch table) version origin room) table read),
  inl (compressed metadata table read),
)
rising_refused layout standing limit order metadata table version origin size room after errors.OutOfMemory have is same read = tt
rising_refused layout standing limit order metadata table version origin size room after (errors.Io what) have is same read =
    absurd (omega (arith, read.1))
rising_refused layout standing limit order metadata table version origin size room after (errors.External from what) have is same read = absurd read
rising_refused layout standing limit order metadata table version origin size room after (errors.InvalidArgumentError what) have is same read =
    absurd read
rising_refused layout standing limit order metadata table version origin size room after (errors.ExternalFormat what) have is same read =
    absurd read
rising_refused layout standing limit order metadata table version origin size room after errors.Overflow have is same read = absurd read

pub entry_refused : (layout : Layout) (standing : List Dictionary) (limit : Option ℕ) (order : Order) (entry : code.Entry)
    (header : RecordBatchRef) (projection : List ℕ) (size : ℕ) (after : List ℕ) (result : Result (List Column) Error) (error : Error)
    → HasArrays layout → IsOrder (length layout.fields) order → entry.header ≡ headers.RecordBatch header → projection ≡ order.rising.items
    → size ≡ length entry.room.now → result ≡ Err error
    → ReadsAs (is_compressed header.table.bytes.now (table_of header.table.place)) (sized size (in_memory entry.room.now))
    (sized size (in_memory after)) (map slots)
    (λ bytes. chosen_record_arrays layout standing limit projection (entry_in header.table.bytes.now
    (record_batch (table_of header.table.place)) (version_view entry.version) entry.origin bytes) (table_of header.table.place)) result
    → Refuses (IsUnread (entry_view entry)) error
    (chosen_by layout standing (entry_view entry) limit (asked order) (entry_view entry).header)
entry_refused layout standing limit order entry header projection size after result error have order_is is risen same failed read =
    let metadata = header.table.bytes.now in
    let table = table_of header.table.place in
    let version = version_view entry.version in
    let of_error = subst (λ (r : Result (List Column) Error). ReadsAs (is_compressed metadata table) (sized size (in_memory entry.room.now))
    (sized size (in_memory after)) (map slots)
    (λ bytes. chosen_record_arrays layout standing limit projection (entry_in metadata (record_batch table) version entry.origin bytes) table) r)
    failed read in
    let of_rising = subst (λ (ks : List ℕ). ReadsAs {A = List Column} (is_compressed metadata table) (sized size (in_memory entry.room.now))
    (sized size (in_memory after)) (map slots)
    (λ bytes. chosen_record_arrays layout standing limit ks (entry_in metadata (record_batch table) version entry.origin bytes) table)
    (Err error)) risen of_error in
    subst (λ (h : MessageHeaderRef). Refuses (IsUnread (with_header entry h)) error
    (chosen_by layout standing (with_header entry h) limit (asked order) (kind_view h))) (sym is)
    (rising_refused layout standing limit order metadata table version entry.origin size entry.room.now after error have order_is same of_rising)

-- ---- the columns that are chosen of those that were read

-- as many as there are columns that rise
pub found_count : (order : Order) (fields : List Field) (found : List Column) → IsOrder (length fields) order
    → map column_type found ≡ map type_of (chosen order.rising.items fields) → are_below (length found) order.places.items ≡ true
found_count order fields found is types =
    let count : length found ≡ length order.rising.items =
    sym (length-map found column_type) ∙ ap length types ∙ length-map (chosen order.rising.items fields) type_of
    ∙ chosen_length fields order.rising.items (risen_below (length fields) order.rising.items is.rise) in
    ap (λ n. are_below n order.places.items) count ∙ is.inside

chosen_types : (order : Order) (fields : List Field) (found : List Column) → IsOrder (length fields) order
    → map column_type found ≡ map type_of (chosen order.rising.items fields)
    → map column_type (chosen order.places.items found) ≡ map type_of (chosen (asked order) fields)
chosen_types order fields found is types =
    sym (chosen-map column_type order.places.items found) ∙ ap (chosen order.places.items) types
    ∙ chosen-map type_of order.places.items (chosen order.rising.items fields)
    ∙ ap (map type_of) (sym (chosen_chosen fields order.rising.items order.places.items
    (risen_below (length fields) order.rising.items is.rise) is.inside))

pub chosen_fields : (order : Order) (fields : List Field) (found chunk : List Column) → IsOrder (length fields) order
    → map column_type found ≡ map type_of (chosen order.rising.items fields) → chunk ≡ chosen order.places.items found
    → AreAsLong (λ column. column) chunk → AreOfFields (chosen (asked order) fields) chunk
chosen_fields order fields found chunk is types made long =
    (ap (map column_type) made ∙ chosen_types order fields found is types, long)

pub entry_chosen : (layout : Layout) (standing : List Dictionary) (limit : Option ℕ) (order : Order) (entry : code.Entry)
    (header : RecordBatchRef) (projection : List ℕ) (size : ℕ) (after : List ℕ) (found chunk : List Column) → HasArrays layout
    → IsOrder (length layout.fields) order → entry.header ≡ headers.RecordBatch header → projection ≡ order.rising.items
    → size ≡ length entry.room.now → chunk ≡ chosen order.places.items found
    → ReadsAs (is_compressed header.table.bytes.now (table_of header.table.place)) (sized size (in_memory entry.room.now))
    (sized size (in_memory after)) (map slots)
    (λ bytes. chosen_record_arrays layout standing limit projection (entry_in header.table.bytes.now
    (record_batch (table_of header.table.place)) (version_view entry.version) entry.origin bytes) (table_of header.table.place)) (Ok found)
    → chosen_by layout standing (entry_view entry) limit (asked order) (entry_view entry).header ≡ Some (map slots chunk)
entry_chosen layout standing limit order entry header projection size after found chunk have order_is is risen same made read =
    let table = table_of header.table.place in
    let message = entry_in header.table.bytes.now (record_batch table) (version_view entry.version) entry.origin entry.room.now in
    let given : chosen_batch_in layout standing message limit projection table ≡ Some (map slots found) =
    rising_read layout standing limit projection header.table.bytes.now table (version_view entry.version) entry.origin size entry.room.now after
    found have same read in
    let rising : chosen_batch_in layout standing message limit order.rising.items table ≡ Some (map slots found) =
    subst (λ (ks : List ℕ). chosen_batch_in layout standing message limit ks table ≡ Some (map slots found)) risen given in
    let there : chosen_batch_in layout standing message limit (asked order) table ≡ Some (chosen order.places.items (map slots found)) =
    batch_asked layout standing limit message table order.rising.items order.places.items (map slots found) order_is.inside rising in
    subst (λ (h : MessageHeaderRef). chosen_by layout standing (with_header entry h) limit (asked order) (kind_view h) ≡ Some (map slots chunk))
    (sym is) (there ∙ ap Some (chosen-map slots order.places.items found ∙ ap (map slots) (sym made)))
