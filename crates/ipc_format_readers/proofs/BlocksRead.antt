-- What is read at the blocks of a file that stands in a room.
use Rattle.std.proofs.Common.{◌≡◌, ◌∙◌, ℕ, ℤ, ◌+◌, ◌≤◌, ◌<◌, Bool, true, false, List, [], ◌∷◌, length, map, nat_le, refl, sym, ap, subst, arith}
use Rattle.std.proofs.lemmas.Bool.{le-leb}
use Rattle.std.proofs.lemmas.List.{length-map}
use Rattle.std.specs.BTreeMap.{BTreeMap}
use Rattle.std.specs.Prelude.{Option, Some, None, IsSomeAnd, Result, Ok, slice_get}
use Rattle.ipc_format_chunk_writing.specs.BatchReads.{asked_arrays, sized}
use Rattle.ipc_format_chunk_writing.specs.DictionaryReads.{ReadsDictionary, dictionary_array, is_unread}
use Rattle.ipc_format_chunk_writing.specs.ReadArrays.{standing_in}
use Rattle.ipc_format_chunk_writing.specs.Readable.{HasArrays}
use Rattle.ipc_format_chunk_writing.specs.Rooms.{ForBytes, IsRefusal, ReadsAs, Stays, Told}
use Rattle.ipc_format_chunk_writing.specs.Standing.{ByLookUps, StandAlike}
use Rattle.ipc_format_chunk_writing.specs.columnar_memory.declared.Error.{Error}
use Rattle.ipc_format_chunk_writing.specs.columnar_memory.declared.Field.{Field}
use Rattle.ipc_format_chunk_writing.specs.columnar_memory.declared.Schema.{Schema}
use Rattle.ipc_format_chunk_writing.specs.columns.StoredColumns.{Column, slots}
use Rattle.ipc_format_chunk_writing.specs.flatbuffers.FlatBuffers.{TablePlace}
use Rattle.ipc_format_chunk_writing.specs.flatbuffers.Reading.{◌>>=◌, guard}
use Rattle.ipc_format_chunk_writing.specs.grammar.Columns.{Dictionary}
use Rattle.ipc_format_chunk_writing.specs.grammar.Dictionaries.{Entry, Layout, dictionary_in}
use Rattle.ipc_format_chunk_writing.specs.grammar.Files.{Block, entry_at, is_dictionary, is_record_batch}
use Rattle.ipc_format_chunk_writing.specs.grammar.Limits.{most_dictionaries}
use Rattle.ipc_format_chunk_writing.specs.grammar.Messages.{Version, dictionary_batch, record_batch}
use Rattle.ipc_format_chunk_writing.specs.grammar.Tables.{chosen_batch_in}
use Rattle.ipc_format_chunk_writing.specs.grammar.Writable.{normalised, normalised_field}
use Rattle.ipc_format_chunk_writing.specs.streams.Queues.{is_compressed}
use Rattle.ipc_format_readers.specs.BlockMessages.{IsCompressedAt, IsUnreadAt, dictionary_at, dictionary_by, layout_by, metadata_at, standing_after}
use Rattle.ipc_format_readers.specs.FileReads.{HasUnreadDictionary, IsCompressedBatch, ReadsBatchOf, ReadsDictionaries, RefusesOf}
use Rattle.ipc_format_readers.specs.FileReads.{asked_at, asked_by, asked_or_all, batch_of_file, dictionaries_before, dictionaries_of}
use Rattle.ipc_format_readers.specs.FileStarts.{blocks_view, layout_in}
use Rattle.ipc_format_readers.specs.MessagesTaken.{TakesDictionaryAt, message_in}
use Rattle.ipc_format_readers.specs.declared.file_metadata.FileMetadata.{FileMetadata}
use Rattle.ipc_format_readers.proofs.BlockEntries.{entry_found, entry_of, no_message, no_metadata}
use Rattle.ipc_format_readers.proofs.MessageReads.{AreTaken, all_taken, none_after, one_taken}
use Rattle.ipc_format_readers.proofs.RoomReads.{StandsBefore, asked_read, dictionary_told}
use Rattle.ipc_format_readers.proofs.Rooms.{reads_too, refuses_too, sized_bytes, sized_refused, sized_stays, stays_further}
use Rattle.ipc_format_readers.proofs.Unread.{batch_unread, dictionary_unread}

-- columns are read by the layout of the metadata
pub layout_is : (metadata : FileMetadata) (fields : List Field) → fields ≡ metadata.one_form.fields
    → layout_by fields metadata.ipc_schema ≡ layout_in metadata
layout_is metadata fields e =
    ap (λ (fs : List Field). layout_by fs metadata.ipc_schema) (e ∙ ap (λ (s : Schema). s.fields) metadata.is_form)

-- and by as many fields as the schema has
normal_length : (schema : Schema) → length (normalised schema).fields ≡ length schema.fields
unfolding normalised
normal_length schema = length-map schema.fields normalised_field

pub as_many_fields : (metadata : FileMetadata) (fields : List Field) → fields ≡ metadata.one_form.fields
    → length metadata.schema.fields ≡ length fields
as_many_fields metadata fields e =
    sym (ap length e ∙ ap (λ (s : Schema). length s.fields) metadata.is_form ∙ normal_length metadata.schema)

-- some metadata are those of the message at a place
abbrev Stand : Told → ℕ → List ℕ → Type 0
Stand told place metadata = ForBytes told (λ bytes. metadata_at bytes place ≡ Some metadata)

-- a message's metadata, where they are told
stand_there : (size : ℕ) (told : Told) (place : ℕ) (metadata message bytes : List ℕ) → Stand told place message → metadata ≡ message
    → (sized size told).bytes ≡ Some bytes → metadata_at bytes place ≡ Some metadata
stand_there size told place metadata message bytes there same e = there bytes (sized_bytes size told bytes e) ∙ ap Some (sym same)

-- ---- the dictionary at a block

dictionary_lacks : (layout : Layout) (bytes : List ℕ) (standing : List Dictionary) (block : Block) → entry_at is_dictionary bytes block ≡ None
    → dictionary_at layout bytes standing block ≡ None
dictionary_lacks layout bytes standing block none =
    ap (λ (found : Option Entry). found >>= (λ e. dictionary_by layout standing e e.header)) none

pub no_dictionary : (layout : Layout) (block : Block) (standing : List Dictionary) (size : ℕ) (old new : Told) (error : Error)
    → IsRefusal false old new (ForBytes old (λ bytes. metadata_at bytes block.offset ≡ None)) error
    → RefusesOf (sized size old) (sized size new) (λ bytes. IsUnreadAt bytes block) (λ bytes. dictionary_at layout bytes standing block) error
no_dictionary layout block standing size old new error refused =
    sized_refused size old new (λ bytes. metadata_at bytes block.offset ≡ None) (λ bytes. IsUnreadAt bytes block)
    (λ bytes. dictionary_at layout bytes standing block) error
    (λ bytes none. dictionary_lacks layout bytes standing block (no_metadata is_dictionary bytes block none)) refused

pub not_dictionary : (layout : Layout) (block : Block) (standing : List Dictionary) (size : ℕ) (old : Told) (message : List ℕ)
    → Stand old block.offset message → message_in is_dictionary message ≡ None
    → ForBytes (sized size old) (λ bytes. dictionary_at layout bytes standing block ≡ None)
not_dictionary layout block standing size old message there none = λ bytes e.
    dictionary_lacks layout bytes standing block
    (no_message is_dictionary bytes block message (there bytes (sized_bytes size old bytes e)) none)

dictionary_is : (layout : Layout) (bytes : List ℕ) (standing : List Dictionary) (block : Block) (metadata : List ℕ) (table : TablePlace)
    (version : Version) → entry_at is_dictionary bytes block ≡ Some (entry_of bytes block metadata (dictionary_batch table, version))
    → dictionary_at layout bytes standing block
    ≡ dictionary_in layout standing (entry_of bytes block metadata (dictionary_batch table, version)) table
dictionary_is layout bytes standing block metadata table version e =
    ap (λ (found : Option Entry). found >>= (λ it. dictionary_by layout standing it it.header)) e

pub dictionary_taken : {A : Type 0} (layout : Layout) (block : Block) (metadata message : List ℕ) (table : TablePlace) (version : Version) (size : ℕ)
    (old now new : Told) (before after : BTreeMap ℤ Column) (result : Result A Error) → HasArrays layout → Stays old now
    → Stand old block.offset message → metadata ≡ message → message_in is_dictionary message ≡ Some (dictionary_batch table, version)
    → ReadsDictionary (is_unread metadata table) (sized size now) (sized size new)
    (λ room. dictionary_array layout (standing_in before) (entry_of room block metadata (dictionary_batch table, version)) table) before after result
    → TakesDictionaryAt layout block (standing_in before) (standing_in after) (sized size old) (sized size new) result
dictionary_taken layout block metadata message table version size old now new before after result have stays there same is read =
    let standing = standing_in before in
    let found : (bytes : List ℕ) → (sized size old).bytes ≡ Some bytes
    → entry_at is_dictionary bytes block ≡ Some (entry_of bytes block metadata (dictionary_batch table, version)) = λ bytes e.
    entry_found is_dictionary bytes block metadata (dictionary_batch table, version)
    (stand_there size old block.offset metadata message bytes there same e) (ap (message_in is_dictionary) same ∙ is) in
    reads_too (sized size old) (sized size now) (sized size new)
    (λ done bytes. StandsBefore standing (standing_in after)
    (dictionary_in layout standing (entry_of bytes block metadata (dictionary_batch table, version)) table))
    (λ done bytes. StandsBefore standing (standing_in after) (dictionary_at layout bytes standing block))
    (λ bytes. is_unread metadata table ≡ true) (λ bytes. IsUnreadAt bytes block)
    (λ bytes. dictionary_in layout standing (entry_of bytes block metadata (dictionary_batch table, version)) table)
    (λ bytes. dictionary_at layout bytes standing block) result (sized_stays size old now stays)
    (λ bytes e done stands. subst (StandsBefore standing (standing_in after))
    (sym (dictionary_is layout bytes standing block metadata table version (found bytes e))) stands)
    (λ bytes e unread. dictionary_unread is_dictionary bytes block (entry_of bytes block metadata (dictionary_batch table, version)) table
    (found bytes e) refl unread)
    (λ bytes e none. dictionary_is layout bytes standing block metadata table version (found bytes e) ∙ none)
    (dictionary_told layout metadata (dictionary_batch table) version table (block.offset + block.metadata_length) (sized size now) (sized size new)
    before after result have read)

-- ---- one dictionary after another

-- the dictionaries of the first k blocks stand, of a room that stayed
abbrev pub Taken : Layout → List Block → ℕ → Told → Told → BTreeMap ℤ Column → Type 0
Taken layout blocks k old now dictionaries = Stays old now × ForBytes old (λ bytes. AreTaken layout bytes blocks k dictionaries)

pub taken_more : {A : Type 0} (layout : Layout) (blocks : List Block) (k : ℕ) (block : Block) (old now new : Told) (before after : BTreeMap ℤ Column)
    (done : A) → ByLookUps → slice_get blocks k ≡ Some block → Taken layout blocks k old now before
    → TakesDictionaryAt layout block (standing_in before) (standing_in after) now new (Ok done) → Taken layout blocks (k + 1) old new after
taken_more layout blocks k block old now new before after done enough here taken takes = (
  stays_further old now new taken.0 takes.0,
  λ bytes e. one_taken layout bytes blocks k block before after enough here (taken.1 bytes e) (takes.1 bytes (taken.0.0 ∙ e)),
)

guarded_none : {A : Type 0} (test : Bool) (given : Option A) → given ≡ None → (guard test >>= (λ _. given)) ≡ None
guarded_none true given none = none
guarded_none false given none = refl

before_none : (layout : Layout) (bytes : List ℕ) (dictionaries record_batches : List Block) → 0 < length record_batches
    → standing_after layout bytes [] dictionaries ≡ None → dictionaries_before layout bytes dictionaries record_batches ≡ None
before_none layout bytes dictionaries [] some none = absurd (omega (arith, some))
before_none layout bytes dictionaries (block ∷ blocks) some none =
    guarded_none (nat_le (length dictionaries) most_dictionaries) (standing_after layout bytes [] dictionaries) none

before_few : (layout : Layout) (bytes : List ℕ) (dictionaries record_batches : List Block) → 0 < length record_batches
    → length dictionaries ≤ most_dictionaries
    → dictionaries_before layout bytes dictionaries record_batches ≡ standing_after layout bytes [] dictionaries
before_few layout bytes dictionaries [] some few = absurd (omega (arith, some))
before_few layout bytes dictionaries (block ∷ blocks) some few =
    ap (λ (test : Bool). guard test >>= (λ _. standing_after layout bytes [] dictionaries)) (le-leb (length dictionaries) most_dictionaries few)

pub taken_refused : (metadata : FileMetadata) (k : ℕ) (block : Block) (old now new : Told) (before : BTreeMap ℤ Column) (error : Error) → ByLookUps
    → 0 < length (blocks_view metadata.blocks) → slice_get (blocks_view metadata.dictionaries) k ≡ Some block
    → Taken (layout_in metadata) (blocks_view metadata.dictionaries) k old now before
    → RefusesOf now new (λ bytes. IsUnreadAt bytes block) (λ bytes. dictionary_at (layout_in metadata) bytes (standing_in before) block) error
    → RefusesOf old new (HasUnreadDictionary metadata) (dictionaries_of metadata) error
taken_refused metadata k block old now new before error enough some here taken refused =
    let layout = layout_in metadata in
    let blocks = blocks_view metadata.dictionaries in
    refuses_too old now new (λ bytes. IsUnreadAt bytes block) (HasUnreadDictionary metadata)
    (λ bytes. dictionary_at layout bytes (standing_in before) block) (dictionaries_of metadata) error taken.0
    (λ bytes e unread. (k, subst (λ (found : Option Block). IsSomeAnd found (IsUnreadAt bytes)) (sym here) unread))
    (λ bytes e none. before_none layout bytes blocks (blocks_view metadata.blocks) some
    (none_after layout bytes blocks k block before enough here (taken.1 bytes e) none)) refused

pub taken_whole : (metadata : FileMetadata) (k : ℕ) (old now : Told) (dictionaries : BTreeMap ℤ Column) → 0 < length (blocks_view metadata.blocks)
    → length (blocks_view metadata.dictionaries) ≤ most_dictionaries → length (blocks_view metadata.dictionaries) ≤ k
    → Taken (layout_in metadata) (blocks_view metadata.dictionaries) k old now dictionaries → ReadsDictionaries metadata old now (Ok dictionaries)
taken_whole metadata k old now dictionaries some few past taken = (
  taken.0,
  λ bytes e. let are = taken.1 bytes e in
      let layout = layout_in metadata in
      let blocks = blocks_view metadata.dictionaries in
      subst (λ (found : Option (List Dictionary)). IsSomeAnd found (StandAlike (standing_in dictionaries)))
      (sym (before_few layout bytes blocks (blocks_view metadata.blocks) some few ∙ all_taken layout bytes blocks k dictionaries past are)) are.alike,
)

-- ---- the record batch at a block

batch_is : (metadata : FileMetadata) (asked : Option (List ℕ)) (standing : List Dictionary) (limit : Option ℕ) (index : ℕ) (block : Block)
    (bytes : List ℕ) (found : Option Entry) → slice_get (blocks_view metadata.blocks) index ≡ Some block
    → entry_at is_record_batch bytes block ≡ found → batch_of_file metadata asked standing limit index bytes
    ≡ (found >>= (λ it. asked_by asked (layout_in metadata) standing limit it it.header))
batch_is metadata asked standing limit index block bytes found here e =
    ap (λ (at : Option Block). at >>= (λ b. asked_at asked (layout_in metadata) standing limit b bytes)) here
    ∙ ap (λ (at : Option Entry). at >>= (λ it. asked_by asked (layout_in metadata) standing limit it it.header)) e

pub no_batch : (metadata : FileMetadata) (asked : Option (List ℕ)) (standing : List Dictionary) (limit : Option ℕ) (index : ℕ) (block : Block)
    (size : ℕ) (old new : Told) (error : Error) → slice_get (blocks_view metadata.blocks) index ≡ Some block
    → IsRefusal false old new (ForBytes old (λ bytes. metadata_at bytes block.offset ≡ None)) error
    → RefusesOf (sized size old) (sized size new) (IsCompressedBatch metadata index) (batch_of_file metadata asked standing limit index) error
no_batch metadata asked standing limit index block size old new error here refused =
    sized_refused size old new (λ bytes. metadata_at bytes block.offset ≡ None) (IsCompressedBatch metadata index)
    (batch_of_file metadata asked standing limit index) error
    (λ bytes none. batch_is metadata asked standing limit index block bytes None here (no_metadata is_record_batch bytes block none)) refused

pub not_batch : (metadata : FileMetadata) (asked : Option (List ℕ)) (standing : List Dictionary) (limit : Option ℕ) (index : ℕ) (block : Block)
    (size : ℕ) (old : Told) (message : List ℕ) → slice_get (blocks_view metadata.blocks) index ≡ Some block → Stand old block.offset message
    → message_in is_record_batch message ≡ None
    → ForBytes (sized size old) (λ bytes. batch_of_file metadata asked standing limit index bytes ≡ None)
not_batch metadata asked standing limit index block size old message here there none = λ bytes e.
    batch_is metadata asked standing limit index block bytes None here
    (no_message is_record_batch bytes block message (there bytes (sized_bytes size old bytes e)) none)

pub batch_taken : (metadata : FileMetadata) (asked : Option (List ℕ)) (standing : List Dictionary) (limit : Option ℕ) (index : ℕ) (block : Block)
    (carried message : List ℕ) (table : TablePlace) (version : Version) (size : ℕ) (old now new : Told) (result : Result (List Column) Error)
    → slice_get (blocks_view metadata.blocks) index ≡ Some block → Stays old now → Stand old block.offset message → carried ≡ message
    → message_in is_record_batch message ≡ Some (record_batch table, version)
    → ReadsAs (is_compressed carried table) (sized size now) (sized size new) (map slots)
    (λ room. asked_arrays asked (layout_in metadata) standing limit (entry_of room block carried (record_batch table, version)) table) result
    → ReadsBatchOf metadata asked standing limit index (sized size old) (sized size new) result
batch_taken metadata asked standing limit index block carried message table version size old now new result here stays there same is read =
    let layout = layout_in metadata in
    let entry = λ (bytes : List ℕ). entry_of bytes block carried (record_batch table, version) in
    let found : (bytes : List ℕ) → (sized size old).bytes ≡ Some bytes → entry_at is_record_batch bytes block ≡ Some (entry bytes) = λ bytes e.
    entry_found is_record_batch bytes block carried (record_batch table, version)
    (stand_there size old block.offset carried message bytes there same e) (ap (message_in is_record_batch) same ∙ is) in
    let whole : (bytes : List ℕ) → (sized size old).bytes ≡ Some bytes → batch_of_file metadata asked standing limit index bytes
    ≡ chosen_batch_in layout standing (entry bytes) limit (asked_or_all asked layout.fields) table = λ bytes e.
    batch_is metadata asked standing limit index block bytes (Some (entry bytes)) here (found bytes e) in
    reads_too (sized size old) (sized size now) (sized size new)
    (λ chunk bytes. chosen_batch_in layout standing (entry bytes) limit (asked_or_all asked layout.fields) table ≡ Some (map slots chunk))
    (λ chunk bytes. batch_of_file metadata asked standing limit index bytes ≡ Some (map slots chunk)) (λ bytes. is_compressed carried table ≡ true)
    (IsCompressedBatch metadata index)
    (λ bytes. chosen_batch_in layout standing (entry bytes) limit (asked_or_all asked layout.fields) table)
    (batch_of_file metadata asked standing limit index) result (sized_stays size old now stays) (λ bytes e chunk given. whole bytes e ∙ given)
    (λ bytes e unread. subst (λ (at : Option Block). IsSomeAnd at (IsCompressedAt bytes)) (sym here)
    (batch_unread is_record_batch bytes block (entry bytes) table (found bytes e) refl unread))
    (λ bytes e none. whole bytes e ∙ none)
    (asked_read asked layout standing limit carried (record_batch table) version table (block.offset + block.metadata_length) (sized size now)
    (sized size new) result metadata.has_arrays read)
