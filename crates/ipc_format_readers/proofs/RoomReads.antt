-- What is read of a message whose buffers stand in a room, and in a file in memory.
use Rattle.std.proofs.Common.{◌≡◌, ℕ, ℤ, Bool, true, false, ◌||◌, List, ◌∷◌, length, map, arith, refl, sym}
use Rattle.std.proofs.lemmas.Bool.{eq-eqb}
use Rattle.std.specs.Prelude.{Option, Some, None, IsSomeAnd, Result, Ok, Err}
use Rattle.std.specs.BTreeMap.{BTreeMap}
use Rattle.ipc_format_chunk_writing.specs.BatchReads.{asked_arrays, entry_in, record_arrays, sized}
use Rattle.ipc_format_chunk_writing.specs.DictionaryReads.{ReadsDictionary, dictionary_array, is_unread, is_unread_by}
use Rattle.ipc_format_chunk_writing.specs.Readable.{HasArrays}
use Rattle.ipc_format_chunk_writing.specs.ReadArrays.{dictionary_of, standing_in}
use Rattle.ipc_format_chunk_writing.specs.Rooms.{ReadsAs, Told}
use Rattle.ipc_format_chunk_writing.specs.Standing.{StandAlike}
use Rattle.ipc_format_chunk_writing.specs.columnar_memory.declared.Error.{Error}
use Rattle.ipc_format_chunk_writing.specs.columnar_memory.declared.Error.TheVariants as errors
use Rattle.ipc_format_chunk_writing.specs.columns.Slots.{Slot}
use Rattle.ipc_format_chunk_writing.specs.columns.StoredColumns.{Column, slots}
use Rattle.ipc_format_chunk_writing.specs.flatbuffers.FlatBuffers.{TablePlace}
use Rattle.ipc_format_chunk_writing.specs.grammar.Columns.{Dictionary}
use Rattle.ipc_format_chunk_writing.specs.grammar.Dictionaries.{Entry, Layout, dictionary_in, source_in}
use Rattle.ipc_format_chunk_writing.specs.grammar.Messages.{DictionaryBatch, Header, RecordBatch, Version}
use Rattle.ipc_format_chunk_writing.specs.grammar.Messages.{dictionary_batch_in, record_batch_in}
use Rattle.ipc_format_chunk_writing.specs.grammar.Tables.{batch_in, chosen_batch_in}
use Rattle.ipc_format_chunk_writing.specs.metadata.Reading.{Reads, Refuses}
use Rattle.ipc_format_chunk_writing.specs.streams.Queues.{is_compressed, is_compressed_by}
use Rattle.ipc_format_readers.specs.BlockMessages.{TakesDictionary}
use Rattle.ipc_format_readers.specs.FileReads.{ReadsOf, RefusesOf, asked_or_all}
use Rattle.ipc_format_readers.proofs.Lists.{some_of}
use Rattle.ipc_format_readers.proofs.Rooms.{reads_told}

-- ---- what is not read

source_of : (is_little_endian : Bool) (entry : Entry) (table : TablePlace) (given : Option RecordBatch) → record_batch_in entry.metadata table ≡ given
    → is_compressed_by given ≡ true → source_in is_little_endian entry table ≡ None
unfolding source_in
source_of is_little_endian entry table None e is = absurd cc
source_of is_little_endian entry table (Some batch) e is = rw (e, is) refl

pub compressed_source : (is_little_endian : Bool) (entry : Entry) (table : TablePlace) → is_compressed entry.metadata table ≡ true
    → source_in is_little_endian entry table ≡ None
compressed_source is_little_endian entry table is =
    source_of is_little_endian entry table (record_batch_in entry.metadata table) refl is

compressed_batch : (layout : Layout) (standing : List Dictionary) (entry : Entry) (table : TablePlace) → is_compressed entry.metadata table ≡ true
    → batch_in layout standing entry table ≡ None
unfolding batch_in
compressed_batch layout standing entry table is = rw (compressed_source layout.is_little_endian entry table is) refl

compressed_choice : (layout : Layout) (standing : List Dictionary) (entry : Entry) (limit : Option ℕ) (columns : List ℕ) (table : TablePlace)
    → is_compressed entry.metadata table ≡ true → chosen_batch_in layout standing entry limit columns table ≡ None
unfolding chosen_batch_in
compressed_choice layout standing entry limit columns table is = rw (compressed_source layout.is_little_endian entry table is) refl

unread_by : (layout : Layout) (standing : List Dictionary) (entry : Entry) (table : TablePlace) (batch : DictionaryBatch) (delta : Bool)
    → dictionary_batch_in entry.metadata table ≡ Some batch → batch.is_delta ≡ delta → (delta || is_compressed entry.metadata batch.values) ≡ true
    → dictionary_in layout standing entry table ≡ None
unfolding dictionary_in
unread_by layout standing entry table batch true e is unread = rw (e, is) refl
unread_by layout standing entry table batch false e is unread =
    rw (e, is, compressed_source layout.is_little_endian entry batch.values unread) refl

unread_of : (layout : Layout) (standing : List Dictionary) (entry : Entry) (table : TablePlace) (given : Option DictionaryBatch)
    → dictionary_batch_in entry.metadata table ≡ given → is_unread_by entry.metadata given ≡ true → dictionary_in layout standing entry table ≡ None
unread_of layout standing entry table None e unread = absurd cc
unread_of layout standing entry table (Some batch) e unread = unread_by layout standing entry table batch batch.is_delta e refl unread

unread_dictionary : (layout : Layout) (standing : List Dictionary) (entry : Entry) (table : TablePlace) → is_unread entry.metadata table ≡ true
    → dictionary_in layout standing entry table ≡ None
unread_dictionary layout standing entry table unread =
    unread_of layout standing entry table (dictionary_batch_in entry.metadata table) refl unread

-- ---- in a room

-- the columns that are asked for
asked_are : (asked : Option (List ℕ)) (layout : Layout) (standing : List Dictionary) (limit : Option ℕ) (entry : Entry) (table : TablePlace)
    → HasArrays layout → chosen_batch_in layout standing entry limit (asked_or_all asked layout.fields) table
    ≡ asked_arrays asked layout standing limit entry table
asked_are None layout standing limit entry table have = sym (have.limited standing limit entry table)
asked_are (Some columns) layout standing limit entry table have = sym (have.choices standing limit columns entry table)

pub asked_read : (asked : Option (List ℕ)) (layout : Layout) (standing : List Dictionary) (limit : Option ℕ) (metadata : List ℕ) (header : Header)
    (version : Version) (table : TablePlace) (origin : ℕ) (old new : Told) (result : Result (List Column) Error) → HasArrays layout
    → ReadsAs (is_compressed metadata table) old new (map slots)
    (λ room. asked_arrays asked layout standing limit (entry_in metadata header version origin room) table) result
    → ReadsOf old new (λ chunk bytes. chosen_batch_in layout standing (entry_in metadata header version origin bytes) limit
    (asked_or_all asked layout.fields) table ≡ Some (map slots chunk)) (λ bytes. is_compressed metadata table ≡ true)
    (λ bytes. chosen_batch_in layout standing (entry_in metadata header version origin bytes) limit (asked_or_all asked layout.fields) table) result
asked_read asked layout standing limit metadata header version table origin old new result have read =
    reads_told (is_compressed metadata table) old new (map slots)
    (λ room. asked_arrays asked layout standing limit (entry_in metadata header version origin room) table)
    (λ room. chosen_batch_in layout standing (entry_in metadata header version origin room) limit (asked_or_all asked layout.fields) table) result
    (λ bytes. asked_are asked layout standing limit (entry_in metadata header version origin bytes) table have)
    (λ is bytes. compressed_choice layout standing (entry_in metadata header version origin bytes) limit (asked_or_all asked layout.fields) table is)
    read

-- a dictionary stands as the latest one
abbrev pub StandsBefore : List Dictionary → List Dictionary → Option Dictionary → Type 0
StandsBefore standing standing_after given = IsSomeAnd given (λ dictionary. StandAlike standing_after (dictionary ∷ standing))

stands_there : (standing standing_after : List Dictionary) (given : Option Dictionary) (dictionary : Dictionary) → given ≡ Some dictionary
    → StandAlike standing_after (dictionary ∷ standing) → StandsBefore standing standing_after given
stands_there standing standing_after given dictionary e alike = rw e alike

pub dictionary_told : {A : Type 0} (layout : Layout) (metadata : List ℕ) (header : Header) (version : Version) (table : TablePlace) (origin : ℕ)
    (old new : Told) (before after : BTreeMap ℤ Column) (result : Result A Error) → HasArrays layout
    → ReadsDictionary (is_unread metadata table) old new
    (λ room. dictionary_array layout (standing_in before) (entry_in metadata header version origin room) table) before after result
    → ReadsOf old new (λ done bytes. StandsBefore (standing_in before) (standing_in after)
    (dictionary_in layout (standing_in before) (entry_in metadata header version origin bytes) table)) (λ bytes. is_unread metadata table ≡ true)
    (λ bytes. dictionary_in layout (standing_in before) (entry_in metadata header version origin bytes) table) result
dictionary_told layout metadata header version table origin old new before after (Ok done) have read =
    let given = λ (bytes : List ℕ). dictionary_in layout (standing_in before) (entry_in metadata header version origin bytes) table in
    let told = reads_told (is_unread metadata table) old new dictionary_of
    (λ room. dictionary_array layout (standing_in before) (entry_in metadata header version origin room) table) given (Ok read.0)
    (λ bytes. sym (have.dictionaries (standing_in before) (entry_in metadata header version origin bytes) table))
    (λ is bytes. unread_dictionary layout (standing_in before) (entry_in metadata header version origin bytes) table is) read.3 in (
      told.0,
      λ bytes e. stands_there (standing_in before) (standing_in after) (given bytes) (dictionary_of read.0) (told.1 bytes e) read.2,
    )
dictionary_told layout metadata header version table origin old new before after (Err error) have read =
    reads_told (is_unread metadata table) old new dictionary_of
    (λ room. dictionary_array layout (standing_in before) (entry_in metadata header version origin room) table)
    (λ bytes. dictionary_in layout (standing_in before) (entry_in metadata header version origin bytes) table) (Err error)
    (λ bytes. sym (have.dictionaries (standing_in before) (entry_in metadata header version origin bytes) table))
    (λ is bytes. unread_dictionary layout (standing_in before) (entry_in metadata header version origin bytes) table is) read.1

-- ---- in memory

-- a file in memory, whose size is stated
abbrev pub in_memory : List ℕ → Told
in_memory file = record { bytes = Some file; failures = 0 }

pub sized_whole : (size : ℕ) (file : List ℕ) → size ≡ length file → (sized size (in_memory file)).bytes ≡ Some file
sized_whole size file same = rw (eq-eqb (length file) size (sym same)) refl

refused_there : {A : Type 0} (size : ℕ) (file after : List ℕ) (Unread : Type 0) (given : List ℕ → Option A) (error : Error) → size ≡ length file
    → RefusesOf (sized size (in_memory file)) (sized size (in_memory after)) (λ bytes. Unread) given error → Refuses Unread error (given file)
refused_there size file after Unread given (errors.OutOfSpec what) same refused = refused file (sized_whole size file same)
refused_there size file after Unread given (errors.NotYetImplemented what) same refused = refused file (sized_whole size file same)
refused_there size file after Unread given errors.OutOfMemory same refused = tt
refused_there size file after Unread given (errors.Io what) same refused = absurd (omega (arith, refused))
refused_there size file after Unread given (errors.External from what) same refused = absurd refused
refused_there size file after Unread given (errors.InvalidArgumentError what) same refused = absurd refused
refused_there size file after Unread given (errors.ExternalFormat what) same refused = absurd refused
refused_there size file after Unread given errors.Overflow same refused = absurd refused

columns_there : (size : ℕ) (file after : List ℕ) (Unread : Type 0) (given : List ℕ → Option (List (List Slot)))
    (result : Result (List Column) Error) → size ≡ length file → ReadsOf (sized size (in_memory file)) (sized size (in_memory after))
    (λ chunk bytes. given bytes ≡ Some (map slots chunk)) (λ bytes. Unread) given result → Reads (map slots) Unread result (given file)
columns_there size file after Unread given (Ok chunk) same read = read.1 file (sized_whole size file same)
columns_there size file after Unread given (Err error) same refused = refused_there size file after Unread given error same refused

pub batch_read : (layout : Layout) (standing : List Dictionary) (metadata : List ℕ) (header : Header) (version : Version) (table : TablePlace)
    (origin size : ℕ) (file after : List ℕ) (result : Result (List Column) Error) → HasArrays layout → size ≡ length file
    → ReadsAs (is_compressed metadata table) (sized size (in_memory file)) (sized size (in_memory after)) (map slots)
    (λ room. record_arrays layout standing None (entry_in metadata header version origin room) table) result
    → Reads (map slots) (is_compressed metadata table ≡ true) result
    (batch_in layout standing (entry_in metadata header version origin file) table)
batch_read layout standing metadata header version table origin size file after result have same read =
    columns_there size file after (is_compressed metadata table ≡ true)
    (λ bytes. batch_in layout standing (entry_in metadata header version origin bytes) table) result same
    (reads_told (is_compressed metadata table) (sized size (in_memory file)) (sized size (in_memory after)) (map slots)
    (λ room. record_arrays layout standing None (entry_in metadata header version origin room) table)
    (λ room. batch_in layout standing (entry_in metadata header version origin room) table) result
    (λ bytes. sym (have.batches standing (entry_in metadata header version origin bytes) table))
    (λ is bytes. compressed_batch layout standing (entry_in metadata header version origin bytes) table is) read)

dictionary_there : {A : Type 0} (size : ℕ) (file after : List ℕ) (standing standing_after : List Dictionary) (Unread : Type 0)
    (given : List ℕ → Option Dictionary) (result : Result A Error) → size ≡ length file
    → ReadsOf (sized size (in_memory file)) (sized size (in_memory after)) (λ done bytes. StandsBefore standing standing_after (given bytes))
    (λ bytes. Unread) given result → TakesDictionary standing standing_after Unread (given file) result
dictionary_there size file after standing standing_after Unread given (Ok done) same read =
    some_of (given file) (λ dictionary. StandAlike standing_after (dictionary ∷ standing)) (read.1 file (sized_whole size file same))
dictionary_there size file after standing standing_after Unread given (Err error) same refused =
    refused_there size file after Unread given error same refused

pub dictionary_read : {A : Type 0} (layout : Layout) (metadata : List ℕ) (header : Header) (version : Version) (table : TablePlace) (origin size : ℕ)
    (file after : List ℕ) (old new : BTreeMap ℤ Column) (result : Result A Error) → HasArrays layout → size ≡ length file
    → ReadsDictionary (is_unread metadata table) (sized size (in_memory file)) (sized size (in_memory after))
    (λ room. dictionary_array layout (standing_in old) (entry_in metadata header version origin room) table) old new result
    → TakesDictionary (standing_in old) (standing_in new) (is_unread metadata table ≡ true)
    (dictionary_in layout (standing_in old) (entry_in metadata header version origin file) table) result
dictionary_read layout metadata header version table origin size file after old new result have same read =
    dictionary_there size file after (standing_in old) (standing_in new) (is_unread metadata table ≡ true)
    (λ bytes. dictionary_in layout (standing_in old) (entry_in metadata header version origin bytes) table) result same
    (dictionary_told layout metadata header version table origin (sized size (in_memory file)) (sized size (in_memory after)) old new result have
    read)
