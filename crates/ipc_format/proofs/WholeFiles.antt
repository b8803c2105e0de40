-- What is read of a file's batches, one after another, and of the whole.
use Rattle.std.proofs.Common.{◌≡◌, ◌∙◌, ℕ, zero, suc, ◌+◌, Bool, true, ◌≤◌, ◌<◌, List, [], ◌∷◌, ◌++◌, length, map, drop, refl, sym, ap}
use Rattle.std.proofs.Common.{append-nil, arith, subst, inl, inr}
use Rattle.std.proofs.lemmas.List.{drop_all, map-append}
use Rattle.std.proofs.lemmas.List.Elements.{All-push}
use Rattle.std.proofs.lemmas.List.{length-map}
use Rattle.std.specs.declared.alloc.Global.{Global}
use Rattle.std.specs.declared.vec.Vec.{Vec}
use Rattle.std.specs.Prelude.{Option, Some, None, IsSomeAnd, Result, Ok, Err, ◌⊎◌, slice_get, All}
use Rattle.columnar_memory_types.specs.Error.{IsOutOfMemory}
use Rattle.ipc_format_readers.specs.BlockMessages.{AreOfFields, HasCompressed, HasUnread, IsCompressedAt, ReadsColumns, slots_of_batches}
use Rattle.ipc_format_readers.specs.BlockRuns.{batches_at_blocks, batches_by_blocks}
use Rattle.ipc_format_readers.specs.FileReads.{HasUnreadDictionary, IsCompressedBatch, IsUnreadFile, RefusesOf, StandAsIn, asked_at}
use Rattle.ipc_format_readers.specs.FileReads.{dictionaries_of}
use Rattle.ipc_format_readers.specs.FileStarts.{Start, block_view, layout_in, start_in, start_view}
use Rattle.ipc_format_readers.specs.chunk_writing.Readable.{HasArrays, SchemasHaveArrays}
use Rattle.ipc_format_readers.specs.chunk_writing.Rooms.{Told}
use Rattle.ipc_format_readers.specs.chunk_writing.Standing.{ByLookUps, StandAlike}
use Rattle.ipc_format_readers.specs.chunk_writing.columnar_memory.Texts.{HasTexts}
use Rattle.ipc_format_readers.specs.chunk_writing.columnar_memory.declared.Error.{Error}
use Rattle.ipc_format_readers.specs.chunk_writing.columnar_memory.declared.Error.TheVariants as errors
use Rattle.ipc_format_readers.specs.chunk_writing.columnar_memory.declared.Schema.{Schema}
use Rattle.ipc_format_readers.specs.chunk_writing.columns.Slots.{Slot}
use Rattle.ipc_format_readers.specs.chunk_writing.columns.StoredColumns.{Column, slots}
use Rattle.ipc_format_readers.specs.chunk_writing.flatbuffers.FlatBuffers.{TablePlace}
use Rattle.ipc_format_readers.specs.chunk_writing.flatbuffers.Reading.{◌>>=◌}
use Rattle.ipc_format_readers.specs.chunk_writing.grammar.Columns.{Dictionary}
use Rattle.ipc_format_readers.specs.chunk_writing.grammar.Dictionaries.{Layout}
use Rattle.ipc_format_readers.specs.chunk_writing.grammar.Files.{Block}
use Rattle.ipc_format_readers.specs.chunk_writing.grammar.Refusals.{HasUnimplemented}
use Rattle.ipc_format_readers.specs.chunk_writing.grammar.SchemaGrammar.{schema_in}
use Rattle.ipc_format_readers.specs.chunk_writing.grammar.Schemas.{SchemaIn, any_schema_in}
use Rattle.ipc_format_readers.specs.chunk_writing.grammar.Tables.{file, batches_in, layout_of}
use Rattle.ipc_format_readers.specs.chunk_writing.grammar.Writable.{is_writable, normalised}
use Rattle.ipc_format_readers.specs.chunk_writing.metadata.Reading.{Refuses}
use Rattle.ipc_format_readers.specs.declared.file_metadata.FileMetadata.{FileMetadata}
use Rattle.ipc_format_readers.proofs.AskedBatches.{asked_alike}
use Rattle.ipc_format_readers.proofs.Binding.{came_of, same_some}
use Rattle.ipc_format_readers.proofs.MessageReads.{refused_too}
use Rattle.ipc_format_readers.proofs.Lists.{behind, behind_none, behind_next, drop_next}
use Rattle.ipc_format_readers.proofs.Starts.{batches_of_start, batches_with, footer_of, no_batches, schema_held, unread_in_file}
use Rattle.ipc_format_readers.proofs.reading_laws_lemmas.laws_lemmas.Firsts.{guarded}
use Rattle.ipc_format_readers.proofs.reading_laws_lemmas.laws_lemmas.NormalForms.{keeps_writable}
use Rattle.ipc_format_readers.proofs.reading_laws_lemmas.StoredTablesNormal.{normal_again}
use Rattle.ipc_format.specs.ReadFiles.{ReadsFile, ReadsMessages, batch_of}
use Rattle.ipc_format.specs.declared.whole_files.FileBatches.{FileBatches}

-- ---- files in memory

-- what a room in memory refuses the format doesn't give
pub of_memory : {A : Type 0} (old new : Told) (Unread : List ℕ → Type 0) (given : List ℕ → Option A) (error : Error) (bytes : List ℕ)
    → old.bytes ≡ Some bytes → new.failures ≡ 0 → RefusesOf old new Unread given error → Refuses (Unread bytes) error (given bytes)
of_memory old new Unread given (errors.Io what) bytes whole none refused = absurd (omega (arith, none, refused))
of_memory old new Unread given errors.OutOfMemory bytes whole none refused = tt
of_memory old new Unread given (errors.OutOfSpec what) bytes whole none refused = refused bytes whole
of_memory old new Unread given (errors.NotYetImplemented what) bytes whole none refused = refused bytes whole
of_memory old new Unread given (errors.External from what) bytes whole none refused = absurd refused
of_memory old new Unread given (errors.InvalidArgumentError what) bytes whole none refused = absurd refused
of_memory old new Unread given (errors.ExternalFormat what) bytes whole none refused = absurd refused
of_memory old new Unread given errors.Overflow bytes whole none refused = absurd refused

-- ---- batches under dictionaries that stand alike

batches_alike : ByLookUps → (layout : Layout) (old new : List Dictionary) (blocks : List Block) (bytes : List ℕ) → StandAlike old new
    → batches_at_blocks None layout old None blocks bytes ≡ batches_at_blocks None layout new None blocks bytes
batches_alike enough layout old new [] bytes alike = refl
batches_alike enough layout old new (block ∷ blocks) bytes alike =
    ap (λ (found : Option (List (List Slot))). found
    >>= (λ columns. batches_at_blocks None layout old None blocks bytes >>= (λ others. Some (columns ∷ others))))
    (asked_alike enough layout old new None None block bytes alike)
    ∙ ap (λ (rest : Option (List (List (List Slot)))). asked_at None layout new None block bytes
    >>= (λ columns. rest >>= (λ others. Some (columns ∷ others)))) (batches_alike enough layout old new blocks bytes alike)

-- ---- batches one after another

-- the batches of a file, under some dictionaries, from one of its blocks on
abbrev batches_from : FileMetadata → List ℕ → List Dictionary → ℕ → Option (List (List (List Slot)))
batches_from metadata bytes standing k =
    batches_at_blocks None (layout_in metadata) standing None (drop k (start_view metadata).record_batches) bytes

-- the batches of the first k blocks are read
pub record AreRead (metadata : FileMetadata) (bytes : List ℕ) (standing : List Dictionary) (k : ℕ) (read : List (List Column)) : Type 0 where
  pub left : batches_from metadata bytes standing 0 ≡ behind (slots_of_batches read) (batches_from metadata bytes standing k)
  pub types : All (AreOfFields (layout_in metadata).fields) read

pub none_read : (metadata : FileMetadata) (bytes : List ℕ) (standing : List Dictionary) (read : List (List Column)) → read ≡ []
    → AreRead metadata bytes standing 0 read
none_read metadata bytes standing read none =
    subst (AreRead metadata bytes standing 0) (sym none)
    (record { left = sym (behind_none (batches_from metadata bytes standing 0)); types = λ k d within. absurd (omega (arith, within)) })

-- the block at a place, and those behind it
block_at : (metadata : FileMetadata) (k : ℕ) → k < length metadata.blocks.items
    → (block : Block) × (slice_get (start_view metadata).record_batches k ≡ Some block)
block_at metadata k within =
    with_block (start_view metadata).record_batches k (subst (λ n. k < n) (sym (length-map metadata.blocks.items block_view)) within)
  where
    with_block : (blocks : List Block) (k : ℕ) → k < length blocks → (block : Block) × (slice_get blocks k ≡ Some block)
    with_block [] k within = absurd (omega (arith, within))
    with_block (block ∷ blocks) zero within = (block, refl)
    with_block (block ∷ blocks) (suc k) within = with_block blocks k (omega (arith, within))

pub one_read : (metadata : FileMetadata) (bytes : List ℕ) (standing : List Dictionary) (k : ℕ) (read more : List (List Column))
    (columns : List Column) → k < length metadata.blocks.items → AreRead metadata bytes standing k read
    → batch_of metadata standing k bytes ≡ Some (map slots columns) → AreOfFields (layout_in metadata).fields columns
    → more ≡ read ++ columns ∷ [] → AreRead metadata bytes standing (k + 1) more
one_read metadata bytes standing k read more columns within are found fits pushed =
    let blocks = (start_view metadata).record_batches in
    let layout = layout_in metadata in
    let here = block_at metadata k within in
    let next : suc k ≡ k + 1 = omega arith in
    let rest = batches_from metadata bytes standing (suc k) in
    let first : asked_at None layout standing None here.0 bytes ≡ Some (map slots columns) =
    sym (ap (λ (block : Option Block). block >>= (λ b. asked_at None layout standing None b bytes)) here.1) ∙ found in
    subst (AreRead metadata bytes standing (k + 1)) (sym pushed) (record {
      left = are.left
          ∙ ap (λ later. behind (slots_of_batches read) (batches_at_blocks None layout standing None later bytes)) (drop_next blocks k here.0 here.1)
          ∙ ap (λ (given : Option (List (List Slot))). behind (slots_of_batches read)
          (given >>= (λ columns. rest >>= (λ others. Some (columns ∷ others))))) first
          ∙ behind_next (slots_of_batches read) (map slots columns) rest
          ∙ ap (λ before. behind before rest) (sym (map-append (map slots) read (columns ∷ [])))
          ∙ ap (λ n. behind (slots_of_batches (read ++ columns ∷ [])) (batches_from metadata bytes standing n)) next;
      types = All-push (AreOfFields layout.fields) read columns are.types fits;
    })

-- ---- the whole list

-- the dictionaries of a file, like which some stand
standing_there : {A : Type 0} (given : Option A) (P : A → Type 0) → IsSomeAnd given P → (x : A) × (given ≡ Some x) × P x
standing_there None P is = absurd is
standing_there (Some x) P is = (x, refl, is)

-- the batches of a file are those under dictionaries that stand like its own
batches_are : (metadata : FileMetadata) (bytes : List ℕ) (standing : List Dictionary) → ByLookUps → StandAsIn metadata standing bytes
    → batches_by_blocks None None (start_view metadata) bytes ≡ batches_from metadata bytes standing 0
batches_are metadata bytes standing enough stand =
    let own = standing_there (dictionaries_of metadata bytes) (StandAlike standing) stand in
    let blocks = (start_view metadata).record_batches in
    ap (λ (given : Option (List Dictionary)). given >>= (λ s. batches_at_blocks None (layout_in metadata) s None blocks bytes)) own.1
    ∙ sym (batches_alike enough (layout_in metadata) standing own.0 blocks bytes own.2)

pub all_read : (metadata : FileMetadata) (bytes : List ℕ) (standing : List Dictionary) (k : ℕ) (chunks : Vec (List Column) Global) → ByLookUps
    → StandAsIn metadata standing bytes → length metadata.blocks.items ≤ k → AreRead metadata bytes standing k chunks.items
    → ReadsMessages metadata bytes (Ok chunks)
all_read metadata bytes standing k chunks enough stand past are =
    let blocks = (start_view metadata).record_batches in
    let end : length blocks ≤ k = subst (λ n. n ≤ k) (sym (length-map metadata.blocks.items block_view)) past in (
      batches_are metadata bytes standing enough stand ∙ are.left
          ∙ ap (λ later. behind (slots_of_batches chunks.items) (batches_at_blocks None (layout_in metadata) standing None later bytes))
          (drop_all k blocks end) ∙ ap Some (append-nil (slots_of_batches chunks.items)),
      are.types,
    )

pub one_unread : (metadata : FileMetadata) (bytes : List ℕ) (standing : List Dictionary) (k : ℕ) (read : List (List Column)) (error : Error)
    → ByLookUps → StandAsIn metadata standing bytes → k < length metadata.blocks.items → AreRead metadata bytes standing k read
    → Refuses (IsCompressedBatch metadata k bytes) error (batch_of metadata standing k bytes) → ReadsMessages metadata bytes (Err error)
one_unread metadata bytes standing k read error enough stand within are refused =
    let blocks = (start_view metadata).record_batches in
    let layout = layout_in metadata in
    let here = block_at metadata k within in
    let rest = batches_from metadata bytes standing (suc k) in
    refused_too (IsCompressedBatch metadata k bytes) (HasUnread bytes (start_view metadata).dictionaries ⊎ HasCompressed bytes blocks) error
    (batch_of metadata standing k bytes) (batches_by_blocks None None (start_view metadata) bytes)
    (λ none. batches_are metadata bytes standing enough stand ∙ are.left
    ∙ ap (λ later. behind (slots_of_batches read) (batches_at_blocks None layout standing None later bytes)) (drop_next blocks k here.0 here.1)
    ∙ ap (λ (given : Option (List (List Slot))). behind (slots_of_batches read)
    (given >>= (λ columns. rest >>= (λ others. Some (columns ∷ others)))))
    (sym (ap (λ (block : Option Block). block >>= (λ b. asked_at None layout standing None b bytes)) here.1) ∙ none))
    (λ compressed. inr (k, compressed)) refused

pub dictionaries_refused : (metadata : FileMetadata) (bytes : List ℕ) (error : Error)
    → Refuses (HasUnreadDictionary metadata bytes) error (dictionaries_of metadata bytes) → ReadsMessages metadata bytes (Err error)
dictionaries_refused metadata bytes error refused =
    let blocks = (start_view metadata).record_batches in
    refused_too (HasUnreadDictionary metadata bytes) (HasUnread bytes (start_view metadata).dictionaries ⊎ HasCompressed bytes blocks) error
    (dictionaries_of metadata bytes) (batches_by_blocks None None (start_view metadata) bytes)
    (λ none. ap (λ (given : Option (List Dictionary)). given >>= (λ s. batches_at_blocks None (layout_in metadata) s None blocks bytes)) none)
    (λ unread. inl unread) refused

-- ---- the schema

-- a schema that is read is one that is written
pub schema_written : (bytes : List ℕ) (table : TablePlace) (found : SchemaIn) → schema_in bytes table ≡ Some found → is_writable found.schema ≡ true
unfolding schema_in
schema_written bytes table found e =
    let any = came_of {A = SchemaIn} (any_schema_in None bytes table) _ found e in
    let some = came_of {A = Bool} _ _ found any.2 in
    subst (λ (found : SchemaIn). is_writable found.schema ≡ true) (same_some {A = SchemaIn} any.0 found some.2)
    (guarded (is_writable any.0.schema) some.0 some.1)

pub start_has_arrays : (bytes : List ℕ) (start : Start) → SchemasHaveArrays → start_in bytes ≡ Some start → HasArrays (layout_of start.schema)
start_has_arrays bytes start have e =
    let its = footer_of bytes start e in have its.footer.bytes its.footer.schema start.schema its.schema

-- a file's schema in its one form may be written, and is in its one form
abbrev pub HasOneForm : Schema → Type 0
HasOneForm schema = (is_writable schema ≡ true) × (normalised schema ≡ schema)

pub start_form : (bytes : List ℕ) (start : Start) → start_in bytes ≡ Some start → HasTexts start.schema.schema
    → HasOneForm (normalised start.schema.schema)
start_form bytes start e texts =
    let its = footer_of bytes start e in (
      keeps_writable start.schema.schema ∙ schema_written its.footer.bytes its.footer.schema start.schema its.schema,
      normal_again start.schema.schema texts,
    )

-- ---- the whole

-- what isn't in the file is refused
pub file_refused : (error : Error) (bytes : List ℕ) → Refuses (HasUnimplemented file bytes) error (batches_in file bytes)
    → ReadsFile (Err error) bytes
file_refused errors.OutOfMemory bytes refused = tt
file_refused (errors.OutOfSpec what) bytes refused = refused
file_refused (errors.NotYetImplemented what) bytes refused = refused
file_refused (errors.External from what) bytes refused = absurd refused
file_refused (errors.Io what) bytes refused = absurd refused
file_refused (errors.InvalidArgumentError what) bytes refused = absurd refused
file_refused (errors.ExternalFormat what) bytes refused = absurd refused
file_refused errors.Overflow bytes refused = absurd refused

-- what isn't implemented of a file before its messages are read
pub unread_start : (bytes : List ℕ) → IsUnreadFile bytes → HasUnimplemented file bytes
unread_start bytes (inl mark) = inl mark
unread_start bytes (inr float) = inr (inl float)

pub start_refused : (error : Error) (bytes : List ℕ) → Refuses (IsUnreadFile bytes) error (start_in bytes) → ReadsFile (Err error) bytes
start_refused error bytes refused =
    file_refused error bytes (refused_too (IsUnreadFile bytes) (HasUnimplemented file bytes) error (start_in bytes) (batches_in file bytes)
    (no_batches bytes) (unread_start bytes) refused)

pub memory_refused : (error : Error) (bytes : List ℕ) → IsOutOfMemory error → ReadsFile (Err error) bytes
memory_refused errors.OutOfMemory bytes is = tt
memory_refused errors.Overflow bytes is = absurd is
memory_refused (errors.Io what) bytes is = absurd is
memory_refused (errors.NotYetImplemented what) bytes is = absurd is
memory_refused (errors.InvalidArgumentError what) bytes is = absurd is
memory_refused (errors.ExternalFormat what) bytes is = absurd is
memory_refused (errors.OutOfSpec what) bytes is = absurd is
memory_refused (errors.External from what) bytes is = absurd is

-- the batches that the format gives are those of the blocks
abbrev pub AreByBlocks : List ℕ → Start → Type 0
AreByBlocks bytes start = batches_in file bytes ≡ batches_by_blocks None None start bytes

pub messages_refused : (error : Error) (bytes : List ℕ) (metadata : FileMetadata) → start_in bytes ≡ Some (start_view metadata)
    → AreByBlocks bytes (start_view metadata) → ReadsMessages metadata bytes (Err error) → ReadsFile (Err error) bytes
messages_refused error bytes metadata e same refused =
    file_refused error bytes (refused_too _ (HasUnimplemented file bytes) error (batches_by_blocks None None (start_view metadata) bytes)
    (batches_in file bytes) (λ none. same ∙ none) (λ unread. inr (inr (unread_in_file bytes (start_view metadata) e unread))) refused)

pub read_whole : (bytes : List ℕ) (metadata : FileMetadata) (read : FileBatches) → start_in bytes ≡ Some (start_view metadata)
    → AreByBlocks bytes (start_view metadata) → read.schema ≡ normalised metadata.schema → HasOneForm read.schema
    → ReadsMessages metadata bytes (Ok read.chunks) → ReadsFile (Ok read) bytes
read_whole bytes metadata read e same normal form found =
    let start = start_view metadata in
    let all : batches_in file bytes ≡ Some (slots_of_batches read.chunks.items) = same ∙ found.0 in (
      schema_held bytes start (slots_of_batches read.chunks.items) (λ s. read.schema ≡ normalised s.schema) e
          (sym (batches_of_start bytes start e) ∙ all) normal,
      all,
      subst (λ (s : Schema). All (AreOfFields s.fields) read.chunks.items) (sym normal) found.1,
      form.0,
      form.1,
    )
