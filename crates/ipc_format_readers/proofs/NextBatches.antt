-- What comes of a reader's next batch: its file's dictionaries are taken, the columns are read in the order in which they stand, and put where they
-- were asked for.
use Rattle.std.proofs.Common.{◌≡◌, ◌∙◌, ℕ, ◌+◌, ◌<◌, ℤ, List, [], ◌∷◌, length, map, refl, sym, ap, subst, inl, inr, arith}
use Rattle.std.proofs.lemmas.List.{length-map}
use Rattle.std.specs.Prelude.{Option, Some, None, IsErrAnd, IsSome, IsSomeAnd, Result, Ok, Err, slice_get}
use Rattle.std.specs.Option.{option_map}
use Rattle.ipc_format_readers.specs.Asking.{AreReady, HasKept, as_asked, asked_of, rising_of}
use Rattle.ipc_format_readers.specs.Hearing.{HasTypes}
use Rattle.ipc_format_readers.specs.declared.asking.Asked.{Asked}
use Rattle.ipc_format_chunk_writing.specs.BatchReads.{asked_fields, sized}
use Rattle.ipc_format_chunk_writing.specs.Below.{type_of}
use Rattle.ipc_format_chunk_writing.specs.Projections.{ChoicesArePutBack}
use Rattle.ipc_format_chunk_writing.specs.Readable.{HasArrays}
use Rattle.ipc_format_chunk_writing.specs.Rooms.{ForBytes, Stays, Told}
use Rattle.ipc_format_chunk_writing.specs.Standing.{ByLookUps, StandAlike}
use Rattle.ipc_format_chunk_writing.specs.Chunks.{rows_of}
use Rattle.ipc_format_chunk_writing.specs.columnar_memory.Error.{IsOutOfMemory}
use Rattle.ipc_format_chunk_writing.specs.columnar_memory.declared.Error.{Error}
use Rattle.ipc_format_chunk_writing.specs.columnar_memory.declared.Error.TheVariants as errors
use Rattle.ipc_format_chunk_writing.specs.columnar_memory.declared.Schema.{Schema}
use Rattle.ipc_format_chunk_writing.specs.columns.Slots.{Slot}
use Rattle.ipc_format_chunk_writing.specs.columns.StoredColumns.{Column, column_len, column_type, slot_at, slots}
use Rattle.ipc_format_chunk_writing.specs.columns.Tables.{rows_of_columns}
use Rattle.ipc_format_chunk_writing.specs.flatbuffers.Reading.{◌>>=◌}
use Rattle.ipc_format_chunk_writing.specs.grammar.Columns.{Dictionary, standing_for}
use Rattle.ipc_format_chunk_writing.specs.grammar.Dictionaries.{Layout}
use Rattle.ipc_format_chunk_writing.specs.grammar.Files.{Block}
use Rattle.ipc_format_chunk_writing.specs.grammar.Tables.{left_of}
use Rattle.ipc_format_chunk_writing.specs.grammar.Writable.{normalised}
use Rattle.ipc_format_readers.proofs.AskedPlaces.{alike_back, map_back}
use Rattle.ipc_format_readers.proofs.AskedTurns.{chunk_kept}
use Rattle.ipc_format_readers.proofs.Rows.{length-window}
use Rattle.ipc_format_chunk_writing.proofs.PutBack.{inside_some}
use Rattle.ipc_format_readers.specs.BlockMessages.{IsCompressedAt}
use Rattle.ipc_format_readers.specs.FileReadings.{AnswersAt, FileReading, GivesBatch, IsBehindBlock, IsUnreadNext, KeepsStanding, NextGivesBatch}
use Rattle.ipc_format_readers.specs.FileReadings.{columns_at, standing_or, told_of}
use Rattle.ipc_format_readers.specs.FileReads.{HasUnreadDictionary, IsCompressedBatch, ReadsBatchOf, RefusesOf, asked_at, batch_of_file}
use Rattle.ipc_format_readers.specs.FileReads.{dictionaries_of}
use Rattle.ipc_format_readers.specs.FileStarts.{block_view, layout_in, start_view}
use Rattle.ipc_format_readers.specs.ReaderSteps.{GivesAt, TakesDictionaries}
use Rattle.ipc_format_readers.specs.declared.blocks.MessageBlock.{MessageBlock}
use Rattle.ipc_format_readers.specs.declared.file_metadata.FileMetadata.{FileMetadata}
use Rattle.ipc_format_readers.proofs.AskedBatches.{asked_alike, asked_back}
use Rattle.ipc_format_readers.proofs.Rooms.{refuses_too, stays_further, stays_same}

-- ---- dictionaries

module _ {A : Type 0} (metadata : FileMetadata) (old new : Told) where
  room_stays : (before after : Option (List Dictionary)) (done : A) → TakesDictionaries metadata old new before after (Ok done) → Stays old new
  room_stays None after done takes = takes.0
  room_stays (Some standing) after done takes = takes.1

  -- what stands then is what the batches are read under
  stand_for : (before : Option (List Dictionary)) (standing : List Dictionary) (done : A)
      → TakesDictionaries metadata old new before (Some standing) (Ok done)
      → ForBytes old (λ bytes. IsSomeAnd (standing_or metadata bytes before) (StandAlike standing))
  stand_for None standing done takes = takes.1
  stand_for (Some other) standing done takes = λ bytes e id. ap (standing_for_in id) takes.0
    where
      standing_for_in : ℤ → Option (List Dictionary) → Option Dictionary
      standing_for_in id None = None
      standing_for_in id (Some given) = standing_for id given

keeps : {A R : Type 0} (told : R → Told) (old : FileReading R) (new : Told) (before after : Option (List Dictionary)) (result : Result A Error)
    → TakesDictionaries old.metadata (told_of told old) new before after result → KeepsStanding told old before after
keeps told old new (Some standing) after result takes = takes.0
keeps told old new None None result takes = tt
keeps told old new None (Some standing) (Ok done) takes = takes.1
keeps told old new None (Some standing) (Err error) takes = absurd cc

-- ---- refusals

without_memory : {A : Type 0} (old new : Told) (Unread : List ℕ → Type 0) (given : List ℕ → Option A) (error : Error) → IsOutOfMemory error
    → RefusesOf old new Unread given error
without_memory old new Unread given errors.OutOfMemory is = tt
without_memory old new Unread given (errors.Io what) is = absurd is
without_memory old new Unread given (errors.OutOfSpec text) is = absurd is
without_memory old new Unread given (errors.NotYetImplemented text) is = absurd is
without_memory old new Unread given (errors.External from what) is = absurd is
without_memory old new Unread given (errors.InvalidArgumentError what) is = absurd is
without_memory old new Unread given (errors.ExternalFormat what) is = absurd is
without_memory old new Unread given errors.Overflow is = absurd is

-- ---- columns

-- how many rows a batch has
pub rows_are : (chunk : List Column) → rows_of (λ (array : Column). array) chunk ≡ rows_of_columns (map slots chunk)
rows_are [] = refl
rows_are (column ∷ columns) = sym (length-window (slot_at column) 0 (column_len column))

-- the slots of columns that are put where they were asked for
slots_as_asked : (asked : Option Asked) (chunk : List Column) → as_asked asked (map slots chunk) ≡ map slots (as_asked asked chunk)
slots_as_asked None chunk = refl
slots_as_asked (Some asked) chunk = sym (map_back slots chunk asked.places.entries)

types_as_asked : (layout : Layout) (asked : Option Asked) (chunk : List Column) → AreReady (length layout.fields) asked
    → HasTypes (rising_of asked) layout chunk
    → map column_type (as_asked asked chunk) ≡ map type_of (asked_fields (asked_of asked) layout.fields)
types_as_asked layout None chunk ready types = types
types_as_asked layout (Some asked) chunk ready types =
    alike_back column_type type_of chunk layout.fields asked.rising.items asked.places.entries ready.rise types

-- there are as many fields by which columns are read as in the schema
ready_fields : (metadata : FileMetadata) (asked : Option Asked) → AreReady (length metadata.schema.fields) asked
    → AreReady (length (layout_in metadata).fields) asked
unfolding normalised
ready_fields metadata asked ready =
    subst (λ (width : ℕ). AreReady width asked) (sym (length-map metadata.schema.fields _)) ready

pub kept_of : (metadata : FileMetadata) (asked : Option Asked) (projection : Option (List ℕ)) (chunk : List Column)
    → AreReady (length metadata.schema.fields) asked → projection ≡ rising_of asked → HasTypes projection (layout_in metadata) chunk
    → HasKept asked chunk
kept_of metadata asked projection chunk ready rising types =
    chunk_kept (layout_in metadata) asked chunk (ready_fields metadata asked ready)
    (subst (λ (columns : Option (List ℕ)). HasTypes columns (layout_in metadata) chunk) rising types)

-- ---- the batch at a block

-- what is known of each block holds of the one at a place
at_place : (blocks : List MessageBlock) (index : ℕ) (P : Block → Type 0) → index < length blocks
    → ((block : Block) → slice_get (map block_view blocks) index ≡ Some block → P block)
    → IsSomeAnd (slice_get (map block_view blocks) index) P
at_place blocks index P within each =
    let long = length-map blocks block_view in
    let there = inside_some (map block_view blocks) index (omega (arith, long, within)) in
    subst (λ (found : Option Block). IsSomeAnd found P) (sym there.1) (each there.0 there.1)

-- a reader by what it keeps
abbrev pub reading_of : {R : Type 0} → R → FileMetadata → Option Asked → Option ℕ → Option (List Dictionary) → ℕ → FileReading R
reading_of room metadata asked limit standing next = record {
  room = room;
  metadata = metadata;
  columns = asked_of asked;
  limit = limit;
  standing = standing;
  next = next;
}

-- the columns at a block are those under the dictionaries that stand
under_standing : ByLookUps → (layout : Layout) (columns : Option (List ℕ)) (limit : Option ℕ) (block : Block) (bytes : List ℕ)
    (standing : List Dictionary) (found : Option (List Dictionary)) → IsSomeAnd found (StandAlike standing)
    → (found >>= (λ (given : List Dictionary). asked_at columns layout given limit block bytes))
    ≡ asked_at columns layout standing limit block bytes
under_standing enough layout columns limit block bytes standing None alike = absurd alike
under_standing enough layout columns limit block bytes standing (Some given) alike =
    sym (asked_alike enough layout standing given columns limit block bytes alike)

module _ {R : Type 0} (told : R → Told) (metadata : FileMetadata) (asked : Option Asked) (limit : Option ℕ)
    (before : Option (List Dictionary)) (next : ℕ) (room : R) where
  abbrev old : FileReading R
  old = reading_of room metadata asked limit before next

  abbrev new : R → Option ℕ → Option (List Dictionary) → FileReading R
  new left limit_after after = reading_of left metadata asked limit_after after next

  abbrev told_in : R → Told
  told_in left = sized metadata.size (told left)

  -- the dictionaries were refused
  pub refused_before : (left : R) (after : Option (List Dictionary)) (index : ℕ) (error : Error) → index < length metadata.blocks.items
      → TakesDictionaries {A = Unit {0}} metadata (told_in room) (told_in left) before after (Err error)
      → GivesAt told old (new left limit after) index (Err error)
  refused_before left after index error within takes = record {
    metadata = refl;
    columns = refl;
    next = refl;
    standing = keeps told old (told_in left) before after (Err error) takes;
    gives = at_place metadata.blocks.items index (λ block. GivesBatch told old (new left limit after) block (Err error)) within
        (λ block here. (refl, refused block before takes));
  }
    where
      refused : (block : Block) (earlier : Option (List Dictionary))
          → TakesDictionaries {A = Unit {0}} metadata (told_in room) (told_in left) earlier after (Err error)
          → RefusesOf (told_in room) (told_in left) (IsUnreadNext (reading_of room metadata asked limit earlier next) block)
          (columns_at (reading_of room metadata asked limit earlier next) block) error
      refused block None takes =
          refuses_too (told_in room) (told_in room) (told_in left) (HasUnreadDictionary metadata)
          (IsUnreadNext (reading_of room metadata asked limit None next) block) (dictionaries_of metadata)
          (columns_at (reading_of room metadata asked limit None next) block) error (stays_same (told_in room)) (λ bytes e unread. inl unread)
          (λ bytes e none. ap (λ (found : Option (List Dictionary)). found
          >>= (λ (given : List Dictionary). asked_at (asked_of asked) (layout_in metadata) given limit block bytes)) none) takes.1
      refused block (Some standing) takes = absurd cc

  module _ (enough : ByLookUps) (mid left : R) (after : Option (List Dictionary)) (standing : List Dictionary) (there : after ≡ Some standing)
      (index : ℕ) (within : index < length metadata.blocks.items) (done : Unit {0})
      (takes : TakesDictionaries metadata (told_in room) (told_in mid) before after (Ok done)) where
    -- the columns at the block, by those under the dictionaries that stand
    comes : (block : Block) → ForBytes (told_in room)
        (λ bytes. columns_at old block bytes ≡ asked_at (asked_of asked) (layout_in metadata) standing limit block bytes)
    comes block bytes e =
        under_standing enough (layout_in metadata) (asked_of asked) limit block bytes standing (standing_or metadata bytes before)
        (stand_for metadata (told_in room) (told_in mid) before standing done
        (subst (λ (it : Option (List Dictionary)). TakesDictionaries metadata (told_in room) (told_in mid) before it (Ok done)) there takes) bytes e)

    stays : Stays (told_in room) (told_in mid)
    stays = room_stays metadata (told_in room) (told_in mid) before after done takes

    -- what comes at a place, by what comes of the block there
    by_block : (limit_after : Option ℕ) (result : Result (List Column) Error)
        → ((block : Block) → slice_get (start_view metadata).record_batches index ≡ Some block
        → GivesBatch told old (new left limit_after after) block result)
        → GivesAt told old (new left limit_after after) index result
    by_block limit_after result each = record {
      metadata = refl;
      columns = refl;
      next = refl;
      standing = keeps told old (told_in mid) before after (Ok done) takes;
      gives = at_place metadata.blocks.items index (λ block. GivesBatch told old (new left limit_after after) block result) within each;
    }

    -- there was no memory to put the columns where they were asked for
    pub refused_behind : (result : Result (List Column) Error) → IsErrAnd result IsOutOfMemory
        → GivesAt told old (new left limit after) index result
    refused_behind (Ok chunk) memory = absurd memory
    refused_behind (Err error) memory =
        by_block limit (Err error)
        (λ block here. (refl, without_memory (told_in room) (told_in left) (IsUnreadNext old block) (columns_at old block) error memory))

    module _ (law : ChoicesArePutBack) (have : HasArrays (layout_in metadata)) (ready : AreReady (length metadata.schema.fields) asked)
        (projection : Option (List ℕ)) (rising : projection ≡ rising_of asked) where
      -- the columns at the block, by the rising ones
      comes_asked : (block : Block) (found : Option (List (List Slot))) → slice_get (start_view metadata).record_batches index ≡ Some block
          → ForBytes (told_in room) (λ bytes. batch_of_file metadata projection standing limit index bytes ≡ found
          → columns_at old block bytes ≡ option_map (as_asked asked) found)
      comes_asked block found here bytes e is =
          comes block bytes e
          ∙ asked_back law (layout_in metadata) have standing limit (length metadata.schema.fields) asked ready block bytes found
          (ap (λ (columns : Option (List ℕ)). asked_at columns (layout_in metadata) standing limit block bytes) (sym rising)
          ∙ sym (ap (λ (at : Option Block). at >>= (λ (it : Block). asked_at projection (layout_in metadata) standing limit it bytes)) here)
          ∙ is)

      -- the batch was refused
      pub refused_batch : (error : Error) → ReadsBatchOf metadata projection standing limit index (told_in mid) (told_in left) (Err error)
          → GivesAt told old (new left limit after) index (Err error)
      refused_batch error refused =
          by_block limit (Err error) (λ block here. (
            refl,
            refuses_too (told_in room) (told_in mid) (told_in left) (IsCompressedBatch metadata index) (IsUnreadNext old block)
                (batch_of_file metadata projection standing limit index) (columns_at old block) error stays
                (λ bytes e unread. inr (subst (λ (found : Option Block). IsSomeAnd found (IsCompressedAt bytes)) here unread))
                (λ bytes e none. comes_asked block None here bytes e none) refused,
          ))

      -- it is given
      pub given_batch : (chunk ordered : List Column) (limit_after : Option ℕ)
          → ReadsBatchOf metadata projection standing limit index (told_in mid) (told_in left) (Ok chunk)
          → HasTypes projection (layout_in metadata) chunk → ordered ≡ as_asked asked chunk
          → limit_after ≡ left_of limit (rows_of (λ (array : Column). array) ordered)
          → GivesAt told old (new left limit_after after) index (Ok ordered)
      given_batch chunk ordered limit_after reads types put limited =
          by_block limit_after (Ok ordered) (λ block here. (
            ap (map column_type) put ∙ types_as_asked (layout_in metadata) asked chunk (ready_fields metadata asked ready)
                (subst (λ (columns : Option (List ℕ)). HasTypes columns (layout_in metadata) chunk) rising types),
            subst (λ (found : Option (List Dictionary)). IsSome found) (sym there) refl,
            limited ∙ ap (left_of limit) (rows_are ordered),
            stays_further (told_in room) (told_in mid) (told_in left) stays reads.0,
            λ bytes e. comes_asked block (Some (map slots chunk)) here bytes e (reads.1 bytes (stays.0 ∙ e))
                ∙ ap Some (slots_as_asked asked chunk ∙ sym (ap (map slots) put)),
          ))

-- ---- the next batch

module _ {R : Type 0} (told : R → Told) (old new : FileReading R) where
  -- the reader, whose next block is the one at a place
  abbrev moved : ℕ → FileReading R
  moved place = record old { next = place }

  keeps_too : (place : ℕ) (before after : Option (List Dictionary)) → KeepsStanding told (moved place) before after
      → KeepsStanding told old before after
  keeps_too place (Some standing) after kept = kept
  keeps_too place None None kept = tt
  keeps_too place None (Some standing) kept = kept

  answers : (place : ℕ) (found : Option Block) (result : Result (List Column) Error)
      → IsSomeAnd found (λ block. GivesBatch told (moved place) new block result) → IsBehindBlock told old new
      → AnswersAt told found old (Some result) new
  answers place None result gives behind = absurd gives
  answers place (Some block) (Ok chunk) gives behind = (behind, gives)
  answers place (Some block) (Err error) gives behind = (behind, gives)

  pub batch_answers : (place : ℕ) (result : Result (List Column) Error) → place ≡ old.next + 1
      → GivesAt told (moved place) new old.next result → NextGivesBatch told old (Some result) new
  batch_answers place result is gives =
      answers place (slice_get (start_view old.metadata).record_batches old.next) result gives.gives (record {
        metadata = gives.metadata;
        columns = gives.columns;
        next = gives.next ∙ is;
        standing = keeps_too place old.standing new.standing gives.standing;
      })

-- ---- a reader that is made

-- what is ready to be read of the one form of a schema is ready to be read of the schema
pub ready_of_normal : (schema normal : Schema) (asked : Option Asked) → normal ≡ normalised schema → AreReady (length normal.fields) asked
    → AreReady (length schema.fields) asked
unfolding normalised
ready_of_normal schema normal asked is ready =
    let same : length normal.fields ≡ length schema.fields = ap (λ (it : Schema). length it.fields) is ∙ length-map schema.fields _ in
    subst (λ (width : ℕ). AreReady width asked) same ready
