-- Batches that are appended to a file in memory (Arrow IPC, "IPC File Format"; docs/FORMAT.md, "Appending").
use Rattle.std.specs.Prelude.{◌≡◌, ◌⊎◌, ℕ, ◌<◌, ◌≤◌, ℤ, true, false, List, ◌++◌, length, map, Some, None, is_none, IsSomeAnd, Result, Ok, Err}
use Rattle.std.specs.List.{list_all}
use Rattle.std.specs.declared.alloc.Global.{Global}
use Rattle.std.specs.declared.vec.Vec.{Vec}
use Rattle.ipc_format_readers.specs.chunk_writing.ShortColumns.{are_short}
use Rattle.ipc_format_readers.specs.BlockMessages.{HasUnread}
use Rattle.ipc_format_readers.specs.FileReads.{IsUnreadFile}
use Rattle.ipc_format_readers.specs.FileStarts.{start_in}
use Rattle.ipc_format_readers.specs.chunk_writing.Tracking.{Tells, told_by}
use Rattle.ipc_format_readers.specs.chunk_writing.columnar_memory.declared.Error.{Error}
use Rattle.ipc_format_readers.specs.chunk_writing.columnar_memory.declared.Error.TheVariants as errors
use Rattle.ipc_format_readers.specs.chunk_writing.columnar_memory.declared.Schema.{Schema}
use Rattle.ipc_format_readers.specs.chunk_writing.columns.StoredColumns.{Column, in_columns}
use Rattle.ipc_format_readers.specs.chunk_writing.grammar.AppendedFiles.{Base, appended, appended_blocks, appended_bytes}
use Rattle.ipc_format_readers.specs.chunk_writing.grammar.AppendedFiles.{appended_footer, base_end, base_of, base_start}
use Rattle.ipc_format_readers.specs.chunk_writing.grammar.AppendedFiles.{has_few_dictionaries}
use Rattle.ipc_format_readers.specs.chunk_writing.grammar.GivenDictionaries.{Given, last_under, stands_for}
use Rattle.ipc_format_readers.specs.chunk_writing.grammar.Limits.{file_limit}
use Rattle.ipc_format_readers.specs.chunk_writing.grammar.Schemas.{IdsList}
use Rattle.ipc_format_readers.specs.chunk_writing.grammar.WrittenFiles.{all_given, batch_blocks, fits_file_limit, is_footer, none_replaced}
use Rattle.ipc_format_readers.specs.chunk_writing.grammar.WrittenMessages.{fits_limit}
use Rattle.ipc_format_readers.specs.chunk_writing.grammar.WrittenStreams.{Batch, batch_messages, batch_of_stored, belongs}
use Rattle.ipc_format_readers.specs.chunk_writing.grammar.WrittenStreams.{bytes_of_messages, messages_after, stored_columns}
use Rattle.ipc_format_readers.specs.chunk_writing.metadata.Views.{ids_views}
use Rattle.ipc_format_readers.specs.declared.file_metadata.FileMetadata.{FileMetadata}
use Rattle.ipc_format_readers.specs.reading_laws.StoredTables.{stored_chunks}
use Rattle.ipc_format.specs.Adding.{IsBehind, IsNotAdded}
use Rattle.ipc_format.specs.Ends.{HasNoFooter, IsFooter, end_of}
use Rattle.ipc_format.specs.Growing.{StandBehind}
use Rattle.ipc_format.specs.FilePhases.{Progress, progress_of}
use Rattle.ipc_format.specs.BlockPlacing.{IsPastLimits, joined_blocks, place_behind}
use Rattle.ipc_format.specs.declared.state as kept_state

-- the batches that are written of stored columns under some ids
abbrev pub batches_of : IdsList → List (List Column) → List Batch
batches_of ids chunks = map (batch_of_stored ids) chunks

-- what is written of a file with batches behind it, where some dictionaries were told: where the next message stands then, and the blocks
abbrev pub with_batches : Progress → List Given → List Batch → Progress
with_batches before told batches = record before {
  place = place_behind before.place (messages_after told batches);
  blocks = joined_blocks before.blocks (batch_blocks before.place told batches);
}

-- Dictionaries are told alike where the same is written after either of them: under each id the last one, if there is one, says the same.
pub record ToldAlike (first second : List Given) : Type 0 where
  pub known : (id : ℤ) → is_none (last_under id first) ≡ is_none (last_under id second)
  pub same : (given : Given) → stands_for given (last_under given.id first) ≡ stands_for given (last_under given.id second)

-- ---- why batches are not appended

-- an array, at some depth of some batch, is longer than arrays may be
abbrev pub HasLongArray : List (List Column) → Type 0
HasLongArray chunks = list_all (λ (columns : List Column). are_short (in_columns columns)) chunks ≡ false

-- a batch doesn't belong to the file's schema, or one of its dictionaries differs from an earlier one under its id, or an array is too long
abbrev pub AreRefused : Base → List (List Column) → Type 0
AreRefused base chunks = (list_all (belongs base.found.schema base.found.ids) (stored_chunks chunks) ≡ false)
    ⊎ ((none_replaced base.told (all_given (batches_of base.found.ids chunks)) ≡ false) ⊎ HasLongArray chunks)

-- a message, the footer or the file would be too long, or the file would have more dictionaries than are read of one
abbrev pub ArePastLimits : List ℕ → Base → List (List Column) → Type 0
ArePastLimits bytes base chunks = let batches = batches_of base.found.ids chunks in
    (list_all fits_limit (messages_after base.told batches) ≡ false)
    ⊎ ((has_few_dictionaries (appended_blocks base batches) ≡ false)
    ⊎ ((is_footer (appended_footer base batches) ≡ false) ⊎ (fits_file_limit (appended_bytes base bytes batches) ≡ false)))

-- the file's numbers have their highest byte first
abbrev pub IsBigEndian : List ℕ → Type 0
IsBigEndian bytes = IsSomeAnd (start_in bytes) (λ start. start.schema.is_little_endian ≡ false)

-- the message of one of its dictionaries is compressed, or adds to an earlier one
abbrev pub HasUnreadDictionaries : List ℕ → Type 0
HasUnreadDictionaries bytes = IsSomeAnd (start_in bytes) (λ start. HasUnread bytes start.dictionaries)

-- ---- the call

-- What is given are the bytes of the file with the batches appended. What is refused the format doesn't give, but for want of memory and for
-- arrays that are longer than arrays may be: to what is out of specification nothing may be appended, as to what isn't implemented; an invalid
-- argument is a batch that may not be; and what overflows would be past a limit.
abbrev pub AppendsFile : Result (Vec ℕ Global) Error → List ℕ → List (List Column) → Type 0
AppendsFile (Ok new) bytes chunks = appended bytes (stored_chunks chunks) ≡ Some new.items
AppendsFile (Err errors.OutOfMemory) bytes chunks = Unit {0}
AppendsFile (Err (errors.OutOfSpec what)) bytes chunks = base_of bytes ≡ None
AppendsFile (Err (errors.NotYetImplemented what)) bytes chunks =
    (base_of bytes ≡ None) × (IsUnreadFile bytes ⊎ (IsBigEndian bytes ⊎ HasUnreadDictionaries bytes))
AppendsFile (Err (errors.InvalidArgumentError what)) bytes chunks = IsSomeAnd (base_of bytes) (λ base. AreRefused base chunks)
AppendsFile (Err errors.Overflow) bytes chunks = IsSomeAnd (base_of bytes) (λ base. ArePastLimits bytes base chunks)
AppendsFile (Err _) bytes chunks = ⊥

-- ---- steps

-- a batch's messages were put behind some bytes, and it stands behind what was written of the file
pub record IsAppended (old new : Progress) (schema : Schema) (ids : IdsList) (told : List Given) (columns : List Column) (before after : List ℕ)
    : Type 0 where
  pub belongs_to : belongs schema ids (stored_columns columns) ≡ true
  pub once : none_replaced told (batch_of_stored ids columns).given ≡ true
  pub limits : list_all fits_limit (batch_messages told (batch_of_stored ids columns)) ≡ true
  pub behind : IsBehind old new told (batch_of_stored ids columns)
  pub bytes : after ≡ before ++ bytes_of_messages (batch_messages told (batch_of_stored ids columns))

-- they were; or the batch is not added, or memory ran out
abbrev pub AppendsAfter : List Given → Schema → IdsList → Progress → Progress → List Column → List ℕ → List ℕ → Result (Unit {0}) Error → Type 0
AppendsAfter told schema ids old new columns before after (Ok _) = IsAppended old new schema ids told columns before after
AppendsAfter told schema ids old new columns before after (Err error) = IsNotAdded error schema ids told columns old

-- the same wherever the file tells what was told
abbrev pub AppendsBatch : Schema → IdsList → Progress → Progress → List Column → List ℕ → List ℕ → Result (Unit {0}) Error → Type 0
AppendsBatch schema ids old new columns before after result =
    (told : List Given) → Tells old.told told → AppendsAfter told schema ids old new columns before after result

-- the messages of batches were put behind some bytes, one batch after another
pub record AreAppended (old new : Progress) (schema : Schema) (ids : IdsList) (told : List Given) (chunks : List (List Column))
    (before after : List ℕ) : Type 0 where
  pub belong : list_all (belongs schema ids) (stored_chunks chunks) ≡ true
  pub once : none_replaced told (all_given (batches_of ids chunks)) ≡ true
  pub limits : list_all fits_limit (messages_after told (batches_of ids chunks)) ≡ true
  pub stand : StandBehind old new told (batches_of ids chunks)
  pub few : has_few_dictionaries new.blocks ≡ true
  pub bytes : after ≡ before ++ bytes_of_messages (messages_after told (batches_of ids chunks))

-- Why batches are not appended, where some dictionaries are told: one doesn't belong to the schema, or one of its dictionaries differs from an
-- earlier one, or an array is too long; or a message is, or the file would be past its limits; or memory ran out.
abbrev pub AreNotAppended : Error → Progress → Schema → IdsList → List Given → List (List Column) → Type 0
AreNotAppended errors.OutOfMemory old schema ids told chunks = Unit {0}
AreNotAppended (errors.InvalidArgumentError what) old schema ids told chunks = (list_all (belongs schema ids) (stored_chunks chunks) ≡ false)
    ⊎ ((none_replaced told (all_given (batches_of ids chunks)) ≡ false) ⊎ HasLongArray chunks)
AreNotAppended errors.Overflow old schema ids told chunks = (list_all fits_limit (messages_after told (batches_of ids chunks)) ≡ false)
    ⊎ IsPastLimits (with_batches old told (batches_of ids chunks))
AreNotAppended _ old schema ids told chunks = ⊥

abbrev pub AppendAfter : List Given → Schema → IdsList → Progress → Progress → List (List Column) → List ℕ → List ℕ → Result (Unit {0}) Error
    → Type 0
AppendAfter told schema ids old new chunks before after (Ok _) = AreAppended old new schema ids told chunks before after
AppendAfter told schema ids old new chunks before after (Err error) = AreNotAppended error old schema ids told chunks

-- the same wherever the file tells what was told
abbrev pub AppendsBatches : Schema → IdsList → Progress → Progress → List (List Column) → List ℕ → List ℕ → Result (Unit {0}) Error → Type 0
AppendsBatches schema ids old new chunks before after result =
    (told : List Given) → Tells old.told told → AppendAfter told schema ids old new chunks before after result

-- the end mark, zeros where the file was longer before, and a footer were put behind some bytes; or there is no footer, or memory ran out
abbrev pub AppendsEnd : Schema → IdsList → Progress → List ℕ → List ℕ → Result (Unit {0}) Error → Type 0
AppendsEnd schema ids progress before after (Ok _) =
    (footer : List ℕ) × IsFooter footer schema ids progress × (after ≡ before ++ end_of progress footer)
AppendsEnd schema ids progress before after (Err error) = HasNoFooter error schema ids progress

-- ---- the file as it was

-- What stands of a file, and where its last message ends, as the format gives it.
pub record IsKept (metadata : FileMetadata) (end : ℕ) (progress : Progress) (bytes : List ℕ) (base : Base) : Type 0 where
  pub given : base_of bytes ≡ Some base
  pub schema : metadata.schema ≡ base.found.schema
  pub ids : ids_views metadata.ipc_schema.fields ≡ base.found.ids
  pub ends : end ≡ base_end base
  pub place : progress.place ≡ base_start base
  pub size : progress.size ≡ length bytes
  pub short : length bytes < file_limit
  pub blocks : progress.blocks ≡ record { dictionaries = base.dictionaries; record_batches = base.record_batches }
  pub told : ToldAlike (told_by progress.told) base.told
  pub few : has_few_dictionaries progress.blocks ≡ true

-- why nothing is kept of a file: nothing may be appended to it, or it isn't implemented, or it is past the limit of files, or memory ran out
abbrev pub IsNotKept : Error → List ℕ → Type 0
IsNotKept errors.OutOfMemory bytes = Unit {0}
IsNotKept (errors.OutOfSpec what) bytes = base_of bytes ≡ None
IsNotKept (errors.NotYetImplemented what) bytes =
    (base_of bytes ≡ None) × (IsUnreadFile bytes ⊎ (IsBigEndian bytes ⊎ HasUnreadDictionaries bytes))
IsNotKept errors.Overflow bytes = IsSomeAnd (base_of bytes) (λ base. file_limit ≤ length bytes)
IsNotKept _ bytes = ⊥

-- it is kept; or it isn't
abbrev pub KeepsFile : List ℕ → Result (FileMetadata × ℕ × kept_state.Progress.Progress) Error → Type 0
KeepsFile bytes (Ok found) = (base : Base) × IsKept found.0 found.1 (progress_of found.2) bytes base
KeepsFile bytes (Err error) = IsNotKept error bytes
