-- What a writer's calls answer, and what they leave (Arrow IPC, "IPC File Format").
use Rattle.std.specs.Prelude.{◌≡◌, ◌⊎◌, ℕ, Bool, true, List, Option, Some, None, Result, Ok, Err}
use Rattle.std.specs.Io.KnownBytes.{Appends}
use Rattle.ipc_format_readers.specs.chunk_writing.Objections.{IsNotStarted}
use Rattle.ipc_format_readers.specs.chunk_writing.Opening.{fields_or}
use Rattle.ipc_format_readers.specs.chunk_writing.Tracking.{Tells}
use Rattle.ipc_format_readers.specs.chunk_writing.columnar_memory.Error.{IsOutOfMemory}
use Rattle.ipc_format_readers.specs.chunk_writing.columnar_memory.declared.Error.{Error}
use Rattle.ipc_format_readers.specs.chunk_writing.columnar_memory.declared.Error.TheVariants as errors
use Rattle.ipc_format_readers.specs.chunk_writing.columnar_memory.declared.Schema.{Schema}
use Rattle.ipc_format_readers.specs.chunk_writing.columns.StoredColumns.{Column}
use Rattle.ipc_format_readers.specs.chunk_writing.declared.Compression.{Compression}
use Rattle.ipc_format_readers.specs.chunk_writing.grammar.GivenDictionaries.{Given}
use Rattle.ipc_format_readers.specs.chunk_writing.grammar.Ids.{ids_fit_fields}
use Rattle.ipc_format_readers.specs.chunk_writing.grammar.Schemas.{IdsList}
use Rattle.ipc_format_readers.specs.chunk_writing.grammar.Tables.{file}
use Rattle.ipc_format_readers.specs.chunk_writing.grammar.WriterRuns.{write_bar}
use Rattle.ipc_format_readers.specs.chunk_writing.grammar.WrittenMessages.{fits_limit, schema_written}
use Rattle.ipc_format_readers.specs.chunk_writing.grammar.WrittenStreams.{batch_messages, batch_of_stored, bytes_of_messages}
use Rattle.ipc_format_readers.specs.chunk_writing.grammar.WrittenStreams.{is_written_with, stored_columns}
use Rattle.ipc_format_readers.specs.chunk_writing.metadata.Views.{ids_views}
use Rattle.ipc_format_readers.specs.chunk_writing.metadata.declared.ipc_schema.IpcField.{IpcField}
use Rattle.ipc_format_readers.specs.streams.Devices.{AppendsBeginning, IsRefusedWrite}
use Rattle.ipc_format.specs.Adding.{IsBehind, IsNotAdded}
use Rattle.ipc_format.specs.Ends.{HasNoFooter, IsFooter, end_of, footer_of, start_bytes}
use Rattle.ipc_format.specs.FileOpening.{first_progress}
use Rattle.ipc_format.specs.FilePhases.{Phase, Progress, Writer, broken, finished, fresh, started}

-- ---- a new writer

-- a writer of files of a schema with some ids over a device, which has written nothing
pub record IsNew {W : Type 0} (writer : Writer W) (device : W) (schema : Schema) (ids : IdsList) (compression : Option Compression) : Type 0 where
  pub same_device : writer.device ≡ device
  pub same_schema : writer.schema ≡ schema
  pub same_ids : ids_views writer.ids ≡ ids
  pub same_compression : writer.compression ≡ compression
  pub nothing : writer.phase ≡ fresh

-- it is given; or memory ran out
abbrev pub IsMade : {W : Type 0} → Result (Writer W) Error → W → Schema → IdsList → Option Compression → Type 0
IsMade (Ok writer) device schema ids compression = IsNew writer device schema ids compression
IsMade (Err error) device schema ids compression = IsOutOfMemory error

-- What a device shows of its bytes, where they are known, how often it has failed, and whether devices of its kind are memory alone
module _ {W : Type 0} (contents : W → Option (List ℕ)) (failures : W → ℕ) (in_memory : Bool) where
  -- some bytes were written, the device has failed as often as before, and the file is so far
  pub record Sends (old new : Writer W) (bytes : List ℕ) (now : Phase) : Type 0 where
    pub device : Appends (contents old.device) (contents new.device) bytes
    pub count : failures new.device ≡ failures old.device
    pub schema : new.schema ≡ old.schema
    pub ids : new.ids ≡ old.ids
    pub compression : new.compression ≡ old.compression
    pub phase : new.phase ≡ now

  -- The device failed where some bytes were to be written: a beginning of them is, perhaps all. Memory refuses for want of memory alone.
  pub record Breaks (old new : Writer W) (bytes : List ℕ) (error : Error) : Type 0 where
    pub device : AppendsBeginning (contents old.device) (contents new.device) bytes
    pub why : IsRefusedWrite in_memory (failures old.device) (failures new.device) error
    pub schema : new.schema ≡ old.schema
    pub ids : new.ids ≡ old.ids
    pub compression : new.compression ≡ old.compression
    pub phase : new.phase ≡ broken

  -- a call that comes out of order is out of specification, and changes nothing
  abbrev pub IsOutOfOrder : {A : Type 0} → Writer W → Writer W → Result A Error → Type 0
  IsOutOfOrder old new (Ok answer) = ⊥
  IsOutOfOrder old new (Err (errors.OutOfSpec what)) = new ≡ old
  IsOutOfOrder old new (Err _) = ⊥

  -- ---- start

  pub record IsStarted (old new : Writer W) : Type 0 where
    pub may : is_written_with old.schema (ids_views old.ids) ≡ true
    pub fits : fits_limit (schema_written old.schema (ids_views old.ids)) ≡ true
    pub sends : Sends old new (start_bytes old.schema (ids_views old.ids)) (started (first_progress old.schema (ids_views old.ids)))

  abbrev pub StartsFresh : Writer W → Writer W → Result (Unit {0}) Error → Type 0
  StartsFresh old new (Ok _) = IsStarted old new
  StartsFresh old new (Err error) =
      (IsNotStarted error old.schema (ids_views old.ids) × (new ≡ old)) ⊎ Breaks old new (start_bytes old.schema (ids_views old.ids)) error

  abbrev pub StartsIn : Phase → Writer W → Writer W → Result (Unit {0}) Error → Type 0
  StartsIn fresh old new result = StartsFresh old new result
  StartsIn _ old new result = IsOutOfOrder old new result

  -- The mark and the schema's message are written, and the file is started; or it is refused.
  abbrev pub Starts : Writer W → Writer W → Result (Unit {0}) Error → Type 0
  Starts old new result = StartsIn old.phase old new result

  -- a new writer was made, and its device failed when it was started
  pub record BreaksAtStart (device : W) (schema : Schema) (ids : IdsList) (compression : Option Compression) (error : Error) : Type 0 where
    pub made : Writer W
    pub after : Writer W
    pub is_new : IsNew made device schema ids compression
    pub breaks : Breaks made after (start_bytes made.schema (ids_views made.ids)) error

  -- a new writer is made and started; or the schema is not written, or memory ran out, or the device failed
  abbrev pub IsMadeStarted : Result (Writer W) Error → W → Schema → IdsList → Option Compression → Type 0
  IsMadeStarted (Ok writer) device schema ids compression =
      (made : Writer W) × IsNew made device schema ids compression × IsStarted made writer
  IsMadeStarted (Err error) device schema ids compression =
      IsNotStarted error schema ids ⊎ BreaksAtStart device schema ids compression error

  -- ---- write

  -- a batch's messages were written with some ids, and the batch stands behind what was written
  pub record IsWritten (old new : Writer W) (before : Progress) (ids : IdsList) (told : List Given) (columns : List Column) : Type 0 where
    pub fit : ids_fit_fields old.schema.fields ids ≡ true
    pub bar : write_bar file old.schema ids told (stored_columns columns) ≡ None
    pub after : Progress
    pub behind : IsBehind before after told (batch_of_stored ids columns)
    pub sends : Sends old new (bytes_of_messages (batch_messages told (batch_of_stored ids columns))) (started after)

  abbrev pub WritesBatch : Writer W → Writer W → Progress → IdsList → List Given → List Column → Result (Unit {0}) Error → Type 0
  WritesBatch old new before ids told columns (Ok _) = IsWritten old new before ids told columns
  WritesBatch old new before ids told columns (Err error) = (IsNotAdded error old.schema ids told columns before × (new ≡ old))
      ⊎ Breaks old new (bytes_of_messages (batch_messages told (batch_of_stored ids columns))) error

  -- no body is compressed
  abbrev pub IsNotCompressed : Writer W → Writer W → Result (Unit {0}) Error → Type 0
  IsNotCompressed old new (Err (errors.NotYetImplemented what)) = new ≡ old
  IsNotCompressed old new _ = ⊥

  abbrev pub WritesUnder : Option Compression → Writer W → Writer W → Progress → IdsList → List Column → Result (Unit {0}) Error → Type 0
  WritesUnder None old new before ids columns result =
      (told : List Given) → Tells before.told told → WritesBatch old new before ids told columns result
  WritesUnder (Some compression) old new before ids columns result = IsNotCompressed old new result

  abbrev pub WritesIn : Phase → Writer W → Writer W → Option (List IpcField) → List Column → Result (Unit {0}) Error → Type 0
  WritesIn (started before) old new fields columns result =
      WritesUnder old.compression old new before (ids_views (fields_or old.ids fields)) columns result
  WritesIn _ old new fields columns result = IsOutOfOrder old new result

  -- A batch is written behind what was told; or it is refused.
  abbrev pub WritesChunk : Writer W → Writer W → Option (List IpcField) → List Column → Result (Unit {0}) Error → Type 0
  WritesChunk old new fields columns result = WritesIn old.phase old new fields columns result

  -- ---- finish

  -- the end mark, zeros where the file was longer before, and the footer were written
  pub record IsFinished (old new : Writer W) (progress : Progress) : Type 0 where
    pub footer : List ℕ
    pub is : IsFooter footer old.schema (ids_views old.ids) progress
    pub sends : Sends old new (end_of progress footer) finished

  abbrev pub FinishesIn : Phase → Writer W → Writer W → Result (Unit {0}) Error → Type 0
  FinishesIn (started progress) old new (Ok _) = IsFinished old new progress
  FinishesIn (started progress) old new (Err error) = (HasNoFooter error old.schema (ids_views old.ids) progress × (new ≡ old))
      ⊎ Breaks old new (end_of progress (footer_of old.schema (ids_views old.ids) progress)) error
  FinishesIn _ old new result = IsOutOfOrder old new result

  -- They are written; or the call is refused.
  abbrev pub Finishes : Writer W → Writer W → Result (Unit {0}) Error → Type 0
  Finishes old new result = FinishesIn old.phase old new result
