-- What a writer's calls answer, and what they leave (Arrow IPC, "IPC Streaming Format").
use Rattle.std.specs.Prelude.{◌≡◌, ◌⊎◌, ℕ, ℤ, Bool, true, false, List, [], Option, Some, None, Result, Ok, Err}
use Rattle.std.specs.Io.KnownBytes.{Appends}
use Rattle.ipc_format_batch_reading.specs.columnar_memory.declared.Error.{Error}
use Rattle.ipc_format_batch_reading.specs.columnar_memory.declared.Error.TheVariants as errors
use Rattle.ipc_format_batch_reading.specs.columnar_memory.declared.Schema.{Schema}
use Rattle.ipc_format_batch_reading.specs.columns.StoredColumns.{Column, in_columns}
use Rattle.ipc_format_batch_reading.specs.reading.array_reading.column_writing.declared.Compression.{Compression}
use Rattle.ipc_format_batch_reading.specs.grammar.GivenDictionaries.{Given, written_after}
use Rattle.ipc_format_batch_reading.specs.grammar.Ids.{default_ids, ids_fit_fields}
use Rattle.ipc_format_batch_reading.specs.grammar.Schemas.{IdsList}
use Rattle.ipc_format_batch_reading.specs.grammar.Tables.{stream}
use Rattle.ipc_format_batch_reading.specs.grammar.WriterRuns.{another_dictionary, another_schema, long_message, write_bar}
use Rattle.ipc_format_batch_reading.specs.grammar.WrittenMessages.{end_mark, fits_limit, message_bytes, schema_written}
use Rattle.ipc_format_batch_reading.specs.grammar.WrittenStreams.{batch_messages, batch_of_stored, bytes_of_messages}
use Rattle.ipc_format_batch_reading.specs.grammar.WrittenStreams.{is_written_with, stored_columns}
use Rattle.ipc_format_batch_reading.specs.metadata.Views.{ids_views}
use Rattle.ipc_format_batch_reading.specs.metadata.declared.ipc_schema.IpcField.{IpcField}
use Rattle.ipc_format_batch_reading.specs.streams.Devices.{AppendsBeginning, IsRefusedWrite}
use Rattle.ipc_format_chunk_writing.specs.Tracking.{Tells}
use Rattle.ipc_format_chunk_writing.specs.Objections.{IsNotStarted, IsNotWritten}
use Rattle.ipc_format_chunk_writing.specs.Opening.{fields_or}
use Rattle.ipc_format_chunk_writing.specs.Phases.{Phase, fresh, started, finished, broken, Writer}

-- What a device shows of its bytes, where they are known, how often it has failed, and whether devices of its kind are memory alone
module _ {W : Type 0} (contents : W → Option (List ℕ)) (failures : W → ℕ) (in_memory : Bool) where
  -- some bytes were written, the device has failed as often as before, and the stream is so far
  pub record Sends (old new : Writer W) (bytes : List ℕ) (now : Phase) : Type 0 where
    pub device : Appends (contents old.device) (contents new.device) bytes
    pub count : failures new.device ≡ failures old.device
    pub compression : new.compression ≡ old.compression
    pub phase : new.phase ≡ now

  -- The device failed where some bytes were to be written: a beginning of them is, perhaps all. Memory refuses for want of memory alone.
  pub record Breaks (old new : Writer W) (bytes : List ℕ) (error : Error) : Type 0 where
    pub device : AppendsBeginning (contents old.device) (contents new.device) bytes
    pub why : IsRefusedWrite in_memory (failures old.device) (failures new.device) error
    pub compression : new.compression ≡ old.compression
    pub phase : new.phase ≡ broken

  -- a call that comes out of order is out of specification, and changes nothing
  abbrev pub IsOutOfOrder : {A : Type 0} → Writer W → Writer W → Result A Error → Type 0
  IsOutOfOrder old new (Ok answer) = ⊥
  IsOutOfOrder old new (Err (errors.OutOfSpec what)) = new ≡ old
  IsOutOfOrder old new (Err _) = ⊥

  -- ---- start

  pub record IsStarted (old new : Writer W) (schema : Schema) (ids : IdsList) : Type 0 where
    pub may : is_written_with schema ids ≡ true
    pub fits : fits_limit (schema_written schema ids) ≡ true
    pub fields : List IpcField
    pub same : ids_views fields ≡ ids
    pub sends : Sends old new (message_bytes (schema_written schema ids)) (started schema fields [])

  abbrev pub StartsFresh : Writer W → Writer W → Schema → IdsList → Result (Unit {0}) Error → Type 0
  StartsFresh old new schema ids (Ok _) = IsStarted old new schema ids
  StartsFresh old new schema ids (Err error) =
      (IsNotStarted error schema ids × (new ≡ old)) ⊎ Breaks old new (message_bytes (schema_written schema ids)) error

  abbrev pub StartsIn : Phase → Writer W → Writer W → Schema → IdsList → Result (Unit {0}) Error → Type 0
  StartsIn fresh old new schema ids result = StartsFresh old new schema ids result
  StartsIn _ old new schema ids result = IsOutOfOrder old new result

  -- The schema's message is written, and the stream is started; or it is refused.
  abbrev pub Starts : Writer W → Writer W → Schema → IdsList → Result (Unit {0}) Error → Type 0
  Starts old new schema ids result = StartsIn old.phase old new schema ids result

  -- ---- write

  -- a batch's messages were written with some ids, and its dictionaries are told
  pub record IsWritten (old new : Writer W) (schema : Schema) (own : List IpcField) (ids : IdsList) (told : List Given)
      (columns : List Column) : Type 0 where
    pub fit : ids_fit_fields schema.fields ids ≡ true
    pub bar : write_bar stream schema ids told (stored_columns columns) ≡ None
    pub entries : List (ℤ × Column)
    pub tells : Tells entries (written_after told (batch_of_stored ids columns).given)
    pub sends : Sends old new (bytes_of_messages (batch_messages told (batch_of_stored ids columns))) (started schema own entries)

  abbrev pub WritesBatch : Writer W → Writer W → Schema → List IpcField → IdsList → List Given → List Column → Result (Unit {0}) Error → Type 0
  WritesBatch old new schema own ids told columns (Ok _) = IsWritten old new schema own ids told columns
  WritesBatch old new schema own ids told columns (Err error) = (IsNotWritten stream error schema ids told columns × (new ≡ old))
      ⊎ Breaks old new (bytes_of_messages (batch_messages told (batch_of_stored ids columns))) error

  -- no body is compressed
  abbrev pub IsNotCompressed : Writer W → Writer W → Result (Unit {0}) Error → Type 0
  IsNotCompressed old new (Err (errors.NotYetImplemented what)) = new ≡ old
  IsNotCompressed old new _ = ⊥

  abbrev pub WritesUnder : Option Compression → Writer W → Writer W → Schema → List IpcField → IdsList → List (ℤ × Column) → List Column
      → Result (Unit {0}) Error → Type 0
  WritesUnder None old new schema own ids entries columns result =
      (told : List Given) → Tells entries told → WritesBatch old new schema own ids told columns result
  WritesUnder (Some compression) old new schema own ids entries columns result = IsNotCompressed old new result

  abbrev pub WritesIn : Phase → Writer W → Writer W → Option (List IpcField) → List Column → Result (Unit {0}) Error → Type 0
  WritesIn (started schema own entries) old new fields columns result =
      WritesUnder old.compression old new schema own (ids_views (fields_or own fields)) entries columns result
  WritesIn _ old new fields columns result = IsOutOfOrder old new result

  -- A batch is written behind what was told; or it is refused.
  abbrev pub WritesChunk : Writer W → Writer W → Option (List IpcField) → List Column → Result (Unit {0}) Error → Type 0
  WritesChunk old new fields columns result = WritesIn old.phase old new fields columns result

  -- ---- finish

  abbrev pub FinishesIn : Phase → Writer W → Writer W → Result (Unit {0}) Error → Type 0
  FinishesIn (started schema ids entries) old new (Ok _) = Sends old new end_mark finished
  FinishesIn (started schema ids entries) old new (Err error) = Breaks old new end_mark error
  FinishesIn _ old new result = IsOutOfOrder old new result

  -- The end mark is written; or the call is refused.
  abbrev pub Finishes : Writer W → Writer W → Result (Unit {0}) Error → Type 0
  Finishes old new result = FinishesIn old.phase old new result
