-- What a run of calls of a writer stands for: start, writes, finish (Arrow IPC, "IPC Streaming Format").
use Rattle.std.specs.Prelude.{◌≡◌, ℕ, ℤ, Bool, List, [], ◌∷◌, ◌++◌, Option, Some, None, Ok}
use Rattle.std.specs.Io.KnownBytes.{Appends}
use Rattle.ipc_format_chunk_writing.specs.Tracking.{Tells}
use Rattle.ipc_format_batch_reading.specs.columnar_memory.declared.Schema.{Schema}
use Rattle.ipc_format_batch_reading.specs.columns.StoredColumns.{Column}
use Rattle.ipc_format_batch_reading.specs.grammar.Schemas.{IdsList}
use Rattle.ipc_format_batch_reading.specs.grammar.Tables.{Form, stream}
use Rattle.ipc_format_batch_reading.specs.grammar.WriterRuns.{Run, after_start, after_writes}
use Rattle.ipc_format_batch_reading.specs.grammar.WrittenStreams.{bytes_of_messages, written_stream}
use Rattle.ipc_format_batch_reading.specs.metadata.Views.{ids_views}
use Rattle.ipc_format_batch_reading.specs.metadata.declared.ipc_schema.IpcField.{IpcField}
use Rattle.ipc_format_reading_laws.specs.StoredTables.{stored_chunks}
use Rattle.ipc_format_chunk_writing.specs.Phases.{Writer, finished, started}
use Rattle.ipc_format_chunk_writing.specs.Writing.{Finishes, Starts, WritesChunk}

-- A run of calls that start a stream or a file of a schema with some ids and write batches of columns, of which none is refused: the schema may be
-- written with the ids, each batch belongs to it, its dictionaries agree, in a file none is replaced, and each message is within its limit.
pub record IsRunOf (form : Form) (run : Run) (schema : Schema) (ids : IdsList) (batches : List (List Column)) : Type 0 where
  pub first : Run
  pub start : after_start schema ids ≡ Some first
  pub writes : after_writes form schema ids first (stored_chunks batches) ≡ run
  pub all : run.chunks ≡ stored_chunks batches

-- no ids are given for a batch, or those of the start
abbrev pub AreSameIds : IdsList → Option (List IpcField) → Type 0
AreSameIds ids None = Unit {0}
AreSameIds ids (Some fields) = ids_views fields ≡ ids

-- What a device shows of its bytes, where they are known, how often it has failed, and whether devices of its kind are memory alone
module _ {W : Type 0} (contents : W → Option (List ℕ)) (failures : W → ℕ) (in_memory : Bool) where
  -- a writer was started with a schema and some ids, and has written batches since: the device has the messages of this run, whose dictionaries
  -- are told
  pub record HasWritten (old now : Writer W) (schema : Schema) (ids : IdsList) (batches : List (List Column)) : Type 0 where
    pub fields : List IpcField
    pub entries : List (ℤ × Column)
    pub phase : now.phase ≡ started schema fields entries
    pub same : ids_views fields ≡ ids
    pub run : Run
    pub is : IsRunOf stream run schema ids batches
    pub device : Appends (contents old.device) (contents now.device) (bytes_of_messages run.messages)
    pub tells : Tells entries run.told

  -- a whole stream of a schema with some ids and of batches was written, and the writer has ended
  pub record HasFinished (old new : Writer W) (schema : Schema) (ids : IdsList) (batches : List (List Column)) : Type 0 where
    pub bytes : List ℕ
    pub is : written_stream schema ids (stored_chunks batches) ≡ Some bytes
    pub device : Appends (contents old.device) (contents new.device) bytes
    pub phase : new.phase ≡ finished

  -- after a start no batch is written
  abbrev pub StartsNone : Type 0
  StartsNone = (old new : Writer W) (schema : Schema) (ids : IdsList) → Starts contents failures in_memory old new schema ids (Ok tt)
      → HasWritten old new schema ids []

  -- after a write with the ids of the start one batch more is
  abbrev pub WritesMore : Type 0
  WritesMore = (old now new : Writer W) (schema : Schema) (ids : IdsList) (batches : List (List Column)) (fields : Option (List IpcField))
      (columns : List Column) → HasWritten old now schema ids batches → AreSameIds ids fields
      → WritesChunk contents failures in_memory now new fields columns (Ok tt) → HasWritten old new schema ids (batches ++ columns ∷ [])

  -- after the finish the stream of the batches is
  abbrev pub FinishesStream : Type 0
  FinishesStream = (old now new : Writer W) (schema : Schema) (ids : IdsList) (batches : List (List Column))
      → HasWritten old now schema ids batches → Finishes contents failures in_memory now new (Ok tt) → HasFinished old new schema ids batches

  -- What a run of a start, writes with its ids and a finish has written, leaving out the writes that were refused, is the stream of the schema and
  -- the batches.
  abbrev pub StreamsAreWritten : Type 0
  StreamsAreWritten = StartsNone × WritesMore × FinishesStream
