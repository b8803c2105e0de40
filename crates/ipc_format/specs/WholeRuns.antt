-- What a run of calls of a writer stands for whose writes have the writer's own ids: a whole file of batches of columns (Arrow IPC, "IPC File
-- Format").
use Rattle.std.specs.Prelude.{◌≡◌, ℕ, Bool, List, [], ◌∷◌, ◌++◌, Option, Some, Ok}
use Rattle.std.specs.Io.KnownBytes.{Appends}
use Rattle.ipc_format_readers.specs.chunk_writing.Runs.{AreSameIds, IsRunOf}
use Rattle.ipc_format_readers.specs.chunk_writing.columnar_memory.declared.Schema.{Schema}
use Rattle.ipc_format_readers.specs.chunk_writing.columns.StoredColumns.{Column}
use Rattle.ipc_format_readers.specs.chunk_writing.grammar.Schemas.{IdsList}
use Rattle.ipc_format_readers.specs.chunk_writing.grammar.Tables.{file}
use Rattle.ipc_format_readers.specs.chunk_writing.grammar.WriterRuns.{Run}
use Rattle.ipc_format_readers.specs.chunk_writing.grammar.WrittenFiles.{file_start, written_file}
use Rattle.ipc_format_readers.specs.chunk_writing.grammar.WrittenStreams.{Batch, batches_written, bytes_of_messages}
use Rattle.ipc_format_readers.specs.chunk_writing.metadata.Views.{ids_views}
use Rattle.ipc_format_readers.specs.chunk_writing.metadata.declared.ipc_schema.IpcField.{IpcField}
use Rattle.ipc_format_readers.specs.reading_laws.StoredTables.{stored_chunks}
use Rattle.ipc_format.specs.FilePhases.{Writer, finished}
use Rattle.ipc_format.specs.FileRuns.{HasWritten, bytes_so_far, told_with}
use Rattle.ipc_format.specs.FileWriting.{Finishes, Starts, WritesChunk}

-- batches of columns as they are written under a schema with some ids
abbrev pub batches_with : Schema → IdsList → List (List Column) → List Batch
batches_with schema ids batches = batches_written schema ids (stored_chunks batches)

-- What a device shows of its bytes, where they are known, how often it has failed, and whether devices of its kind are memory alone
module _ {W : Type 0} (contents : W → Option (List ℕ)) (failures : W → ℕ) (in_memory : Bool) where
  -- A writer was started, and has written batches with its own ids since: those of this run, which tells the dictionaries that the file does, and
  -- whose messages are the file's.
  pub record HasWrittenBatches (old now : Writer W) (batches : List (List Column)) : Type 0 where
    pub written : HasWritten contents failures in_memory old now (batches_with old.schema (ids_views old.ids) batches)
    pub run : Run
    pub is : IsRunOf file run old.schema (ids_views old.ids) batches
    pub told : run.told ≡ told_with [] (batches_with old.schema (ids_views old.ids) batches)
    pub bytes : file_start ++ bytes_of_messages run.messages
        ≡ bytes_so_far old.schema (ids_views old.ids) (batches_with old.schema (ids_views old.ids) batches)

  -- a whole file of batches was written under the schema and the ids of a writer, which has ended
  pub record HasFinished (old new : Writer W) (batches : List (List Column)) : Type 0 where
    pub bytes : List ℕ
    pub is : written_file old.schema (ids_views old.ids) (stored_chunks batches) ≡ Some bytes
    pub device : Appends (contents old.device) (contents new.device) bytes
    pub phase : new.phase ≡ finished

  -- after a start no batch is written
  abbrev pub StartsNoBatch : Type 0
  StartsNoBatch = (old new : Writer W) → Starts contents failures in_memory old new (Ok tt) → HasWrittenBatches old new []

  -- after a write with the writer's ids one batch more is
  abbrev pub WritesOneMore : Type 0
  WritesOneMore = (old now new : Writer W) (batches : List (List Column)) (fields : Option (List IpcField)) (columns : List Column)
      → HasWrittenBatches old now batches → AreSameIds (ids_views old.ids) fields
      → WritesChunk contents failures in_memory now new fields columns (Ok tt)
      → HasWrittenBatches old new (batches ++ columns ∷ [])

  -- after the finish the whole file of the batches is
  abbrev pub FinishesWhole : Type 0
  FinishesWhole = (old now new : Writer W) (batches : List (List Column)) → HasWrittenBatches old now batches
      → Finishes contents failures in_memory now new (Ok tt) → HasFinished old new batches

  -- What a run of a start, writes with the writer's ids and a finish has written, leaving out the writes that were refused, is a whole file of the
  -- schema and the batches.
  abbrev pub RunsAreFiles : Type 0
  RunsAreFiles = StartsNoBatch × WritesOneMore × FinishesWhole
