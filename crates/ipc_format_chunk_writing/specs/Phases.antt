-- A writer of a stream as callers see it: its device, and how far the stream is (Arrow IPC, "IPC Streaming Format").
use Rattle.std.specs.Prelude.{ℤ, Bool, true, false, List, Option}
use Rattle.ipc_format_batch_reading.specs.columnar_memory.declared.Schema.{Schema}
use Rattle.ipc_format_batch_reading.specs.columns.StoredColumns.{Column}
use Rattle.ipc_format_batch_reading.specs.reading.array_reading.column_writing.declared.Compression.{Compression}
use Rattle.ipc_format_batch_reading.specs.metadata.declared.ipc_schema.IpcField.{IpcField}
use Rattle.ipc_format_chunk_writing.specs.declared.state.State.{State}
use Rattle.ipc_format_chunk_writing.specs.declared.state.State.TheVariants as states

-- How far a stream is: nothing is written; its schema is, with the ids of its dictionaries, and the dictionaries that were told last; its end is;
-- or the device failed.
pub data Phase : Type 0 where
  fresh : Phase
  started : Schema → List IpcField → List (ℤ × Column) → Phase
  finished : Phase
  broken : Phase

abbrev pub phase_of : State → Phase
phase_of states.Fresh = fresh
phase_of (states.Started stream) = started stream.schema stream.ids stream.tracker.dictionaries.entries
phase_of states.Finished = finished
phase_of states.Broken = broken

abbrev pub is_fresh : Phase → Bool
is_fresh fresh = true
is_fresh _ = false

abbrev pub is_started : Phase → Bool
is_started (started schema fields told) = true
is_started _ = false

-- a writer over a device
pub record Writer (W : Type 0) : Type 0 where
  pub device : W
  pub compression : Option Compression
  pub phase : Phase
