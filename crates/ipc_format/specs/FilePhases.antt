-- A writer of a file as callers see it: its device, what it writes, and how far the file is (Arrow IPC, "IPC File Format").
use Rattle.std.specs.Prelude.{ℕ, ℤ, Bool, true, false, List, Option}
use Rattle.ipc_format_readers.specs.chunk_writing.columnar_memory.declared.Schema.{Schema}
use Rattle.ipc_format_readers.specs.chunk_writing.columns.StoredColumns.{Column}
use Rattle.ipc_format_readers.specs.chunk_writing.declared.Compression.{Compression}
use Rattle.ipc_format_readers.specs.chunk_writing.grammar.WrittenFiles.{Blocks}
use Rattle.ipc_format_readers.specs.chunk_writing.metadata.declared.ipc_schema.IpcField.{IpcField}
use Rattle.ipc_format_readers.specs.streams.owned.writing.FooterWriting.{blocks_view}
use Rattle.ipc_format.specs.declared.state as kept
use Rattle.ipc_format.specs.declared.state.State.{State}
use Rattle.ipc_format.specs.declared.state.State.TheVariants as states

-- What is written of a file behind its schema: the dictionaries that were told, where the next message stands, how many bytes the file had before
-- it was added to (a new one had none), and where the messages that are written stand.
pub record Progress : Type 0 where
  pub told : List (ℤ × Column)
  pub place : ℕ
  pub size : ℕ
  pub blocks : Blocks

-- How far a file is: nothing is written; its schema is, and so much behind it; its footer is; or the device failed.
pub data Phase : Type 0 where
  fresh : Phase
  started : Progress → Phase
  finished : Phase
  broken : Phase

abbrev pub progress_of : kept.Progress.Progress → Progress
progress_of file = record {
  told = file.tracker.dictionaries.entries;
  place = file.place;
  size = file.size;
  blocks = blocks_view file.dictionaries.items file.record_batches.items;
}

abbrev pub phase_of : State → Phase
phase_of states.Fresh = fresh
phase_of (states.Started file) = started (progress_of file)
phase_of states.Finished = finished
phase_of states.Broken = broken

abbrev pub is_fresh : Phase → Bool
is_fresh fresh = true
is_fresh _ = false

-- a writer over a device, of files of a schema with some ids
pub record Writer (W : Type 0) : Type 0 where
  pub device : W
  pub schema : Schema
  pub ids : List IpcField
  pub compression : Option Compression
  pub phase : Phase
