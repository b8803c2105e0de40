-- What a caller sees of a reader of a stream's batches, and what its calls answer (Arrow IPC, "IPC Streaming Format").
use Rattle.std.specs.Prelude.{◌≡◌, ◌⊎◌, ℕ, Bool, true, false, List, [], Option, Some, None, Result, Ok, Err}
use Rattle.ipc_format_chunk_writing.specs.columnar_memory.Error.{IsOutOfMemory}
use Rattle.ipc_format_chunk_writing.specs.columnar_memory.declared.Error.{Error}
use Rattle.ipc_format_chunk_writing.specs.columnar_memory.declared.Error.TheVariants as errors
use Rattle.ipc_format_chunk_writing.specs.grammar.Dictionaries.{Layout}
use Rattle.ipc_format_chunk_writing.specs.grammar.Messages.{Version}
use Rattle.ipc_format_chunk_writing.specs.grammar.Tables.{layout_of}
use Rattle.ipc_format_chunk_writing.specs.messages.MessageViews.{version_view}
use Rattle.ipc_format_chunk_writing.specs.streams.Incoming.{ForLeft}
use Rattle.ipc_format_chunk_writing.specs.streams.Starts.{IsRefusedRead, start_view}
use Rattle.ipc_format_chunk_writing.specs.streams.declared.stream_metadata.StreamMetadata.{StreamMetadata}
use Rattle.ipc_format_readers.specs.Hearing.{Spot, TakesTurn, turn_at}
use Rattle.ipc_format_readers.specs.Turns.{Turn}
use Rattle.ipc_format_readers.specs.declared.state.StreamState.{StreamState}

-- A reader: where it stands in its stream, how often its device has failed, what the stream's first message says, which columns are asked for, in
-- this order, or all, and whether it has ended.
pub record Reading : Type 0 where
  pub spot : Spot
  pub failures : ℕ
  pub metadata : StreamMetadata
  pub columns : Option (List ℕ)
  pub is_finished : Bool

-- ---- what calls answer

-- how the batches of a stream lie
abbrev pub layout_by : StreamMetadata → Layout
layout_by metadata = layout_of (start_view metadata).schema

abbrev pub version_by : StreamMetadata → Version
version_by metadata = version_view metadata.version

-- a reader of some columns before the first batch of what a device has left
abbrev pub at_start : Option (List ℕ) → ℕ → StreamMetadata → Option (List ℕ) → Reading
at_start left failures metadata columns = record {
  spot = record { left = left; standing = []; in_a_row = 0 };
  failures = failures;
  metadata = metadata;
  columns = columns;
  is_finished = false;
}

-- a reader is made; or memory ran out
abbrev pub Opens : Option (List ℕ) → ℕ → StreamMetadata → Option (List ℕ) → Result Reading Error → Type 0
Opens left failures metadata columns (Ok reading) = reading ≡ at_start left failures metadata columns
Opens left failures metadata columns (Err error) = IsOutOfMemory error

-- what comes next of a reader's bytes
abbrev pub turn_from : Reading → List ℕ → Option Turn
turn_from reading bytes = turn_at reading.columns (layout_by reading.metadata) (version_by reading.metadata) reading.spot bytes

abbrev pub Takes : Reading → Reading → Result (Option StreamState) Error → Type 0
Takes old new result = TakesTurn old.columns (layout_by old.metadata) (version_by old.metadata) old.spot new.spot result

-- Whether devices of a reader's kind are memory alone
module _ (in_memory : Bool) where
  -- Why a reader refuses: its device failed in the call, there was no memory, a message is not read, or the format gives nothing. A device that
  -- refuses without a failure is out of specification, by a text of its own, but for memory, which refuses for want of memory alone.
  abbrev pub Refuses : Reading → Reading → Error → Type 0
  Refuses old new (errors.Io what) = IsRefusedRead in_memory old.failures new.failures (errors.Io what)
  Refuses old new (errors.OutOfSpec text) =
      IsRefusedRead in_memory old.failures new.failures (errors.OutOfSpec text) ⊎ Takes old new (Err (errors.OutOfSpec text))
  Refuses old new error = Takes old new (Err error)

  -- what a turn gives is taken for a success only where the device has failed as often as before
  abbrev pub TakesUnfailed : Reading → Reading → Result (Option StreamState) Error → Type 0
  TakesUnfailed old new (Ok found) = (new.failures ≡ old.failures) × Takes old new (Ok found)
  TakesUnfailed old new (Err error) = Refuses old new error

  -- what a reader answers that has ended, or has not; after the end mark and after a refusal it has
  abbrev pub Answers : Bool → Reading → Reading → Option (Result StreamState Error) → Type 0
  Answers true old new result = (result ≡ None) × (new ≡ old)
  Answers false old new None = (new.is_finished ≡ true) × TakesUnfailed old new (Ok None)
  Answers false old new (Some (Ok state)) = (new.is_finished ≡ false) × TakesUnfailed old new (Ok (Some state))
  Answers false old new (Some (Err error)) = (new.is_finished ≡ true) × TakesUnfailed old new (Err error)

  -- The next batch of a stream, or that its bytes end there: the dictionaries before it are read, and the reader stands behind it.
  abbrev pub NextGives : Reading → Option (Result StreamState Error) → Reading → Type 0
  NextGives old result new = (new.metadata ≡ old.metadata) × (new.columns ≡ old.columns) × Answers old.is_finished old new result
