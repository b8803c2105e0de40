-- What a reader of a stream answers.
use Rattle.std.specs.Prelude.{◌≡◌, List}
use Rattle.ipc_format_chunk_writing.specs.columns.StoredColumns.{Column}
use Rattle.ipc_format_readers.specs.declared.state.StreamState.{StreamState}
use Rattle.ipc_format_readers.specs.declared.state.StreamState.TheVariants as states

-- a batch came
abbrev pub HasBatch : StreamState → Type 0
HasBatch states.Waiting = ⊥
HasBatch (states.Some chunk) = Unit {0}

-- it has these columns
abbrev pub IsBatch : StreamState → List Column → Type 0
IsBatch state chunk = state ≡ states.Some chunk
