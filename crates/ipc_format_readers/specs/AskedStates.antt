-- What comes of a stream, where its columns are put where they were asked for.
use Rattle.std.specs.Prelude.{Option, Some, None}
use Rattle.ipc_format_readers.specs.Asking.{HasKept, as_asked}
use Rattle.ipc_format_readers.specs.declared.asking.Asked.{Asked}
use Rattle.ipc_format_readers.specs.declared.state.StreamState.{StreamState}
use Rattle.ipc_format_readers.specs.declared.state.StreamState.TheVariants as states

-- a batch has as many columns as are kept
abbrev pub HasKeptFound : Option Asked → Option StreamState → Type 0
HasKeptFound asked None = Unit {0}
HasKeptFound asked (Some states.Waiting) = Unit {0}
HasKeptFound asked (Some (states.Some chunk)) = HasKept asked chunk

-- what comes, where the columns of a batch stand where they were asked for
abbrev pub found_as_asked : Option Asked → Option StreamState → Option StreamState
found_as_asked asked None = None
found_as_asked asked (Some states.Waiting) = Some states.Waiting
found_as_asked asked (Some (states.Some chunk)) = Some (states.Some (as_asked asked chunk))
