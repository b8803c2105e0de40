-- What is told of a device that was to stand at a place, by its count of failures.
use Rattle.std.proofs.Common.{◌≡◌, ◌<◌, ℕ, subst}
use Rattle.std.specs.Prelude.{Bool, true, false, Result, Ok, Err, IfErr, MatchResult}
use Rattle.ipc_format_readers.specs.declared.file_metadata.FileMetadata.{FileMetadata}
use Rattle.ipc_format_readers.specs.chunk_writing.columnar_memory.Error.{IsIo}
use Rattle.ipc_format_readers.specs.chunk_writing.columnar_memory.declared.Error.{Error}
use Rattle.ipc_format_readers.specs.chunk_writing.columnar_memory.declared.Error.TheVariants as errors
use Rattle.ipc_format_readers.specs.streams.Devices.{IsOutcome, IsRefusedWrite}
use Rattle.ipc_format.specs.Resuming.{IsLost}

-- it stands there, and has failed as often as before; or it refused
pub stood : (seek told : Result (Unit {0}) Error) (in_memory : Bool) (before after : ℕ) → IfErr seek IsIo → IsOutcome seek in_memory before after told
    → MatchResult told (λ _. after ≡ before) (IsRefusedWrite in_memory before after)
stood (Ok done) (Ok same) in_memory before after io is = is.1
stood (Ok done) (Err error) in_memory before after io is = is.0
stood (Err error) (Ok same) in_memory before after io is = absurd is
stood (Err (errors.Io what)) (Err named) in_memory before after io is = is
stood (Err _) (Err named) in_memory before after io is = absurd io

-- a writer that is lost with its device
pub lost_behind : {W : Type 0} (failures : W → ℕ) (in_memory : Bool) (device mid after : W) (metadata : FileMetadata) (error : Error)
    → failures mid ≡ failures device → IsRefusedWrite in_memory (failures mid) (failures after) error → IsLost failures device metadata error
lost_behind failures true device mid after metadata errors.OutOfMemory same why = tt
lost_behind failures true device mid after metadata _ same why = absurd why
lost_behind failures false device mid after metadata (errors.Io what) same why =
    (after, subst (λ (before : ℕ). before < failures after) same why)
lost_behind failures false device mid after metadata errors.OutOfMemory same why = tt
lost_behind failures false device mid after metadata (errors.OutOfSpec what) same why = tt
lost_behind failures false device mid after metadata _ same why = absurd why
