-- Encoded messages that are written to a device one behind the other.
use Rattle.std.specs.Prelude.{◌≡◌, ℕ, Bool, List, ◌++◌, Option, Result, Ok, Err}
use Rattle.std.specs.Io.KnownBytes.{Appends}
use Rattle.ipc_format_batch_reading.specs.columnar_memory.declared.Error.{Error}
use Rattle.ipc_format_batch_reading.specs.streams.Devices.{AppendsBeginning, IsRefusedWrite}

-- Bytes are written to a device, which is memory alone or is not, and has failed as often after the call as before it; or it refused, and a
-- beginning of them is.
abbrev pub Delivers : Result (Unit {0}) Error → Bool → ℕ → ℕ → Option (List ℕ) → Option (List ℕ) → List ℕ → Type 0
Delivers (Ok done) in_memory before after old new bytes = (after ≡ before) × Appends old new bytes
Delivers (Err error) in_memory before after old new bytes = IsRefusedWrite in_memory before after error × AppendsBeginning old new bytes
