-- What a device takes of the bytes that are written to it, and what its refusal is called.
use Rattle.std.specs.Prelude.{◌≡◌, ℕ, ◌<◌, ◌≤◌, Bool, true, false, List, ◌++◌, Option, Result, Ok, Err}
use Rattle.std.specs.Io.KnownBytes.{Appends}
use Rattle.ipc_format_values.specs.columnar_memory.Error.{IsIo, IsOutOfMemory}
use Rattle.ipc_format_values.specs.columnar_memory.declared.Error.{Error}
use Rattle.ipc_format_values.specs.columnar_memory.declared.Error.TheVariants as errors

-- known bytes grow by a beginning of some bytes
abbrev pub AppendsBeginning : Option (List ℕ) → Option (List ℕ) → List ℕ → Type 0
AppendsBeginning old new bytes = (first rest : List ℕ) × (bytes ≡ first ++ rest) × Appends old new first

-- all bytes were appended; or the device refused, and a beginning of them was
abbrev pub Puts : {A : Type 0} → Result A Error → Option (List ℕ) → Option (List ℕ) → List ℕ → Type 0
Puts (Ok done) old new bytes = Appends old new bytes
Puts (Err error) old new bytes = IsIo error × AppendsBeginning old new bytes

-- Why a device refused a write, which is memory alone or is not, had failed so often before the call, and so often after it. Memory refuses for
-- want of memory alone. Of another device `Io` says that it failed in the call, `OutOfSpec` that it took nothing or refused without a failure, or
-- that its count fell, and `OutOfMemory` that it had no memory.
abbrev pub IsRefusedWrite : Bool → ℕ → ℕ → Error → Type 0
IsRefusedWrite true before after error = IsOutOfMemory error
IsRefusedWrite false before after (errors.Io what) = before < after
IsRefusedWrite false before after (errors.OutOfSpec what) = after ≤ before
IsRefusedWrite false before after errors.OutOfMemory = after ≤ before
IsRefusedWrite false before after _ = ⊥

-- What a refusal is called: a device's by why it refused. Another error keeps its name.
abbrev pub IsNamed : Error → Bool → ℕ → ℕ → Error → Type 0
IsNamed (errors.Io what) in_memory before after named = IsRefusedWrite in_memory before after named
IsNamed error in_memory before after named = named ≡ error

-- What a call answers whose writes gave a result. It is a success only where the device has failed as often as before; a refusal has its name, and
-- a count that changed is a refusal.
abbrev pub IsOutcome : {A : Type 0} → Result A Error → Bool → ℕ → ℕ → Result A Error → Type 0
IsOutcome (Ok value) in_memory before after (Ok same) = (same ≡ value) × (after ≡ before)
IsOutcome (Ok value) in_memory before after (Err error) = IsRefusedWrite in_memory before after error × (after ≡ before → ⊥)
IsOutcome (Err error) in_memory before after (Ok value) = ⊥
IsOutcome (Err error) in_memory before after (Err named) = IsNamed error in_memory before after named
