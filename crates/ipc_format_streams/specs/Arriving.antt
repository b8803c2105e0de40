-- Bytes that arrive piece by piece.
use Rattle.std.specs.Prelude.{◌≡◌, ℕ, ◌+◌, ◌<◌, ◌≤◌, Bool, true, false, List, ◌++◌, length, take, Option, Result, Ok, Err}
use Rattle.std.specs.Io.KnownBytes.{Consumes, IsAtEnd}
use Rattle.ipc_format_values.specs.columnar_memory.declared.Error.{Error}
use Rattle.ipc_format_values.specs.columnar_memory.declared.Error.TheVariants as errors

-- bytes that a device had left stand behind others
abbrev pub Arrive : Option (List ℕ) → Option (List ℕ) → List ℕ → List ℕ → Type 0
Arrive left left_after before after = (more : List ℕ) × (after ≡ before ++ more) × Consumes left left_after more

-- the device refused, or memory ran out
abbrev pub IsOfDevice : Error → Type 0
IsOfDevice (errors.Io what) = Unit {0}
IsOfDevice errors.OutOfMemory = Unit {0}
IsOfDevice _ = ⊥

-- Bytes arrive until there are so many, which is answered by true; or the device ended before, and there are fewer.
abbrev pub Fills : Option (List ℕ) → Option (List ℕ) → List ℕ → List ℕ → ℕ → Result Bool Error → Type 0
Fills left left_after before after count (Ok true) = Arrive left left_after before after × (length after ≡ count)
Fills left left_after before after count (Ok false) = Arrive left left_after before after × (length after < count) × IsAtEnd left_after
Fills left left_after before after count (Err error) = IsOfDevice error

-- What is read behind some first items of a vector, within its length; nothing is only where the device ended, or there is no room.
abbrev pub ReadsBehind : {E : Type 0} → Option (List ℕ) → Option (List ℕ) → ℕ → List ℕ → List ℕ → Result ℕ E → Type 0
ReadsBehind left left_after filled before after (Ok n) = (more : List ℕ) × (take (filled + n) after ≡ take filled before ++ more)
    × (length more ≡ n) × (filled + n ≤ length after) × (length after ≡ length before) × Consumes left left_after more
    × (n ≡ 0 → filled < length before → IsAtEnd left_after)
ReadsBehind left left_after filled before after (Err error) = Unit {0}

-- room behind the items of a vector, up to so many items; or there was no memory, and they are as they were
abbrev pub MakesRoom : {A : Type 0} → ℕ → List ℕ → List ℕ → Result A Error → Type 0
MakesRoom count before after (Ok done) =
    (room : List ℕ) × (after ≡ before ++ room) × (length before < length after) × (length after ≤ count)
MakesRoom count before after (Err error) = (error ≡ errors.OutOfMemory) × (after ≡ before)
