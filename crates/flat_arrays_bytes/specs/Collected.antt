-- What the calls answer that make an array of byte strings or texts of values or of slots.
use Rattle.std.specs.Prelude.{◌≡◌, ℕ, ◌+◌, ◌<◌, ◌≤◌, ◌⊎◌, List, [], ◌∷◌, ◌++◌, Option, Result, MatchResult, length}
use Rattle.std.specs.Iterator.Runs.{SomeRun, WholeRun}
use Rattle.flat_arrays_values.specs.columnar_memory.Error.{IsOutOfMemory, IsOverflow}
use Rattle.flat_arrays_values.specs.columnar_memory.Spans.{Spans, extended, last_of}
use Rattle.flat_arrays_values.specs.columnar_memory.declared.Error.{Error}
use Rattle.flat_arrays_bytes.specs.ByteStrings.{ByteStrings}

-- the array, whose last value ends within the greatest offset, or a refusal: it would pass the greatest offset, or memory ran out
abbrev pub IsCollected : ℕ → ByteStrings → Result ByteStrings Error → Type 0
IsCollected greatest made r =
    MatchResult r (λ a. (a ≡ made) × (last_of made.offsets ≤ greatest))
    (λ e. IsOutOfMemory e ⊎ (IsOverflow e × (greatest < last_of made.offsets)))

-- the same of the array of all items of an iterator; it is refused at the first item that would pass the greatest offset
abbrev pub CollectsAlong : {S A : Type 0} → (S → Option A → S → Type 0) → ℕ → (List A → ByteStrings) → S → Result ByteStrings Error → Type 0
CollectsAlong steps greatest make it r =
    MatchResult r (λ a. WholeRun steps it (λ p. (a ≡ make p.items) × (last_of a.offsets ≤ greatest)))
    (λ e. IsOutOfMemory e ⊎ (IsOverflow e × SomeRun steps it (λ p. greatest < last_of (make p.items).offsets)))

-- one more byte string stands behind the others, or it would pass the greatest offset, or memory ran out
abbrev pub Follows : {U : Type 0} → ℕ → Spans → List ℕ → List ℕ → Spans → List ℕ → Result U Error → Type 0
Follows greatest offsets bytes value offsets_after bytes_after r =
    MatchResult r
    (λ _. (offsets_after ≡ extended offsets (length value ∷ [])) × (bytes_after ≡ bytes ++ value) × (last_of offsets_after ≤ greatest))
    (λ e. IsOutOfMemory e ⊎ (IsOverflow e × (greatest < last_of offsets + length value)))
