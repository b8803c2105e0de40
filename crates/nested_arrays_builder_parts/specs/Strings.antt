-- Byte strings that stand one after another.
use Rattle.std.specs.Prelude.{◌≡◌, ◌<◌, ◌≤◌, ◌+◌, ◌⊎◌, ℕ, List, [], ◌∷◌, ◌++◌, length, map, take, drop, Result, MatchResult}
use Rattle.std.specs.List.{concat}
use Rattle.nested_arrays_core.specs.arrays.columnar_memory.declared.Error.{Error}
use Rattle.nested_arrays_core.specs.arrays.columnar_memory.Error.{IsOutOfMemory, IsOverflow}
use Rattle.nested_arrays_core.specs.arrays.columnar_memory.Spans.{Spans}
use Rattle.nested_arrays_core.specs.arrays.flat_arrays.ByteStrings.{packed}

-- these offsets and bytes are those of byte strings from 0 on, without gaps
pub record ArePacked (values : List (List ℕ)) (offsets : Spans) (bytes : List ℕ) : Type 0 where
  pub spans : offsets ≡ packed values
  pub joined : bytes ≡ concat values

-- A byte string stands behind the others, and ends within a limit; or they are as they were: it would end past the limit, or memory ran out.
abbrev pub TakesString : {U : Type 0} → ℕ → List (List ℕ) → List ℕ → List (List ℕ) → Result U Error → Type 0
TakesString limit old value new r =
    MatchResult r (λ _. (new ≡ old ++ value ∷ []) × (length (concat old) + length value ≤ limit))
    (λ e. (new ≡ old) × (IsOutOfMemory e ⊎ (IsOverflow e × (limit < length (concat old) + length value))))
