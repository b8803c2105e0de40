-- Validity marks: true where a slot has a value, false where it is null (Arrow columnar format, "Validity bitmaps").
use Rattle.std.specs.Prelude.{◌≡◌, ◌<◌, ◌≤◌, ◌-◌, ◌^◌, ◌⊎◌, ◌==◌, if◌then◌else◌, ℕ, Bool, true, List, [], ◌∷◌, ◌++◌, length, replicate}
use Rattle.std.specs.Prelude.{Option, Some, None, Result, MatchResult}
use Rattle.nested_arrays_core.specs.arrays.columnar_memory.Bits.{unset_count}
use Rattle.nested_arrays_core.specs.arrays.columnar_memory.Error.{IsOutOfMemory, IsOverflow}
use Rattle.nested_arrays_core.specs.arrays.columnar_memory.declared.Error.{Error}
use Rattle.nested_arrays_core.specs.arrays.columns.Kinds.{most_slots}

-- the mark of each of n slots, where without a bitmap no slot is null
abbrev pub marks : ℕ → Option (List Bool) → List Bool
marks n None = replicate n true
marks n (Some bits) = bits

-- the mask of slots with these marks: none where no slot is null
abbrev pub mask_of_marks : List Bool → Option (List Bool)
mask_of_marks bits = if unset_count bits == 0 then None else Some bits

-- Marks are kept as a length, how many are false, and a bitmap exactly where one is false; there are as many as an array may have slots.
pub record AreKept (len nulls : ℕ) (bitmap : Option (List Bool)) : Type 0 where
  pub counted : nulls ≡ unset_count (marks len bitmap)
  pub made : bitmap ≡ mask_of_marks (marks len bitmap)
  pub long : length (marks len bitmap) ≡ len
  pub within : len ≤ most_slots

-- A mark stands behind the others, or they are as they were: memory ran out, or there are as many as an array may have slots.
abbrev pub TakesMark : {U : Type 0} → List Bool → Bool → List Bool → Result U Error → Type 0
TakesMark old mark new r =
    MatchResult r (λ _. (new ≡ old ++ mark ∷ []) × (length old < most_slots)) (λ e. (new ≡ old) × (IsOutOfMemory e ⊎ (IsOverflow e × (length old ≡
    most_slots))))
