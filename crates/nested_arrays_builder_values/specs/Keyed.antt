-- What slots of a dictionary need of its values, and how the values grow.
use Rattle.std.specs.Prelude.{◌≡◌, ◌⊎◌, ◌<◌, ◌≤◌, ◌||◌, ℕ, Bool, true, false, List, [], ◌∷◌, ◌++◌, length}
use Rattle.std.specs.Prelude.{Option, Result, MatchOption, MatchResult}
use Rattle.nested_arrays_builder_parts.specs.arrays.columnar_memory.declared.Error.{Error}
use Rattle.nested_arrays_builder_parts.specs.arrays.columnar_memory.Error.{IsOutOfMemory, IsOverflow}
use Rattle.nested_arrays_builder_parts.specs.arrays.columns.Cells.{is_null}
use Rattle.nested_arrays_builder_parts.specs.arrays.columns.Kinds.{most_slots}
use Rattle.nested_arrays_builder_parts.specs.arrays.columns.SameSlots.{is_among}
use Rattle.nested_arrays_builder_parts.specs.arrays.columns.Slots.{Slot}
use Rattle.nested_arrays_builder_values.specs.Uses.{use_among}

-- how many of the values a slot needs that is null or one of them, or it is neither
abbrev pub IsNeeded : List Slot → Slot → Option ℕ → Type 0
IsNeeded known slot r =
    MatchOption r ((is_null slot ≡ false) × (is_among slot known ≡ false))
    (λ need. (need ≡ use_among known slot) × ((is_null slot || is_among slot known) ≡ true))

-- one more stands behind some that are found, or they are as they were: there are as many as keys tell apart, or memory ran out
abbrev pub IsLearnt : {U : Type 0} → ℕ → List Slot → Slot → List Slot → Result U Error → Type 0
IsLearnt most old slot new r =
    MatchResult r (λ _. (new ≡ old ++ slot ∷ []) × (length old < most))
    (λ e. (new ≡ old) × (IsOutOfMemory e ⊎ (IsOverflow e × (most ≤ length old))))

-- the mark of a slot and what it needs stand behind the others, or these are as they were
abbrev pub AddsUse : {U : Type 0} → List Bool → List ℕ → Bool → ℕ → List Bool → List ℕ → Result U Error → Type 0
AddsUse marks uses mark need new_marks new_uses r =
    MatchResult r (λ _. (new_marks ≡ marks ++ mark ∷ []) × (new_uses ≡ uses ++ need ∷ []) × (length marks < most_slots))
    (λ e. (new_marks ≡ marks) × (new_uses ≡ uses) × (IsOutOfMemory e ⊎ (IsOverflow e × (length marks ≡ most_slots))))
