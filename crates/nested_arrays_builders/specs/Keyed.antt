-- Values that a dictionary learns.
use Rattle.std.specs.Prelude.{◌≡◌, ◌⊎◌, ◌+◌, ◌&&◌, ℕ, false, true, nat_le, List, [], ◌∷◌, ◌++◌, length, Result, MatchResult}
use Rattle.nested_arrays_builder_values.specs.parts.arrays.columnar_memory.declared.Error.{Error}
use Rattle.nested_arrays_builder_values.specs.parts.arrays.columnar_memory.Error.{IsOutOfMemory, IsOverflow}
use Rattle.nested_arrays_builder_values.specs.parts.arrays.columns.Slots.{Slot}
use Rattle.nested_arrays_builder_values.specs.parts.Open.{Open, with_slot}
use Rattle.nested_arrays_builders.specs.Parts.{is_fitting}

-- whether one more value may stand behind some that are known
abbrev pub MayLearn : ℕ → List Slot → Open → Slot → Type 0
MayLearn most known values slot = (nat_le (length known + 1) most && is_fitting (with_slot values slot)) ≡ true

-- one more stands behind some values and those that are known, or these are as they were: there is no room for it, or memory ran out
abbrev pub LearnsSlot : {U : Type 0} → ℕ → List Slot → Open → Slot → List Slot → Open → Result U Error → Type 0
LearnsSlot most known values slot new_known new_values r =
    MatchResult r
    (λ _. (new_known ≡ known ++ slot ∷ []) × (new_values ≡ with_slot values slot) × MayLearn most known values slot)
    (λ e. (new_known ≡ known) × (new_values ≡ values)
    × (IsOutOfMemory e ⊎ (IsOverflow e × ((nat_le (length known + 1) most && is_fitting (with_slot values slot)) ≡ false))))
