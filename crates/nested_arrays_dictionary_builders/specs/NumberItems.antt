-- Numbers that are pushed to their builders.
use Rattle.std.specs.Prelude.{◌≡◌, ◌⊎◌, ◌<◌, ◌≤◌, [], ◌∷◌, length, Result, MatchResult}
use Rattle.nested_arrays_sized_builders.specs.nulls.columnar_memory.declared.Error.{Error}
use Rattle.nested_arrays_sized_builders.specs.nulls.columnar_memory.Error.{IsOutOfMemory, IsOverflow}
use Rattle.nested_arrays_sized_builders.specs.nulls.columns.Kinds.{most_slots}
use Rattle.nested_arrays_sized_builders.specs.flat_arrays.Flat.{Flat}
use Rattle.nested_arrays_sized_builders.specs.flat_arrays.Growth.{with_values}

-- A number stands behind the others; or nothing has changed: memory ran out, or there are as many as a column may have.
abbrev pub AddsNumber : {V U : Type 0} → V → Flat V → Flat V → Result U Error → Type 0
AddsNumber item old new r =
    MatchResult r (λ _. (new ≡ with_values old (item ∷ [])) × (length old.values < most_slots))
    (λ e. (new ≡ old) × (IsOutOfMemory e ⊎ (IsOverflow e × (most_slots ≤ length old.values))))
