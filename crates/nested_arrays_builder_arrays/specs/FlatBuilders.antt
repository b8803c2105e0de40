-- Builders of flat arrays with one null more.
use Rattle.std.specs.Prelude.{◌≡◌, ◌⊎◌, ◌<◌, ◌≤◌, [], ◌∷◌, length, None, Result, MatchResult}
use Rattle.nested_arrays_builders.specs.flat_arrays.Flat.{Flat}
use Rattle.nested_arrays_builders.specs.flat_arrays.Growth.{with_slots}
use Rattle.nested_arrays_builders.specs.columnar_memory.declared.Error.{Error}
use Rattle.nested_arrays_builders.specs.columnar_memory.Error.{IsOutOfMemory, IsOverflow}
use Rattle.nested_arrays_builders.specs.columns.Kinds.{most_slots}

-- A null stands behind the other slots, under which this value is stored. Or nothing has changed: memory ran out, or there are as many slots as a
-- column may have.
abbrev pub AddsFlatNull : {V U : Type 0} → V → Flat V → Flat V → Result U Error → Type 0
AddsFlatNull zero old new r =
    MatchResult r (λ _. (new ≡ with_slots zero old (None ∷ [])) × (length old.values < most_slots))
    (λ e. (new ≡ old) × (IsOutOfMemory e ⊎ (IsOverflow e × (most_slots ≤ length old.values))))
