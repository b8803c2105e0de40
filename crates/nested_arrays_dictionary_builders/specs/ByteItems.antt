-- Texts and byte strings that are pushed to their builders.
use Rattle.std.specs.Prelude.{◌≡◌, ◌⊎◌, ◌<◌, ◌≤◌, ℕ, List, Some, true, slice_get, Result, MatchResult}
use Rattle.nested_arrays_sized_builders.specs.nulls.columnar_memory.declared.Error.{Error}
use Rattle.nested_arrays_sized_builders.specs.nulls.columnar_memory.Error.{IsOutOfMemory, IsOverflow}
use Rattle.nested_arrays_sized_builders.specs.nulls.columnar_memory.Spans.{last_of}
use Rattle.nested_arrays_sized_builders.specs.nulls.columns.Kinds.{most_slots}
use Rattle.nested_arrays_sized_builders.specs.flat_arrays.ByteStrings.{ByteStrings, len_of, marks_of, values_of}
use Rattle.nested_arrays_sized_builders.specs.flat_arrays.Growing.{with_slot}

-- the slots with one more are too many, or the last one ends past the greatest offset
abbrev pub IsPast : ℕ → ByteStrings → ByteStrings → Type 0
IsPast greatest old grown = (most_slots ≤ len_of old) ⊎ (greatest < last_of grown.offsets)

-- A text or a byte string stands behind the others; or nothing has changed: memory ran out, or there is no room for it.
abbrev pub AddsBytes : {U : Type 0} → ℕ → List ℕ → ByteStrings → ByteStrings → Result U Error → Type 0
AddsBytes greatest item old new r =
    MatchResult r
    (λ _. (new ≡ with_slot old (Some item)) × (len_of old < most_slots) × (last_of (with_slot old (Some item)).offsets ≤ greatest))
    (λ e. (new ≡ old) × (IsOutOfMemory e ⊎ (IsOverflow e × IsPast greatest old (with_slot old (Some item)))))

-- the slot at a place has a value, which is these bytes
abbrev pub HoldsAt : ByteStrings → ℕ → List ℕ → Type 0
HoldsAt a i item = (slice_get (marks_of a) i ≡ Some true) × (slice_get (values_of a) i ≡ Some item)
