-- The slots of a second builder of flat arrays that are pushed behind those of a first.
use Rattle.std.specs.Prelude.{◌≡◌, ◌⊎◌, ◌+◌, ◌<◌, ◌≤◌, ℕ, length, Result, MatchResult}
use Rattle.nested_arrays_sized_builders.specs.nulls.columnar_memory.declared.Error.{Error}
use Rattle.nested_arrays_sized_builders.specs.nulls.columnar_memory.Error.{IsOutOfMemory, IsOverflow}
use Rattle.nested_arrays_sized_builders.specs.nulls.columnar_memory.Spans.{last_of}
use Rattle.nested_arrays_sized_builders.specs.nulls.columns.Kinds.{most_slots}
use Rattle.nested_arrays_sized_builders.specs.flat_arrays.ByteStrings.{ByteStrings, len_of}
use Rattle.nested_arrays_sized_builders.specs.flat_arrays.Flat.{Flat, marks_of}
use Rattle.nested_arrays_sized_builders.specs.flat_arrays.Growth.{grown}
use Rattle.nested_arrays_sized_builders.specs.flat_arrays.Growing.{joined}

-- The values of another stand behind the others with their marks; or nothing has changed: memory ran out, or they are more than a column may have.
abbrev pub JoinsFlat : {V U : Type 0} → Flat V → Flat V → Flat V → Result U Error → Type 0
JoinsFlat old other new r =
    MatchResult r (λ _. (new ≡ grown old other.values (marks_of other)) × (length old.values + length other.values ≤ most_slots))
    (λ e. (new ≡ old) × (IsOutOfMemory e ⊎ (IsOverflow e × (most_slots < length old.values + length other.values))))

-- The strings of another stand behind the others with their marks; or nothing has changed: memory ran out, or they are more than a column may have,
-- or the last one would end past the greatest offset.
abbrev pub JoinsBytes : {U : Type 0} → ℕ → ByteStrings → ByteStrings → ByteStrings → Result U Error → Type 0
JoinsBytes greatest old other new r =
    MatchResult r
    (λ _. (new ≡ joined old other) × (len_of old + len_of other ≤ most_slots) × (last_of (joined old other).offsets ≤ greatest))
    (λ e. (new ≡ old) × (IsOutOfMemory e ⊎ (IsOverflow e
    × ((most_slots < len_of old + len_of other) ⊎ (greatest < last_of (joined old other).offsets)))))
