-- Offsets of lists that grow, of either width.
use Rattle.std.specs.Prelude.{◌≡◌, ◌⊎◌, ◌+◌, ◌<◌, ◌≤◌, ℕ, Bool, true, false, List, [], ◌∷◌, ◌++◌, length, Result, MatchResult}
use Rattle.nested_arrays_builder_values.specs.parts.arrays.columnar_memory.declared.Error.{Error}
use Rattle.nested_arrays_builder_values.specs.parts.arrays.columnar_memory.Error.{IsOutOfMemory, IsOverflow}
use Rattle.nested_arrays_builder_values.specs.parts.arrays.columnar_memory.Spans.{Spans, extended, last_of}
use Rattle.nested_arrays_builder_values.specs.parts.arrays.columns.Kinds.{most_slots}
use Rattle.nested_arrays_builders.specs.Parts.{most_end}
use Rattle.nested_arrays_builders.specs.declared.offsets.MutableListOffsets.{MutableListOffsets}
use Rattle.nested_arrays_builders.specs.declared.offsets.MutableListOffsets.TheVariants as width

abbrev pub spans_in : MutableListOffsets → Spans
spans_in (width.Small offsets) = offsets
spans_in (width.Large offsets) = offsets

abbrev pub is_large : MutableListOffsets → Bool
is_large (width.Small offsets) = false
is_large (width.Large offsets) = true

-- a span stands behind the others, or they are as they were: it would end past the greatest offset, or memory ran out
abbrev pub AddsSpan : {U : Type 0} → MutableListOffsets → ℕ → MutableListOffsets → Result U Error → Type 0
AddsSpan old count new r =
    MatchResult r
    (λ _. (is_large new ≡ is_large old) × (spans_in new ≡ extended (spans_in old) (count ∷ []))
    × (last_of (spans_in old) + count ≤ most_end (is_large old)))
    (λ e. (is_large new ≡ is_large old) × (spans_in new ≡ spans_in old)
    × (IsOutOfMemory e ⊎ (IsOverflow e × (most_end (is_large old) < last_of (spans_in old) + count))))

-- the offset and the mark of a list stand behind the others, or they are as they were
abbrev pub AddsList : {U : Type 0} → List Bool → Bool → Spans → ℕ → Bool → List Bool → Bool → Spans → Result U Error → Type 0
AddsList marks large spans count mark new_marks new_large new_spans r =
    MatchResult r
    (λ _. (new_marks ≡ marks ++ mark ∷ []) × (new_large ≡ large) × (new_spans ≡ extended spans (count ∷ [])) × (length marks < most_slots)
    × (last_of spans + count ≤ most_end large))
    (λ e. (new_marks ≡ marks) × (new_large ≡ large) × (new_spans ≡ spans)
    × (IsOutOfMemory e ⊎ (IsOverflow e × ((length marks ≡ most_slots) ⊎ (most_end large < last_of spans + count)))))
