-- How offsets grow.
use Rattle.std.specs.Prelude.{ℤ, Option, ◌⊎◌, [], ◌∷◌, ◌++◌, ◌≡◌, ℕ, ◌+◌, ◌<◌, ◌≤◌, List, sum, Result, MatchResult}
use Rattle.std.specs.Iterator.{Drains, Yields}
use Rattle.columnar_memory_native.specs.types.declared.error.Error.{Error}
use Rattle.columnar_memory_native.specs.types.declared.error.Error.TheVariants.{Overflow, OutOfMemory}
use Rattle.columnar_memory_native.specs.types.Error.{IsOutOfMemory, IsOutOfSpec, IsOverflow}
use Rattle.columnar_memory_buffer.specs.Spans.{Spans, AreOffsets, IsWhole, last_of, extended, no_spans}

-- why offsets did not grow to this last one: it passes the greatest, or memory ran out
abbrev pub IsGrowthFault : ℕ → ℕ → Error → Type 0
IsGrowthFault greatest last Overflow = greatest < last
IsGrowthFault greatest last OutOfMemory = last ≤ greatest
IsGrowthFault greatest last _ = ⊥

-- they grew by these lengths, or are as they were
abbrev pub Grows : {U : Type 0} → ℕ → Spans → List ℕ → Spans → Result U Error → Type 0
Grows greatest old ls new r =
    MatchResult r (λ _. (new ≡ extended old ls) × (last_of old + sum ls ≤ greatest))
    (λ e. (new ≡ old) × IsGrowthFault greatest (last_of old + sum ls) e)

-- they are these spans, whose last one ends within the greatest, or could not be made
abbrev pub Holds : ℕ → Spans → Result Spans Error → Type 0
Holds greatest spans r =
    MatchResult r (λ new. (new ≡ spans) × (last_of spans ≤ greatest)) (IsGrowthFault greatest (last_of spans))

-- they are the offsets in these values, which are whole, or the values are not
abbrev pub IsChecked : {T : Type 0} → (T → ℤ) → List T → Result Spans Error → Type 0
IsChecked value xs r = MatchResult r (AreOffsets value xs) (λ e. IsOutOfSpec e × ¬ IsWhole value xs)

-- the same, where memory may run out too
abbrev pub IsCheckedInMemory : {T : Type 0} → (T → ℤ) → List T → Result Spans Error → Type 0
IsCheckedInMemory value xs r = MatchResult r (AreOffsets value xs) (λ e. IsOutOfMemory e ⊎ (IsOutOfSpec e × ¬ IsWhole value xs))

-- the iterator gave these items and then this one
abbrev pub StopsAt : {S : Type 0} → (S → Option ℕ → S → Type 0) → S → List ℕ → ℕ → Type 0
StopsAt {S} steps it ls l = (rest : S) × Yields steps it (ls ++ l ∷ []) rest

-- they grew by the items of an iterator, or by those that came before the one at which they could not grow
abbrev pub GrowsAlong : {S U : Type 0} → (S → Option ℕ → S → Type 0) → ℕ → S → Spans → Spans → Result U Error → Type 0
GrowsAlong steps greatest it old new r =
    MatchResult r (λ _. (ls : List ℕ) × Drains steps it ls × (new ≡ extended old ls) × (last_of new ≤ greatest))
    (λ e. (ls : List ℕ) × (l : ℕ) × StopsAt steps it ls l × (new ≡ extended old ls) × IsGrowthFault greatest (last_of new + l) e)

-- they are spans from 0 on of the items of an iterator, or memory ran out, or an item does not fit behind the ones before it
abbrev pub CollectsAlong : {S : Type 0} → (S → Option ℕ → S → Type 0) → ℕ → S → Result Spans Error → Type 0
CollectsAlong steps greatest it r =
    MatchResult r (λ new. (ls : List ℕ) × Drains steps it ls × (new ≡ extended no_spans ls) × (last_of new ≤ greatest))
    (λ e. IsOutOfMemory e ⊎ ((ls : List ℕ) × (l : ℕ) × StopsAt steps it ls l × IsOverflow e × (greatest < sum ls + l)))
