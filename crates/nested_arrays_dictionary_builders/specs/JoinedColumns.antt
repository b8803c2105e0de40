-- The slots of a second builder that are pushed behind those of a first, both seen as columns.
use Rattle.std.specs.Prelude.{◌≡◌, ◌⊎◌, ◌+◌, true, false, ◌++◌, Result, MatchResult}
use Rattle.nested_arrays_sized_builders.specs.nulls.columnar_memory.declared.Error.{Error}
use Rattle.nested_arrays_sized_builders.specs.nulls.columnar_memory.Error.{IsInvalidArgument, IsOutOfMemory, IsOverflow}
use Rattle.nested_arrays_sized_builders.specs.nulls.columns.OpenBatch.{fits}
use Rattle.nested_arrays_sized_builders.specs.nulls.columns.SoundColumns.{is_sound}
use Rattle.nested_arrays_sized_builders.specs.nulls.columns.StoredColumns.{Column, column_len, column_type, slots}
use Rattle.nested_arrays_sized_builders.specs.cells.taken.OpenColumns.{Becomes, IsFresh}

-- both fresh, and of one type
abbrev pub AreAlike : Column → Column → Type 0
AreAlike old other = IsFresh old × IsFresh other × (column_type other ≡ column_type old)

-- The slots of a second column stand behind those of a first: of its type, as many as both have, sound with these slots where both were sound,
-- and fresh where both were fresh and of one type.
pub record Joins (old other new : Column) : Type 0 where
  pub typed : column_type new ≡ column_type old
  pub long : column_len new ≡ column_len old + column_len other
  pub sound : is_sound old ≡ true → is_sound other ≡ true → (is_sound new ≡ true) × (slots new ≡ slots old ++ slots other)
  pub fresh : AreAlike old other → IsFresh new

-- why they do not: memory ran out, the slots of both do not fit together where they are alike, or they are not alike
abbrev pub AreApart : Column → Column → Error → Type 0
AreApart old other e = IsOutOfMemory e ⊎ (IsOverflow e × (AreAlike old other → fits (column_type old) (slots old ++ slots other) ≡ false))
    ⊎ (IsInvalidArgument e × ¬ AreAlike old other)

-- The slots of the second column stand behind those of the first; or those are as they were.
abbrev pub AddsColumn : {U : Type 0} → Column → Column → Column → Result U Error → Type 0
AddsColumn old other new r = MatchResult r (λ _. Joins old other new) (λ e. Becomes old (slots old) new × AreApart old other e)
