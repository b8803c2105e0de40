-- Columns that are being built, as what they would be frozen to: a null more, the first slots, and the array that is taken out. Between calls
-- a column may be unsound, as that of lists whose items were lent for writing.
use Rattle.std.specs.Prelude.{◌≡◌, ◌⊎◌, ℕ, true, false, List, [], ◌∷◌, ◌++◌, length, take, Result, MatchResult}
use Rattle.nested_arrays_builders.specs.columnar_memory.declared.Error.{Error}
use Rattle.nested_arrays_builders.specs.columnar_memory.Error.{IsOutOfMemory, IsOutOfSpec, IsOverflow}
use Rattle.nested_arrays_builders.specs.columns.FreshColumns.{fresh}
use Rattle.nested_arrays_builders.specs.columns.FreshLaws.{is_buildable}
use Rattle.nested_arrays_builders.specs.columns.OpenBatch.{fits}
use Rattle.nested_arrays_builders.specs.columns.Slots.{Slot, null}
use Rattle.nested_arrays_builders.specs.columns.SoundColumns.{is_sound}
use Rattle.nested_arrays_builders.specs.columns.StoredColumns.{Column, column_len, column_type, slots}

-- Its slots are stored and nothing else, in the one way in which builders store what they are pushed, and they fit.
pub record IsFresh (column : Column) : Type 0 where
  pub stored : column ≡ fresh (column_type column) (slots column)
  pub fit : fits (column_type column) (slots column) ≡ true
  pub can : is_buildable (column_type column) ≡ true

-- A column with these slots in place of another's own: of its type, as long as they are, sound with these slots where that was sound, and
-- fresh where that was fresh.
pub record Becomes (old : Column) (some : List Slot) (new : Column) : Type 0 where
  pub typed : column_type new ≡ column_type old
  pub long : column_len new ≡ length some
  pub sound : is_sound old ≡ true → (is_sound new ≡ true) × (slots new ≡ some)
  pub fresh : IsFresh old → IsFresh new

-- The slots of a column with one more.
abbrev pub slots_and : Column → Slot → List Slot
slots_and column slot = slots column ++ slot ∷ []

-- A null stands behind the slots of a column. Or they are as they were: memory ran out, or a fresh column has no room for it.
abbrev pub AddsNull : {U : Type 0} → Column → Column → Result U Error → Type 0
AddsNull old new r = MatchResult r (λ _. Becomes old (slots_and old null) new)
    (λ e. Becomes old (slots old) new
    × (IsOutOfMemory e ⊎ (IsOverflow e × (IsFresh old → fits (column_type old) (slots_and old null) ≡ false))))

-- The first slots of a column are left.
abbrev pub KeepsFirst : Column → ℕ → Column → Type 0
KeepsFirst old n new = Becomes old (take n (slots old)) new

-- No slots are left, of the type of a column; where that was sound, what a builder of its type begins with.
pub record IsEmptied (old new : Column) : Type 0 where
  pub typed : column_type new ≡ column_type old
  pub long : column_len new ≡ 0
  pub begun : is_sound old ≡ true → new ≡ fresh (column_type old) []

-- The array of a column, a sound one. Or memory ran out, or the column is not sound.
abbrev pub IsFrozen : {A : Type 0} → (A → Column) → Column → Result A Error → Type 0
IsFrozen content column r = MatchResult r (λ a. (content a ≡ column) × (is_sound column ≡ true))
    (λ e. IsOutOfMemory e ⊎ (IsOutOfSpec e × (is_sound column ≡ false)))

-- An array is taken out of a builder, which is left empty. It is exactly the column, or there is none.
abbrev pub TakesColumn : {A : Type 0} → Column → Column → (A → Column) → Result A Error → Type 0
TakesColumn old new content r = IsEmptied old new × IsFrozen content old r
