-- What calls that make arrays of nulls answer.
use Rattle.std.specs.Prelude.{◌≡◌, ◌≤◌, ◌^◌, ℕ, true, List, Result, MatchResult}
use Rattle.nested_arrays_iterators.specs.columnar_memory.declared.DataType.{DataType}
use Rattle.nested_arrays_iterators.specs.columnar_memory.declared.Error.{Error}
use Rattle.nested_arrays_iterators.specs.columnar_memory.declared.Error.TheVariants as errors
use Rattle.nested_arrays_iterators.specs.columnar_memory.declared.PhysicalType.{PhysicalType}
use Rattle.nested_arrays_iterators.specs.arrays.Answers.{LiesAs}
use Rattle.nested_arrays_iterators.specs.columns.SoundColumns.{is_sound, are_sound}
use Rattle.nested_arrays_iterators.specs.columns.StoredColumns.{Column, in_columns}
use Rattle.nested_arrays_nulls.specs.Lengths.{most_length, most_lengths}
use Rattle.nested_arrays_nulls.specs.NullColumns.{null_column}

-- Why there is no array of some parts: they are not what is wanted, a part is longer than any list in memory can be, or there was no memory.
abbrev pub IsRefused : Type 0 → ℕ → Error → Type 0
IsRefused Wanted most (errors.OutOfSpec what) = ¬ Wanted
IsRefused Wanted most errors.Overflow = 2 ^ 64 ≤ most
IsRefused Wanted most errors.OutOfMemory = Unit {0}
IsRefused Wanted most _ = ⊥

-- the array of a column, which is sound, or why there is none
abbrev pub IsMade : Column → Result Column Error → Type 0
IsMade column r = MatchResult r (λ a. (a ≡ column) × (is_sound column ≡ true)) (IsRefused (is_sound column ≡ true) (most_length column))

-- the arrays of columns, which are sound, or why there are none
abbrev pub AreMade : {A : Type 0} → Result A Error → (A → List Column) → List Column → Type 0
AreMade {A} r arrays columns = MatchResult r (λ a. (arrays a ≡ columns) × (are_sound (in_columns columns) ≡ true))
    (IsRefused (are_sound (in_columns columns) ≡ true) (most_lengths (in_columns columns)))

-- the array of so many nulls of a type, or why there is none
abbrev pub IsNullArray : DataType → ℕ → Result Column Error → Type 0
IsNullArray data_type n r = IsMade (null_column data_type n) r

-- the same where the array has to lie in memory so
abbrev pub IsNullArrayAs : {A : Type 0} → (A → Column) → PhysicalType → DataType → ℕ → Result A Error → Type 0
IsNullArrayAs column layout data_type n r = let whole = null_column data_type n in
    MatchResult r (λ a. (column a ≡ whole) × LiesAs layout whole) (IsRefused (LiesAs layout whole) (most_length whole))
