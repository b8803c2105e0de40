-- What looking at an array of any type as one of its kind answers.
use Rattle.std.specs.Prelude.{◌≡◌, Option, MatchOption}
use Rattle.nested_arrays_iterators.specs.columnar_memory.declared.PhysicalType.{PhysicalType}
use Rattle.nested_arrays_iterators.specs.columns.StoredColumns.{Column}
use Rattle.nested_arrays_iterators.specs.parts.FlatLayouts.{layout_in}

-- the array whose column it is, or none where it lies in memory another way
abbrev pub IsSeenAs : {A : Type 0} → (A → Column) → PhysicalType → Column → Option A → Type 0
IsSeenAs column layout any r = MatchOption r (¬ (layout_in any ≡ layout)) (λ array. (column array ≡ any) × (layout_in any ≡ layout))
