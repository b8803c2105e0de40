-- What calls of arrays answer.
use Rattle.std.specs.Prelude.{◌≡◌, true, Result, MatchResult}
use Rattle.nested_arrays_parts.specs.columnar_memory.Error.{IsOutOfSpec}
use Rattle.nested_arrays_parts.specs.columnar_memory.declared.Error.{Error}
use Rattle.nested_arrays_parts.specs.columnar_memory.declared.PhysicalType.{PhysicalType}
use Rattle.nested_arrays_parts.specs.columns.SoundColumns.{is_sound}
use Rattle.nested_arrays_parts.specs.columns.StoredColumns.{Column}
use Rattle.nested_arrays_parts.specs.Childless.{is_childless}
use Rattle.nested_arrays_parts.specs.FlatLayouts.{layout_in, TakesKind}

-- the array of these parts, if they are those of an array, or a refusal
abbrev pub IsChecked : Column → Result Column Error → Type 0
IsChecked parts r = MatchResult r (λ a. (a ≡ parts) × (is_sound parts ≡ true)) (λ e. IsOutOfSpec e × ¬ (is_sound parts ≡ true))

-- parts of an array that lies in memory so
abbrev pub LiesAs : PhysicalType → Column → Type 0
LiesAs layout parts = (is_sound parts ≡ true) × (layout_in parts ≡ layout)

-- the array of these parts, if they are those of an array that lies in memory so, or a refusal
abbrev pub IsCheckedAs : PhysicalType → Column → Result Column Error → Type 0
IsCheckedAs layout parts r = MatchResult r (λ a. (a ≡ parts) × LiesAs layout parts) (λ e. IsOutOfSpec e × ¬ LiesAs layout parts)

-- the array of the same column, where it lies in memory so, or what was given
abbrev pub TakesAs : PhysicalType → Column → Result Column Column → Type 0
TakesAs layout any r = TakesKind (λ (array : Column). array) layout any r

-- the same of arrays without children
abbrev pub TakesChildless : Column → Result Column Column → Type 0
TakesChildless any r = MatchResult r (λ array. (array ≡ any) × (is_childless (layout_in any) ≡ true))
    (λ left. (left ≡ any) × ¬ (is_childless (layout_in any) ≡ true))
