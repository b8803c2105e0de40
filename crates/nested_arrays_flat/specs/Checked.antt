-- What calls that check the parts of an array answer.
use Rattle.std.specs.Prelude.{◌≡◌, true, Result, MatchResult}
use Rattle.flat_arrays_core.specs.columnar_memory.declared.Error.{Error}
use Rattle.flat_arrays_core.specs.columnar_memory.Error.{IsOutOfSpec}
use Rattle.nested_arrays_columns.specs.SoundColumns.{is_sound}
use Rattle.nested_arrays_columns.specs.StoredColumns.{Column}

-- the array of these parts, if they are those of an array, or a refusal
abbrev pub IsChecked : Column → Result Column Error → Type 0
IsChecked parts r = MatchResult r (λ a. (a ≡ parts) × (is_sound parts ≡ true)) (λ e. IsOutOfSpec e × ¬ (is_sound parts ≡ true))
