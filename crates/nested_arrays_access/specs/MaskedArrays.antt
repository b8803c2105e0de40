-- What taking an array and giving it another mask answers.
use Rattle.std.specs.Prelude.{◌≡◌, Bool, List, Option, Result, MatchResult}
use Rattle.nested_arrays_arrays.specs.columnar_memory.Error.{IsInvalidArgument}
use Rattle.nested_arrays_arrays.specs.columnar_memory.declared.Error.{Error}
use Rattle.nested_arrays_arrays.specs.columns.StoredColumns.{Column}
use Rattle.nested_arrays_arrays.specs.flat.ColumnMasks.{with_mask, TakesMask}

-- the array with the mask, if its column may have it
abbrev pub IsMasked : {A : Type 0} → (A → Column) → A → Option (List Bool) → Result A Error → Type 0
IsMasked column array mask r = MatchResult r (λ masked. TakesMask (column array) mask × (column masked ≡ with_mask (column array) mask))
    (λ e. IsInvalidArgument e × ¬ TakesMask (column array) mask)
