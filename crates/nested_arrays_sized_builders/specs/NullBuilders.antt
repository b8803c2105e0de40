-- Builders of nulls alone.
use Rattle.std.specs.Prelude.{◌≡◌, ◌⊎◌, ◌+◌, ◌<◌, ◌≤◌, ℕ, true, false, Result, MatchResult}
use Rattle.nested_arrays_generic_builders.specs.nulls.columnar_memory.declared.DataType.{DataType}
use Rattle.nested_arrays_generic_builders.specs.nulls.columnar_memory.declared.Error.{Error}
use Rattle.nested_arrays_generic_builders.specs.nulls.columnar_memory.Error.{IsOutOfSpec, IsOverflow}
use Rattle.nested_arrays_generic_builders.specs.nulls.columns.Kinds.{most_slots}
use Rattle.nested_arrays_generic_builders.specs.nulls.columns.SoundColumns.{is_null_type, is_sound}
use Rattle.nested_arrays_generic_builders.specs.nulls.columns.StoredColumns.{Column, column_len, column_type, nulls, type_layer}

-- a type of nulls alone, and no more of them than a column may have
pub record AreNulls (data_type : DataType) (n : ℕ) : Type 0 where
  pub typed : is_null_type (type_layer data_type) ≡ true
  pub few : n ≤ most_slots

-- So many nulls of a data type; or its arrays are not of nulls alone, or they are, and these are more than a column may have.
abbrev pub BeginsNulls : DataType → ℕ → Result Column Error → Type 0
BeginsNulls data_type n r =
    MatchResult r (λ column. (column ≡ nulls data_type n) × (is_sound (nulls data_type n) ≡ true) × (n ≤ most_slots))
    (λ e. (IsOutOfSpec e × (is_sound (nulls data_type n) ≡ false))
    ⊎ (IsOverflow e × (is_sound (nulls data_type n) ≡ true) × (most_slots < n)))

-- One null more; or there are as many as a column may have, and nothing has changed.
abbrev pub CountsNull : {U : Type 0} → Column → Column → Result U Error → Type 0
CountsNull old new r = MatchResult r (λ _. new ≡ nulls (column_type old) (column_len old + 1))
    (λ e. (new ≡ old) × IsOverflow e × (column_len old ≡ most_slots))
