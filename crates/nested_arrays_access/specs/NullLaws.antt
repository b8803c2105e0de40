-- What holds of the nulls of every column.
use Rattle.std.specs.Prelude.{◌≡◌, ◌<◌, ℕ, Bool, true, false}
use Rattle.std.specs.List.{count_by}
use Rattle.nested_arrays_arrays.specs.columns.Slots.{null, window}
use Rattle.nested_arrays_arrays.specs.columns.SoundColumns.{is_sound}
use Rattle.nested_arrays_arrays.specs.columns.StoredColumns.{Column, dictionary, column_len, slot_at}
use Rattle.nested_arrays_access.specs.Nulls.{is_null_at, null_count_of}

-- there are as many nulls as places of null slots
abbrev pub NullsCounted : Type 0
NullsCounted = (column : Column) → is_sound column ≡ true
    → count_by (is_null_at column) (window (λ i. i) 0 (column_len column)) ≡ null_count_of column

-- a slot that is null by the column itself has no value
abbrev pub NullsAreNull : Type 0
NullsAreNull = (column : Column) (i : ℕ) → is_null_at column i ≡ true → slot_at column i ≡ null

abbrev pub is_dictionary : Column → Bool
is_dictionary (dictionary data_type mask keys values) = true
is_dictionary _ = false

-- but for dictionaries, whose keys may name a null, each slot without a value is null by the column itself
abbrev pub NullsShow : Type 0
NullsShow = (column : Column) (i : ℕ) → is_sound column ≡ true → i < column_len column → is_dictionary column ≡ false → slot_at column i ≡ null
    → is_null_at column i ≡ true
