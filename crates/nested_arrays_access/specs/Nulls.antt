-- Which slots of a column are null by the column itself, whatever stands below it (Arrow columnar format, "Null count", "Validity bitmaps").
use Rattle.std.specs.Prelude.{ℕ, Bool, true, false, not, ◌||◌, if◌then◌else◌}
use Rattle.nested_arrays_arrays.specs.columns.StoredColumns.{Column, nulls, column_len, is_valid_at}
use Rattle.nested_arrays_arrays.specs.flat.ColumnMasks.{column_mask, unset_in}

-- whether a column is of nulls alone
abbrev pub is_nulls : Column → Bool
is_nulls (nulls data_type n) = true
is_nulls _ = false

-- whether a slot is null: each of nulls alone, and else those that the mask says; a union has none, and a dictionary those of its keys
abbrev pub is_null_at : Column → ℕ → Bool
is_null_at column i = is_nulls column || not (is_valid_at (column_mask column) i)

-- how many slots are null
abbrev pub null_count_of : Column → ℕ
null_count_of column = if is_nulls column then column_len column else unset_in (column_mask column)
