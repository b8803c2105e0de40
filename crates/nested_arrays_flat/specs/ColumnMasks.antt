-- The masks of columns: none, or a mark for each slot (Arrow columnar format, "Validity bitmaps").
use Rattle.std.specs.Prelude.{◌≡◌, ℕ, Bool, true, List, Option, Some, None, Result, MatchResult}
use Rattle.flat_arrays_core.specs.columnar_memory.Bits.{unset_count}
use Rattle.flat_arrays_core.specs.columnar_memory.Error.{IsInvalidArgument}
use Rattle.flat_arrays_core.specs.columnar_memory.declared.Error.{Error}
use Rattle.nested_arrays_columns.specs.SoundColumns.{is_sound, mask_fits}
use Rattle.nested_arrays_columns.specs.StoredColumns.{Column, nulls, flat, lists, fixed_lists, records, unions, dictionary, column_len}

-- a column's mask; nulls alone and unions have none
abbrev pub column_mask : Column → Option (List Bool)
column_mask (nulls data_type n) = None
column_mask (flat data_type mask stored) = mask
column_mask (lists data_type mask offsets child) = mask
column_mask (fixed_lists data_type mask size child) = mask
column_mask (records data_type mask n children) = mask
column_mask (unions data_type ids offsets children) = None
column_mask (dictionary data_type mask keys values) = mask

-- how many marks of a mask are false
abbrev pub unset_in : Option (List Bool) → ℕ
unset_in None = 0
unset_in (Some marks) = unset_count marks

-- the column with another mask, where it may have one
abbrev pub with_mask : Column → Option (List Bool) → Column
with_mask (nulls data_type n) mask = nulls data_type n
with_mask (flat data_type old stored) mask = flat data_type mask stored
with_mask (lists data_type old offsets child) mask = lists data_type mask offsets child
with_mask (fixed_lists data_type old size child) mask = fixed_lists data_type mask size child
with_mask (records data_type old n children) mask = records data_type mask n children
with_mask (unions data_type ids offsets children) mask = unions data_type ids offsets children
with_mask (dictionary data_type old keys values) mask = dictionary data_type mask keys values

-- A column may have a mask of its length with which it is sound; nulls alone and unions have none, and in a dictionary each key that the
-- mask says is valid has its value.
abbrev pub TakesMask : Column → Option (List Bool) → Type 0
TakesMask column mask = (mask_fits mask (column_len column) ≡ true) × (column_mask (with_mask column mask) ≡ mask)
    × (is_sound (with_mask column mask) ≡ true)

-- the column has the mask, if it may; else it is as it was
abbrev pub ReplacesMask : Column → Option (List Bool) → Column → Result (Unit {0}) Error → Type 0
ReplacesMask old mask after r = MatchResult r (λ _. TakesMask old mask × (after ≡ with_mask old mask))
    (λ e. IsInvalidArgument e × ¬ TakesMask old mask × (after ≡ old))
