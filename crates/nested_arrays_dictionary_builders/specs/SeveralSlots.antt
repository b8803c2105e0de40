-- Several slots that are pushed to a column, one after another.
use Rattle.std.specs.Prelude.{◌≡◌, ◌⊎◌, ◌<◌, ◌+◌, ℕ, false, List, ◌++◌, length, take, slice_index_or, Result, MatchResult}
use Rattle.nested_arrays_sized_builders.specs.nulls.columnar_memory.declared.Error.{Error}
use Rattle.nested_arrays_sized_builders.specs.nulls.columnar_memory.Error.{IsInvalidArgument, IsOutOfMemory, IsOverflow}
use Rattle.nested_arrays_sized_builders.specs.nulls.columns.Cells.{fits_cell}
use Rattle.nested_arrays_sized_builders.specs.nulls.columns.OpenBatch.{fits}
use Rattle.nested_arrays_sized_builders.specs.nulls.columns.Slots.{Slot, null}
use Rattle.nested_arrays_sized_builders.specs.nulls.columns.StoredColumns.{Column, column_type, slots}
use Rattle.nested_arrays_sized_builders.specs.cells.taken.OpenColumns.{Becomes, IsFresh}

-- why slot n of some is refused: memory ran out, it does not fit the type, or a fresh column has no room for it and those before it
abbrev pub IsRefusedAt : Column → List Slot → ℕ → Error → Type 0
IsRefusedAt old some n e = IsOutOfMemory e ⊎ (IsInvalidArgument e × (fits_cell (column_type old) (slice_index_or some n null) ≡ false))
    ⊎ (IsOverflow e × (IsFresh old → fits (column_type old) (slots old ++ take (n + 1) some) ≡ false))

-- Some slots stand behind those of a column; or only those before one that is refused.
abbrev pub AddsSlots : {U : Type 0} → Column → List Slot → Column → Result U Error → Type 0
AddsSlots old some new r = MatchResult r (λ _. Becomes old (slots old ++ some) new)
    (λ e. (n : ℕ) × (n < length some) × Becomes old (slots old ++ take n some) new × IsRefusedAt old some n e)
