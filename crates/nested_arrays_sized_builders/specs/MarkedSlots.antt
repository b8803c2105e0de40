-- Slots that are pushed into open columns, or refused.
use Rattle.std.specs.Prelude.{◌≡◌, ◌⊎◌, false, Result, MatchResult}
use Rattle.nested_arrays_generic_builders.specs.nulls.columnar_memory.declared.Error.{Error}
use Rattle.nested_arrays_generic_builders.specs.nulls.columnar_memory.Error.{IsInvalidArgument, IsOutOfMemory, IsOverflow}
use Rattle.nested_arrays_generic_builders.specs.nulls.columns.Cells.{fits_cell}
use Rattle.nested_arrays_generic_builders.specs.nulls.columns.OpenBatch.{fits}
use Rattle.nested_arrays_generic_builders.specs.nulls.columns.Slots.{Slot}
use Rattle.nested_arrays_generic_builders.specs.nulls.columns.StoredColumns.{Column, column_type}
use Rattle.nested_arrays_generic_builders.specs.cells.taken.OpenColumns.{Becomes, IsFresh, slots_and}

-- A slot stands behind those of a column. Or nothing has changed: memory ran out, the slot does not fit the type, or a fresh column has no room
-- for it.
abbrev pub AddsSlot : {U : Type 0} → Column → Slot → Column → Result U Error → Type 0
AddsSlot old slot new r = MatchResult r (λ _. Becomes old (slots_and old slot) new)
    (λ e. (new ≡ old) × (IsOutOfMemory e ⊎ (IsInvalidArgument e × (fits_cell (column_type old) slot ≡ false))
    ⊎ (IsOverflow e × (IsFresh old → fits (column_type old) (slots_and old slot) ≡ false))))
