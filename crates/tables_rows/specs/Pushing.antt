-- Rows that are pushed behind the open ones.
use Rattle.std.specs.Prelude.{◌≡◌, Bool, true, false, not, ◌&&◌, ◌||◌, List, [], ◌∷◌, ◌++◌, length, map, Result, Ok, Err}
use Rattle.columnar_memory_types.specs.declared.data_type.Field.{Field}
use Rattle.columnar_memory_types.specs.declared.error.Error.TheVariants as errors
use Rattle.tables_chunks.specs.declared.fault.Fault.{Fault}
use Rattle.tables_chunks.specs.declared.fault.Fault.TheVariants as faults
use Rattle.tables_chunks.specs.ipc_format.columns.Cells.{fits_cell}
use Rattle.tables_chunks.specs.ipc_format.columns.OpenBatch.{fits}
use Rattle.tables_chunks.specs.ipc_format.columns.Rows.{Cell, cell_slot, columns_of_rows, is_accepted, is_row_of}
use Rattle.tables_chunks.specs.ipc_format.columns.Slots.{Slot}
use Rattle.tables_rows.specs.Building.{Building}

-- the open rows with one more
abbrev pub with_row : Building → List Cell → Building
with_row building row = record building { rows = building.rows ++ map cell_slot row ∷ [] }

-- whether each cell of a row fits its field's type
abbrev pub cells_fit : List Field → List Cell → Bool
cells_fit [] cells = true
cells_fit (field ∷ fields) [] = true
cells_fit (field ∷ fields) (cell ∷ cells) = fits_cell field.data_type (cell_slot cell) && cells_fit fields cells

-- whether a column with its cell doesn't fit, though the cell and those before it fit their types
abbrev pub row_overflows : List Field → List (List Slot) → List Cell → Bool
row_overflows (field ∷ fields) (column ∷ columns) (cell ∷ cells) =
    fits_cell field.data_type (cell_slot cell) && (not (fits field.data_type column) || row_overflows fields columns cells)
row_overflows _ _ _ = false

-- Why a row is refused: there are no columns; there are, and it has another width; it has a cell a field, and one doesn't fit its type, or
-- a column with its cell doesn't fit, though the cell and those before it fit their types, or memory ran out.
abbrev pub IsRowFault : Building → List Cell → Fault → Type 0
IsRowFault building row faults.NoColumns = building.schema.fields ≡ []
IsRowFault building row faults.RowWidth = (¬ (building.schema.fields ≡ [])) × ¬ (length row ≡ length building.schema.fields)
IsRowFault building row (faults.Lower (errors.InvalidArgumentError what)) =
    (is_row_of building.schema.fields row ≡ true) × (cells_fit building.schema.fields row ≡ false)
IsRowFault building row (faults.Lower errors.Overflow) = (is_row_of building.schema.fields row ≡ true)
    × (row_overflows building.schema.fields (columns_of_rows building.schema.fields (with_row building row).rows) row ≡ true)
IsRowFault building row faults.Memory = is_row_of building.schema.fields row ≡ true
IsRowFault building row _ = ⊥

-- The row stands behind the open ones, which then all fit. Or it is refused, and nothing changed.
abbrev pub PushesRow : {U : Type 0} → Building → List Cell → Result U Fault → Building → Type 0
PushesRow old row (Ok done) new = (new ≡ with_row old row) × (is_accepted old.schema.fields old.rows row ≡ true)
PushesRow old row (Err fault) new = (new ≡ old) × IsRowFault old row fault
