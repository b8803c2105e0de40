-- Rows of cells, as they are pushed into open columns: which are accepted, and what a batch of them becomes.
use Rattle.std.specs.Prelude.{ℕ, ℤ, Bool, true, ◌&&◌, ◌==◌, List, [], ◌∷◌, ◌++◌, length, map, nat_lt, slice_index_or}
use Rattle.columnar_memory_core.specs.declared.Field.{Field}
use Rattle.columnar_memory_core.specs.declared.PrimitiveType.{PrimitiveType}
use Rattle.columnar_memory_core.specs.declared.PrimitiveType.TheVariants as kinds
use Rattle.nested_arrays_columns.specs.FreshColumns.{fresh}
use Rattle.nested_arrays_columns.specs.OpenBatch.{fits}
use Rattle.nested_arrays_columns.specs.Slots.{Slot, Slots, null, truth, number, pair, triple, text, bytes, items, fields, no_slot, slot_then, window}
use Rattle.nested_arrays_columns.specs.StoredColumns.{Column}

-- ---- cells

mutual
  -- one value that is pushed, by itself
  pub data Cell : Type 0 where
    null_cell : Cell
    boolean_cell : Bool → Cell
    -- a whole number of a kind: 8 to 256 bits with a sign, 8 to 64 bits without
    whole_cell : PrimitiveType → ℤ → Cell
    days_ms_cell : ℤ → ℤ → Cell
    months_days_ns_cell : ℤ → ℤ → ℤ → Cell
    -- the bytes of a text in UTF-8
    text_cell : List ℕ → Cell
    bytes_cell : List ℕ → Cell
    list_cell : Cells → Cell
    -- a cell for each field of a struct
    record_cell : Cells → Cell

  -- cells one after another
  pub data Cells : Type 0 where
    no_cell : Cells
    cell_then : Cell → Cells → Cells

-- The slot that a cell becomes. The cell of a dictionary or of an extension is that of its inner type.
abbrev mutual
  pub cell_slot : Cell → Slot
  cell_slot null_cell = null
  cell_slot (boolean_cell b) = truth b
  cell_slot (whole_cell kind n) = number kind n
  cell_slot (days_ms_cell days ms) = pair kinds.DaysMs days ms
  cell_slot (months_days_ns_cell months days ns) = triple kinds.MonthDayNano months days ns
  cell_slot (text_cell content) = text content
  cell_slot (bytes_cell content) = bytes content
  cell_slot (list_cell cells) = items (cell_slots cells)
  cell_slot (record_cell cells) = fields (cell_slots cells)

  pub cell_slots : Cells → Slots
  cell_slots no_cell = no_slot
  cell_slots (cell_then cell cells) = slot_then (cell_slot cell) (cell_slots cells)

-- ---- rows

-- the column of field k of some rows
abbrev pub column_of_rows : List (List Slot) → ℕ → List Slot
column_of_rows rows k = map (λ row. slice_index_or row k null) rows

abbrev pub columns_of_rows : List Field → List (List Slot) → List (List Slot)
columns_of_rows schema_fields rows = window (column_of_rows rows) 0 (length schema_fields)

-- each of some columns fits its field's type
abbrev pub columns_fit : List Field → List (List Slot) → Bool
columns_fit [] columns = true
columns_fit (field ∷ more) [] = true
columns_fit (field ∷ more) (column ∷ columns) = fits field.data_type column && columns_fit more columns

-- whether a row has a value a field; without fields there is no row
abbrev pub is_row_of : {A : Type 0} → List Field → List A → Bool
is_row_of schema_fields row = nat_lt 0 (length schema_fields) && (length row == length schema_fields)

-- Whether a row is accepted where some rows are open: it has a cell a field, and each column's open slots with the cell's slot fit.
abbrev pub is_accepted : List Field → List (List Slot) → List Cell → Bool
is_accepted schema_fields rows row =
    is_row_of schema_fields row && columns_fit schema_fields (columns_of_rows schema_fields (rows ++ map cell_slot row ∷ []))

-- the columns of some fields that store these columns' slots
abbrev pub fresh_columns : List Field → List (List Slot) → List Column
fresh_columns [] columns = []
fresh_columns (field ∷ more) [] = []
fresh_columns (field ∷ more) (column ∷ columns) = fresh field.data_type column ∷ fresh_columns more columns

-- the columns that a batch of open rows becomes
abbrev pub batch_of_rows : List Field → List (List Slot) → List Column
batch_of_rows schema_fields rows = fresh_columns schema_fields (columns_of_rows schema_fields rows)
