-- What stands inside a slot, and whether the slot is a cell.
use Rattle.std.specs.Prelude.{◌≡◌, ◌<◌, ℕ, List}
use Rattle.std.specs.List.{list_all}
use Rattle.nested_arrays_builder_arrays.specs.arrays.columns.Slots.{window}
use Rattle.nested_arrays_builder_arrays.specs.arrays.columns.StoredColumns.{Column, column_len, column_size, column_type, in_columns, slot_at}
use Rattle.nested_arrays_builder_arrays.specs.arrays.Places.{AreFields, AreItems}
use Rattle.nested_arrays_cells.specs.ArrayCells.{has_cell, has_cell_at}

-- a slot is a list of so many slots of a child from a place on, and a cell where each of those is one
pub record AreCellItems (column : Column) (i : ℕ) (child : Column) (start len : ℕ) : Type 0 where
  pub items : AreItems column i child start len
  pub cell : has_cell_at i column ≡ list_all (has_cell (column_type child)) (window (slot_at child) start len)

-- a slot is a record of the slots of children at its place, and a cell where each of those is one
pub record AreCellFields (column : Column) (i : ℕ) (children : List Column) : Type 0 where
  pub fields : AreFields column i (in_columns children)
  pub cell : has_cell_at i column ≡ list_all (has_cell_at i) children

-- a slot is that of values at a place, and a cell where that is one
pub record IsCellValue (column : Column) (i : ℕ) (values : Column) (place : ℕ) : Type 0 where
  pub shown : slot_at column i ≡ slot_at values place
  pub within : place < column_len values
  pub smaller : column_size values < column_size column
  pub cell : has_cell_at i column ≡ has_cell_at place values
