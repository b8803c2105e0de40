-- Cells of any type as they are pushed, and the slots that they become.
use Rattle.std.specs.Prelude.{ℕ, ℤ, pos, List, [], ◌∷◌}
use Rattle.nested_arrays_core.specs.arrays.columnar_memory.declared.PrimitiveType.TheVariants as kinds
use Rattle.nested_arrays_core.specs.arrays.columns.Rows.{
  Cell,
  Cells,
  null_cell,
  boolean_cell,
  whole_cell,
  days_ms_cell,
  months_days_ns_cell,
  text_cell,
  bytes_cell,
}
use Rattle.nested_arrays_core.specs.arrays.columns.Rows.{list_cell, record_cell, no_cell, cell_then, cell_slot}
use Rattle.nested_arrays_core.specs.arrays.columns.Slots.{Slot}
use Rattle.nested_arrays_scalars.specs.declared.scalars.AnyScalar.{AnyScalar}
use Rattle.nested_arrays_scalars.specs.declared.scalars.AnyScalar.TheOpen as layer
use Rattle.nested_arrays_scalars.specs.declared.scalars.AnyScalar.TheFolds.{fold-AnyScalar}

-- cells one after another, as they stand in a list or a record
abbrev pub in_cells : List Cell → Cells
in_cells [] = no_cell
in_cells (cell ∷ cells) = cell_then cell (in_cells cells)

-- one layer of a cell, where each inside stands as what it is
abbrev pub cell_step : layer.AnyScalar-F Cell → Cell
cell_step layer.Null = null_cell
cell_step (layer.Boolean b) = boolean_cell b
cell_step (layer.Int8 n) = whole_cell kinds.Int8 n
cell_step (layer.Int16 n) = whole_cell kinds.Int16 n
cell_step (layer.Int32 n) = whole_cell kinds.Int32 n
cell_step (layer.Int64 n) = whole_cell kinds.Int64 n
cell_step (layer.Int128 n) = whole_cell kinds.Int128 n
cell_step (layer.Int256 n) = whole_cell kinds.Int256 n
cell_step (layer.UInt8 n) = whole_cell kinds.UInt8 (pos n)
cell_step (layer.UInt16 n) = whole_cell kinds.UInt16 (pos n)
cell_step (layer.UInt32 n) = whole_cell kinds.UInt32 (pos n)
cell_step (layer.UInt64 n) = whole_cell kinds.UInt64 (pos n)
cell_step (layer.DaysMs value) = days_ms_cell value.0 value.1
cell_step (layer.MonthsDaysNs value) = months_days_ns_cell value.0 value.1 value.2
cell_step (layer.Text content) = text_cell content
cell_step (layer.Bytes content) = bytes_cell content
cell_step (layer.List cells) = list_cell (in_cells cells)
cell_step (layer.Record cells) = record_cell (in_cells cells)

-- the cell that it is
abbrev pub cell_of : AnyScalar → Cell
cell_of = fold-AnyScalar Cell cell_step

-- the slot that it becomes
abbrev pub scalar_slot : AnyScalar → Slot
scalar_slot scalar = cell_slot (cell_of scalar)
