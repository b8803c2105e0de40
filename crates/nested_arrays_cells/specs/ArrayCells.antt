-- Which slots of arrays are cells, and what is answered where cells are read.
use Rattle.std.specs.Prelude.{◌≡◌, ℕ, Bool, true, false, List, map, Option, Result, MatchOption, MatchResult}
use Rattle.nested_arrays_builder_arrays.specs.arrays.columnar_memory.declared.DataType.{DataType}
use Rattle.nested_arrays_builder_arrays.specs.arrays.columnar_memory.declared.DataType.TheOpen as layer
use Rattle.nested_arrays_builder_arrays.specs.arrays.columnar_memory.declared.DataType.TheFolds.{fold-DataType}
use Rattle.nested_arrays_builder_arrays.specs.arrays.columnar_memory.declared.Error.{Error}
use Rattle.nested_arrays_builder_arrays.specs.arrays.columnar_memory.Error.{IsOutOfMemory}
use Rattle.nested_arrays_builder_arrays.specs.arrays.columns.Cells.{is_list_of, is_null, is_record_of}
use Rattle.nested_arrays_builder_arrays.specs.arrays.columns.Slots.{Slot}
use Rattle.nested_arrays_builder_arrays.specs.arrays.columns.StoredColumns.{Column, column_type, slot_at}
use Rattle.nested_arrays_builder_arrays.specs.parts.Scalars.{scalar_slot}
use Rattle.nested_arrays_scalars.specs.declared.scalars.AnyScalar.{AnyScalar}

abbrev pub any_slot : Slot → Bool
any_slot slot = true

-- One layer of a type, where each type below stands as its test: a list is a cell where each item is one, a struct where each field is, and a
-- dictionary's or an extension's slot where it is one of the inner type. Of maps and of unions only null is one, and a union's slot is never null.
abbrev pub has_cell_step : layer.DataType-F (Slot → Bool) (Slot → Bool) → Slot → Bool
has_cell_step (layer.List item) = is_list_of item
has_cell_step (layer.LargeList item) = is_list_of item
has_cell_step (layer.FixedSizeList item size) = is_list_of item
has_cell_step (layer.Struct children) = is_record_of children
has_cell_step (layer.Map entry is_sorted) = is_null
has_cell_step (layer.Union children ids mode) = is_null
has_cell_step (layer.Dictionary key value is_ordered) = value
has_cell_step (layer.Extension name inner metadata) = inner
has_cell_step _ = any_slot

-- whether a slot of a column of a type is a cell
abbrev pub has_cell : DataType → Slot → Bool
has_cell = fold-DataType (Slot → Bool) (Slot → Bool) has_cell_step (λ field. field.data_type)

-- whether the slot at a place of a column is one
abbrev pub has_cell_at : ℕ → Column → Bool
has_cell_at i column = has_cell (column_type column) (slot_at column i)

-- the cell that becomes a slot which is one, and none of another
abbrev pub IsCell : Bool → Slot → Option AnyScalar → Type 0
IsCell has slot found = MatchOption found (has ≡ false) (λ cell. (has ≡ true) × (scalar_slot cell ≡ slot))

-- the same, or memory ran out
abbrev pub IsCellOf : Bool → Slot → Result (Option AnyScalar) Error → Type 0
IsCellOf has slot r = MatchResult r (IsCell has slot) IsOutOfMemory

-- the same of the slot at a place of a column
abbrev pub IsCellAt : Column → ℕ → Result (Option AnyScalar) Error → Type 0
IsCellAt column i r = IsCellOf (has_cell_at i column) (slot_at column i) r
