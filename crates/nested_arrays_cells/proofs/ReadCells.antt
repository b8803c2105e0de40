-- What loops have read of cells.
use Rattle.std.specs.Prelude.{◌≡◌, ℕ, Bool, true, List, map, take}
use Rattle.std.specs.List.{list_all}
use Rattle.nested_arrays_builder_arrays.specs.arrays.columns.Slots.{Slot, window}
use Rattle.nested_arrays_builder_arrays.specs.arrays.columns.StoredColumns.{Column, slot_at}
use Rattle.nested_arrays_cells.specs.ArrayCells.{has_cell_at}

-- the first k of the slots from a place on are these, and each is a cell
pub record AreRead (has : Slot → Bool) (slot : ℕ → Slot) (start k : ℕ) (read : List Slot) : Type 0 where
  pub shown : read ≡ window slot start k
  pub cells : list_all has (window slot start k) ≡ true

-- the slots at a place of the first k columns are these, and each is a cell
pub record AreReadEach (columns : List Column) (i k : ℕ) (read : List Slot) : Type 0 where
  pub shown : read ≡ map (λ column. slot_at column i) (take k columns)
  pub cells : list_all (has_cell_at i) (take k columns) ≡ true
