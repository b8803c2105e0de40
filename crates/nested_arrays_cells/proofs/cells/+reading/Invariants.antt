use Rattle.std.proofs.Common.{◌+◌, ◌*◌, map}
use Rattle.nested_arrays_builder_arrays.specs.arrays.columns.StoredColumns.{column_size, column_type, columns_size, in_columns, slot_at}
use Rattle.nested_arrays_builder_arrays.specs.parts.Scalars.{scalar_slot}
use Rattle.nested_arrays_cells.specs.ArrayCells.{has_cell}
use Rattle.nested_arrays_cells.proofs.ReadCells.{AreRead, AreReadEach}
use Rattle.nested_arrays_cells.proofs.cells.+reading.Given as goal

abbrev pub decreases-cell_at : goal.decreases-cell_at
decreases-cell_at l = 2 * column_size l.array.now

abbrev pub decreases-list_cell : goal.decreases-list_cell
decreases-list_cell l = 2 * column_size l.array.now + 1

abbrev pub decreases-record_cell : goal.decreases-record_cell
decreases-record_cell l = 2 * columns_size (in_columns l.arrays.now) + 1

-- the slots before are read
abbrev pub invariant-list_cell-loop-k : goal.invariant-list_cell-loop-k
invariant-list_cell-loop-k l = AreRead (has_cell (column_type l.array)) (slot_at l.array) l.start l.k (map scalar_slot l.cells)

-- the same
abbrev pub invariant-record_cell-loop-k : goal.invariant-record_cell-loop-k
invariant-record_cell-loop-k l = AreReadEach l.arrays l.place l.k (map scalar_slot l.cells)
