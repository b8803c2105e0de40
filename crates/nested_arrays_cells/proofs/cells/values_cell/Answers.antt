use Rattle.nested_arrays_cells.proofs.CellPlaces.{flat_is_cell}
use Rattle.nested_arrays_cells.proofs.cells.values_cell.Goals as goal

pub returns : goal.returns
returns c = (flat_is_cell c.args.array.now c.args.place c.whole.ensures c.holds_values.ensures, c.in_ok-flat_cell.ensures)
