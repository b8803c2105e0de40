use Rattle.nested_arrays_cells.proofs.CellPlaces.{union_is_none}
use Rattle.nested_arrays_cells.proofs.inside.union_cell.Goals as goal

pub returns : goal.returns
returns c = union_is_none c.args.array.now _ _ _ _ c.args.i c.fields-fields.ensures c.whole.ensures c.requires
