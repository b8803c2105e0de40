use Rattle.std.proofs.Common.{◌∙◌, sym}
use Rattle.nested_arrays_cells.proofs.CellForms.{truth_slot}
use Rattle.nested_arrays_cells.proofs.StoredValues.{truth_there}
use Rattle.nested_arrays_cells.proofs.flats.truth_cell.Goals as goal

pub returns : goal.returns
returns c = truth_slot c.value.result ∙ sym (truth_there c.args.array.now c.args.i c.value.result c.value.ensures)
