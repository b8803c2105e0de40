use Rattle.std.proofs.Common.{subst}
use Rattle.nested_arrays_builder_parts.specs.Scalars.{scalar_slot}
use Rattle.nested_arrays_builder_values.specs.Found.{IsPlaceOf, IsSlotAt}
use Rattle.nested_arrays_builder_values.proofs.Looked.{slot_found}
use Rattle.nested_arrays_builder_values.proofs.values.CellMap.find.Goals as goal

pub returns : goal.returns
returns c =
    subst (λ slots. IsSlotAt slots (scalar_slot c.args.cell.now) c.place_of.result) c.self.view_is
    (slot_found c.self.inside.cells.items c.args.cell.now c.place_of.result
    (subst (λ cells. IsPlaceOf cells c.args.cell.now c.place_of.result) c.as_slice.ensures.value c.place_of.ensures))
