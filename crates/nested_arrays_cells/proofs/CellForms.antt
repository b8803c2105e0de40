-- The slots of cells that hold others.
use Rattle.std.proofs.Common.{◌≡◌, ◌∙◌, Bool, List, [], ◌∷◌, map, refl, ap}
use Rattle.nested_arrays_builder_arrays.specs.arrays.columns.Rows.{Cell, cell_slot, cell_slots}
use Rattle.nested_arrays_builder_arrays.specs.arrays.columns.Slots.{null, truth, items, fields, in_slots, slot_then}
use Rattle.nested_arrays_builder_arrays.specs.parts.Scalars.{in_cells, cell_step, cell_of, scalar_slot}
use Rattle.nested_arrays_scalars.specs.declared.scalars.AnyScalar.{AnyScalar, map-AnyScalar}
use Rattle.nested_arrays_scalars.specs.declared.scalars.AnyScalar.TheFolds.{fold-roll-AnyScalar}
use Rattle.nested_arrays_scalars.specs.declared.scalars.AnyScalar.TheOpen as layer
use Rattle.nested_arrays_scalars.specs.declared.scalars.AnyScalar.TheVariants as variant
use Rattle.nested_arrays_scalars.specs.declared.scalars.AnyScalar.TheViews.{roll-AnyScalar}
use denote.Hole.Carrier

slot_roll : (x : layer.AnyScalar-F AnyScalar) → scalar_slot (roll-AnyScalar x) ≡ cell_slot (cell_step (map-AnyScalar AnyScalar Cell cell_of x))
slot_roll x = ap cell_slot (fold-roll-AnyScalar Cell cell_step x)

pub null_cell_slot : scalar_slot variant.Null ≡ null
unfolding roll-AnyScalar denote.Hole.Carrier.roll
null_cell_slot = slot_roll layer.Null

pub truth_slot : (b : Bool) → scalar_slot (variant.Boolean b) ≡ truth b
unfolding roll-AnyScalar denote.Hole.Carrier.roll
truth_slot b = slot_roll (layer.Boolean b)

slots_of_cells : (cells : List AnyScalar) → cell_slots (in_cells (map cell_of cells)) ≡ in_slots (map scalar_slot cells)
slots_of_cells [] = refl
slots_of_cells (cell ∷ cells) = ap (λ rest. slot_then (scalar_slot cell) rest) (slots_of_cells cells)

pub list_slot : (cells : List AnyScalar) → scalar_slot (variant.List cells) ≡ items (in_slots (map scalar_slot cells))
unfolding roll-AnyScalar denote.Hole.Carrier.roll
list_slot cells = slot_roll (layer.List cells) ∙ ap items (slots_of_cells cells)

pub record_slot : (cells : List AnyScalar) → scalar_slot (variant.Record cells) ≡ fields (in_slots (map scalar_slot cells))
unfolding roll-AnyScalar denote.Hole.Carrier.roll
record_slot cells = slot_roll (layer.Record cells) ∙ ap fields (slots_of_cells cells)
