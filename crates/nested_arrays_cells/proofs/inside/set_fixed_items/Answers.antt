use Rattle.std.proofs.Common.{◌≡◌, ◌∙◌, ◌*◌, ap, sym}
use Rattle.nested_arrays_builder_arrays.specs.arrays.columns.StoredColumns.{column_type, fixed_lists}
use Rattle.nested_arrays_builder_arrays.specs.arrays.flat.ColumnMasks.{column_mask}
use Rattle.nested_arrays_builder_arrays.proofs.arrays_lemmas.SlotPlaces.{fixed_items}
use Rattle.nested_arrays_cells.proofs.CellPlaces.{fixed_cells}
use Rattle.nested_arrays_cells.proofs.inside.set_fixed_items.Goals as goal

pub returns : goal.returns
returns c =
    let t = column_type c.args.array.now in
    let mask = column_mask c.args.array.now in
    let child = c.values-items.result.now in
    let size = c.size-size.result in
    let is : c.args.array.now ≡ fixed_lists t mask size child =
    c.values-items.ensures ∙ ap (λ n. fixed_lists t mask n child) (sym c.size-size.ensures.value) in
    fixed_cells c.args.array.now t mask size child c.args.i (size * c.args.i) size is c.whole.ensures
    (fixed_items c.args.array.now t mask size child c.args.i is c.requires.within c.requires.set)
