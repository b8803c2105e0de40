use Rattle.std.proofs.Common.{rules, ◌∙◌, ◌<◌, length, get_or, ap, arith}
use Rattle.nested_arrays_builder_values.specs.parts.Scalars.{scalar_slot}
use Rattle.nested_arrays_builders.proofs.CellItems.{as_many, item_at, no_list, null_item, sized_is_list}
use Rattle.nested_arrays_builders.proofs.inside.item_in.Goals as goal

pub offset_bounds-as_slice-place : goal.offset_bounds-as_slice-place
offset_bounds-as_slice-place c =
    let many = as_many c.args.cell.now c.in-List.cells c.in-List.is c.args.count c.requires.sized in
    let lt : c.args.place < length c.as_slice.result.now = omega (arith, c.requires.within, many, ap length c.as_slice.ensures) in
    search (rules, lt)

pub bounds-as_slice-place : goal.bounds-as_slice-place
bounds-as_slice-place c =
    let many = as_many c.args.cell.now c.in-List.cells c.in-List.is c.args.count c.requires.sized in
    omega (arith, c.requires.within, many, ap length c.as_slice.ensures)

pub returns-in-List : goal.returns-in-List
returns-in-List c =
    let many = as_many c.args.cell.now c.in-List.cells c.in-List.is c.args.count c.requires.sized in
    let lt : c.args.place < length c.in-List.cells = omega (arith, c.requires.within, many) in
    let read = c.index-as_slice-place.is ∙ ap (λ xs. get_or xs c.args.place c.index-as_slice-place.result) c.as_slice.ensures in
    ap scalar_slot read ∙ item_at c.args.cell.now c.in-List.cells c.in-List.is c.args.count c.args.place _ lt

pub returns-in_default : goal.returns-in_default
returns-in_default c =
    let listed = sized_is_list c.args.count _ c.requires.sized in
    null_item c.args.count c.args.place _ (no_list c.args.cell.now c.in_default.not-List listed) c.requires.within
