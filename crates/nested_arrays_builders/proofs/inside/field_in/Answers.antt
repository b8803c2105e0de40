use Rattle.std.proofs.Common.{rules, ◌∙◌, ◌<◌, length, get_or, ap, sym, arith}
use Rattle.nested_arrays_builder_values.specs.parts.arrays.columns.Children.{field_of}
use Rattle.nested_arrays_builder_values.specs.parts.Scalars.{scalar_slot}
use Rattle.nested_arrays_builders.proofs.CellItems.{as_many_fields, field_at, no_record}
use Rattle.nested_arrays_builders.proofs.inside.field_in.Goals as goal

pub offset_bounds-as_slice-place : goal.offset_bounds-as_slice-place
offset_bounds-as_slice-place c =
    let many = as_many_fields c.args.cell.now c.in-Record.cells c.in-Record.is c.args.count c.requires.sized in
    let lt : c.args.place < length c.as_slice.result.now = omega (arith, c.requires.within, many, ap length c.as_slice.ensures) in
    search (rules, lt)

pub bounds-as_slice-place : goal.bounds-as_slice-place
bounds-as_slice-place c =
    let many = as_many_fields c.args.cell.now c.in-Record.cells c.in-Record.is c.args.count c.requires.sized in
    omega (arith, c.requires.within, many, ap length c.as_slice.ensures)

pub returns-in-Record : goal.returns-in-Record
returns-in-Record c =
    let many = as_many_fields c.args.cell.now c.in-Record.cells c.in-Record.is c.args.count c.requires.sized in
    let lt : c.args.place < length c.in-Record.cells = omega (arith, c.requires.within, many) in
    let read = c.index-as_slice-place.is ∙ ap (λ xs. get_or xs c.args.place c.index-as_slice-place.result) c.as_slice.ensures in
    ap scalar_slot read ∙ field_at c.args.cell.now c.in-Record.cells c.in-Record.is c.args.place _ lt

pub returns-in_default : goal.returns-in_default
returns-in_default c =
    let is = no_record c.args.count c.args.cell.now c.in_default.not-Record c.requires.sized in
    is ∙ sym (ap (field_of c.args.place) is)
