use Rattle.std.proofs.Common.{◌∙◌, ap, option_copied, sym}
use Rattle.nested_arrays_builder_arrays.specs.arrays.columns.StoredColumns.{is_valid_at}
use Rattle.nested_arrays_builder_arrays.proofs.arrays_lemmas.flat_lemmas.ColumnParts.{mark_of_slot}
use Rattle.nested_arrays_builder_arrays.proofs.arrays_lemmas.parts_lemmas.SameForms.{null_slot}
use Rattle.nested_arrays_cells.proofs.CellForms.{null_cell_slot}
use Rattle.nested_arrays_cells.proofs.CellPlaces.{map_is_none, null_is_cell}
use Rattle.nested_arrays_cells.proofs.inside.map_cell.Goals as goal

pub mark_at-requires : goal.mark_at-requires
mark_at-requires c =
    mark_of_slot c.args.array.now (option_copied c.validity.result) c.args.i c.whole.ensures.0 c.validity.ensures c.requires

pub returns-then-mark_at : goal.returns-then-mark_at
returns-then-mark_at c =
    map_is_none c.args.array.now _ _ _ c.field-entries.result.now c.args.i c.field-entries.ensures c.whole.ensures.0 c.whole.ensures.1
    (ap (λ mask. is_valid_at mask c.args.i) (sym c.validity.ensures) ∙ sym c.mark_at.ensures ∙ c.if-mark_at.true)

pub returns : goal.returns
returns c =
    let is = null_slot c.args.array.now c.args.i
    (ap (λ mask. is_valid_at mask c.args.i) (sym c.validity.ensures) ∙ sym c.mark_at.ensures ∙ c.if-mark_at.false) in
    (null_is_cell c.args.array.now c.args.i is, null_cell_slot ∙ sym is)
