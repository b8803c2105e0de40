use Rattle.std.proofs.Common.{◌∙◌, ap, option_copied, sym}
use Rattle.nested_arrays_builder_arrays.specs.arrays.columns.StoredColumns.{is_valid_at}
use Rattle.nested_arrays_builder_arrays.proofs.arrays_lemmas.flat_lemmas.ColumnParts.{mark_of_slot}
use Rattle.nested_arrays_builder_arrays.proofs.arrays_lemmas.parts_lemmas.SameForms.{null_slot}
use Rattle.nested_arrays_cells.proofs.CellPlaces.{field_cells}
use Rattle.nested_arrays_cells.proofs.inside.record_fields.Goals as goal

pub mark_at-requires : goal.mark_at-requires
mark_at-requires c =
    mark_of_slot c.args.array.now (option_copied c.validity.result) c.args.i c.whole.ensures c.validity.ensures c.requires

pub returns-then-not-mark_at : goal.returns-then-not-mark_at
returns-then-not-mark_at c = null_slot c.args.array.now c.args.i
    (ap (λ mask. is_valid_at mask c.args.i) (sym c.validity.ensures) ∙ sym c.mark_at.ensures ∙ c.if-not-mark_at.true)

pub returns : goal.returns
returns c = field_cells c.args.array.now _ _ _ c.values.result.now c.args.i c.values.ensures c.whole.ensures c.requires
    (ap (λ mask. is_valid_at mask c.args.i) (sym c.validity.ensures) ∙ sym c.mark_at.ensures ∙ c.if-not-mark_at.false)
