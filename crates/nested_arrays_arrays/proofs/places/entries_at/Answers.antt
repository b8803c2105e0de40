use Rattle.std.proofs.Common.{◌∙◌, ap, option_copied, sym}
use Rattle.nested_arrays_parts.specs.columns.StoredColumns.{is_valid_at}
use Rattle.nested_arrays_parts.proofs.SameForms.{null_slot}
use Rattle.nested_arrays_parts.proofs.flat_lemmas.ColumnParts.{mark_of_slot}
use Rattle.nested_arrays_arrays.proofs.places.entries_at.Goals as goal

pub mark_at-requires : goal.mark_at-requires
mark_at-requires c =
    mark_of_slot c.args.array.now (option_copied c.validity.result) c.args.i c.whole.ensures.0 c.validity.ensures c.requires

pub returns-then-not-mark_at : goal.returns-then-not-mark_at
returns-then-not-mark_at c = null_slot c.args.array.now c.args.i
    (ap (λ mask. is_valid_at mask c.args.i) (sym c.validity.ensures) ∙ sym c.mark_at.ensures ∙ c.if-not-mark_at.true)

pub map_items-requires-clause-set : goal.map_items-requires-clause-set
map_items-requires-clause-set c =
    ap (λ mask. is_valid_at mask c.args.i) (sym c.validity.ensures) ∙ sym c.mark_at.ensures ∙ c.if-not-mark_at.false
