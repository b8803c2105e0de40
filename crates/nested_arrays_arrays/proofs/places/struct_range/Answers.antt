use Rattle.std.proofs.Common.{◌∙◌, ◌+◌, ap, option_copied, sym}
use Rattle.nested_arrays_parts.specs.columns.StoredColumns.{is_valid_at}
use Rattle.nested_arrays_parts.proofs.Marks.{marks_of_range}
use Rattle.nested_arrays_arrays.proofs.SlotPlaces.{struct_range}
use Rattle.nested_arrays_arrays.proofs.places.struct_range.Goals as goal

pub has_no_nulls-requires : goal.has_no_nulls-requires
has_no_nulls-requires c =
    marks_of_range c.args.array.now (option_copied c.validity.result) c.args.i c.args.count c.whole.ensures c.validity.ensures c.requires

pub returns : goal.returns
returns c = struct_range _ _ _ _ _ c.args.i c.args.count c.values.ensures c.whole.ensures c.requires
    (λ k h. ap (λ mask. is_valid_at mask (c.args.i + k)) (sym c.validity.ensures) ∙ c.has_no_nulls.ensures.0 c.if-not-has_no_nulls.false k h)
