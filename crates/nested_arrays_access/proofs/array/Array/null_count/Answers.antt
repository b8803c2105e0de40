use Rattle.std.proofs.Common.{◌∙◌, ap, sym}
use Rattle.nested_arrays_arrays.specs.flat.ColumnMasks.{unset_in}
use Rattle.nested_arrays_access.proofs.NullColumns.{all_null, masked_null}
use Rattle.nested_arrays_access.proofs.array.Array.null_count.Goals as goal

pub returns-then-is_of_nulls : goal.returns-then-is_of_nulls
returns-then-is_of_nulls g c = c.len.ensures
    ∙ sym (all_null (g.Self.Array.column c.args.self.now) c.data_type.result.now c.is_of_nulls.result c.whole.ensures c.data_type.ensures
    c.is_of_nulls.ensures c.if-is_of_nulls.true)

pub returns : goal.returns
returns g c = c.unset_marks.ensures ∙ ap unset_in c.validity.ensures
    ∙ sym (masked_null (g.Self.Array.column c.args.self.now) c.data_type.result.now c.is_of_nulls.result c.whole.ensures c.data_type.ensures
    c.is_of_nulls.ensures c.if-is_of_nulls.false)
