use Rattle.std.proofs.Common.{◌∙◌, ap, sym, option_copied}
use Rattle.std.specs.Prelude.{not}
use Rattle.nested_arrays_arrays.specs.columns.StoredColumns.{is_valid_at}
use Rattle.nested_arrays_arrays.proofs.flat_lemmas.ColumnParts.{mark_of_slot}
use Rattle.nested_arrays_access.proofs.NullColumns.{each_null, marked_null}
use Rattle.nested_arrays_access.proofs.array.Array.is_null.Goals as goal

pub returns-then-is_of_nulls : goal.returns-then-is_of_nulls
returns-then-is_of_nulls g c =
    sym (each_null (g.Self.Array.column c.args.self.now) c.data_type.result.now c.is_of_nulls.result c.args.i c.whole.ensures c.data_type.ensures
    c.is_of_nulls.ensures c.if-is_of_nulls.true)

pub mark_at-requires : goal.mark_at-requires
mark_at-requires g c =
    mark_of_slot (g.Self.Array.column c.args.self.now) (option_copied c.validity.result) c.args.i c.whole.ensures c.validity.ensures c.requires

pub returns : goal.returns
returns g c = ap not (c.mark_at.ensures ∙ ap (λ mask. is_valid_at mask c.args.i) c.validity.ensures)
    ∙ sym (marked_null (g.Self.Array.column c.args.self.now) c.data_type.result.now c.is_of_nulls.result c.args.i c.whole.ensures c.data_type.ensures
    c.is_of_nulls.ensures c.if-is_of_nulls.false)
