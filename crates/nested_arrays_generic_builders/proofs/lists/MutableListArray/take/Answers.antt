use Rattle.std.proofs.Common.{◌∙◌, subst}
use Rattle.nested_arrays_nulls.specs.columns.StoredColumns.{Column}
use Rattle.nested_arrays_cells.specs.taken.OpenColumns.{TakesColumn}
use Rattle.nested_arrays_generic_builders.specs.ListBuilders.{ListParts, list_parts, lists_column}
use Rattle.nested_arrays_generic_builders.proofs.OpenLists.{taken_lists}
use Rattle.nested_arrays_generic_builders.proofs.lists.MutableListArray.take.Goals as goal

pub returns-clause-column : goal.returns-clause-column
returns-clause-column g c =
    let own = c.self.inside in
    let column = g.M.MutableArray.column in
    let left = list_parts own.data_type c.replace-marks.new.dest c.take_offsets-offsets.new.offsets c.as_box-values.new.self in
    subst (λ (old : ListParts _). TakesColumn (lists_column column old) (lists_column column left) (λ (array : Column). array) c.freeze_parts.result)
    c.self.view_is
    (taken_lists column g.O.Offset.IS_LARGE (list_parts own.data_type own.marks own.offsets own.values)
    c.self.invariant c.as_box-values.new.self c.replace-marks.new.dest c.take_offsets-offsets.new.offsets c.replace-marks.result
    c.take_offsets-offsets.result c.as_box-values.result c.freeze_parts.result (c.replace-marks.ensures.after ∙ c.new.ensures)
    c.take_offsets-offsets.ensures.left c.replace-marks.ensures.value c.take_offsets-offsets.ensures.taken c.as_box-values.ensures
    c.freeze_parts.ensures)
