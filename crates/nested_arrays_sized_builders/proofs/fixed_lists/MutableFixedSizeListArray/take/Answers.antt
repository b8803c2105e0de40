use Rattle.std.proofs.Common.{◌∙◌}
use Rattle.nested_arrays_sized_builders.specs.FixedListBuilders.{fixed_list_parts}
use Rattle.nested_arrays_sized_builders.proofs.FixedPushes.{taken_lists}
use Rattle.nested_arrays_sized_builders.proofs.fixed_lists.MutableFixedSizeListArray.take.Goals as goal

pub returns-clause-column : goal.returns-clause-column
returns-clause-column g c =
    let own = c.self.inside in
    rw (← c.self.view_is)
    (taken_lists g.M.MutableArray.column (fixed_list_parts own.data_type own.marks own.values) c.self.invariant c.as_box-values.new.self
    c.replace-marks.new.dest c.replace-marks.result c.as_box-values.result c.freeze_parts.result (c.replace-marks.ensures.after ∙ c.new.ensures)
    c.replace-marks.ensures.value c.as_box-values.ensures c.freeze_parts.ensures)
