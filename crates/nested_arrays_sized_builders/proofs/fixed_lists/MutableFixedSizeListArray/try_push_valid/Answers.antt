use Rattle.nested_arrays_sized_builders.specs.FixedListBuilders.{fixed_list_parts}
use Rattle.nested_arrays_sized_builders.proofs.FixedPushes.{column_closed, list_closed}
use Rattle.nested_arrays_sized_builders.proofs.fixed_lists.MutableFixedSizeListArray.try_push_valid.Goals as goal

pub returns-clause-column : goal.returns-clause-column
returns-clause-column g c =
    let own = c.self.inside in
    let old = fixed_list_parts own.data_type own.marks own.values in
    let is = rw (← c.self.view_is) at (c.has_one_list.ensures.0 c.if-not-has_one_list.false) in
    rw (← c.self.view_is)
    (column_closed g.M.MutableArray.column old c.self.invariant _ c.push.result
    (list_closed g.M.MutableArray.column old c.self.invariant c.push.new.self c.push.result is c.push.ensures))
