use Rattle.std.proofs.Common.{arith, ap, length, sym}
use Rattle.std.specs.Prelude.{◌/◌}
use Rattle.nested_arrays_sized_builders.specs.FixedListBuilders.{fixed_list_parts}
use Rattle.nested_arrays_sized_builders.proofs.FilledMarks.{lists_marked}
use Rattle.nested_arrays_sized_builders.proofs.SettledMarks.{first_few}
use Rattle.nested_arrays_sized_builders.proofs.fixed_lists.MutableFixedSizeListArray.try_extend_marks.Goals as goal

pub join_filled-requires : goal.join_filled-requires
join_filled-requires g c =
    let own = c.self.inside in
    omega (arith, ap length c.keep_marks.ensures, first_few (c.len-items.result / own.size) own.marks)

pub returns : goal.returns
returns g c =
    let own = c.self.inside in
    let its = c.other.inside in
    let old = fixed_list_parts own.data_type own.marks own.values in
    let more = fixed_list_parts its.data_type its.marks its.values in
    rw (← c.self.view_is)
    (rw (← c.other.view_is)
    (lists_marked g.M.MutableArray.column old more (c.len-items.result / own.size) (c.len-more_items.result / its.size) c.keep_marks.new.marks
    c.join_filled.new.marks c.join_filled.result (λ j. c.len-items.ensures j / sym c.self.invariant.wide j)
    (λ j. c.len-more_items.ensures j / sym c.other.invariant.wide j) c.keep_marks.ensures c.join_filled.ensures))
