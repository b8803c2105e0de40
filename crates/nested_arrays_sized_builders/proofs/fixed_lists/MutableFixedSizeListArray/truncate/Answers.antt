use Rattle.std.proofs.Common.{refl}
use Rattle.nested_arrays_sized_builders.specs.FixedListBuilders.{fixed_list_parts}
use Rattle.nested_arrays_sized_builders.proofs.FixedPushes.{end_within, kept_items, kept_lists}
use Rattle.nested_arrays_sized_builders.proofs.fixed_lists.MutableFixedSizeListArray.truncate.Goals as goal

pub truncate-requires : goal.truncate-requires
truncate-requires g c =
    let own = c.self.inside in
    let within = rw (← c.self.view_is) at c.requires in
    end_within g.M.MutableArray.column (fixed_list_parts own.data_type own.marks own.values) c.self.invariant c.args.len within

pub returns-clause-items : goal.returns-clause-items
returns-clause-items g c =
    let own = c.self.inside in
    rw (← c.self.view_is)
    (kept_items g.M.MutableArray.column (fixed_list_parts own.data_type own.marks own.values) c.self.invariant c.args.len _ c.truncate.new.self refl
    c.truncate.ensures)

pub returns-clause-column : goal.returns-clause-column
returns-clause-column g c =
    let own = c.self.inside in
    let within = rw (← c.self.view_is) at c.requires in
    rw (← c.self.view_is)
    (kept_lists g.M.MutableArray.column (fixed_list_parts own.data_type own.marks own.values) c.self.invariant c.args.len _ c.keep_marks.new.marks
    c.truncate.new.self within refl c.keep_marks.ensures c.truncate.ensures)
