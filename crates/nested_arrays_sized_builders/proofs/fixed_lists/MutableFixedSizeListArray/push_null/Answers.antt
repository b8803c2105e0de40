use Rattle.std.proofs.Common.{◌≡◌, ◌<◌, ◌≤◌, ◌∙◌, ◌++◌, ap, arith, length, refl}
use Rattle.std.specs.Prelude.{◌/◌}
use Rattle.nested_arrays_generic_builders.specs.nulls.columns.StoredColumns.{column_len}
use Rattle.nested_arrays_sized_builders.specs.FixedListBuilders.{fixed_list_parts}
use Rattle.nested_arrays_sized_builders.proofs.FixedPushes.{few_items, first_marks, items_again, mark_refused, null_pushed, nulls_refused}
use Rattle.nested_arrays_sized_builders.proofs.fixed_lists.MutableFixedSizeListArray.push_null.Goals as goal

pub truncate-requires : goal.truncate-requires
truncate-requires g c =
    let own = c.self.inside in
    few_items g.M.MutableArray.column (fixed_list_parts own.data_type own.marks own.values) c.self.invariant c.push_nulls.new.values
    c.len-items.result
    c.len-items.ensures c.in-Ok.ensures

pub returns-in-Ok-mark_behind-clause-column : goal.returns-in-Ok-mark_behind-clause-column
returns-in-Ok-mark_behind-clause-column g c =
    let own = c.self.inside in
    let old = fixed_list_parts own.data_type own.marks own.values in
    let column = g.M.MutableArray.column in
    rw (← c.self.view_is)
    (null_pushed column old c.self.invariant c.len-items.result c.keep_marks.new.marks c.mark_behind.new.marks c.push_nulls.new.values
    c.len-items.ensures c.keep_marks.ensures c.in-Ok.ensures c.in-Ok-mark_behind.ensures.0 c.in-Ok-mark_behind.ensures.1)

pub returns-in-Err-clause-column : goal.returns-in-Err-clause-column
returns-in-Err-clause-column g c =
    let own = c.self.inside in
    let old = fixed_list_parts own.data_type own.marks own.values in
    let column = g.M.MutableArray.column in
    rw (← c.self.view_is)
    (nulls_refused column old c.self.invariant c.len-items.result c.keep_marks.new.marks c.push_nulls.new.values c.in-Err.error c.len-items.ensures
    c.keep_marks.ensures c.in-Err.ensures.0 c.in-Err.ensures.1)

pub returns-in-Err-mark_behind-clause-list : goal.returns-in-Err-mark_behind-clause-list
returns-in-Err-mark_behind-clause-list g c =
    let own = c.self.inside in
    let old = fixed_list_parts own.data_type own.marks own.values in
    let column = g.M.MutableArray.column in
    rw (← c.self.view_is) (
      refl,
      (
        first_marks column old c.self.invariant c.len-items.result c.keep_marks.new.marks c.mark_behind.new.marks c.len-items.ensures
            c.keep_marks.ensures c.in-Err-mark_behind.ensures.0,
        items_again column old c.self.invariant c.push_nulls.new.values c.truncate.new.self c.len-items.result c.len-items.ensures
            c.in-Ok.ensures c.truncate.ensures,
      ),
    )

pub returns-in-Err-mark_behind-clause-column : goal.returns-in-Err-mark_behind-clause-column
returns-in-Err-mark_behind-clause-column g c =
    let own = c.self.inside in
    let old = fixed_list_parts own.data_type own.marks own.values in
    let column = g.M.MutableArray.column in
    rw (← c.self.view_is)
    (mark_refused column old c.self.invariant c.keep_marks.new.marks c.mark_behind.new.marks c.push_nulls.new.values c.truncate.new.self
    c.len-items.result c.in-Err-mark_behind.error c.keep_marks.ensures c.in-Err-mark_behind.ensures.0
    c.len-items.ensures c.in-Ok.ensures c.truncate.ensures
    c.in-Err-mark_behind.ensures.1)
