use Rattle.std.proofs.Common.{◌≡◌, ◌≤◌, ◌-◌, ◌∙◌, ap, arith, sym}
use Rattle.nested_arrays_nulls.specs.columnar_memory.Spans.{last_of, number_of}
use Rattle.nested_arrays_nulls.specs.columns.StoredColumns.{column_len}
use Rattle.nested_arrays_generic_builders.specs.ListBuilders.{list_parts}
use Rattle.nested_arrays_generic_builders.proofs.ListPushes.{list_closed}
use Rattle.nested_arrays_generic_builders.proofs.OpenLists.{closed_lists}
use Rattle.nested_arrays_generic_builders.proofs.lists.MutableListArray.try_push_valid.Goals as goal

pub returns-clause-column : goal.returns-clause-column
returns-clause-column g c =
    let own = c.self.inside in
    let column = g.M.MutableArray.column in
    let greatest = g.O.Index.greatest in
    let old = list_parts own.data_type own.marks own.offsets own.values in
    let ended : c.to_usize.result ≡ last_of own.offsets = ap number_of (sym c.to_usize.ensures.0 ∙ c.last.ensures) in
    let found = c.in-Some.ensures in
    let le : last_of own.offsets ≤ column_len (column own.values) = omega (arith, ended, found.0, c.len-items.ensures) in
    let count : c.in-Some.count ≡ column_len (column own.values) - last_of own.offsets = omega (arith, ended, found.1, c.len-items.ensures) in
    rw (← c.self.view_is) (closed_lists column g.O.Offset.IS_LARGE old c.self.invariant greatest g.met.O.Offset.large_law _ c.push_list.result
    (list_closed greatest old c.push_list.new.marks c.push_list.new.offsets (column_len (column own.values)) c.in-Some.count c.push_list.result le
    count c.push_list.ensures))
