use Rattle.std.proofs.Common.{◌≡◌, ◌≤◌, ◌∙◌, ap, arith, sym}
use Rattle.nested_arrays_nulls.specs.columnar_memory.Spans.{last_of, number_of}
use Rattle.nested_arrays_generic_builders.specs.ListBuilders.{list_parts}
use Rattle.nested_arrays_generic_builders.proofs.ListPushes.{null_pushed}
use Rattle.nested_arrays_generic_builders.proofs.OpenLists.{pushed_null}
use Rattle.nested_arrays_generic_builders.proofs.lists.MutableListArray.push_null.Goals as goal

pub returns-clause-column : goal.returns-clause-column
returns-clause-column g c =
    let own = c.self.inside in
    let old = list_parts own.data_type own.marks own.offsets own.values in
    let ended : c.to_usize-last.result ≡ last_of own.offsets = ap number_of (sym c.to_usize-last.ensures.0 ∙ c.last.ensures) in
    let few : last_of own.offsets ≤ g.O.Index.greatest = omega (arith, ended, c.to_usize-last.ensures.1) in
    rw (← c.self.view_is) (pushed_null g.M.MutableArray.column g.O.Offset.IS_LARGE old c.self.invariant _ c.push_list.result
    (null_pushed g.O.Index.greatest old c.push_list.new.marks c.push_list.new.offsets c.push_list.result few c.push_list.ensures))
