use Rattle.std.proofs.Common.{◌≡◌, ◌≤◌, ◌∙◌, ℕ, ap, arith, length, subst}
use Rattle.nested_arrays_nulls.specs.columnar_memory.Spans.{first_spans, last_of}
use Rattle.nested_arrays_nulls.proofs.arrays_lemmas.flat_lemmas.Offsets.{spans_count}
use Rattle.nested_arrays_cells.specs.taken.OpenColumns.{KeepsFirst}
use Rattle.nested_arrays_generic_builders.specs.ListBuilders.{list_parts}
use Rattle.nested_arrays_generic_builders.proofs.OpenLists.{all_kept, kept_lists}
use Rattle.nested_arrays_generic_builders.proofs.lists.MutableListArray.truncate.Goals as goal

pub keep_spans-end-requires : goal.keep_spans-end-requires
keep_spans-end-requires g c =
    let within = rw (← c.self.view_is) at c.requires in omega (arith, within, spans_count c.self.inside.offsets)

pub truncate-requires : goal.truncate-requires
truncate-requires g c =
    let within = rw (← c.self.view_is) at c.requires in
    omega (arith, within, spans_count c.self.inside.offsets, c.self.invariant.counted)

pub returns-then-end-len-clause-items : goal.returns-then-end-len-clause-items
returns-then-end-len-clause-items g c =
    let own = c.self.inside in
    let column = g.M.MutableArray.column in
    let end : c.keep_spans-end.result ≡ last_of (first_spans own.offsets c.args.len) =
    c.keep_spans-end.ensures.end ∙ ap last_of c.keep_spans-end.ensures.first in
    rw (← c.self.view_is)
    (subst (λ (n : ℕ). KeepsFirst (column own.values) n (column c.truncate-then-end-len.new.self)) end c.truncate-then-end-len.ensures)

pub returns-else-end-len-clause-items : goal.returns-else-end-len-clause-items
returns-else-end-len-clause-items g c =
    let own = c.self.inside in
    let end : c.keep_spans-end.result ≡ last_of (first_spans own.offsets c.args.len) =
    c.keep_spans-end.ensures.end ∙ ap last_of c.keep_spans-end.ensures.first in
    rw (← c.self.view_is)
    (all_kept (g.M.MutableArray.column own.values) (last_of (first_spans own.offsets c.args.len))
    (omega (arith, end, c.len.ensures, c.if-end-len.false)))

pub returns-then-end-len-clause-column : goal.returns-then-end-len-clause-column
returns-then-end-len-clause-column g c =
    let own = c.self.inside in
    let column = g.M.MutableArray.column in
    let within = rw (← c.self.view_is) at c.requires in
    let few : c.args.len ≤ length own.marks = omega (arith, within, spans_count own.offsets, c.self.invariant.counted) in
    let end : c.keep_spans-end.result ≡ last_of (first_spans own.offsets c.args.len) =
    c.keep_spans-end.ensures.end ∙ ap last_of c.keep_spans-end.ensures.first in
    let kept = subst (λ (n : ℕ). KeepsFirst (column own.values) n (column c.truncate-then-end-len.new.self)) end c.truncate-then-end-len.ensures in
    rw (← c.self.view_is, c.truncate.ensures, c.keep_spans-end.ensures.first)
    (kept_lists column g.O.Offset.IS_LARGE (list_parts own.data_type own.marks own.offsets own.values) c.self.invariant c.args.len
    c.truncate-then-end-len.new.self few kept)

pub returns-else-end-len-clause-column : goal.returns-else-end-len-clause-column
returns-else-end-len-clause-column g c =
    let own = c.self.inside in
    let column = g.M.MutableArray.column in
    let within = rw (← c.self.view_is) at c.requires in
    let few : c.args.len ≤ length own.marks = omega (arith, within, spans_count own.offsets, c.self.invariant.counted) in
    let end : c.keep_spans-end.result ≡ last_of (first_spans own.offsets c.args.len) =
    c.keep_spans-end.ensures.end ∙ ap last_of c.keep_spans-end.ensures.first in
    let kept = all_kept (column own.values) (last_of (first_spans own.offsets c.args.len)) (omega (arith, end, c.len.ensures, c.if-end-len.false)) in
    rw (← c.self.view_is, c.truncate.ensures, c.keep_spans-end.ensures.first)
    (kept_lists column g.O.Offset.IS_LARGE (list_parts own.data_type own.marks own.offsets own.values) c.self.invariant c.args.len
    own.values few kept)
