use Rattle.std.proofs.Common.{◌≡◌, ◌≢◌, ◌∙◌, ap, arith, length, subst, sym}
use Rattle.std.proofs.lemmas.Bool.{false≢true}
use Rattle.std.proofs.lemmas.List.{length-append}
use mathlib.Core.Logic.{inr}
use Rattle.nested_arrays_sized_builders.proofs.nulls_lemmas.flat_lemmas.Offsets.{spans_count}
use Rattle.nested_arrays_sized_builders.proofs.taken_lemmas.FlatSlots.{unchanged}
use Rattle.nested_arrays_sized_builders.specs.ListBuilders.{ListParts, lists_column}
use Rattle.nested_arrays_sized_builders.specs.nulls.columnar_memory.Spans.{last_of}
use Rattle.nested_arrays_sized_builders.specs.nulls.columns.StoredColumns.{column_len}
use Rattle.nested_arrays_dictionary_builders.specs.JoinedLists.{JoinsItems}
use Rattle.nested_arrays_dictionary_builders.proofs.JoinedLists.{lists_joined, open_lists, other_open, spans_refused}
use Rattle.nested_arrays_dictionary_builders.proofs.extends.extend_lists.Goals as goal

pub returns-then-not-is_closed : goal.returns-then-not-is_closed
returns-then-not-is_closed g c =
    let old = c.args.lists.now in
    let column = g.M.MutableArray.column in
    let apart : last_of old.spans ≢ column_len (column old.values) =
    λ same. false≢true (sym c.if-not-is_closed.true ∙ c.is_closed.ensures.1 same) in (
      unchanged (lists_column column old),
      inr (inr (
        tt,
        open_lists column g.O.Offset.IS_LARGE old c.args.other.now c.whole.ensures c.whole-2.ensures apart,
      )),
    )

pub returns-then-not-is_closed-2 : goal.returns-then-not-is_closed-2
returns-then-not-is_closed-2 g c =
    let other = c.args.other.now in
    let column = g.M.MutableArray.column in
    let apart : last_of other.spans ≢ column_len (column other.values) =
    λ same. false≢true (sym c.if-not-is_closed-2.true ∙ c.is_closed-2.ensures.1 same) in (
      unchanged (lists_column column c.args.lists.now),
      inr (inr (
        tt,
        other_open column g.O.Offset.IS_LARGE c.args.lists.now other c.whole.ensures c.whole-2.ensures apart,
      )),
    )

pub join_items-requires : goal.join_items-requires
join_items-requires g c =
    let old = c.args.lists.now in
    let new = c.try_extend_spans.new.self in
    omega (
      arith,
      c.len-held.ensures,
      spans_count old.spans,
      spans_count new.spans,
      ap (λ (p : ListParts _). length p.spans.lengths) c.in-Ok.ensures.0,
      length-append old.spans.lengths c.args.other.now.spans.lengths,
    )

pub returns-in-Ok : goal.returns-in-Ok
returns-in-Ok g c =
    let old = c.args.lists.now in
    let other = c.args.other.now in
    let column = g.M.MutableArray.column in
    let join = c.join_items in
    let held = c.len-held.result in
    let is : held ≡ length old.marks = omega (arith, c.len-held.ensures, spans_count old.spans, c.whole.ensures.counted) in
    lists_joined column g.O.Offset.IS_LARGE old other c.whole.ensures c.whole-2.ensures (c.is_closed.ensures.0 c.if-not-is_closed.false)
    (c.is_closed-2.ensures.0 c.if-not-is_closed-2.false) g.O.Index.greatest g.met.O.Offset.large_law held is c.in-Ok.ensures.1 c.in-Ok.ensures.2
    join.new.lists join.result
    (subst (λ (p : ListParts _). JoinsItems column p other.values held join.new.lists join.result) c.in-Ok.ensures.0
    (subst (λ (items : _). JoinsItems column c.try_extend_spans.new.self items held join.new.lists join.result) c.values.ensures join.ensures))

pub returns-in-Err : goal.returns-in-Err
returns-in-Err g c =
    let column = g.M.MutableArray.column in
    spans_refused column g.O.Offset.IS_LARGE c.args.lists.now c.args.other.now c.whole.ensures c.whole-2.ensures
    (c.is_closed.ensures.0 c.if-not-is_closed.false) (c.is_closed-2.ensures.0 c.if-not-is_closed-2.false) g.O.Index.greatest
    g.met.O.Offset.large_law c.try_extend_spans.new.self c.in-Err.error c.in-Err.ensures
