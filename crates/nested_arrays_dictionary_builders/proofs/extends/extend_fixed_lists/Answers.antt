use Rattle.std.proofs.Common.{◌≡◌, ◌∙◌, ap, arith, subst, sym}
use Rattle.std.proofs.lemmas.Bool.{false≢true}
use mathlib.Core.Logic.{inr}
use Rattle.nested_arrays_sized_builders.proofs.taken_lemmas.FlatSlots.{unchanged}
use Rattle.nested_arrays_sized_builders.specs.FixedListBuilders.{FixedListParts, fixed_lists_column}
use Rattle.nested_arrays_sized_builders.specs.nulls.columns.StoredColumns.{column_len}
use Rattle.nested_arrays_dictionary_builders.specs.JoinedFixedLists.{JoinsFixedItems}
use Rattle.nested_arrays_dictionary_builders.proofs.JoinedFixedLists.{fixed_lists_joined, marks_refused, open_items, other_items, other_size}
use Rattle.nested_arrays_dictionary_builders.proofs.extends.extend_fixed_lists.Goals as goal

pub returns-then-not-has_size_of : goal.returns-then-not-has_size_of
returns-then-not-has_size_of g c =
    let old = c.args.lists.now in
    let column = g.M.MutableArray.column in (
      unchanged (fixed_lists_column column old),
      inr (inr (
        tt,
        other_size column old c.args.other.now c.has_size_of.ensures.some
            (λ same. false≢true (sym c.if-not-has_size_of.true ∙ c.has_size_of.ensures.same.1 same)),
      )),
    )

pub returns-then-not-has_items_of : goal.returns-then-not-has_items_of
returns-then-not-has_items_of g c =
    let old = c.args.lists.now in
    let column = g.M.MutableArray.column in (
      unchanged (fixed_lists_column column old),
      inr (inr (
        tt,
        other_items column old c.args.other.now c.has_size_of.ensures.some
            (λ same. false≢true (sym c.if-not-has_items_of.true ∙ c.has_items_of.ensures.1 same)),
      )),
    )

pub returns-then-not-has_whole_lists : goal.returns-then-not-has_whole_lists
returns-then-not-has_whole_lists g c =
    let old = c.args.lists.now in
    let column = g.M.MutableArray.column in (
      unchanged (fixed_lists_column column old),
      inr (inr (
        tt,
        open_items column old c.args.other.now c.has_size_of.ensures.some
            (λ same. false≢true (sym c.if-not-has_whole_lists.true ∙ c.has_whole_lists.ensures.1 same)),
      )),
    )

pub join_fixed_items-requires : goal.join_fixed_items-requires
join_fixed_items-requires g c =
    let column = g.M.MutableArray.column in
    omega (
      arith,
      c.len-held.ensures,
      ap (λ (p : FixedListParts _). column_len (fixed_lists_column column p)) c.in-Ok.ensures.0,
    )

pub returns-in-Ok : goal.returns-in-Ok
returns-in-Ok g c =
    let old = c.args.lists.now in
    let other = c.args.other.now in
    let column = g.M.MutableArray.column in
    let join = c.join_fixed_items in
    let held = c.len-held.result in
    fixed_lists_joined column old other c.has_size_of.ensures.some (c.has_size_of.ensures.same.0 c.if-not-has_size_of.false) held
    (c.has_whole_lists.ensures.0 c.if-not-has_whole_lists.false) c.len-held.ensures c.in-Ok.ensures.1 join.new.lists join.result
    (subst (λ (p : FixedListParts _). JoinsFixedItems column p other.values held join.new.lists join.result) c.in-Ok.ensures.0
    (subst (λ (items : _). JoinsFixedItems column c.try_extend_marks.new.self items held join.new.lists join.result) c.values.ensures join.ensures))

pub returns-in-Err : goal.returns-in-Err
returns-in-Err g c =
    marks_refused g.M.MutableArray.column c.args.lists.now c.args.other.now c.has_size_of.ensures.some
    (c.has_size_of.ensures.same.0 c.if-not-has_size_of.false) c.try_extend_marks.new.self c.in-Err.error c.in-Err.ensures
