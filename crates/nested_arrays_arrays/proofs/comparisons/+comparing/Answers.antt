use Rattle.std.proofs.Common.{rules, ◌≡◌, ◌∙◌, ◌∷◌, ◌+◌, ap, arith, subst, sym, List}
use Rattle.std.proofs.lemmas.Bool.{eqb-true, false≢true}
use Rattle.nested_arrays_parts.proofs.columns_lemmas.ColumnSizes.{sizes_count}
use Rattle.nested_arrays_parts.specs.columns.Slots.{pick}
use Rattle.nested_arrays_parts.specs.columns.StoredColumns.{Column, column_size, columns_size, in_columns, slot_at}
use Rattle.nested_arrays_arrays.proofs.SameSlots.{fields_of_lists, items_count, items_same, no_columns_nodes, node_some, nodes_some, nodes_up_to}
use Rattle.nested_arrays_arrays.proofs.ListRuns.{run_compared, run_part, run_within}
use Rattle.nested_arrays_arrays.proofs.SameSlots.{one_more, pick_parts, record_nodes, records_same}
use Rattle.nested_arrays_parts.proofs.SameForms.{one_slot}
use Rattle.nested_arrays_parts.specs.Ranges.{range_nodes}
use Rattle.nested_arrays_arrays.specs.Places.{HavePlace, HaveRange, columns_nodes}
use Rattle.nested_arrays_arrays.proofs.comparisons.+comparing.Goals as goal

pub same_fields-same_fields-requires : goal.same_fields-same_fields-requires
same_fields-same_fields-requires t c =
    let left : c.args.left.now ≡ c.in-Some.array.now ∷ c.in-Some.arrays.now = search rules in
    let right : c.args.right.now ≡ c.in-Some-split_first.other.now ∷ c.in-Some-split_first.others.now = search rules in
    let size : columns_size (in_columns c.args.left.now) ≡ column_size c.in-Some.array.now + columns_size (in_columns c.in-Some.arrays.now) =
    ap (λ (xs : List Column). columns_size (in_columns xs)) left in
    let some = sizes_count c.in-Some.array.now in (
      search (rules, size, some),
      (
        (subst (λ (xs : List Column). HavePlace (in_columns xs) c.args.i) left c.requires.left_within).1,
        (subst (λ (xs : List Column). HavePlace (in_columns xs) c.args.j) right c.requires.right_within).1,
      ),
    )

pub same_columns-same_columns-requires : goal.same_columns-same_columns-requires
same_columns-same_columns-requires t c =
    let left : c.args.left.now ≡ c.in-Some.array.now ∷ c.in-Some.arrays.now = search rules in
    let right : c.args.right.now ≡ c.in-Some-split_first.other.now ∷ c.in-Some-split_first.others.now = search rules in
    let size : columns_size (in_columns c.args.left.now) ≡ column_size c.in-Some.array.now + columns_size (in_columns c.in-Some.arrays.now) =
    ap (λ (xs : List Column). columns_size (in_columns xs)) left in
    let some = sizes_count c.in-Some.array.now in (
      search (rules, size, some),
      (
        (subst (λ (xs : List Column). HaveRange (in_columns xs) c.args.i c.args.count) left c.requires.left_within).1,
        (subst (λ (xs : List Column). HaveRange (in_columns xs) c.args.j c.args.count) right c.requires.right_within).1,
      ),
    )

pub same_columns-returns-then-not-same_range-clause-same : goal.same_columns-returns-then-not-same_range-clause-same
same_columns-returns-then-not-same_range-clause-same t c =
    let left : c.args.left.now ≡ c.in-Some.array.now ∷ c.in-Some.arrays.now = search rules in
    let right : c.args.right.now ≡ c.in-Some-split_first.other.now ∷ c.in-Some-split_first.others.now = search rules in
    let whole = fields_of_lists c.args.left.now c.args.right.now c.in-Some.arrays.now c.in-Some-split_first.others.now c.in-Some.array.now
    c.in-Some-split_first.other.now c.args.i c.args.j c.args.count left right in (
      λ is. absurd (false≢true is),
      λ same. absurd (false≢true (sym c.if-not-same_range.true ∙ c.same_range.ensures.same.1 (whole.1 same).0)),
    )

pub same_columns-returns-else-not-same_range-clause-same : goal.same_columns-returns-else-not-same_range-clause-same
same_columns-returns-else-not-same_range-clause-same t c =
    let left : c.args.left.now ≡ c.in-Some.array.now ∷ c.in-Some.arrays.now = search rules in
    let right : c.args.right.now ≡ c.in-Some-split_first.other.now ∷ c.in-Some-split_first.others.now = search rules in
    let whole = fields_of_lists c.args.left.now c.args.right.now c.in-Some.arrays.now c.in-Some-split_first.others.now c.in-Some.array.now
    c.in-Some-split_first.other.now c.args.i c.args.j c.args.count left right in (
      λ is. whole.0 (c.same_range.ensures.same.0 c.if-not-same_range.false, c.same_columns.ensures.same.0 is),
      λ same. c.same_columns.ensures.same.1 (whole.1 same).1,
    )

pub same_items-returns-then-count-other_count-clause-same : goal.same_items-returns-then-count-other_count-clause-same
same_items-returns-then-count-other_count-clause-same t c = (
  λ is. absurd (false≢true is),
  λ same. absurd (c.if-count-other_count.true
      (items_count c.args.left.now c.args.right.now c.args.i c.args.j c.args.count c.args.other_count same)),
)

pub same_items-returns-clause-same : goal.same_items-returns-clause-same
same_items-returns-clause-same t c =
    let both = items_same c.args.left.now c.args.right.now c.args.i c.args.j c.args.count c.args.other_count c.if-count-other_count.false in
    (λ is. both.0 (c.same_range.ensures.same.0 is), λ same. c.same_range.ensures.same.1 (both.1 same))

pub same_pick-returns-then-not-same_types-clause-same : goal.same_pick-returns-then-not-same_types-clause-same
same_pick-returns-then-not-same_types-clause-same t c = (
  λ is. absurd (false≢true is),
  λ same. absurd (false≢true (sym c.if-not-same_types.true ∙ c.same_types.ensures.1 (pick_parts _ _ _ _ same).0)),
)

pub same_pick-returns-clause-same : goal.same_pick-returns-clause-same
same_pick-returns-clause-same t c =
    let types = c.same_types.ensures.0 c.if-not-same_types.false in (
      λ is j. pick (types j) (c.same_slot.ensures.same.0 is j),
      λ same. c.same_slot.ensures.same.1 (pick_parts _ _ _ _ same).1,
    )

pub same_range-returns-in-Some-Some-clause-counted : goal.same_range-returns-in-Some-Some-clause-counted
same_range-returns-in-Some-Some-clause-counted t c =
    omega (arith, c.same_slots_counted.ensures.counted, nodes_some (slot_at c.args.left.now) c.args.i c.args.count)

pub same_range-returns-in-Some-Some-2-clause-same : goal.same_range-returns-in-Some-Some-2-clause-same
same_range-returns-in-Some-Some-2-clause-same t c =
    let both = records_same c.args.left.now c.args.right.now (in_columns c.in-Some-Some-2.fields.now) (in_columns c.in-Some-Some-2.others.now)
    c.args.i c.args.j c.args.count c.in-Some-Some-2.ensures c.in-Some-Some-2.ensures' in
    (λ is. both.0 (c.same_columns.ensures.same.0 is), λ same. c.same_columns.ensures.same.1 (both.1 same))

pub same_range-returns-in-Some-Some-2-clause-counted : goal.same_range-returns-in-Some-Some-2-clause-counted
same_range-returns-in-Some-Some-2-clause-counted t c = omega (
  arith,
  c.count_each.ensures,
  c.same_columns.ensures.counted,
  record_nodes c.args.left.now (in_columns c.in-Some-Some-2.fields.now) c.args.i c.args.count c.in-Some-Some-2.ensures,
)

pub same_columns-returns-else-not-same_range-clause-used : goal.same_columns-returns-else-not-same_range-clause-used
same_columns-returns-else-not-same_range-clause-used t c = λ is.
    let left : c.args.left.now ≡ c.in-Some.array.now ∷ c.in-Some.arrays.now = search rules in
    let parts : columns_nodes (in_columns c.args.left.now) c.args.i c.args.count ≡ range_nodes c.in-Some.array.now c.args.i c.args.count
    + columns_nodes (in_columns c.in-Some.arrays.now) c.args.i c.args.count =
    ap (λ (xs : List Column). columns_nodes (in_columns xs) c.args.i c.args.count) left in
    omega (arith, parts, c.same_range.ensures.used c.if-not-same_range.false, c.same_columns.ensures.used is)

pub same_range-returns-in-Some-Some-clause-used : goal.same_range-returns-in-Some-Some-clause-used
same_range-returns-in-Some-Some-clause-used t c = λ is.
    let nodes : range_nodes c.in-Some-Some.left.now c.args.i c.args.count ≡ range_nodes c.args.left.now c.args.i c.args.count =
    ap (λ column. range_nodes column c.args.i c.args.count) c.in-Some-Some.ensures in
    omega (arith, nodes, c.same_slots_counted.ensures.used is)

pub same_range-returns-in-Some-Some-2-clause-used : goal.same_range-returns-in-Some-Some-2-clause-used
same_range-returns-in-Some-Some-2-clause-used t c = λ is. omega (
  arith,
  c.count_each.ensures,
  c.same_columns.ensures.used is,
  record_nodes c.args.left.now (in_columns c.in-Some-Some-2.fields.now) c.args.i c.args.count c.in-Some-Some-2.ensures,
)

pub same_columns-returns-in-None-split_first-clause-used : goal.same_columns-returns-in-None-split_first-clause-used
same_columns-returns-in-None-split_first-clause-used t c = λ is.
    let none : c.args.count ≡ 0 = eqb-true c.args.count 0 is in
    let all : columns_nodes (in_columns c.args.left.now) c.args.i c.args.count ≡ 0 =
    ap (columns_nodes (in_columns c.args.left.now) c.args.i) none ∙ no_columns_nodes (in_columns c.args.left.now) c.args.i in
    omega (arith, all)

pub same_range-returns-then-not-same_range-clause-same : goal.same_range-returns-then-not-same_range-clause-same
same_range-returns-then-not-same_range-clause-same t c =
    let run = c.in-Some-list_run.run' in
    let part = run_part c.args.left.now c.args.right.now run.items.now run.others.now c.args.i c.args.j c.loop-k.k run.count c.args.count
    run.start run.other_start run.len (omega (arith, c.in-Some-list_run.ensures.1, c.loop-k-test.true)) c.in-Some-list_run.ensures.2 in (
      λ is. absurd (false≢true is),
      λ same. absurd (false≢true (sym c.if-not-same_range.true ∙ c.same_range.ensures.same.1 (part same))),
    )

pub same_range-returns-then-not-same_range-clause-counted : goal.same_range-returns-then-not-same_range-clause-counted
same_range-returns-then-not-same_range-clause-counted t c =
    let run = c.in-Some-list_run.run' in
    let most = run_within c.args.left.now c.args.right.now run.items.now run.others.now c.args.i c.args.j c.loop-k.k run.count c.args.count
    run.start run.other_start run.len (omega (arith, c.in-Some-list_run.ensures.1, c.loop-k-test.true)) c.in-Some-list_run.ensures.2 in
    let untold : c.same_named_run.new.steps.count ≡ c.args.steps.now.count = search rules in
    omega (arith, untold, most, c.loop-k.invariant.1.counted, c.count_each-in-Some-list_run.ensures, c.same_range.ensures.counted)

pub same_range-loop-k-preserved-in-Some-list_run : goal.same_range-loop-k-preserved-in-Some-list_run
same_range-loop-k-preserved-in-Some-list_run t c =
    let run = c.in-Some-list_run.run' in (
      omega (arith, c.in-Some-list_run.ensures.1, c.loop-k-test.true),
      run_compared c.args.left.now c.args.right.now run.items.now run.others.now c.args.i c.args.j c.loop-k.k run.count run.start run.other_start
          run.len _ _ _ _ c.loop-k.invariant.1 c.in-Some-list_run.ensures.2 (c.same_range.ensures.same.0 c.if-not-same_range.false)
          c.count_each-in-Some-list_run.ensures (c.same_range.ensures.used c.if-not-same_range.false),
    )

pub same_range-returns-then-not-same_slot-clause-counted : goal.same_range-returns-then-not-same_slot-clause-counted
same_range-returns-then-not-same_slot-clause-counted t c =
    let untold : c.same_named_run.new.steps.count ≡ c.args.steps.now.count = search rules in omega (
      arith,
      untold,
      c.loop-k.invariant.1.counted,
      c.same_slot.ensures.counted,
      nodes_up_to (slot_at c.args.left.now) c.args.i c.loop-k.k c.args.count c.loop-k-test.true,
    )

pub same_range-loop-k-preserved : goal.same_range-loop-k-preserved
same_range-loop-k-preserved t c = (
  omega (arith, c.loop-k-test.true),
  one_more _ _ _ _ _ _ _ _ c.loop-k.invariant.1 (c.same_slot.ensures.same.0 c.if-not-same_slot.false)
      (c.same_slot.ensures.used c.if-not-same_slot.false),
)

pub same_slot-returns-in-Some-Some-clause-same : goal.same_slot-returns-in-Some-Some-clause-same
same_slot-returns-in-Some-Some-clause-same t c =
    let one = one_slot c.in-Some-Some.values.now c.in-Some-Some.others.now c.value_of-place.result.1 c.value_of-other_place.result.1 in
    let left : slot_at c.args.left.now c.args.i ≡ slot_at c.in-Some-Some.values.now c.value_of-place.result.1 =
    c.value_of-place.ensures.shown ∙ ap (λ column. slot_at column c.value_of-place.result.1) (sym c.in-Some-Some.ensures) in
    let right : slot_at c.args.right.now c.args.j ≡ slot_at c.in-Some-Some.others.now c.value_of-other_place.result.1 =
    c.value_of-other_place.ensures.shown ∙ ap (λ column. slot_at column c.value_of-other_place.result.1) (sym c.in-Some-Some.ensures') in (
      λ is. left ∙ one.0 (c.same_slots_counted.ensures.same.0 is) ∙ sym right,
      λ same. c.same_slots_counted.ensures.same.1 (one.1 (sym left ∙ same ∙ right)),
    )

pub same_slot-returns-in-Some-Some-clause-counted : goal.same_slot-returns-in-Some-Some-clause-counted
same_slot-returns-in-Some-Some-clause-counted t c =
    omega (arith, c.same_slots_counted.ensures.counted, node_some (slot_at c.args.left.now c.args.i))
