use Rattle.std.proofs.Common.{◌≡◌, ◌∙◌, ◌<◌, ◌≤◌, ◌++◌, ◌∷◌, [], arith, length}
use Rattle.nested_arrays_generic_builders.specs.StructBuilders.{emptied}
use Rattle.nested_arrays_generic_builders.proofs.FieldLoops.{columns_all, columns_more, emptied_over, next_over, next_same}
use Rattle.nested_arrays_generic_builders.proofs.fields.take_first.Goals as goal

pub returns-in_err-array-clause-left : goal.returns-in_err-array-clause-left
returns-in_err-array-clause-left c =
    let os = c.args.builders.now.items in
    let k = c.loop-place.place in
    let small : k < length os = omega (arith, c.loop-place-test.true, c.len-count.ensures) in
    emptied_over os _ _ (next_over emptied os c.loop-place.builders.items k c.index_mut.result.now _ small c.loop-place.invariant.taken
    c.index_mut.ensures.value c.in_err-array.ensures.taken.0)

pub returns-in_err-push-clause-left : goal.returns-in_err-push-clause-left
returns-in_err-push-clause-left c =
    let os = c.args.builders.now.items in
    let k = c.loop-place.place in
    let small : k < length os = omega (arith, c.loop-place-test.true, c.len-count.ensures) in
    emptied_over os _ _ (next_over emptied os c.loop-place.builders.items k c.index_mut.result.now _ small c.loop-place.invariant.taken
    c.index_mut.ensures.value c.in_ok-array.ensures.taken.0)

pub loop-place-preserved : goal.loop-place-preserved
loop-place-preserved c =
    let os = c.args.builders.now.items in
    let now = c.loop-place.builders.items in
    let k = c.loop-place.place in
    let child = c.index_mut.result.now in
    let small : k < length os = omega (arith, c.loop-place-test.true, c.len-count.ensures) in
    let own : child ≡ _ = c.index_mut.ensures.value ∙ next_same emptied os now k child small c.loop-place.invariant.taken in record {
      taken = next_over emptied os now k child _ small c.loop-place.invariant.taken c.index_mut.ensures.value c.in_ok-array.ensures.taken.0;
      made = c.in_ok-push.ensures.items ∙ (λ j. c.loop-place.invariant.made j ++ c.in_ok-array.ensures.taken.1 j ∷ [])
          ∙ columns_more os k child c.args.arrays.now.items small own;
    }

pub returns-clause-left : goal.returns-clause-left
returns-clause-left c = emptied_over c.args.builders.now.items _ _ c.loop-place.invariant.taken

pub returns-clause-taken : goal.returns-clause-taken
returns-clause-taken c =
    let os = c.args.builders.now.items in
    let k = c.loop-place.place in
    let all : length os ≤ k = omega (arith, c.loop-place-test.false, c.len-count.ensures) in
    columns_all os k c.args.arrays.now.items _ all c.loop-place.invariant.made
