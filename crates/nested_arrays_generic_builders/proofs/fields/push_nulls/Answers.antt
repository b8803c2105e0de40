use Rattle.std.proofs.Common.{◌≡◌, ◌∙◌, ◌<◌, ◌≤◌, arith, false, length}
use Rattle.std.specs.Prelude.{◌⊎◌}
use Rattle.std.specs.List.{list_all}
use mathlib.Core.Logic.{inl, inr}
use Rattle.nested_arrays_nulls.specs.columnar_memory.Error.{IsOutOfMemory, IsOverflow}
use Rattle.nested_arrays_generic_builders.specs.StructBuilders.{takes_null, with_null}
use Rattle.nested_arrays_cells.proofs.taken_lemmas.builders_lemmas.CutParts.{length_over}
use Rattle.nested_arrays_generic_builders.proofs.FieldLoops.{next_kept, next_over, next_same, one_more_each, taken_back, taking_more, taking_not}
use Rattle.nested_arrays_generic_builders.proofs.fields.push_nulls.Goals as goal

pub take_back-requires : goal.take_back-requires
take_back-requires c =
    let os = c.args.builders.now.items in
    let now = c.loop-place.builders.items in
    let k = c.loop-place.place in
    let child = c.index_mut.result.now in
    let small : k < length os = omega (arith, c.loop-place-test.true, c.len-count.ensures) in
    let inside : k < length now = omega (arith, small, length_over with_null os now k c.loop-place.invariant.grown) in
    let few : k ≤ length os = omega (arith, small) in
    one_more_each os _ k few
    (next_kept now k child c.push_null.new.builder inside c.index_mut.ensures.value c.in-Err.ensures.0 ∙ c.loop-place.invariant.grown)

pub returns-in-Err : goal.returns-in-Err
returns-in-Err c =
    let os = c.args.builders.now.items in
    let now = c.loop-place.builders.items in
    let k = c.loop-place.place in
    let child = c.index_mut.result.now in
    let small : k < length os = omega (arith, c.loop-place-test.true, c.len-count.ensures) in
    let inside : k < length now = omega (arith, small, length_over with_null os now k c.loop-place.invariant.grown) in
    let own : child ≡ _ = c.index_mut.ensures.value ∙ next_same with_null os now k child small c.loop-place.invariant.grown in
    let why : IsOutOfMemory c.in-Err.error ⊎ (IsOverflow c.in-Err.error × (list_all takes_null os ≡ false)) =
    elim c.in-Err.ensures.1 [ inl memory ↦ inl memory | inr full ↦ inr (full.0, taking_not os k child small own full.1) ] in (
      taken_back os _ c.take_back.new.builders.items k
          (next_kept now k child c.push_null.new.builder inside c.index_mut.ensures.value c.in-Err.ensures.0 ∙ c.loop-place.invariant.grown)
          c.take_back.ensures,
      why,
    )

pub loop-place-preserved : goal.loop-place-preserved
loop-place-preserved c =
    let os = c.args.builders.now.items in
    let now = c.loop-place.builders.items in
    let k = c.loop-place.place in
    let child = c.index_mut.result.now in
    let small : k < length os = omega (arith, c.loop-place-test.true, c.len-count.ensures) in
    let own : child ≡ _ = c.index_mut.ensures.value ∙ next_same with_null os now k child small c.loop-place.invariant.grown in record {
      grown = next_over with_null os now k child _ small c.loop-place.invariant.grown c.index_mut.ensures.value c.in-Ok.ensures.0;
      taking = taking_more os k child small own c.in-Ok.ensures.1 c.loop-place.invariant.taking;
    }
