use Rattle.std.proofs.Common.{rules, ◌≡◌, ◌∙◌, ◌<◌, ◌≤◌, ◌∷◌, ◌++◌, [], ap, arith, false, length, sym}
use Rattle.std.specs.Prelude.{◌⊎◌}
use Rattle.std.proofs.lemmas.List.{length-take-le, take_all, take_more}
use mathlib.Core.Logic.{inl, inr}
use Rattle.nested_arrays_nulls.specs.columnar_memory.Error.{IsOutOfMemory, IsOverflow}
use Rattle.nested_arrays_nulls.specs.columns.Kinds.{most_slots}
use Rattle.nested_arrays_cells.specs.parts.Marks.{marks}
use Rattle.nested_arrays_generic_builders.proofs.ListSlots.{marks_many}
use Rattle.nested_arrays_generic_builders.proofs.lists.marks_of.Goals as goal

pub loop-place-preserved : goal.loop-place-preserved
loop-place-preserved c =
    let all = marks c.args.count c.args.validity.now in
    let many = marks_many c.args.count c.args.validity.now c.requires in
    c.in_ok-push.ensures.0 ∙ (λ j. c.loop-place.invariant j ++ sym c.mark_at.ensures j ∷ [])
    ∙ sym (take_more all c.loop-place.place false (omega (arith, many, c.loop-place-test.true)))

pub returns : goal.returns
returns c =
    let all = marks c.args.count c.args.validity.now in
    let many = marks_many c.args.count c.args.validity.now c.requires in
    c.loop-place.invariant ∙ take_all c.loop-place.place all (omega (arith, many, c.loop-place-test.false))

pub returns-in_err-push : goal.returns-in_err-push
returns-in_err-push c =
    let all = marks c.args.count c.args.validity.now in
    let many = marks_many c.args.count c.args.validity.now c.requires in
    let long : length c.loop-place.kept ≡ c.loop-place.place =
    ap length c.loop-place.invariant ∙ length-take-le c.loop-place.place all (omega (arith, many, c.loop-place-test.true)) in
    let why : IsOutOfMemory c.in_err-push.field-0.0 ⊎ (IsOverflow c.in_err-push.field-0.0 × (most_slots < c.args.count)) =
    elim c.in_err-push.ensures.1 [ inl memory ↦ inl memory | inr over ↦ inr (over.0, omega (arith, over.1, long, c.loop-place-test.true)) ] in
    search (rules, why)
