use Rattle.std.proofs.Common.{◌<◌, arith, length}
use Rattle.std.proofs.lemmas.List.{get_or_default}
use Rattle.nested_arrays_cells.specs.parts.Open.{Open, first_slots}
use Rattle.nested_arrays_cells.proofs.taken_lemmas.builders_lemmas.CutParts.{length_over}
use Rattle.nested_arrays_generic_builders.proofs.FieldLoops.{next_over}
use Rattle.nested_arrays_generic_builders.proofs.fields.truncate_each.Goals as goal

pub loop-builder-preserved : goal.loop-builder-preserved
loop-builder-preserved c =
    let f = λ (o : Open). first_slots o c.args.len in
    let os = c.args.builders.now.items in
    let now = c.loop-builder.builder-items in
    let k = c.loop-builder.builder-index in
    let small : k < length os = omega (arith, c.loop-builder-test.true, length_over f os now k c.loop-builder.invariant) in
    let inside : k < length now = omega (arith, small, length_over f os now k c.loop-builder.invariant) in
    next_over f os now k _ _ small c.loop-builder.invariant (get_or_default now k c.builder-item.result _ inside) c.truncate_one.ensures
