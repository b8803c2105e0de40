use Rattle.std.proofs.Common.{◌<◌, arith, length}
use Rattle.nested_arrays_generic_builders.specs.TakenBack.{without_last}
use Rattle.nested_arrays_generic_builders.proofs.FieldLoops.{has_one, next_over}
use Rattle.nested_arrays_generic_builders.proofs.fields.take_back.Goals as goal

pub drop_last-requires : goal.drop_last-requires
drop_last-requires c =
    has_one c.args.builders.now.items c.loop-place.builders.items c.args.count c.loop-place.place c.index_mut.result.now c.requires
    c.loop-place-test.true c.loop-place.invariant c.index_mut.ensures.value

pub loop-place-preserved : goal.loop-place-preserved
loop-place-preserved c =
    let os = c.args.builders.now.items in
    let small : c.loop-place.place < length os = omega (arith, c.loop-place-test.true, c.requires.0) in
    next_over without_last os c.loop-place.builders.items c.loop-place.place c.index_mut.result.now _ small c.loop-place.invariant
    c.index_mut.ensures.value c.drop_last.ensures
