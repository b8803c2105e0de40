use Rattle.std.proofs.Common.{◌∙◌, ap}
use Rattle.flat_arrays_values.specs.Growth.{with_slots}
use Rattle.flat_arrays_builders.proofs.primitive.MutablePrimitiveArray.from_iter.Goals as goal

pub returns : goal.returns
returns g c =
    let done = c.in_ok-extend.ensures in
    let run = done.2 in
    (done.0, done.1, (run.0, run.1, run.2, run.3 ∙ ap (λ empty. with_slots done.0 empty run.0.items) c.new-builder.ensures))
