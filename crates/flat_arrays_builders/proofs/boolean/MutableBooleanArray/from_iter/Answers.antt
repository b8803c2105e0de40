use Rattle.std.proofs.Common.{◌∙◌, ap, false}
use Rattle.flat_arrays_values.specs.Growth.{with_slots}
use Rattle.flat_arrays_builders.proofs.boolean.MutableBooleanArray.from_iter.Goals as goal

pub returns : goal.returns
returns g c =
    let run = c.in_ok-extend.ensures in
    (run.0, run.1, run.2, run.3 ∙ ap (λ empty. with_slots false empty run.0.items) c.new-builder.ensures)
