use Rattle.std.proofs.Common.{◌∙◌, ap}
use Rattle.std.specs.Prelude.{None}
use Rattle.flat_arrays_values.specs.Flat.{flat}
use Rattle.flat_arrays_values.proofs.boolean.BooleanArray.from_values.Goals as goal

pub returns : goal.returns
returns g c =
    let run = c.in_ok-values.ensures in (run.0, run.1, run.2, c.new.ensures ∙ ap (λ items. flat _ items None) run.3)
