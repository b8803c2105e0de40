use Rattle.std.proofs.Common.{◌∙◌, ap}
use Rattle.std.specs.Prelude.{None}
use Rattle.std.proofs.lemmas.Result.{MatchResult-weaker}
use Rattle.columnar_memory_core.specs.Conversions.{type_of_primitive}
use Rattle.flat_arrays_values.specs.Flat.{flat}
use Rattle.flat_arrays_values.proofs.primitive.PrimitiveArray.from_values.Goals as goal

pub returns : goal.returns
returns g c =
    let run = c.in_ok-values.ensures.runs tt in
    let data_type = type_of_primitive g.T.NativeType.PRIMITIVE in
    MatchResult-weaker c.from_vec.result c.from_vec.ensures
    (λ array same. (run.0, run.1, run.2, same ∙ ap (λ items. flat data_type items None) run.3.0)) (λ e refused. refused)
