use Rattle.std.proofs.Common.{rules}
use Rattle.std.proofs.lemmas.Result.{MatchResult-weaker}
use Rattle.flat_arrays_values.proofs.primitive.PrimitiveArray.apply_values_mut.Goals as goal

pub returns : goal.returns
returns g c =
    MatchResult-weaker c.apply_mut.result c.apply_mut.ensures (λ _ made. (made.0, made.1, search (rules, made.2), made.3, search (rules, made.4)))
    (λ e refused. search (rules, refused.0, refused.1))
