use Rattle.std.proofs.Common.{rules}
use Rattle.flat_arrays_builders.proofs.primitive.MutablePrimitiveArray.apply_values.Goals as goal

pub returns : goal.returns
returns g c = (c.replace-held.result, c.f-made.result, search rules, c.f-made.ensures, search rules)
