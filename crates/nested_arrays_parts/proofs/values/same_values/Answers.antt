use Rattle.std.proofs.Common.{sym}
use Rattle.nested_arrays_parts.proofs.SameForms.{moved}
use Rattle.nested_arrays_parts.proofs.values.same_values.Goals as goal

pub returns-in-Some-Some : goal.returns-in-Some-Some
returns-in-Some-Some c = (
  λ is. moved _ _ _ _ c.args.i c.args.j c.args.count c.in-Some-Some.ensures c.in-Some-Some.ensures' (c.same_truths.ensures.0 is),
  λ same. c.same_truths.ensures.1 (moved _ _ _ _ c.args.i c.args.j c.args.count (sym c.in-Some-Some.ensures) (sym c.in-Some-Some.ensures') same),
)
