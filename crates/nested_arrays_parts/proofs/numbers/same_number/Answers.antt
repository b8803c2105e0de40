use Rattle.std.proofs.Common.{ap, ◌≡◌, ◌∙◌, sym, rules}
use Rattle.nested_arrays_parts.specs.Ranges.{number_slot}
use Rattle.nested_arrays_parts.proofs.SameNumbers.{same_native}
use Rattle.nested_arrays_parts.proofs.numbers.same_number.Goals as goal

pub returns : goal.returns
returns g c =
    let a = c.args.left in
    let b = c.args.right in
    let tested : c.eq.result ≡ g.T.PartialEq.eq a b = search rules in (
      λ is. ap (λ x. number_slot g.T.NativeType.PRIMITIVE (g.T.NativeType.numbers x)) ((g.met.T.NativeType.eq_law a b).0 (sym tested ∙ is)),
      λ same. tested ∙ (g.met.T.NativeType.eq_law a b).1 (g.met.T.NativeType.same_law a b
          (same_native g.T.NativeType.PRIMITIVE _ _ c.to_le_bytes-left.ensures.native c.to_le_bytes-right.ensures.native same)),
    )
