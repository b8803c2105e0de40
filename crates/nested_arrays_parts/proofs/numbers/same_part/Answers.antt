use Rattle.std.proofs.Common.{◌+◌}
use Rattle.std.proofs.lemmas.Bool.{eq-eqb, eqb-true}
use Rattle.nested_arrays_parts.proofs.SameForms.{none_same}
use Rattle.nested_arrays_parts.proofs.SameNumbers.{other_kind}
use Rattle.nested_arrays_parts.specs.Forms.{bare}
use Rattle.nested_arrays_flat.specs.FlatColumns.{primitive_column}
use Rattle.nested_arrays_parts.proofs.numbers.same_part.Goals as goal

pub returns-in-None : goal.returns-in-None
returns-in-None g c =
    let number = g.T.NativeType.numbers in
    let kind = g.T.NativeType.PRIMITIVE in
    let none = none_same (bare (primitive_column kind number c.args.left.now)) (bare c.args.right.now) c.args.i c.args.j c.args.count
    (λ k. other_kind kind number c.args.left.now (c.args.i + k) c.args.right.now (c.args.j + k) c.whole.ensures c.holds_numbers.ensures
    c.in-None.ensures) in
    (λ is. none.0 (eqb-true c.args.count 0 is), λ same. eq-eqb c.args.count 0 (none.1 same))
