use Rattle.std.proofs.Common.{◌∙◌, ◌+◌, sym, arith}
use Rattle.nested_arrays_parts.proofs.SameNumbers.{one_more_stored, value_there}
use Rattle.nested_arrays_flat.specs.FlatColumns.{stored_numbers}
use Rattle.std.proofs.Common.{map}
use Rattle.nested_arrays_parts.proofs.numbers.same_block.Goals as goal

pub loop-k-preserved : goal.loop-k-preserved
loop-k-preserved g c =
    let number = g.T.NativeType.numbers in
    let kind = g.T.NativeType.PRIMITIVE in
    let left = value_there kind number c.args.left.now (c.args.i + c.loop-k.k) c.index-left-i.result (omega arith) c.index-left-i.is in
    let right = value_there kind number c.args.right.now (c.args.j + c.loop-k.k) c.index-right-j.result (omega arith) c.index-right-j.is in
    one_more_stored (stored_numbers kind (map number c.args.left.now)) (stored_numbers kind (map number c.args.right.now))
    c.args.i c.args.j c.loop-k.k c.loop-k.are_same c.same_number-are_same.result c.loop-k.invariant (
      λ is. left ∙ c.same_number-are_same.ensures.0 is ∙ sym right,
      λ same. c.same_number-are_same.ensures.1 (sym left ∙ same ∙ right),
    )
