use Rattle.std.proofs.Common.{◌≡◌, ◌+◌}
use Rattle.std.specs.Prelude.{slice_index}
use Rattle.nested_arrays_parts.proofs.SameStrings.{one_more}
use Rattle.nested_arrays_parts.proofs.strings.same_lengths.Goals as goal

pub loop-k-preserved : goal.loop-k-preserved
loop-k-preserved g c =
    one_more (λ k. slice_index c.args.left.now.lengths (c.args.i + k) ≡ slice_index c.args.right.now.lengths (c.args.j + k)) c.loop-k.k
    c.loop-k.are_same c.same_length-are_same.result c.loop-k.invariant c.same_length-are_same.ensures
