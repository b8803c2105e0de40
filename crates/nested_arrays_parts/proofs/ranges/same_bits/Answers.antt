use Rattle.nested_arrays_parts.proofs.BitRanges.{bits_of_same_ranges}
use Rattle.nested_arrays_parts.proofs.ranges.same_bits.Goals as goal

pub returns : goal.returns
returns c = λ is k inside.
    bits_of_same_ranges c.args.left.now c.args.right.now c.args.i c.args.j c.args.count (c.same_range.ensures.0 is) k inside
