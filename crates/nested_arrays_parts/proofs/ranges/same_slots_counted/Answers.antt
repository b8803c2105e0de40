use Rattle.std.proofs.Common.{arith}
use Rattle.nested_arrays_parts.proofs.SlotCounts.{flat_nodes}
use Rattle.nested_arrays_parts.proofs.ranges.same_slots_counted.Goals as goal

pub returns-clause-used : goal.returns-clause-used
returns-clause-used c = λ _.
    omega (arith, c.count_each.ensures, flat_nodes c.args.left.now c.args.i c.args.count c.holds_values.ensures)
