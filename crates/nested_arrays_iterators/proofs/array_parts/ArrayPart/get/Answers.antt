use Rattle.std.proofs.Common.{arith}
use Rattle.nested_arrays_iterators.proofs.ReadSlots.{no_slot_past, slot_found}
use Rattle.nested_arrays_iterators.proofs.array_parts.ArrayPart.get.Goals as goal

pub returns-then-i-len : goal.returns-then-i-len
returns-then-i-len c = no_slot_past c.args.self.now c.args.i (omega (arith, c.if-i-len.true, c.len.ensures))

pub returns : goal.returns
returns c = slot_found c.args.self.now c.args.i c.value.result (omega (arith, c.if-i-len.false, c.len.ensures)) c.value.ensures
