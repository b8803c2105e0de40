use Rattle.std.proofs.Common.{◌≤◌, length, arith}
use Rattle.flat_arrays_values.specs.Flat.{slots_of}
use Rattle.flat_arrays_values.proofs.MarkPlaces.{slot_past, slot_there}
use Rattle.flat_arrays_values.proofs.primitive.PrimitiveArray.get.Goals as goal

pub returns-then-i-len : goal.returns-then-i-len
returns-then-i-len g c = slot_there (slots_of c.args.self.now) c.args.i c.slot.result c.slot.ensures

pub returns-else-i-len : goal.returns-else-i-len
returns-else-i-len g c =
    let past : length c.args.self.now.values ≤ c.args.i = omega (arith, c.len.ensures.value) in
    slot_past c.args.self.now c.args.i c.len.ensures.whole.masked past
