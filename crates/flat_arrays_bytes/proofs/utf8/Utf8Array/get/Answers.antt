use Rattle.std.proofs.Common.{◌≤◌, arith}
use Rattle.std.specs.Option.{option_copied}
use Rattle.flat_arrays_bytes.specs.ByteStrings.{len_of, slots_of}
use Rattle.flat_arrays_bytes.proofs.Slots.{slot_past, slot_there}
use Rattle.flat_arrays_bytes.proofs.utf8.Utf8Array.get.Goals as goal

pub returns-then-index-len : goal.returns-then-index-len
returns-then-index-len g c =
    slot_there (slots_of c.args.self.now) c.args.index (option_copied c.slot.result) c.slot.ensures

pub returns-else-index-len : goal.returns-else-index-len
returns-else-index-len g c =
    let past : len_of c.args.self.now ≤ c.args.index = omega (arith, c.len.ensures.value) in
    slot_past c.args.self.now c.args.index c.len.ensures.whole.0.masked past
