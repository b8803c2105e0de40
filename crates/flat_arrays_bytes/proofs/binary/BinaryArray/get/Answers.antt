use Rattle.std.proofs.Common.{◌≤◌, ap, sym, ◌∙◌, arith}
use Rattle.std.specs.Prelude.{slice_get}
use Rattle.std.specs.Option.{option_copied}
use Rattle.flat_arrays_bytes.specs.ByteStrings.{len_of, slots_of}
use Rattle.flat_arrays_bytes.proofs.Slots.{slot_past, slot_there}
use Rattle.flat_arrays_bytes.proofs.binary.BinaryArray.get.Goals as goal

pub returns-then-index-len : goal.returns-then-index-len
returns-then-index-len g c =
    slot_there (slots_of c.args.self.now) c.args.index (option_copied c.get.result)
    (ap (λ a. slice_get (slots_of a) c.args.index) (sym c.self.view_is) ∙ c.get.ensures)

pub returns-else-index-len : goal.returns-else-index-len
returns-else-index-len g c =
    let past : len_of c.args.self.now ≤ c.args.index = omega (arith, c.len.ensures.value) in
    slot_past c.args.self.now c.args.index c.len.ensures.whole.masked past
