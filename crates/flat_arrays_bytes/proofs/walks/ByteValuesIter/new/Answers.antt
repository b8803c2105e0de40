use Rattle.std.proofs.Common.{◌∙◌, sym}
use Rattle.flat_arrays_bytes.specs.ByteStrings.{values_of}
use Rattle.flat_arrays_bytes.proofs.Ranges.{range_all}
use Rattle.flat_arrays_bytes.proofs.Slots.{length_values}
use Rattle.flat_arrays_bytes.proofs.walks.ByteValuesIter.new.Goals as goal

pub returns : goal.returns
returns g c =
    let held = g.H.HoldsByteStrings.held c.args.holder.now in
    range_all (values_of held) c.count.result (c.count.ensures ∙ sym (length_values held))
