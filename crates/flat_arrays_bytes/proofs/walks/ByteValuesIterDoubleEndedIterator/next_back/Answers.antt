use Rattle.std.proofs.Common.{◌≤◌, length, ◌∙◌, sym, arith}
use Rattle.flat_arrays_bytes.specs.ByteStrings.{values_of}
use Rattle.flat_arrays_bytes.proofs.Ranges.{range_last}
use Rattle.flat_arrays_bytes.proofs.Slots.{length_values}
use Rattle.flat_arrays_bytes.proofs.walks.ByteValuesIterDoubleEndedIterator.next_back.Goals as goal

pub returns-clause-steps : goal.returns-clause-steps
returns-clause-steps g c =
    let s = c.self.inside in
    let held = g.H.HoldsByteStrings.held s.holder.now in
    let within : s.end ≤ length (values_of held) = omega (arith, length_values held) in
    sym c.self.view_is ∙ range_last (values_of held) s.start s.end c.bytes_at-value.result.now (omega arith) within c.bytes_at-value.ensures
