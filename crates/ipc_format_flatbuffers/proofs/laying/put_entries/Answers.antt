use Rattle.std.proofs.Common.{◌+◌, ◌++◌, drop, map, ap, ◌∙◌, arith}
use Rattle.std.specs.Int.{w16, to_le_bytes}
use Rattle.ipc_format_flatbuffers.specs.Laying.{after, entries, entry_of}
use Rattle.ipc_format_flatbuffers.specs.Views.{slot_view}
use Rattle.ipc_format_flatbuffers.proofs.Rest.{rest_step, append_step}
use Rattle.ipc_format_flatbuffers.proofs.laying.put_entries.Goals as goal

pub loop-slot-preserved : goal.loop-slot-preserved
loop-slot-preserved c =
    let i = c.loop-slot.slot-index in
    let slot = slot_view c.slot-item.result in
    let next = rest_step slot_view c.args.slots.now i c.slot-item.result c.loop-slot-test.true c.slot-item.is in
    let rest = drop (i + 1) (map slot_view c.args.slots.now) in
    let part = c.in_ok-extend_from_slice.ensures.items ∙ ap (λ bytes. c.loop-slot.out.items ++ bytes)
    (c.to_le_bytes.ensures ∙ ap (to_le_bytes w16) c.entry_of.ensures) in
    record {
      near = omega arith;
      out_is = rw c.after-at.ensures.value
          (append_step c.loop-slot.out.items c.extend_from_slice.new.self.items (to_le_bytes w16 (entry_of c.loop-slot.at slot))
          (entries (after c.loop-slot.at slot) rest) (c.args.out.now.items ++ entries 4 (map slot_view c.args.slots.now)) part
          (rw next at c.loop-slot.invariant.out_is));
    }
