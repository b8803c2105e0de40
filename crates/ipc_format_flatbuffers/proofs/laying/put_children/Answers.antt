use Rattle.std.proofs.Common.{◌+◌, ◌++◌, drop, map}
use Rattle.std.specs.List.{flat_map}
use Rattle.ipc_format_flatbuffers.specs.Laying.{child_bytes}
use Rattle.ipc_format_flatbuffers.specs.Views.{slot_view}
use Rattle.ipc_format_flatbuffers.proofs.Rest.{rest_step, append_step}
use Rattle.ipc_format_flatbuffers.proofs.laying.put_children.Goals as goal

pub loop-slot-preserved : goal.loop-slot-preserved
loop-slot-preserved c =
    let i = c.loop-slot.slot-index in
    let next = rest_step slot_view c.args.slots.now i c.slot-item.result c.loop-slot-test.true c.slot-item.is in
    let rest = drop (i + 1) (map slot_view c.args.slots.now) in
    append_step c.loop-slot.out.items c.put_child.new.out.items (child_bytes (slot_view c.slot-item.result)) (flat_map child_bytes rest)
    (c.args.out.now.items ++ flat_map child_bytes (map slot_view c.args.slots.now)) c.in_ok-put_child.ensures (rw next at c.loop-slot.invariant)
