use Rattle.std.proofs.Common.{◌+◌, ◌++◌, length, drop, map, arith, length-append}
use Rattle.std.specs.List.{flat_map}
use Rattle.ipc_format_flatbuffers.specs.Laying.{after, child_bytes, field_bytes, fields}
use Rattle.ipc_format_flatbuffers.specs.Views.{slot_view}
use Rattle.ipc_format_flatbuffers.proofs.Rest.{rest_step, append_step}
use Rattle.ipc_format_flatbuffers.proofs.Slots.{table_end_after}
use Rattle.ipc_format_flatbuffers.proofs.laying.put_fields.Goals as goal

pub put_field-requires-clause-before : goal.put_field-requires-clause-before
put_field-requires-clause-before c =
    let i = c.loop-slot.slot-index in
    let next = rest_step slot_view c.args.slots.now i c.slot-item.result c.loop-slot-test.true c.slot-item.is in
    let end_is = rw next at c.loop-slot.invariant.end_is in
    omega (arith, end_is, table_end_after (after c.loop-slot.at (slot_view c.slot-item.result)) (drop (i + 1) (map slot_view c.args.slots.now)))

pub put_field-requires-clause-in_reach : goal.put_field-requires-clause-in_reach
put_field-requires-clause-in_reach c =
    let i = c.loop-slot.slot-index in
    let next = rest_step slot_view c.args.slots.now i c.slot-item.result c.loop-slot-test.true c.slot-item.is in
    let child_is = rw next at c.loop-slot.invariant.child_is in
    omega (
      arith,
      child_is,
      length-append (child_bytes (slot_view c.slot-item.result))
          (flat_map child_bytes (drop (i + 1) (map slot_view c.args.slots.now))),
    )

pub loop-slot-preserved : goal.loop-slot-preserved
loop-slot-preserved c =
    let i = c.loop-slot.slot-index in
    let slot = slot_view c.slot-item.result in
    let slots = map slot_view c.args.slots.now in
    let rest = drop (i + 1) slots in
    let next = rest_step slot_view c.args.slots.now i c.slot-item.result c.loop-slot-test.true c.slot-item.is in
    let end_is = rw next at c.loop-slot.invariant.end_is in
    let child_is = rw next at c.loop-slot.invariant.child_is in
    let out_is = rw next at c.loop-slot.invariant.out_is in
    record {
      near = omega arith;
      behind = omega arith;
      end_is = rw c.after-at.ensures.value end_is;
      child_is = omega (arith, child_is, length-append (child_bytes slot) (flat_map child_bytes rest));
      out_is = rw (c.after-at.ensures.value, c.child_len-child.ensures.value)
          (append_step c.loop-slot.out.items c.put_field.new.out.items (field_bytes c.loop-slot.at c.loop-slot.child slot)
          (fields (after c.loop-slot.at slot) (c.loop-slot.child + length (child_bytes slot)) rest)
          (c.args.out.now.items ++ fields 4 c.args.first_child slots) c.in_ok-put_field.ensures out_is);
    }
