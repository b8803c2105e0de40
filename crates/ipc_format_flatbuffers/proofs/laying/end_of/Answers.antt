use Rattle.std.proofs.Common.{arith}
use Rattle.ipc_format_flatbuffers.specs.Views.{slot_view}
use Rattle.ipc_format_flatbuffers.proofs.Rest.{rest_step}
use Rattle.ipc_format_flatbuffers.proofs.laying.end_of.Goals as goal

pub loop-slot-preserved : goal.loop-slot-preserved
loop-slot-preserved c =
    let next = rest_step slot_view c.args.slots.now c.loop-slot.slot-index c.slot-item.result c.loop-slot-test.true c.slot-item.is in
    record {
      near = omega arith;
      end_is = rw c.after-at.ensures.value (rw next at c.loop-slot.invariant.end_is);
    }
