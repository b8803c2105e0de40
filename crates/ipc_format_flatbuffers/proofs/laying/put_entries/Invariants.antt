use Rattle.std.proofs.Common.{◌≡◌, ◌+◌, ◌*◌, ◌≤◌, ◌++◌, drop, map}
use Rattle.ipc_format_flatbuffers.specs.Laying.{entries}
use Rattle.ipc_format_flatbuffers.specs.Views.{slot_view}
use Rattle.ipc_format_flatbuffers.proofs.laying.put_entries.Given as goal

abbrev pub invariant-loop-slot : goal.invariant-loop-slot
invariant-loop-slot l = record {
  near : l.at ≤ 4 + 15 * l.slot-index;
  out_is : l.out.items ++ entries l.at (drop l.slot-index (map slot_view l.slots)) ≡ l.fn.out.items ++ entries 4 (map slot_view l.slots);
}
