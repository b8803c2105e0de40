use Rattle.std.proofs.Common.{◌≡◌, ◌+◌, ◌*◌, ◌≤◌, drop, map}
use Rattle.ipc_format_flatbuffers.specs.Laying.{table_end}
use Rattle.ipc_format_flatbuffers.specs.Views.{slot_view}
use Rattle.ipc_format_flatbuffers.proofs.laying.end_of.Given as goal

abbrev pub invariant-loop-slot : goal.invariant-loop-slot
invariant-loop-slot l = record {
  near : l.at ≤ 4 + 15 * l.slot-index;
  end_is : table_end l.at (drop l.slot-index (map slot_view l.slots)) ≡ table_end 4 (map slot_view l.slots);
}
