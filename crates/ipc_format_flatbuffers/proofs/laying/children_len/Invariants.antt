use Rattle.std.proofs.Common.{◌≡◌, ◌+◌, ◌*◌, ◌^◌, ◌≤◌, length, drop, map}
use Rattle.std.specs.List.{flat_map}
use Rattle.ipc_format_flatbuffers.specs.Laying.{child_bytes}
use Rattle.ipc_format_flatbuffers.specs.Views.{slot_view}
use Rattle.ipc_format_flatbuffers.proofs.laying.children_len.Given as goal

abbrev pub invariant-loop-slot : goal.invariant-loop-slot
invariant-loop-slot l = record {
  small : l.len ≤ 2 ^ 31 * l.slot-index;
  len_is : l.len + length (flat_map child_bytes (drop l.slot-index (map slot_view l.slots))) ≡ length (flat_map child_bytes (map slot_view l.slots));
}
