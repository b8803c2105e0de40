use Rattle.std.proofs.Common.{◌≡◌, ◌++◌, drop, map}
use Rattle.std.specs.List.{flat_map}
use Rattle.ipc_format_flatbuffers.specs.Laying.{child_bytes}
use Rattle.ipc_format_flatbuffers.specs.Views.{slot_view}
use Rattle.ipc_format_flatbuffers.proofs.laying.put_children.Given as goal

abbrev pub invariant-loop-slot : goal.invariant-loop-slot
invariant-loop-slot l =
    l.out.items ++ flat_map child_bytes (drop l.slot-index (map slot_view l.slots)) ≡ l.fn.out.items ++ flat_map child_bytes (map slot_view l.slots)
