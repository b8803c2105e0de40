use Rattle.std.proofs.Common.{◌≡◌, ◌+◌, ◌*◌, ◌≤◌, ◌++◌, length, drop, map}
use Rattle.std.specs.List.{flat_map}
use Rattle.ipc_format_flatbuffers.specs.Laying.{table_end, child_bytes, fields}
use Rattle.ipc_format_flatbuffers.specs.Views.{slot_view}
use Rattle.ipc_format_flatbuffers.proofs.laying.put_fields.Given as goal

abbrev pub invariant-loop-slot : goal.invariant-loop-slot
invariant-loop-slot l = record {
  near : l.at ≤ 4 + 15 * l.slot-index;
  behind : l.first_child ≤ l.child;
  end_is : table_end l.at (drop l.slot-index (map slot_view l.slots)) ≡ table_end 4 (map slot_view l.slots);
  child_is : l.child + length (flat_map child_bytes (drop l.slot-index (map slot_view l.slots)))
      ≡ l.first_child + length (flat_map child_bytes (map slot_view l.slots));
  out_is : l.out.items ++ fields l.at l.child (drop l.slot-index (map slot_view l.slots))
      ≡ l.fn.out.items ++ fields 4 l.first_child (map slot_view l.slots);
}
