use Rattle.nested_arrays_access.proofs.SlotLists.{same_items_slots}
use Rattle.nested_arrays_access.proofs.slot_ranges.same_slots.Goals as goal

pub returns : goal.returns
returns c = same_items_slots c.args.left.now c.args.right.now c.len.result c.len-2.result c.same_items.result c.len.ensures c.len-2.ensures
    c.same_items.ensures.same
