use Rattle.std.proofs.Common.{◌≡◌, ap, arith, sym}
use Rattle.nested_arrays_access.proofs.SlotLists.{same_items_ranges}
use Rattle.nested_arrays_arrays.proofs.SameSlots.{nodes_sum}
use Rattle.nested_arrays_arrays.specs.columns.Slots.{window}
use Rattle.nested_arrays_arrays.specs.columns.StoredColumns.{slot_at}
use Rattle.nested_arrays_access.proofs.slot_ranges.same_slot_ranges.Goals as goal

pub returns-clause-same : goal.returns-clause-same
returns-clause-same c =
    same_items_ranges (window (slot_at c.args.left.now) c.args.i c.args.count) (window (slot_at c.args.right.now) c.args.j c.args.count)
    c.same_items.result c.same_items.ensures.same

pub returns-clause-counted : goal.returns-clause-counted
returns-clause-counted c =
    omega (arith, c.same_items.ensures.counted, nodes_sum (window (slot_at c.args.left.now) c.args.i c.args.count))

pub returns-clause-used : goal.returns-clause-used
returns-clause-used c =
    λ is. omega (arith, c.same_items.ensures.used is, nodes_sum (window (slot_at c.args.left.now) c.args.i c.args.count))
