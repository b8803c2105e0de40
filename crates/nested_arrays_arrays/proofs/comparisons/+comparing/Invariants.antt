use Rattle.std.proofs.Common.{◌+◌, ◌*◌, ◌-◌, ◌≤◌}
use Rattle.nested_arrays_parts.specs.columns.StoredColumns.{column_size, columns_size, in_columns}
use Rattle.nested_arrays_arrays.proofs.SameSlots.{Compared}
use Rattle.nested_arrays_arrays.proofs.comparisons.+comparing.Given as goal

abbrev pub decreases-same_range : goal.decreases-same_range
decreases-same_range l = 4 * column_size l.left.now + 3

abbrev pub decreases-same_slot : goal.decreases-same_slot
decreases-same_slot l = 4 * column_size l.left.now + 2

abbrev pub decreases-same_value : goal.decreases-same_value
decreases-same_value l = 4 * column_size l.left.now + 1

abbrev pub decreases-same_items : goal.decreases-same_items
decreases-same_items l = 4 * column_size l.left.now + 4

abbrev pub decreases-same_fields : goal.decreases-same_fields
decreases-same_fields l = 4 * columns_size (in_columns l.left.now) + 4

abbrev pub decreases-same_pick : goal.decreases-same_pick
decreases-same_pick l = 4 * column_size l.left.now + 4

-- the slots before are the same, and each was counted once
abbrev pub invariant-same_range-loop-k : goal.invariant-same_range-loop-k
invariant-same_range-loop-k l = (l.k ≤ l.count) × Compared l.left l.i l.right l.j l.k l.initial.steps.count l.steps.count

abbrev pub decreases-same_range-loop-k : goal.decreases-same_range-loop-k
decreases-same_range-loop-k l = l.count - l.k

abbrev pub decreases-same_columns : goal.decreases-same_columns
decreases-same_columns l = 4 * columns_size (in_columns l.left.now) + 4
