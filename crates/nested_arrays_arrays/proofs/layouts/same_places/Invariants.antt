use Rattle.std.proofs.Common.{◌≡◌, ◌<◌, ℕ}
use Rattle.nested_arrays_parts.specs.columns.StoredColumns.{slot_at}
use Rattle.nested_arrays_arrays.proofs.layouts.same_places.Given as goal

-- the slots before are the same
abbrev pub invariant-loop-i : goal.invariant-loop-i
invariant-loop-i g l = (k : ℕ) → k < l.i → slot_at (g.A.CompareSlots.column l.left) k ≡ slot_at (g.A.CompareSlots.column l.right) k
