use Rattle.std.proofs.Common.{◌≡◌, ◌<◌, ℕ}
use Rattle.nested_arrays_columns.specs.StoredColumns.{slot_at}
use Rattle.nested_arrays_flat.proofs.fixed_size_binary.FixedSizeBinaryArray.has_slots_of.Given as goal

-- the slots before are the same
abbrev pub invariant-loop-i : goal.invariant-loop-i
invariant-loop-i l = (k : ℕ) → k < l.i → slot_at l.self k ≡ slot_at l.other k
