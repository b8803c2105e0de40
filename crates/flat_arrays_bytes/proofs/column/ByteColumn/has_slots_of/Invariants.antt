use Rattle.std.proofs.Common.{◌≡◌, ℕ, ◌<◌}
use Rattle.std.specs.Prelude.{slice_get}
use Rattle.flat_arrays_bytes.specs.ByteStrings.{slots_of}
use Rattle.flat_arrays_bytes.proofs.column.ByteColumn.has_slots_of.Given as goal

-- the slots that were compared are the same
abbrev pub invariant-loop-index : goal.invariant-loop-index
invariant-loop-index g l = (k : ℕ) → k < l.index → slice_get (slots_of l.self) k ≡ slice_get (slots_of l.other) k
