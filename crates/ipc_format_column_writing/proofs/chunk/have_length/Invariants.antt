-- The arrays that were looked at have so many slots.
use Rattle.std.proofs.Common.{◌≡◌, ◌<◌, ℕ, slice_get, Some}
use Rattle.nested_arrays_core.specs.StoredColumns.{column_len}
use Rattle.ipc_format_column_writing.proofs.chunk.have_length.Given as goal

abbrev pub invariant-loop-array : goal.invariant-loop-array
invariant-loop-array g l = (k : ℕ) (array : _) → k < l.array-index → slice_get l.arrays k ≡ Some array
    → column_len (g.A.Array.column array) ≡ l.count
