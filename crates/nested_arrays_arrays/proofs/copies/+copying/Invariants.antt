use Rattle.std.proofs.Common.{◌≡◌, ◌+◌, ◌*◌, take}
use Rattle.nested_arrays_parts.specs.columns.StoredColumns.{column_size, columns_size, in_columns}
use Rattle.nested_arrays_arrays.proofs.copies.+copying.Given as goal

abbrev pub decreases-copy_of_array : goal.decreases-copy_of_array
decreases-copy_of_array l = 2 * column_size l.array.now

abbrev pub decreases-copies_of : goal.decreases-copies_of
decreases-copies_of l = 2 * columns_size (in_columns l.arrays.now) + 1

abbrev pub invariant-copies_of-loop-array : goal.invariant-copies_of-loop-array
invariant-copies_of-loop-array l = l.copies.items ≡ take l.array-index l.arrays
