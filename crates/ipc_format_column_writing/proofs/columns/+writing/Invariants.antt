use Rattle.std.proofs.Common.{◌+◌, ◌*◌}
use Rattle.nested_arrays_core.specs.StoredColumns.{column_size, columns_size, in_columns}
use Rattle.ipc_format_column_writing.proofs.Children.{LeftToWrite}
use Rattle.ipc_format_column_writing.proofs.columns.+writing.Given as goal

abbrev pub decreases-write_range : goal.decreases-write_range
decreases-write_range l = 3 * column_size l.array.now

abbrev pub decreases-write_part : goal.decreases-write_part
decreases-write_part l = 3 * column_size l.array.now + 1

abbrev pub decreases-write_children : goal.decreases-write_children
decreases-write_children l = 3 * columns_size (in_columns l.arrays.now) + 2

-- the arrays that are left stand behind what is written
abbrev pub invariant-write_children-loop-array : goal.invariant-write_children-loop-array
invariant-write_children-loop-array l = LeftToWrite l.is_little_endian l.part l.arrays l.initial.body l.body l.array-index
