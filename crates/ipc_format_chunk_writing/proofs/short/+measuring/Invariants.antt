use Rattle.std.proofs.Common.{◌+◌, ◌*◌}
use Rattle.ipc_format_batch_reading.specs.columns.StoredColumns.{column_size, columns_size, in_columns}
use Rattle.ipc_format_chunk_writing.proofs.short.+measuring.Given as goal

abbrev pub decreases-is_short : goal.decreases-is_short
decreases-is_short l = 3 * column_size l.array.now

abbrev pub decreases-are_short : goal.decreases-are_short
decreases-are_short l = 3 * columns_size (in_columns l.arrays.now) + 2
