use Rattle.std.proofs.Common.{◌≡◌, ◌+◌, ◌*◌, ◌++◌, drop, map}
use Rattle.ipc_format_batch_reading.specs.columns.StoredColumns.{column_size, columns_size, in_columns}
use Rattle.ipc_format_batch_reading.specs.grammar.GivenDictionaries.{given_each}
use Rattle.ipc_format_batch_reading.specs.metadata.Views.{ids_views}
use Rattle.ipc_format_chunk_writing.specs.Found.{given_in}
use Rattle.ipc_format_chunk_writing.proofs.found.+finding.Given as goal

abbrev pub decreases-find : goal.decreases-find
decreases-find l = 3 * column_size l.array.now

abbrev pub decreases-find_first : goal.decreases-find_first
decreases-find_first l = 3 * column_size l.array.now + 1

abbrev pub decreases-find_each : goal.decreases-find_each
decreases-find_each l = 3 * columns_size (in_columns l.arrays.now) + 2

-- what was found, and what the arrays that are left bring, is all that there is to find
abbrev pub invariant-find_each-loop-array : goal.invariant-find_each-loop-array
invariant-find_each-loop-array l =
    map given_in l.found.items ++ given_each (ids_views l.others) (in_columns (drop l.array-index l.arrays))
    ≡ map given_in l.initial.found.items ++ given_each (ids_views l.initial.others) (in_columns l.arrays)
