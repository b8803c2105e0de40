use Rattle.std.proofs.Common.{◌≡◌, ◌==◌, true, take}
use Rattle.std.specs.List.{list_all}
use Rattle.ipc_format_column_writing.specs.column_reading.columns.StoredColumns.{Column, column_len}
use Rattle.ipc_format_array_reading.proofs.made.are_as_long.Given as goal

abbrev pub invariant-loop-array : goal.invariant-loop-array
invariant-loop-array l = list_all (λ (column : Column). column_len column == l.count) (take l.array-index l.arrays) ≡ true
