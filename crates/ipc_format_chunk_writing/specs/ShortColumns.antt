-- Columns whose lengths are within those of arrays (docs/FORMAT.md, "Limits").
use Rattle.std.specs.Prelude.{Bool, ◌&&◌, nat_lt, true, length}
use Rattle.ipc_format_batch_reading.specs.grammar.Limits.{length_limit}
use Rattle.ipc_format_batch_reading.specs.columns.StoredColumns.{Column, Columns, nulls, flat, lists, fixed_lists, records, unions}
use Rattle.ipc_format_batch_reading.specs.columns.StoredColumns.{dictionary}
use Rattle.ipc_format_batch_reading.specs.columns.StoredColumns.{no_column, column_then, column_len}

-- a column, and each column below it, has at most 2^63 - 1 slots
abbrev mutual
  pub is_short : Column → Bool
  is_short (nulls data_type n) = nat_lt n length_limit
  is_short (flat data_type mask stored) = nat_lt (column_len (flat data_type mask stored)) length_limit
  is_short (lists data_type mask offsets child) = nat_lt (column_len (lists data_type mask offsets child)) length_limit && is_short child
  is_short (fixed_lists data_type mask size child) =
      nat_lt (column_len (fixed_lists data_type mask size child)) length_limit && is_short child
  is_short (records data_type mask n children) = nat_lt n length_limit && are_short children
  is_short (unions data_type ids offsets children) = nat_lt (length ids) length_limit && are_short children
  is_short (dictionary data_type mask keys values) = nat_lt (length keys) length_limit && is_short values

  pub are_short : Columns → Bool
  are_short no_column = true
  are_short (column_then column columns) = is_short column && are_short columns
