-- How many slots a column has, and how many columns it is made of.
use Rattle.std.proofs.Common.{◌≡◌, ℕ, ◌+◌, ◌*◌, refl, ap, arith}
use Rattle.std.specs.Prelude.{Some, None}
use Rattle.nested_arrays_columns.specs.ColumnLaws.{SlotsLengths, CutsSizes, SizesCount}
use Rattle.nested_arrays_columns.specs.StoredColumns.{Column, Columns, nulls, flat, lists, fixed_lists, records, unions, dictionary, no_column}
use Rattle.nested_arrays_columns.specs.StoredColumns.{column_then, column_len, column_size, columns_size, slot_at, cut, cut_each}
use Rattle.nested_arrays_columns.proofs.Windows.{length-window}

pub slots_lengths : SlotsLengths
slots_lengths c = length-window (slot_at c) 0 (column_len c)

mutual
  column_size-cut : (c : Column) (o n : ℕ) → column_size (cut c o n) ≡ column_size c
  column_size-cut (nulls data_type count) o n = refl
  column_size-cut (flat data_type mask stored) o n = refl
  column_size-cut (lists data_type mask offsets child) o n = refl
  column_size-cut (fixed_lists data_type mask size child) o n = ap (λ k. k + 1) (column_size-cut child (size * o) (size * n))
  column_size-cut (records data_type mask count children) o n = ap (λ k. k + 1) (columns_size-cut children o n)
  column_size-cut (unions data_type ids None children) o n = ap (λ k. k + 1) (columns_size-cut children o n)
  column_size-cut (unions data_type ids (Some offsets) children) o n = refl
  column_size-cut (dictionary data_type mask keys values) o n = refl

  columns_size-cut : (cs : Columns) (o n : ℕ) → columns_size (cut_each cs o n) ≡ columns_size cs
  columns_size-cut no_column o n = refl
  columns_size-cut (column_then c cs) o n = λ j. column_size-cut c o n j + columns_size-cut cs o n j

pub cuts_sizes : CutsSizes
cuts_sizes = column_size-cut

-- a column is made of one at least
pub sizes_count : SizesCount
sizes_count (nulls data_type count) = omega arith
sizes_count (flat data_type mask stored) = omega arith
sizes_count (lists data_type mask offsets child) = omega arith
sizes_count (fixed_lists data_type mask size child) = omega arith
sizes_count (records data_type mask count children) = omega arith
sizes_count (unions data_type ids offsets children) = omega arith
sizes_count (dictionary data_type mask keys values) = omega arith
