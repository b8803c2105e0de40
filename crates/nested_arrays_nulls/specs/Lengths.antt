-- How long the parts of columns are.
use Rattle.std.specs.Prelude.{ℕ, max, Bool, List, length, Option, Some, None}
use Rattle.nested_arrays_iterators.specs.columns.StoredColumns.{Column, Columns, Stored, nulls, flat, lists, fixed_lists, records, unions, dictionary}
use Rattle.nested_arrays_iterators.specs.columns.StoredColumns.{bits, numbers, pairs, triples, texts, byte_strings, fixed_bytes, no_column, column_then}

-- how many marks a mask has
abbrev pub marks_length : Option (List Bool) → ℕ
marks_length None = 0
marks_length (Some marks) = length marks

-- how long the longest of the stored lists is
abbrev pub stored_length : Stored → ℕ
stored_length (bits values) = length values
stored_length (numbers kind values) = length values
stored_length (pairs kind values) = length values
stored_length (triples kind values) = length values
stored_length (texts offsets content) = max (length offsets) (length content)
stored_length (byte_strings offsets content) = max (length offsets) (length content)
stored_length (fixed_bytes size content) = length content

-- how long the longest part of a column is, at any depth
abbrev mutual
  pub most_length : Column → ℕ
  most_length (nulls data_type n) = n
  most_length (flat data_type mask stored) = max (marks_length mask) (stored_length stored)
  most_length (lists data_type mask offsets child) = max (length offsets) (most_length child)
  most_length (fixed_lists data_type mask size child) = max (marks_length mask) (most_length child)
  most_length (records data_type mask n children) = max n (most_lengths children)
  most_length (unions data_type ids offsets children) = max (length ids) (most_lengths children)
  most_length (dictionary data_type mask keys values) = max (length keys) (most_length values)

  pub most_lengths : Columns → ℕ
  most_lengths no_column = 0
  most_lengths (column_then column columns) = max (most_length column) (most_lengths columns)
