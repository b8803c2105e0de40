-- Tables: rows of values under a schema, and what is made of them.
use Rattle.std.specs.Prelude.{ℕ, ◌+◌, ◌<◌, ◌^◌, List, [], ◌∷◌, ◌++◌, length, map, take, Option, Some, None, slice_get, slice_range, slice_index_or}
use Rattle.std.specs.List.{filter_map, flat_map}
use Rattle.columnar_memory_core.specs.declared.Schema.{Schema}
use Rattle.nested_arrays_columns.specs.Slots.{Slot, null, window}

-- a schema, and rows with one value a field
pub record Table : Type 0 where
  pub schema : Schema
  pub rows : List (List Slot)

-- the first column's length; without a column there is no row
abbrev pub rows_of_columns : List (List Slot) → ℕ
rows_of_columns [] = 0
rows_of_columns (column ∷ columns) = length column

-- row i of some columns: the value that each column has there
abbrev pub row_at : List (List Slot) → ℕ → List Slot
row_at columns i = map (λ column. slice_index_or column i null) columns

-- the rows of a batch of columns
abbrev pub batch_rows : List (List Slot) → List (List Slot)
batch_rows columns = window (row_at columns) 0 (rows_of_columns columns)

-- the rows of batches, one after another
abbrev pub rows_of_batches : List (List (List Slot)) → List (List Slot)
rows_of_batches batches = flat_map batch_rows batches

-- the number of rows fits 64 bits
abbrev pub FitsRows : Table → Type 0
FitsRows table = length table.rows < 2 ^ 64

-- n rows from row o on
abbrev pub part : ℕ → ℕ → Table → Table
part o n table = record table { rows = slice_range table.rows o (o + n) }

-- what stands at each of some places of a list, in the order of the places
abbrev pub chosen : {A : Type 0} → List ℕ → List A → List A
chosen columns xs = filter_map (λ column. slice_get xs column) columns

-- the chosen columns in the asked order; where no column is chosen there is no row
abbrev pub choice : List ℕ → Table → Table
choice [] table = record { schema = record table.schema { fields = [] }; rows = [] }
choice (column ∷ columns) table = record {
  schema = record table.schema { fields = chosen (column ∷ columns) table.schema.fields };
  rows = map (chosen (column ∷ columns)) table.rows;
}

-- the first k rows
abbrev pub limit : ℕ → Table → Table
limit k table = record table { rows = take k table.rows }

-- the first rows under a limit, if there is one
abbrev pub within : Option ℕ → Table → Table
within None table = table
within (Some k) table = limit k table

-- the chosen columns of the first rows
abbrev pub choice_within : List ℕ → Option ℕ → Table → Table
choice_within columns most table = within most (choice columns table)

-- the rows of both, under the first one's schema
abbrev pub joined : Table → Table → Table
joined a b = record a { rows = a.rows ++ b.rows }
