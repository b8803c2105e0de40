-- What is made of stored tables: of their batches, with no cell copied, and so of their rows.
use Rattle.std.specs.Prelude.{◌≡◌, ℕ, ◌+◌, ◌<◌, ◌^◌, List, ◌++◌, Result, Ok, Err}
use Rattle.ipc_format.specs.columns.Tables.{part, choice, chosen, joined}
use Rattle.tables_chunks.specs.Batches.{cut_batches, choose_batches}
use Rattle.tables_chunks.specs.declared.fault.Fault.{Fault}
use Rattle.tables_chunks.specs.declared.fault.Fault.TheVariants as faults
use Rattle.tables_chunks.specs.StoredTables.{Stored, as_table, row_count}

-- ---- parts

-- n rows from row o on: a window of each batch that has one of these rows, in order
abbrev pub cut_table : ℕ → ℕ → Stored → Stored
cut_table o n table = record table { batches = cut_batches o n table.batches }

-- the cut, which has the part of the rows; or there was no memory
abbrev pub CutsTable : ℕ → ℕ → Stored → Result Stored Fault → Type 0
CutsTable o n table (Ok cut) = (cut ≡ cut_table o n table) × (as_table cut ≡ part o n (as_table table))
CutsTable o n table (Err fault) = fault ≡ faults.Memory

-- ---- choices

-- the chosen columns of each batch under the chosen fields, in the asked order; where none is chosen there is no batch
abbrev pub choose_columns : List ℕ → Stored → Stored
choose_columns columns table = record {
  schema = record table.schema { fields = chosen columns table.schema.fields };
  batches = choose_batches columns table.batches;
}

-- the chosen columns, which have the choice of the rows; or there was no memory
abbrev pub ChoosesColumns : List ℕ → Stored → Result Stored Fault → Type 0
ChoosesColumns columns table (Ok picked) = (picked ≡ choose_columns columns table) × (as_table picked ≡ choice columns (as_table table))
ChoosesColumns columns table (Err fault) = fault ≡ faults.Memory

-- ---- joins

-- two tables have one schema, and their rows together fit 64 bits
pub record CanJoin (left right : Stored) : Type 0 where
  pub schemas : left.schema ≡ right.schema
  pub rows : row_count left + row_count right < 2 ^ 64

-- the batches of the left table, then those of the right one
abbrev pub join_tables : Stored → Stored → Stored
join_tables left right = record left { batches = left.batches ++ right.batches }

-- the join, which has the rows of both; or there was no memory
abbrev pub JoinsTables : Stored → Stored → Result Stored Fault → Type 0
JoinsTables left right (Ok both) = (both ≡ join_tables left right) × (as_table both ≡ joined (as_table left) (as_table right))
JoinsTables left right (Err fault) = fault ≡ faults.Memory
