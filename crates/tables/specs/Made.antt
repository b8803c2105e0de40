-- What commands make of the tables that they read.
use Rattle.std.specs.Prelude.{◌≡◌, ℕ, ◌+◌, ◌≤◌, ◌<◌, ◌^◌, false, ⊤, All, List, [], ◌∷◌, ◌++◌, sum_by, Option, Some, Result, Ok, Err}
use Rattle.std.specs.List.{flat_map}
use Rattle.std.specs.declared.alloc.Global.{Global}
use Rattle.std.specs.declared.vec.Vec.{Vec}
use Rattle.tables_rows.specs.chunks.ipc_format.columns.StoredColumns.{Column}
use Rattle.tables_rows.specs.chunks.ipc_format.Seals.{sealed}
use Rattle.tables_rows.specs.chunks.Batches.{stored_rows}
use Rattle.tables_rows.specs.chunks.declared.fault.Fault.{Fault}
use Rattle.tables_rows.specs.chunks.declared.fault.Fault.TheVariants as faults
use Rattle.tables_rows.specs.chunks.StoredTables.{Stored, as_table, row_count}
use Rattle.tables_rows.specs.chunks.TableParts.{cut_table}
use Rattle.tables_rows.specs.chunks.WrittenTables.{is_table_within, table_bytes}
use Rattle.tables_rows.specs.Seals.{Seals}
use Rattle.tables.specs.Command.{Asked, Cut, Join, Same, Seal}
use Rattle.tables.specs.declared.program.Failure.{Failure}
use Rattle.tables.specs.declared.program.Failure.TheVariants as failures

-- the batches of some tables, one table behind another, under the schema of the first
abbrev pub joined_all : Stored → List Stored → Stored
joined_all table others = record table { batches = flat_map (λ (it : Stored). it.batches) (table ∷ others) }

-- tables have the schema of the first one
abbrev pub HaveSchemaOf : Stored → List Stored → Type 0
HaveSchemaOf table others = All (λ (other : Stored). other.schema ≡ table.schema) others

-- how many rows some tables have together
abbrev pub rows_together : List Stored → ℕ
rows_together tables = sum_by row_count tables

-- the seal of a table in batches of a size
abbrev pub seal_of : ℕ → Stored → Option (List ℕ)
seal_of size table = sealed table.schema (stored_rows table.batches) size

-- the table that a command makes of those that it reads; one that is sealed is that of the input
abbrev pub Makes : Asked → List Stored → Stored → Type 0
Makes (Seal size input output) (table ∷ []) made = (made ≡ table) × ((bytes : List ℕ) × (seal_of size table ≡ Some bytes))
Makes (Cut offset length input output) (table ∷ []) made = (offset + length ≤ row_count table) × (made ≡ cut_table offset length table)
Makes (Join output first names) (table ∷ others) made =
    HaveSchemaOf table others × (rows_together (table ∷ others) < 2 ^ 64) × (made ≡ joined_all table others)
Makes _ _ _ = ⊥

-- why none is made: the table has no seal, there are fewer rows, schemas differ, or the rows together don't fit 64 bits
abbrev pub IsNotMade : Failure → Asked → List Stored → Type 0
IsNotMade (failures.Fault fault) (Seal size input output) (table ∷ []) = Seals (as_table table) size (Err fault)
IsNotMade failures.RangeOutsideRows (Cut offset length input output) (table ∷ []) = row_count table < offset + length
IsNotMade failures.SchemasDiffer (Join output first names) (table ∷ others) = HaveSchemaOf table others → ⊥
IsNotMade (failures.Fault faults.TooManyRows) (Join output first names) (table ∷ others) = 2 ^ 64 ≤ rows_together (table ∷ others)
IsNotMade _ _ _ = ⊥

-- a table's seal in batches of a size; or why there is none
abbrev pub MakesSeal : Result (Vec ℕ Global) Failure → ℕ → Stored → Type 0
MakesSeal (Ok bytes) size table = seal_of size table ≡ Some bytes.items
MakesSeal (Err (failures.Fault fault)) size table = Seals (as_table table) size (Err fault)
MakesSeal (Err _) size table = ⊥

-- a table's rows from one on, as a command makes them; or there are fewer, or memory ran out
abbrev pub MakesCut : Result Stored Failure → ℕ → ℕ → Stored → Type 0
MakesCut (Ok made) offset length table = (offset + length ≤ row_count table) × (made ≡ cut_table offset length table)
MakesCut (Err failures.RangeOutsideRows) offset length table = row_count table < offset + length
MakesCut (Err (failures.Fault faults.Memory)) offset length table = Unit {0}
MakesCut (Err _) offset length table = ⊥

-- the batches of a table behind others, whose rows fit 64 bits; or they don't fit, or memory ran out
abbrev pub AddsBatches : Stored → List (List Column) → Result ⊤ Fault → Stored → Type 0
AddsBatches old batches (Ok done) new = (new ≡ record old { batches = old.batches ++ batches }) × (row_count new < 2 ^ 64)
AddsBatches old batches (Err faults.TooManyRows) new = 2 ^ 64 ≤ row_count (record old { batches = old.batches ++ batches })
AddsBatches old batches (Err faults.Memory) new = Unit {0}
AddsBatches old batches (Err _) new = ⊥

-- the rows of some tables, one table behind another, as a command makes them
abbrev pub MakesJoin : Result Stored Failure → Stored → List Stored → Type 0
MakesJoin (Ok made) first others =
    HaveSchemaOf first others × (rows_together (first ∷ others) < 2 ^ 64) × (made ≡ joined_all first others)
MakesJoin (Err failures.SchemasDiffer) first others = HaveSchemaOf first others → ⊥
MakesJoin (Err (failures.Fault faults.TooManyRows)) first others = 2 ^ 64 ≤ rows_together (first ∷ others)
MakesJoin (Err (failures.Fault faults.Memory)) first others = Unit {0}
MakesJoin (Err _) first others = ⊥

-- ---- streams

-- the stream of a table
abbrev pub stream_of : Stored → List ℕ
stream_of table = table_bytes table.schema table.batches

-- a message of it, or a node in one, is past its limit
abbrev pub IsLong : Stored → Type 0
IsLong table = is_table_within table.schema table.batches ≡ false
