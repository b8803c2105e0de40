-- What a table holds (Arrow columnar format, "Physical Memory Layout"; Arrow IPC, "RecordBatch message").
use Rattle.std.specs.Prelude.{◌≡◌, ℕ, ◌+◌, ◌≤◌, ◌<◌, ◌^◌, Bool, true, List, [], ◌∷◌, ◌++◌, length, Result, Ok, Err, ⊤, refl}
use Rattle.std.specs.Coded.{Coded, code_by, coded×, coded_list}
use Rattle.std.specs.List.{list_all}
use Rattle.columnar_memory_types.specs.contracts.schema.Schema as schema_type
use Rattle.columnar_memory_types.specs.declared.data_type.Field.{Field}
use Rattle.columnar_memory_types.specs.declared.schema.Schema.{Schema}
use Rattle.ipc_format.specs.columns.SoundColumns.{have_types}
use Rattle.ipc_format.specs.columns.StoredColumns.{Column, in_columns}
use Rattle.ipc_format.specs.columns.Tables.{Table}
use Rattle.ipc_format.specs.columns.ColumnCodes.{column_code}
use Rattle.tables_chunks.specs.Batches.{batch_len, stored_rows, AreBatches}
use Rattle.tables_chunks.specs.TableSchemas.{IsTableSchema}
use Rattle.tables_chunks.specs.declared.fault.Fault.{Fault}
use Rattle.tables_chunks.specs.declared.fault.Fault.TheVariants as faults

-- a schema, and batch by batch what each column stores
pub record Stored : Type 0 where
  pub schema : Schema
  pub batches : List (List Column)

-- a stored table is told by its schema and its batches
abbrev pub stored_code : Coded Stored
stored_code =
    code_by (Schema × List (List Column)) (coded× schema_type.the_row.coded (coded_list (coded_list column_code)))
    (λ table. (table.schema, table.batches)) (λ parts. record { schema = parts.0; batches = parts.1 }) (λ _. refl)

-- the table that is stored: its rows under its schema, however they are cut into batches; without fields there are none
abbrev pub as_table : Stored → Table
as_table stored = record { schema = stored.schema; rows = stored_rows stored.batches }

-- how many rows it has
abbrev pub row_count : Stored → ℕ
row_count stored = length (stored_rows stored.batches)

-- a batch has a column a field, each of its field's type
abbrev pub is_of_fields : List Field → List Column → Bool
is_of_fields fields batch = have_types fields (in_columns batch)

-- the schema is that of a table; each batch has a column a field, of its field's type; each column is sound, and those of a batch are as long
-- as its first
pub record IsTable (schema : Schema) (batches : List (List Column)) : Type 0 where
  pub form : IsTableSchema schema
  pub whole : AreBatches (length schema.fields) batches
  pub types : list_all (is_of_fields schema.fields) batches ≡ true

-- ---- tables that are made

-- the table of these batches, whose rows fit 64 bits; or they don't fit
abbrev pub MakesTable : Schema → List (List Column) → Result Stored Fault → Type 0
MakesTable schema batches (Ok table) = (table ≡ record { schema = schema; batches = batches }) × (row_count table < 2 ^ 64)
MakesTable schema batches (Err faults.TooManyRows) = 2 ^ 64 ≤ length (stored_rows batches)
MakesTable schema batches (Err _) = ⊥

-- One batch more, with its rows behind the others, where all fit 64 bits. Or they don't fit, or there was no memory; then nothing changed.
abbrev pub AddsBatch : Stored → List Column → Result ⊤ Fault → Stored → Type 0
AddsBatch old batch (Ok done) new = (new ≡ record old { batches = old.batches ++ batch ∷ [] }) × (row_count new < 2 ^ 64)
AddsBatch old batch (Err faults.TooManyRows) new = (new ≡ old) × (2 ^ 64 ≤ row_count old + batch_len batch)
AddsBatch old batch (Err faults.Memory) new = new ≡ old
AddsBatch old batch (Err _) new = ⊥
