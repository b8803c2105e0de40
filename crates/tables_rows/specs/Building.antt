-- What a builder of tables holds, and what it begins with.
use Rattle.std.specs.Prelude.{◌≡◌, List, [], None, Some, Result, Ok, Err, true, refl}
use Rattle.std.specs.Coded.{Coded, code_by, coded×, coded_list}
use Rattle.columnar_memory_types.specs.contracts.schema.Schema as schema_type
use Rattle.columnar_memory_types.specs.declared.schema.Schema.{Schema}
use Rattle.tables_rows.specs.Bars.{bar_of}
use Rattle.tables_chunks.specs.StoredTables.{Stored}
use Rattle.tables_chunks.specs.TableSchemas.{IsTableSchema}
use Rattle.tables_chunks.specs.declared.fault.Fault.{Fault}
use Rattle.tables_chunks.specs.declared.fault.Fault.TheVariants as faults
use Rattle.tables_chunks.specs.ipc_format.columns.ColumnCodes.{column_code}
use Rattle.tables_chunks.specs.ipc_format.columns.Rows.{columns_fit, columns_of_rows}
use Rattle.tables_chunks.specs.ipc_format.columns.SlotCodes.{slot_code}
use Rattle.tables_chunks.specs.ipc_format.columns.Slots.{Slot}
use Rattle.tables_chunks.specs.ipc_format.columns.StoredColumns.{Column}
use Rattle.tables_chunks.specs.ipc_format.Seals.{are_rows_of, is_sealable}
use Rattle.tables_chunks.specs.ipc_format.Writable.{normalised}
use Rattle.nested_arrays_cells.specs.parts.Open.{Open}
use Rattle.tables_rows.specs.Columns.{rows_of, AreOpen}

-- a schema, what each column of each ended batch stores, and the rows that are open
pub record Building : Type 0 where
  pub schema : Schema
  pub batches : List (List Column)
  pub rows : List (List Slot)

-- it is told by these three
abbrev pub building_code : Coded Building
building_code =
    code_by (Schema × (List (List Column) × List (List Slot)))
    (coded× schema_type.the_row.coded (coded× (coded_list (coded_list column_code)) (coded_list (coded_list slot_code))))
    (λ building. (building.schema, (building.batches, building.rows)))
    (λ parts. record { schema = parts.0; batches = parts.1.0; rows = parts.1.1 }) (λ _. refl)

-- what a table that grows and open columns are seen as
abbrev pub seen : Stored → List Open → Building
seen table columns = record { schema = table.schema; batches = table.batches; rows = rows_of columns }

-- The schema is a table's and may be sealed. Each open row has a value a field, and each column of the open rows fits.
pub record IsBuilding (building : Building) : Type 0 where
  pub form : IsTableSchema building.schema
  pub sealable : is_sealable building.schema ≡ true
  pub wide : are_rows_of building.schema.fields building.rows ≡ true
  pub fitting : columns_fit building.schema.fields (columns_of_rows building.schema.fields building.rows) ≡ true

-- the schema is a table's and may be sealed, and there is an open column for each field
pub record IsHeld (schema : Schema) (columns : List Open) : Type 0 where
  pub form : IsTableSchema schema
  pub sealable : is_sealable schema ≡ true
  pub are : AreOpen schema.fields columns

-- without a row, open or ended
abbrev pub empty : Schema → Building
empty schema = record { schema = schema; batches = []; rows = [] }

-- A builder without a row, under the schema's one form. Or a bar keeps the schema from being sealed; or none does, and memory ran out.
abbrev pub IsNew : Schema → Result Building Fault → Type 0
IsNew schema (Ok new) = (new ≡ empty (normalised schema)) × (bar_of schema ≡ None)
IsNew schema (Err (faults.NotSealable bar)) = bar_of schema ≡ Some bar
IsNew schema (Err faults.Memory) = bar_of schema ≡ None
IsNew schema (Err _) = ⊥

-- the one form of a schema that is written, which is a table's; or memory ran out
abbrev pub MakesForm : Schema → Result Schema Fault → Type 0
MakesForm schema (Ok normal) = (normal ≡ normalised schema) × (normalised normal ≡ normal)
MakesForm schema (Err fault) = fault ≡ faults.Memory
