-- The table of batches that were gathered.
use Rattle.std.proofs.Common.{◌≡◌, ◌∙◌, ℕ, ◌≤◌, ◌<◌, ◌^◌, true, List, [], length, All, refl, sym, ap, subst}
use Rattle.std.specs.List.{list_all}
use Rattle.std.specs.Prelude.{Option, Some, None, IsSomeAnd, Result, Ok, Err}
use Rattle.std.specs.declared.alloc.Global.{Global}
use Rattle.std.specs.declared.vec.Vec.{Vec}
use Rattle.tables_chunks.specs.Choices.{are_below, are_distinct}
use Rattle.tables_chunks.specs.Faults.{fault_of}
use Rattle.tables_chunks.specs.Messages.{AreOfFields, layout_by}
use Rattle.tables_chunks.specs.Reading.{slots_of_batches}
use Rattle.tables_chunks.specs.StoredTables.{MakesTable, Stored, is_of_fields}
use Rattle.tables_chunks.specs.TableSchemas.{IsTableSchema}
use Rattle.tables_chunks.specs.declared.fault.Fault.{Fault}
use Rattle.tables_chunks.specs.declared.fault.Fault.TheVariants as faults
use Rattle.tables_chunks.specs.ipc_format.Dictionaries.{Entry, Layout}
use Rattle.tables_chunks.specs.ipc_format.columnar_memory.declared.Error.{Error}
use Rattle.tables_chunks.specs.ipc_format.columnar_memory.declared.Error.TheVariants as errors
use Rattle.tables_chunks.specs.ipc_format.columnar_memory.declared.Field.{Field}
use Rattle.tables_chunks.specs.ipc_format.columnar_memory.declared.Schema.{Schema}
use Rattle.tables_chunks.specs.ipc_format.columns.StoredColumns.{Column}
use Rattle.tables_chunks.specs.ipc_format.columns.Tables.{chosen, rows_of_batches}
use Rattle.tables_chunks.specs.ipc_format.grammar.Tables.{chosen_batches}
use Rattle.tables_chunks.specs.ipc_format.metadata.declared.ipc_schema.IpcSchema.{IpcSchema}
use Rattle.tables_chunks.proofs.ChosenSchemas.{chosen_schemas_are_written}
use Rattle.tables_chunks.proofs.ReadTables.{fit_fields}
use Rattle.tables_rows.specs.Gathered.{Batches, GathersBatches, GathersTable, kept}
use Rattle.tables_rows.proofs.KeptRows.{rows_kept}

-- a schema with the chosen fields
abbrev pub picked_of : Schema → List ℕ → Schema
picked_of schema columns = record schema { fields = chosen columns schema.fields }

pub picked_form : (schema picked : Schema) (columns : List ℕ) → picked ≡ picked_of schema columns → IsTableSchema schema
    → are_distinct columns ≡ true → are_below (length schema.fields) columns ≡ true → IsTableSchema picked
picked_form schema picked columns is form distinct below =
    let both = chosen_schemas_are_written schema columns form.writable form.normal distinct below in
    subst IsTableSchema (sym is) (record { writable = both.0; normal = both.1 })

pub picked_fields : (schema picked : Schema) (columns : List ℕ) (batches : List (List Column)) → picked ≡ picked_of schema columns
    → All (AreOfFields (chosen columns schema.fields)) batches → list_all (is_of_fields picked.fields) batches ≡ true
picked_fields schema picked columns batches is all =
    subst (λ (s : Schema). list_all (is_of_fields s.fields) batches ≡ true) (sym is) (fit_fields (chosen columns schema.fields) batches all)

-- ---- what there is and what holds of it

pub with_value : {A : Type 0} (given : Option A) (P : A → Type 0) → IsSomeAnd given P → (x : A) × (given ≡ Some x) × P x
with_value None P is = absurd is
with_value (Some x) P is = (x, refl, is)

pub of_value : {A : Type 0} (given : Option A) (P : A → Type 0) (x : A) → given ≡ Some x → P x → IsSomeAnd given P
of_value given P x e is = subst (λ some. IsSomeAnd some P) (sym e) is

-- ---- the table

-- what is gathered under what is the same
pub gathered_alike : (fields fields_too : List Field) (columns columns_too : List ℕ) (ipc_schema : IpcSchema) (limit : Option ℕ)
    (entries : List Entry) (result : Result (Vec (List Column) Global) Error) → fields ≡ fields_too → columns ≡ columns_too
    → GathersBatches (layout_by fields ipc_schema) columns limit entries result
    → GathersBatches (layout_by fields_too ipc_schema) columns_too limit entries result
gathered_alike fields fields_too columns columns_too ipc_schema limit entries result same_fields same_columns found =
    subst (λ (ks : List ℕ). GathersBatches (layout_by fields_too ipc_schema) ks limit entries result) same_columns
    (subst (λ (fs : List Field). GathersBatches (layout_by fs ipc_schema) columns limit entries result) same_fields found)

pub gathered_fault : (error : Error) (schema : Schema) (layout : Layout) (columns : List ℕ) (limit : Option ℕ) (entries : List Entry)
    → GathersBatches layout columns limit entries (Err error) → GathersTable schema layout columns limit entries (Err (fault_of error))
gathered_fault errors.OutOfMemory schema layout columns limit entries refused = tt
gathered_fault (errors.OutOfSpec what) schema layout columns limit entries refused = refused
gathered_fault (errors.NotYetImplemented what) schema layout columns limit entries refused = refused
gathered_fault (errors.External from what) schema layout columns limit entries refused = absurd refused
gathered_fault (errors.Io what) schema layout columns limit entries refused = absurd refused
gathered_fault (errors.InvalidArgumentError what) schema layout columns limit entries refused = absurd refused
gathered_fault (errors.ExternalFormat what) schema layout columns limit entries refused = absurd refused
gathered_fault errors.Overflow schema layout columns limit entries refused = absurd refused

-- so many rows as the kept batches have
same_rows : (batches : Batches) (chunks : List (List Column)) → kept batches ≡ slots_of_batches chunks
    → length (rows_of_batches batches) ≡ length (rows_of_batches (slots_of_batches chunks))
same_rows batches chunks same = ap length (sym (rows_kept batches) ∙ ap rows_of_batches same)

pub gathered_table : (schema picked : Schema) (layout : Layout) (columns : List ℕ) (limit : Option ℕ) (entries : List Entry)
    (chunks : Vec (List Column) Global) (result : Result Stored Fault) → picked ≡ picked_of schema columns
    → GathersBatches layout columns limit entries (Ok chunks) → MakesTable picked chunks.items result
    → GathersTable schema layout columns limit entries result
gathered_table schema picked layout columns limit entries chunks (Ok table) is found made =
    let it = with_value (chosen_batches layout columns [] limit entries) _ found.0 in
    let few : length (rows_of_batches (slots_of_batches chunks.items)) < 2 ^ 64 =
    subst (λ (t : Stored). length (rows_of_batches (slots_of_batches t.batches)) < 2 ^ 64) made.0 made.1 in (
      ap (λ (t : Stored). t.schema) made.0 ∙ is,
      of_value (chosen_batches layout columns [] limit entries) _ it.0 it.1 (
        it.2 ∙ ap (λ (t : Stored). slots_of_batches t.batches) (sym made.0),
        subst (λ (n : ℕ). n < 2 ^ 64) (sym (same_rows it.0 chunks.items it.2)) few,
      ),
    )
gathered_table schema picked layout columns limit entries chunks (Err faults.TooManyRows) is found many =
    let it = with_value (chosen_batches layout columns [] limit entries) _ found.0 in
    of_value (chosen_batches layout columns [] limit entries) _ it.0 it.1
    (subst (λ (n : ℕ). 2 ^ 64 ≤ n) (sym (same_rows it.0 chunks.items it.2)) many)
gathered_table schema picked layout columns limit entries chunks (Err faults.Memory) is found made = absurd made
gathered_table schema picked layout columns limit entries chunks (Err (faults.Ipc error)) is found made = absurd made
gathered_table schema picked layout columns limit entries chunks (Err (faults.Lower error)) is found made = absurd made
gathered_table schema picked layout columns limit entries chunks (Err faults.Unfinished) is found made = absurd made
gathered_table schema picked layout columns limit entries chunks (Err (faults.NotSealable bar)) is found made = absurd made
gathered_table schema picked layout columns limit entries chunks (Err faults.RowWidth) is found made = absurd made
gathered_table schema picked layout columns limit entries chunks (Err faults.NoColumns) is found made = absurd made
gathered_table schema picked layout columns limit entries chunks (Err faults.NoSuchColumn) is found made = absurd made
