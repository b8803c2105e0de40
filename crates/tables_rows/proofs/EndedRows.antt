-- Open rows that become a batch.
use Rattle.std.proofs.Common.{◌≡◌, ◌∙◌, ℕ, ◌+◌, ◌<◌, ◌^◌, List, [], ◌∷◌, ◌++◌, length, map, refl, sym, ap, ap₂, subst, arith}
use Rattle.std.specs.Prelude.{⊤, Result, Ok, Err}
use Rattle.std.proofs.lemmas.List.{append-nil, nil_from_length}
use Rattle.columnar_memory_types.specs.declared.data_type.Field.{Field}
use Rattle.columnar_memory_types.specs.declared.schema.Schema.{Schema}
use Rattle.tables_chunks.specs.Batches.{stored_rows, batch_len}
use Rattle.tables_chunks.specs.StoredTables.{Stored, row_count, AddsBatch}
use Rattle.tables_chunks.specs.declared.fault.Fault.{Fault}
use Rattle.tables_chunks.specs.declared.fault.Fault.TheVariants as faults
use Rattle.tables_chunks.specs.ipc_format.columns.Rows.{batch_of_rows, fresh_columns}
use Rattle.tables_chunks.specs.ipc_format.columns.Slots.{Slot}
use Rattle.tables_chunks.specs.ipc_format.columns.StoredColumns.{Column}
use Rattle.nested_arrays_cells.specs.parts.Open.{Open, column_of}
use Rattle.tables_rows.specs.Building.{seen, IsHeld}
use Rattle.tables_rows.specs.Columns.{emptied, open_count, rows_of, AreLong, AreOpen, TakesBatch}
use Rattle.tables_rows.specs.Ending.{with_batch, without_rows, EndsBatch}
use Rattle.tables_rows.proofs.CutBack.{emptied_count, emptied_long, emptied_rows, emptied_types}
use Rattle.tables_rows.proofs.OpenRows.{as_many, columns_are, rows_count, stored_is}
use Rattle.tables_rows.proofs.TakenColumns.{batch_count, rows_behind}

-- ---- columns without their slots

pub emptied_open : (fields : List Field) (columns : List Open) → AreOpen fields columns → AreOpen fields (map emptied columns)
emptied_open fields columns are = record {
  types = emptied_types columns ∙ are.types;
  long = subst (λ (n : ℕ). AreLong n (map emptied columns)) (sym (emptied_count columns)) (emptied_long columns);
}

pub left_empty : (columns new : List Open) (r : Result (List Column) Fault) → TakesBatch columns new r → new ≡ map emptied columns
left_empty columns new (Ok batch) taken = taken.0
left_empty columns new (Err fault) taken = taken.0

pub held_empty : (schema : Schema) (columns new : List Open) → IsHeld schema columns → new ≡ map emptied columns → IsHeld schema new
held_empty schema columns new held is = record {
  form = held.form;
  sealable = held.sealable;
  are = subst (AreOpen schema.fields) (sym is) (emptied_open schema.fields columns held.are);
}

seen_empty : (table : Stored) (columns new : List Open) → new ≡ map emptied columns → seen table new ≡ without_rows (seen table columns)
seen_empty table columns new is =
    ap (λ (rows : List (List Slot)). record { schema = table.schema; batches = table.batches; rows = rows })
    (ap rows_of is ∙ emptied_rows columns)

some_rows : (columns : List Open) → 0 < open_count columns → rows_of columns ≡ [] → ⊥
some_rows columns some none =
    let count = rows_count columns in
    let nothing : length (rows_of columns) ≡ 0 = ap length none in
    absurd (omega (arith, some, count, nothing))

-- ---- no batch

-- where no row is open nothing changes
pub ends_none : (table : Stored) (columns : List Open) (done : ⊤) → open_count columns ≡ 0 → row_count table < 2 ^ 64
    → EndsBatch (seen table columns) (Ok done) (seen table columns)
ends_none table columns done none fits =
    let rows : rows_of columns ≡ [] = nil_from_length (rows_of columns) (rows_count columns ∙ none) in (
      ap₂ (λ (batches : List (List Column)) (rows : List (List Slot)). record { schema = table.schema; batches = batches; rows = rows })
          (ap (with_batch table.schema.fields table.batches) (sym rows)) rows,
      sym (append-nil (stored_rows table.batches)) ∙ ap (λ (more : List (List Slot)). stored_rows table.batches ++ more) (sym rows),
      fits,
    )

-- memory ran out for the batch
pub ends_without : (table : Stored) (columns new : List Open) (fault : Fault) → 0 < open_count columns
    → TakesBatch columns new (Err fault) → EndsBatch {U = ⊤} (seen table columns) (Err fault) (seen table new)
ends_without table columns new fault some taken =
    subst (λ (f : Fault). EndsBatch {U = ⊤} (seen table columns) (Err f) (seen table new)) (sym taken.1)
    (seen_empty table columns new taken.0, some_rows columns some)

-- ---- a batch

with_some : (fields : List Field) (batches : List (List Column)) (rows : List (List Slot)) → 0 < length rows
    → batches ++ batch_of_rows fields rows ∷ [] ≡ with_batch fields batches rows
with_some fields batches [] some = absurd (omega arith)
with_some fields batches (row ∷ rows) some = refl

batch_is : (fields : List Field) (columns : List Open) → AreOpen fields columns → map column_of columns ≡ batch_of_rows fields (rows_of columns)
batch_is fields columns are =
    sym (ap (fresh_columns fields) (columns_are fields columns (as_many fields columns are.types) are.long) ∙ stored_is fields columns are.types)

pub ends_batch : (table more : Stored) (columns new : List Open) (batch : List Column) (r : Result ⊤ Fault) → 0 < open_count columns
    → AreOpen table.schema.fields columns → TakesBatch columns new (Ok batch) → AddsBatch table batch r more
    → EndsBatch (seen table columns) r (seen more new)
ends_batch table more columns new batch (Ok done) some are taken added =
    let fields = table.schema.fields in
    let none : rows_of new ≡ [] = ap rows_of taken.0 ∙ emptied_rows columns in
    let batches : more.batches ≡ table.batches ++ map column_of columns ∷ [] =
    ap (λ (stored : Stored). stored.batches) added.0 ∙ ap (λ (own : List Column). table.batches ++ own ∷ []) taken.1 in
    let many : 0 < length (rows_of columns) = omega (arith, some, rows_count columns) in
    let whole : more.batches ≡ with_batch fields table.batches (rows_of columns) =
    batches ∙ ap (λ (own : List Column). table.batches ++ own ∷ []) (batch_is fields columns are)
    ∙ with_some fields table.batches (rows_of columns) many in
    let schema : more.schema ≡ table.schema = ap (λ (stored : Stored). stored.schema) added.0 in (
      λ j. record { schema = schema j; batches = whole j; rows = none j },
      ap stored_rows batches ∙ rows_behind table.batches columns taken.2,
      added.1,
    )
ends_batch table more columns new batch (Err faults.Memory) some are taken added =
    (ap (λ (stored : Stored). seen stored new) added ∙ seen_empty table columns new taken.0, some_rows columns some)
ends_batch table more columns new batch (Err faults.TooManyRows) some are taken added =
    let count : batch_len batch ≡ length (rows_of columns) = ap batch_len taken.1 ∙ batch_count columns taken.2 ∙ sym (rows_count columns) in (
      ap (λ (stored : Stored). seen stored new) added.0 ∙ seen_empty table columns new taken.0,
      omega (arith, added.1, count),
    )
ends_batch table more columns new batch (Err _) some are taken added = absurd added

pub same_schema : (table more : Stored) (batch : List Column) (r : Result ⊤ Fault) → AddsBatch table batch r more
    → more.schema ≡ table.schema
same_schema table more batch (Ok done) added = ap (λ (stored : Stored). stored.schema) added.0
same_schema table more batch (Err faults.Memory) added = ap (λ (stored : Stored). stored.schema) added
same_schema table more batch (Err faults.TooManyRows) added = ap (λ (stored : Stored). stored.schema) added.0
same_schema table more batch (Err _) added = absurd added
