-- A table's rows have a value a field, and its schema has texts.
use Rattle.std.proofs.Common.{◌≡◌, ℕ, zero, suc, ◌<◌, ◌^◌, true, ◌==◌, All, List, [], ◌∷◌, length, ap, arith, refl, subst}
use Rattle.std.proofs.lemmas.Bool.{and_parts, eqb-true}
use Rattle.ipc_format.specs.columnar_memory.declared.Field.{Field}
use Rattle.ipc_format.specs.columns.Slots.{Slot}
use Rattle.ipc_format.specs.columns.StoredColumns.{Column}
use Rattle.ipc_format.specs.reading_laws.SealLaws.{IsTableOfTexts}
use Rattle.ipc_format.specs.reading_laws.laws.Schemas.{HasTexts}
use Rattle.tables_chunks.specs.Batches.{stored_rows, AreBatches}
use Rattle.tables_chunks.specs.StoredTables.{IsTable, Stored, as_table, row_count}
use Rattle.tables_chunks.proofs.ColumnsOfRows.{are_wide, rows_wide}
use Rattle.tables_chunks.proofs.CutBatches.{are_parts}

each_wide : (width : ℕ) (rows : List (List Slot)) → are_wide width rows ≡ true → All (λ (row : List Slot). length row ≡ width) rows
each_wide width [] wide k d inside = absurd (omega arith)
each_wide width (row ∷ rows) wide zero d inside =
    eqb-true (length row) width (and_parts (length row == width) (are_wide width rows) wide).0
each_wide width (row ∷ rows) wide (suc k) d inside =
    each_wide width rows (and_parts (length row == width) (are_wide width rows) wide).1 k d (omega arith)

-- without a column there is no row
pub no_column_no_row : (batches : List (List Column)) → AreBatches 0 batches → stored_rows batches ≡ []
no_column_no_row [] are = refl
no_column_no_row ([] ∷ batches) are = no_column_no_row batches (are_parts 0 [] batches are).2
no_column_no_row ((column ∷ columns) ∷ batches) are = absurd (some (length columns) (are_parts 0 (column ∷ columns) batches are).1)
  where
    some : (n : ℕ) → suc n ≡ 0 → ⊥
    some n e = omega arith

none_of_none : (fields : List Field) (batches : List (List Column)) → AreBatches (length fields) batches → fields ≡ [] → stored_rows batches ≡ []
none_of_none fields batches are none = no_column_no_row batches (subst (λ (n : ℕ). AreBatches n batches) (ap length none) are)

-- a table whose names and metadata are texts is one of which seals read back
pub table_of_texts : (table : Stored) → IsTable table.schema table.batches → row_count table < 2 ^ 64 → HasTexts table.schema
    → IsTableOfTexts (as_table table)
table_of_texts table its few texts = record {
  is_table = record {
    normal = its.form.normal;
    widths = each_wide (length table.schema.fields) (stored_rows table.batches) (rows_wide (length table.schema.fields) table.batches its.whole);
    none = none_of_none table.schema.fields table.batches its.whole;
    fits = few;
  };
  texts = texts;
}
