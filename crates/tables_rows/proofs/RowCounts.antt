-- The rows of a table have a value a field, and the batches of their groups have as many.
use Rattle.std.proofs.Common.{◌≡◌, ◌∙◌, ℕ, ◌+◌, ◌<◌, Bool, true, ◌==◌, List, [], ◌∷◌, length, map}
use Rattle.std.proofs.Common.{refl, sym, ap, arith, length-append}
use Rattle.std.specs.Prelude.{nat_lt}
use Rattle.std.specs.List.{list_all}
use Rattle.std.proofs.lemmas.Bool.{and_parts, and_from, lt-ltb}
use Rattle.tables_chunks.specs.ipc_format.columnar_memory.declared.Field.{Field}
use Rattle.tables_chunks.specs.ipc_format.columnar_memory.declared.Schema.{Schema}
use Rattle.tables_chunks.specs.ipc_format.columns.FreshLaws.{is_buildable, are_buildable}
use Rattle.tables_chunks.specs.ipc_format.columns.OpenBatch.{fits}
use Rattle.tables_chunks.specs.ipc_format.columns.Rows.{column_of_rows, columns_of_rows, columns_fit, batch_of_rows, is_row_of}
use Rattle.tables_chunks.specs.ipc_format.columns.Slots.{Slot, window}
use Rattle.tables_chunks.specs.ipc_format.columns.StoredColumns.{Column, slots}
use Rattle.tables_chunks.specs.ipc_format.columns.Tables.{row_at, rows_of_columns, batch_rows, rows_of_batches}
use Rattle.tables_chunks.specs.ipc_format.Seals.{groups_of, groups_fit, are_rows_of, is_batch_size, is_sealable}
use Rattle.tables_chunks.specs.Batches.{batch_len, stored_rows, AreBatches}
use Rattle.tables_chunks.proofs.ColumnsOfRows.{are_wide, rows_wide}
use Rattle.tables_chunks.proofs.LongColumns.{rows_count}
use Rattle.tables_chunks.proofs.TextTables.{no_column_no_row}
use Rattle.tables_chunks.proofs.ipc_format_lemmas.SealedRows.{rows_of_groups}
use Rattle.tables_chunks.proofs.ipc_format_lemmas.SealedTypes.{storable}
use Rattle.tables_chunks.proofs.ipc_format_lemmas.Windows.{length-window}
use Rattle.tables_rows.proofs.FreshBatches.{fresh_length}

-- ---- widths

wide_rows : (us : List Field) (rows : List (List Slot)) → 0 < length us → are_wide (length us) rows ≡ true → are_rows_of us rows ≡ true
wide_rows us [] some wide = refl
wide_rows us (row ∷ rows) some wide =
    let parts = and_parts (length row == length us) (are_wide (length us) rows) wide in
    and_from (is_row_of us row) (are_rows_of us rows)
    (and_from (nat_lt 0 (length us)) (length row == length us) (lt-ltb 0 (length us) some) parts.0) (wide_rows us rows some parts.1)

-- the rows of a table's batches are those of its fields
pub rows_of_fields : (us : List Field) (batches : List (List Column)) → AreBatches (length us) batches → are_rows_of us (stored_rows batches) ≡ true
rows_of_fields [] batches are = ap (are_rows_of []) (no_column_no_row batches are)
rows_of_fields (u ∷ us) batches are =
    wide_rows (u ∷ us) (stored_rows batches) (omega arith) (rows_wide (length (u ∷ us)) batches are)

-- ---- counts

abbrev are_fitting : List Field → List (List (List Slot)) → Bool
are_fitting us groups = list_all (λ group. columns_fit us (columns_of_rows us group)) groups

-- the batch of a group has as many rows as the columns of the group
group_count : (us : List Field) (group : List (List Slot)) → are_buildable us ≡ true → columns_fit us (columns_of_rows us group) ≡ true
    → length (batch_rows (map slots (batch_of_rows us group))) ≡ length (batch_rows (columns_of_rows us group))
group_count us group can fit =
    rows_count (batch_of_rows us group) ∙ counted us can fit
    ∙ sym (length-window (row_at (columns_of_rows us group)) 0 (rows_of_columns (columns_of_rows us group)))
  where
    counted : (vs : List Field) → are_buildable vs ≡ true → columns_fit vs (columns_of_rows vs group) ≡ true
        → batch_len (batch_of_rows vs group) ≡ rows_of_columns (columns_of_rows vs group)
    counted [] can fit = refl
    counted (v ∷ vs) can fit =
        fresh_length v.data_type (column_of_rows group 0) (and_parts (is_buildable v.data_type) (are_buildable vs) can).0
        (and_parts (fits v.data_type (column_of_rows group 0)) (columns_fit vs (window (column_of_rows group) (0 + 1) (length vs))) fit).0

groups_count : (us : List Field) (groups : List (List (List Slot))) → are_buildable us ≡ true → are_fitting us groups ≡ true
    → length (stored_rows (map (batch_of_rows us) groups)) ≡ length (rows_of_batches (map (columns_of_rows us) groups))
groups_count us [] can fit = refl
groups_count us (group ∷ groups) can fit =
    let parts = and_parts (columns_fit us (columns_of_rows us group)) (are_fitting us groups) fit in
    let batches = map (batch_of_rows us) groups in
    let here = group_count us group can parts.0 in
    let rest = groups_count us groups can parts.1 in
    length-append (batch_rows (map slots (batch_of_rows us group))) (stored_rows batches) ∙ (λ j. here j + rest j)
    ∙ sym (length-append (batch_rows (columns_of_rows us group)) (rows_of_batches (map (columns_of_rows us) groups)))

-- the batches of a seal have as many rows as were sealed
pub seal_count : (schema : Schema) (rows : List (List Slot)) (n : ℕ) → is_sealable schema ≡ true → groups_fit schema rows n ≡ true
    → is_batch_size n ≡ true → are_rows_of schema.fields rows ≡ true
    → length (stored_rows (map (batch_of_rows schema.fields) (groups_of n rows))) ≡ length rows
seal_count schema rows n can fit size wide =
    groups_count schema.fields (groups_of n rows) (storable schema can).builds fit
    ∙ ap length (rows_of_groups schema.fields n rows size wide)
