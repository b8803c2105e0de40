-- Batches that are read, as stored columns.
use Rattle.std.proofs.Common.{◌≡◌, ◌∙◌, ℕ, ◌+◌, List, [], ◌∷◌, ◌++◌, length, map, refl, ap, sym}
use Rattle.std.proofs.lemmas.List.{map-append}
use Rattle.ipc_format.specs.Chunks.{rows_of}
use Rattle.ipc_format.specs.columns.StoredColumns.{Column, column_len, slot_at, slots}
use Rattle.ipc_format.specs.columns.Tables.{rows_of_columns, rows_of_batches}
use Rattle.tables_chunks.specs.Reading.{slots_of_batches}
use Rattle.ipc_format.proofs.Rows.{length-window, rows_more}

-- a batch has as many rows as its columns say
pub rows_of_chunk : (columns : List Column) → rows_of_columns (map slots columns) ≡ rows_of (λ column. column) columns
rows_of_chunk [] = refl
rows_of_chunk (column ∷ columns) = length-window (slot_at column) 0 (column_len column)

-- one batch more
pub slots_more : (batches more : List (List Column)) (columns : List Column) → more ≡ batches ++ columns ∷ []
    → slots_of_batches more ≡ slots_of_batches batches ++ map slots columns ∷ []
slots_more batches more columns pushed = ap slots_of_batches pushed ∙ map-append (map slots) batches (columns ∷ [])

pub counted_more : (rows : ℕ) (batches more : List (List Column)) (columns : List Column) → rows ≡ length (rows_of_batches (slots_of_batches batches))
    → more ≡ batches ++ columns ∷ []
    → rows + rows_of (λ column. column) columns ≡ length (rows_of_batches (slots_of_batches more))
counted_more rows batches more columns counted pushed =
    ap (λ (n : ℕ). n + rows_of (λ column. column) columns) counted
    ∙ ap (λ (n : ℕ). length (rows_of_batches (slots_of_batches batches)) + n) (sym (rows_of_chunk columns))
    ∙ sym (rows_more (slots_of_batches batches) (map slots columns))
    ∙ ap (λ all. length (rows_of_batches all)) (sym (slots_more batches more columns pushed))
