-- How many rows there are.
use Rattle.std.proofs.Common.{◌≡◌, ◌∙◌, ℕ, zero, suc, ◌+◌, ◌≤◌, List, [], ◌∷◌, ◌++◌, length, refl, ap, arith}
use Rattle.std.specs.Prelude.{Option, Some, None, IfSome}
use Rattle.std.proofs.lemmas.Grind.{flat_map-append}
use Rattle.std.proofs.lemmas.List.{length-append, append-nil}
use Rattle.ipc_format_chunk_writing.specs.columns.Slots.{Slot, window}
use Rattle.ipc_format_chunk_writing.specs.columns.Tables.{row_at, batch_rows, rows_of_columns, rows_of_batches}
use Rattle.ipc_format_readers.specs.Steps.{Batches, behind}

-- as many values as were asked for
pub length-window : {A : Type 0} (f : ℕ → A) (a n : ℕ) → length (window f a n) ≡ n
length-window f a zero = refl
length-window f a (suc n) = ap suc (length-window f (a + 1) n)

rows_of_batch : (columns : List (List Slot)) → length (batch_rows columns) ≡ rows_of_columns columns
rows_of_batch columns = length-window (row_at columns) 0 (rows_of_columns columns)

-- the rows of one batch more
pub rows_more : (batches : Batches) (columns : List (List Slot))
    → length (rows_of_batches (batches ++ columns ∷ [])) ≡ length (rows_of_batches batches) + rows_of_columns columns
rows_more batches columns =
    ap length (flat_map-append batch_rows batches (columns ∷ []))
    ∙ length-append (rows_of_batches batches) (rows_of_batches (columns ∷ []))
    ∙ ap (λ (n : ℕ). length (rows_of_batches batches) + n) (ap length (append-nil (batch_rows columns)) ∙ rows_of_batch columns)

-- batches behind some have no fewer rows
pub rows_behind : (n : ℕ) (batches : Batches) (rest : Option Batches) → n ≤ length (rows_of_batches batches)
    → IfSome (behind batches rest) (λ all. n ≤ length (rows_of_batches all))
rows_behind n batches None h = tt
rows_behind n batches (Some later) h =
    let all : length (rows_of_batches (batches ++ later)) ≡ length (rows_of_batches batches) + length (rows_of_batches later) =
    ap length (flat_map-append batch_rows batches later) ∙ length-append (rows_of_batches batches) (rows_of_batches later) in
    omega (arith, all, h)
