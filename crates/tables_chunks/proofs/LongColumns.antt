-- Columns of one length, their rows, and what is cut out of them.
use Rattle.std.proofs.Common.{◌≡◌, ◌∙◌, ℕ, ◌+◌, ◌≤◌, ◌<◌, true, Bool, List, [], ◌∷◌, length, map}
use Rattle.std.proofs.Common.{refl, sym, ap, ap₂, arith, zero-add, ◌&&◌, ◌==◌}
use Rattle.std.specs.Prelude.{slice_index_or}
use Rattle.std.specs.List.{list_all}
use Rattle.std.proofs.lemmas.Bool.{and_parts, and_from, eq-eqb, eqb-true}
use Rattle.ipc_format.specs.columns.Slots.{Slot, null, window}
use Rattle.ipc_format.specs.columns.SoundColumns.{is_sound}
use Rattle.ipc_format.specs.columns.StoredColumns.{Column, column_len, cut, cut_list, slots}
use Rattle.ipc_format.specs.columns.Tables.{row_at, rows_of_columns, batch_rows}
use Rattle.ipc_format.proofs.Columns.{cuts_slots, cuts_lengths, cuts_stay_sound}
use Rattle.ipc_format.proofs.ColumnSizes.{slots_lengths}
use Rattle.ipc_format.proofs.Windows.{window_same, length-window, get_or-cut_list, cut_list-window}
use Rattle.tables_chunks.specs.Batches.{batch_len, is_batch, cut_batch}

-- each column is sound, with so many slots
abbrev pub are_long : ℕ → List Column → Bool
are_long len columns = list_all (λ column. is_sound column && (column_len column == len)) columns

pub long_parts : (len : ℕ) (column : Column) (columns : List Column) → are_long len (column ∷ columns) ≡ true
    → (is_sound column ≡ true) × (column_len column ≡ len) × (are_long len columns ≡ true)
long_parts len column columns long =
    let parts = and_parts (is_sound column && (column_len column == len)) (are_long len columns) long in
    let first = and_parts (is_sound column) (column_len column == len) parts.0 in
    (first.0, eqb-true (column_len column) len first.1, parts.1)

pub long_from : (len : ℕ) (column : Column) (columns : List Column) → is_sound column ≡ true → column_len column ≡ len
    → are_long len columns ≡ true → are_long len (column ∷ columns) ≡ true
long_from len column columns sound size others =
    and_from (is_sound column && (column_len column == len)) (are_long len columns)
    (and_from (is_sound column) (column_len column == len) sound (eq-eqb (column_len column) len size)) others

-- ---- rows

-- a batch has as many rows as its length says
pub rows_are : (batch : List Column) → rows_of_columns (map slots batch) ≡ batch_len batch
rows_are [] = refl
rows_are (column ∷ columns) = slots_lengths column

pub rows_count : (batch : List Column) → length (batch_rows (map slots batch)) ≡ batch_len batch
rows_count batch = length-window (row_at (map slots batch)) 0 (rows_of_columns (map slots batch)) ∙ rows_are batch

-- ---- cuts

cut_long : (len o n : ℕ) (columns : List Column) → are_long len columns ≡ true → o + n ≤ len → are_long n (cut_batch o n columns) ≡ true
cut_long len o n [] long within = refl
cut_long len o n (column ∷ columns) long within =
    let parts = long_parts len column columns long in
    let inside : o + n ≤ column_len column = omega (arith, parts.1) in
    long_from n (cut column o n) (cut_batch o n columns) (cuts_stay_sound column o n parts.0 inside) (cuts_lengths column o n parts.0 inside)
    (cut_long len o n columns parts.2 within)

-- row i of a cut is row o + i of the whole
cut_row : (len o n i : ℕ) (columns : List Column) → are_long len columns ≡ true → o + n ≤ len → i < n
    → row_at (map slots (cut_batch o n columns)) i ≡ row_at (map slots columns) (o + i)
cut_row len o n i [] long within small = refl
cut_row len o n i (column ∷ columns) long within small =
    let parts = long_parts len column columns long in
    let here : slots (cut column o n) ≡ cut_list (slots column) o n = cuts_slots column o n parts.0 (omega (arith, parts.1)) in
    ap₂ (λ (slot : Slot) others. slot ∷ others) (ap (λ found. slice_index_or found i null) here ∙ get_or-cut_list (slots column) o n i null small)
    (cut_row len o n i columns parts.2 within small)

-- a cut of a batch that has a row is as long as it was asked for
pub cut_batch_len : (o n : ℕ) (batch : List Column) → is_batch batch ≡ true → o + n ≤ batch_len batch → 0 < batch_len batch
    → batch_len (cut_batch o n batch) ≡ n
cut_batch_len o n [] long within some = absurd (omega arith)
cut_batch_len o n (column ∷ columns) long within some =
    cuts_lengths column o n (long_parts (column_len column) column columns long).0 within

pub cut_is_batch : (o n : ℕ) (batch : List Column) → is_batch batch ≡ true → o + n ≤ batch_len batch → 0 < batch_len batch
    → is_batch (cut_batch o n batch) ≡ true
cut_is_batch o n batch long within some =
    ap (λ len. are_long len (cut_batch o n batch)) (cut_batch_len o n batch long within some) ∙ cut_long (batch_len batch) o n batch long within

-- its rows are a range of the batch's
pub cut_batch_rows : (o n : ℕ) (batch : List Column) → is_batch batch ≡ true → o + n ≤ batch_len batch → 0 < batch_len batch
    → batch_rows (map slots (cut_batch o n batch)) ≡ cut_list (batch_rows (map slots batch)) o n
cut_batch_rows o n batch long within some =
    let part : List (List Slot) = map slots (cut_batch o n batch) in
    let whole : List (List Slot) = map slots batch in
    let size : rows_of_columns part ≡ n = rows_are (cut_batch o n batch) ∙ cut_batch_len o n batch long within some in
    ap (window (row_at part) 0) size
    ∙ window_same (row_at part) (row_at whole) 0 o n (λ (i : ℕ) (small : i < n).
    ap (row_at part) (zero-add i) ∙ cut_row (batch_len batch) o n i batch long within small)
    ∙ sym (cut_list-window (row_at whole) (rows_of_columns whole) o n (omega (arith, rows_are batch)))
