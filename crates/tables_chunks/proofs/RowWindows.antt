-- Rows of batches by their columns' slots: windows of them, and when two of these are the same.
use Rattle.std.proofs.Common.{◌≡◌, ◌∙◌, ℕ, zero, suc, ◌+◌, ◌-◌, ◌≤◌, ◌<◌, true, List, [], ◌∷◌, ◌++◌, length, map, take, drop, get_or}
use Rattle.std.proofs.Common.{refl, sym, ap, ap₂, arith, length-drop}
use Rattle.std.specs.Prelude.{sum_by, slice_range, nat_le}
use Rattle.std.proofs.lemmas.Bool.{and_from, le-leb}
use Rattle.std.proofs.lemmas.List.{drop_more, drop_at, drop-append-le, take-append-le}
use Rattle.std.proofs.lemmas.List.Folds.{drop_split}
use Rattle.std.proofs.lemmas.List.Sums.{sum_by-cons}
use Rattle.ipc_format.specs.columns.Slots.{Slot, null, window}
use Rattle.ipc_format.specs.columns.SlotNodes.{slot_nodes}
use Rattle.ipc_format.specs.columns.StoredColumns.{Column, column_len, slot_at, slots}
use Rattle.ipc_format.specs.columns.Tables.{row_at, batch_rows}
use Rattle.ipc_format.proofs.Windows.{window_same, length-window, cut_list-window}
use Rattle.tables_chunks.specs.Batches.{batch_len, is_batch, stored_rows}
use Rattle.tables_chunks.proofs.LongColumns.{are_long, long_parts, rows_are}
use Rattle.tables_chunks.specs.SameRows.{stored_row, rows_from, rows_behind, have_rows, nodes_in}

-- ---- columns one by one

-- where rows of columns are the same, so are the slots of the first columns, and the rows of the others
pub rows_parts : (x y : Column) (xs ys : List Column) (i j n : ℕ) → rows_from (x ∷ xs) i n ≡ rows_from (y ∷ ys) j n
    → (window (slot_at x) i n ≡ window (slot_at y) j n) × (rows_from xs i n ≡ rows_from ys j n)
rows_parts x y xs ys i j zero same = (refl, refl)
rows_parts x y xs ys i j (suc n) same =
    let heads : slot_at x i ∷ stored_row xs i ≡ slot_at y j ∷ stored_row ys j = cc in
    let first : slot_at x i ≡ slot_at y j = cc in
    let others : stored_row xs i ≡ stored_row ys j = cc in
    let tails : rows_from (x ∷ xs) (i + 1) n ≡ rows_from (y ∷ ys) (j + 1) n = cc in
    let more = rows_parts x y xs ys (i + 1) (j + 1) n tails in (
      ap₂ (λ (slot : Slot) slots. slot ∷ slots) first more.0,
      ap₂ (λ (row : List Slot) rows. row ∷ rows) others more.1,
    )

-- and the other way round
pub rows_from_parts : (x y : Column) (xs ys : List Column) (i j n : ℕ) → window (slot_at x) i n ≡ window (slot_at y) j n
    → rows_from xs i n ≡ rows_from ys j n → rows_from (x ∷ xs) i n ≡ rows_from (y ∷ ys) j n
rows_from_parts x y xs ys i j zero first others = refl
rows_from_parts x y xs ys i j (suc n) first others =
    let slot : slot_at x i ≡ slot_at y j = cc in
    let row : stored_row xs i ≡ stored_row ys j = cc in
    let slots_more : window (slot_at x) (i + 1) n ≡ window (slot_at y) (j + 1) n = cc in
    let rows_more : rows_from xs (i + 1) n ≡ rows_from ys (j + 1) n = cc in
    ap₂ (λ (row : List Slot) rows. row ∷ rows) (ap₂ (λ (slot : Slot) slots. slot ∷ slots) slot row)
    (rows_from_parts x y xs ys (i + 1) (j + 1) n slots_more rows_more)

-- without columns rows are the same wherever they stand
pub no_columns : (i j n : ℕ) → rows_from [] i n ≡ rows_from [] j n
no_columns i j n = window_same (stored_row []) (stored_row []) i j n (λ k small. refl)

-- the slots of rows are those of the first column and of the others
pub nodes_parts : (x : Column) (xs : List Column) (i n : ℕ)
    → nodes_in (rows_from (x ∷ xs) i n) ≡ sum_by slot_nodes (window (slot_at x) i n) + nodes_in (rows_from xs i n)
nodes_parts x xs i zero = refl
nodes_parts x xs i (suc n) =
    let row : sum_by slot_nodes (stored_row (x ∷ xs) i) ≡ slot_nodes (slot_at x i) + sum_by slot_nodes (stored_row xs i) =
    sum_by-cons slot_nodes (slot_at x i) (stored_row xs i) in
    let rows : nodes_in (rows_from (x ∷ xs) i (suc n)) ≡ sum_by slot_nodes (stored_row (x ∷ xs) i) + nodes_in (rows_from (x ∷ xs) (i + 1) n) =
    sum_by-cons (sum_by slot_nodes) (stored_row (x ∷ xs) i) (rows_from (x ∷ xs) (i + 1) n) in
    let slots_more : sum_by slot_nodes (window (slot_at x) i (suc n)) ≡ slot_nodes (slot_at x i) + sum_by slot_nodes (window (slot_at x) (i + 1) n) =
    sum_by-cons slot_nodes (slot_at x i) (window (slot_at x) (i + 1) n) in
    let others : nodes_in (rows_from xs i (suc n)) ≡ sum_by slot_nodes (stored_row xs i) + nodes_in (rows_from xs (i + 1) n) =
    sum_by-cons (sum_by slot_nodes) (stored_row xs i) (rows_from xs (i + 1) n) in
    omega (arith, nodes_parts x xs (i + 1) n)

pub no_nodes : (i n : ℕ) → nodes_in (rows_from [] i n) ≡ 0
no_nodes i zero = refl
no_nodes i (suc n) = no_nodes (i + 1) n

-- ---- batches

get_or-window : {A : Type 0} (f : ℕ → A) (first n k : ℕ) (d : A) → k < n → get_or (window f first n) k d ≡ f (first + k)
get_or-window f first zero k d small = absurd (omega arith)
get_or-window f first (suc n) zero d small = ap f (omega arith)
get_or-window f first (suc n) (suc k) d small = get_or-window f (first + 1) n k d (omega arith) ∙ ap f (omega arith)

-- a row of a batch has of each column the slot at its place
row_is : (len i : ℕ) (batch : List Column) → are_long len batch ≡ true → i < len → row_at (map slots batch) i ≡ stored_row batch i
row_is len i [] long small = refl
row_is len i (column ∷ columns) long small =
    let parts = long_parts len column columns long in
    let inside : i < column_len column = omega (arith, parts.1) in
    let place : 0 + i ≡ i = omega arith in
    ap₂ (λ (slot : Slot) row. slot ∷ row) (get_or-window (slot_at column) 0 (column_len column) i null inside ∙ ap (slot_at column) place)
    (row_is len i columns parts.2 small)

-- all rows of a batch
pub all_rows : (batch : List Column) → is_batch batch ≡ true → batch_rows (map slots batch) ≡ rows_from batch 0 (batch_len batch)
all_rows batch long =
    ap (window (row_at (map slots batch)) 0) (rows_are batch)
    ∙ window_same (row_at (map slots batch)) (stored_row batch) 0 0 (batch_len batch) (λ i small.
    row_is (batch_len batch) (0 + i) batch long (omega arith))

-- each column of a batch has the batch's rows
long_have_rows : (len n : ℕ) (columns : List Column) → are_long len columns ≡ true → n ≤ len → have_rows n columns ≡ true
long_have_rows len n [] long few = refl
long_have_rows len n (column ∷ columns) long few =
    let parts = long_parts len column columns long in
    and_from (nat_le n (column_len column)) (have_rows n columns) (le-leb n (column_len column) (omega (arith, parts.1)))
    (long_have_rows len n columns parts.2 few)

pub batch_has_rows : (n : ℕ) (batch : List Column) → is_batch batch ≡ true → n ≤ batch_len batch → have_rows n batch ≡ true
batch_has_rows n batch long few = long_have_rows (batch_len batch) n batch long few

-- ---- rows behind a place

-- the rows from a place of a batch on are those of a window there, and those behind it
pub rows_next : (batches : List (List Column)) (i a n : ℕ) (batch : List Column) → i < length batches → batch ≡ get_or batches i []
    → is_batch batch ≡ true → a + n ≤ batch_len batch → rows_behind batches i a ≡ rows_from batch a n ++ rows_behind batches i (a + n)
rows_next batches i a n batch inside is long within =
    let rest : List (List Column) = drop (i + 1) batches in
    let next : drop i batches ≡ batch ∷ rest = drop_more batches i [] inside ∙ ap (λ (x : List Column). x ∷ rest) (sym is) in
    let whole : List (List Slot) = batch_rows (map slots batch) in
    let others : List (List Slot) = stored_rows rest in
    let size : length whole ≡ batch_len batch = ap length (all_rows batch long) ∙ length-window (stored_row batch) 0 (batch_len batch) in
    let left : length (drop a whole) ≡ length whole - a = length-drop a whole in
    let count : a + n - a ≡ n = omega arith in
    let cut : slice_range (whole ++ others) a (a + n) ≡ rows_from batch a n =
    ap (take (a + n - a)) (drop-append-le a whole others (omega (arith, size)))
    ∙ take-append-le (a + n - a) (drop a whole) others (omega (arith, size, left, count))
    ∙ ap (λ (rows : List (List Slot)). slice_range rows a (a + n)) (all_rows batch long)
    ∙ cut_list-window (stored_row batch) (batch_len batch) a n within in
    ap (λ (xs : List (List Column)). drop a (stored_rows xs)) next
    ∙ drop_split (whole ++ others) a (a + n) (omega arith)
    ∙ ap₂ (λ (xs ys : List (List Slot)). xs ++ ys) cut (ap (λ (xs : List (List Column)). drop (a + n) (stored_rows xs)) (sym next))

-- behind the last row of a batch stand the rows of the next
pub rows_turn : (batches : List (List Column)) (i a : ℕ) (batch : List Column) → i < length batches → batch ≡ get_or batches i []
    → is_batch batch ≡ true → a ≡ batch_len batch → rows_behind batches i a ≡ rows_behind batches (i + 1) 0
rows_turn batches i a batch inside is long end =
    let rest : List (List Column) = drop (i + 1) batches in
    let next : drop i batches ≡ batch ∷ rest = drop_more batches i [] inside ∙ ap (λ (x : List Column). x ∷ rest) (sym is) in
    let whole : List (List Slot) = batch_rows (map slots batch) in
    let size : length whole ≡ a = ap length (all_rows batch long) ∙ length-window (stored_row batch) 0 (batch_len batch) ∙ sym end in
    ap (λ (xs : List (List Column)). drop a (stored_rows xs)) next ∙ drop_at whole (stored_rows rest) a size
