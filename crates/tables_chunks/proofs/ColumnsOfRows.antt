-- Rows of one width are the same exactly where their columns are.
use Rattle.std.proofs.Common.{◌≡◌, ◌∙◌, ℕ, zero, suc, ◌+◌, ◌<◌, true, Bool, List, [], ◌∷◌, ◌++◌, length, map, get_or}
use Rattle.std.proofs.Common.{refl, sym, ap, ap₂, arith, zero-add, ext_get_or, ◌==◌}
use Rattle.std.specs.Prelude.{slice_index_or}
use Rattle.std.specs.List.{list_all}
use Rattle.std.proofs.lemmas.Bool.{and_parts, eq-eqb, eqb-true}
use Rattle.std.proofs.lemmas.List.{map-append, length-map}
use Rattle.ipc_format.specs.columns.Slots.{Slot, null, window}
use Rattle.ipc_format.specs.columns.StoredColumns.{Column, slots}
use Rattle.ipc_format.specs.columns.Tables.{row_at, rows_of_columns, batch_rows}
use Rattle.ipc_format.proofs.ColumnSizes.{slots_lengths}
use Rattle.ipc_format.proofs.Windows.{window_same}
use Rattle.tables_chunks.specs.Batches.{batch_len, is_batch, stored_rows, column_slots, AreBatches, RowsAreColumns}
use Rattle.tables_chunks.proofs.CutBatches.{are_parts}
use Rattle.tables_chunks.proofs.Lists.{list_all-append, list_all-window, window-map}
use Rattle.tables_chunks.proofs.LongColumns.{are_long, long_parts, rows_are}

-- ---- a column of rows

-- what each row has at a place
abbrev column_of : ℕ → List (List Slot) → List Slot
column_of k rows = map (λ (row : List Slot). get_or row k null) rows

-- the elements of a list, by their places
elements : {A : Type 0} (d : A) (xs : List A) → window (λ i. get_or xs i d) 0 (length xs) ≡ xs
elements d [] = refl
elements d (x ∷ xs) =
    ap (λ others. x ∷ others)
    (window_same (λ i. get_or (x ∷ xs) i d) (λ i. get_or xs i d) 1 0 (length xs) (λ i small. after x xs d i) ∙ elements d xs)
  where
    after : {A : Type 0} (x : A) (xs : List A) (d : A) (i : ℕ) → get_or (x ∷ xs) (1 + i) d ≡ get_or xs (0 + i) d
    after x xs d i =
        let more : 1 + i ≡ suc i = omega arith in
        ap (λ j. get_or (x ∷ xs) j d) more ∙ ap (λ j. get_or xs j d) (sym (zero-add i))

-- row i has at place k what column k has at place i
value_at : (columns : List (List Slot)) (k i : ℕ) → get_or (row_at columns i) k null ≡ get_or (get_or columns k []) i null
value_at [] k i = refl
value_at (column ∷ columns) zero i = refl
value_at (column ∷ columns) (suc k) i = value_at columns k i

-- column k of a batch is as long as the batch
length_at : (len : ℕ) (columns : List Column) (k : ℕ) → are_long len columns ≡ true → k < length columns
    → length (get_or (map slots columns) k []) ≡ len
length_at len [] k long inside = absurd (omega arith)
length_at len (column ∷ columns) zero long inside = slots_lengths column ∙ (long_parts len column columns long).1
length_at len (column ∷ columns) (suc k) long inside = length_at len columns k (long_parts len column columns long).2 (omega arith)

-- column k of a batch's rows is the batch's column k
batch_column : (batch : List Column) (k : ℕ) → is_batch batch ≡ true → k < length batch
    → column_of k (batch_rows (map slots batch)) ≡ get_or (map slots batch) k []
batch_column batch k long inside =
    let columns : List (List Slot) = map slots batch in
    let column : List Slot = get_or columns k [] in
    let size : rows_of_columns columns ≡ length column = rows_are batch ∙ sym (length_at (batch_len batch) batch k long inside) in
    window-map (λ (row : List Slot). get_or row k null) (row_at columns) 0 (rows_of_columns columns)
    ∙ ap (window (λ i. get_or (row_at columns i) k null) 0) size
    ∙ window_same (λ i. get_or (row_at columns i) k null) (λ i. get_or column i null) 0 0 (length column) (λ i small. value_at columns k (0 + i))
    ∙ elements null column

-- column k of the rows that batches hold is their columns k, joined
columns_are : (width : ℕ) (batches : List (List Column)) (k : ℕ) → AreBatches width batches → k < width
    → column_of k (stored_rows batches) ≡ column_slots k batches
columns_are width [] k are inside = refl
columns_are width (batch ∷ batches) k are inside =
    let parts = are_parts width batch batches are in
    map-append (λ (row : List Slot). get_or row k null) (batch_rows (map slots batch)) (stored_rows batches)
    ∙ ap₂ (λ a b. a ++ b) (batch_column batch k parts.0 (omega (arith, parts.1))) (columns_are width batches k parts.2 inside)

-- ---- rows of one width

abbrev pub are_wide : ℕ → List (List Slot) → Bool
are_wide width rows = list_all (λ (row : List Slot). length row == width) rows

-- each row has a value a column
pub rows_wide : (width : ℕ) (batches : List (List Column)) → AreBatches width batches → are_wide width (stored_rows batches) ≡ true
rows_wide width [] are = refl
rows_wide width (batch ∷ batches) are =
    let parts = are_parts width batch batches are in
    let columns : List (List Slot) = map slots batch in
    list_all-append (λ (row : List Slot). length row == width) (batch_rows columns) (stored_rows batches)
    (list_all-window (λ (row : List Slot). length row == width) (row_at columns) 0 (rows_of_columns columns) (λ i.
    eq-eqb (length (row_at columns i)) width
    (length-map columns (λ (column : List Slot). slice_index_or column i null) ∙ length-map batch slots ∙ parts.1)))
    (rows_wide width batches parts.2)

-- the first value of a list, and what stands behind it
abbrev first_of : List Slot → Slot
first_of [] = null
first_of (slot ∷ others) = slot

abbrev behind_first : List Slot → List Slot
behind_first [] = []
behind_first (slot ∷ others) = others

nothing_is : (slot : Slot) (slots : List Slot) → [] ≡ slot ∷ slots → ⊥
nothing_is slot slots e = absurd cc

-- rows of one width with the same columns are the same
rows_same : (width : ℕ) (a b : List (List Slot)) → 0 < width → are_wide width a ≡ true → are_wide width b ≡ true
    → ((k : ℕ) → k < width → column_of k a ≡ column_of k b) → a ≡ b
rows_same width [] [] some one two same = refl
rows_same width [] (y ∷ ys) some one two same = absurd (nothing_is (get_or y 0 null) (column_of 0 ys) (same 0 some))
rows_same width (x ∷ xs) [] some one two same = absurd (nothing_is (get_or x 0 null) (column_of 0 xs) (sym (same 0 some)))
rows_same width (x ∷ xs) (y ∷ ys) some one two same =
    let ones = and_parts (length x == width) (are_wide width xs) one in
    let twos = and_parts (length y == width) (are_wide width ys) two in
    let size : length x ≡ width = eqb-true (length x) width ones.0 in
    let long : length x ≡ length y = size ∙ sym (eqb-true (length y) width twos.0) in
    let first : x ≡ y = ext_get_or null x y long (λ k inside. ap first_of (same k (omega (arith, size)))) in
    let others : xs ≡ ys = rows_same width xs ys some ones.1 twos.1 (λ k inside. ap behind_first (same k inside)) in
    ap₂ (λ (row : List Slot) rows. row ∷ rows) first others

pub rows_are_columns : RowsAreColumns
rows_are_columns width a b some one two = (
  λ same k inside. sym (columns_are width a k one inside) ∙ ap (column_of k) same ∙ columns_are width b k two inside,
  λ same. rows_same width (stored_rows a) (stored_rows b) some (rows_wide width a one) (rows_wide width b two) (λ k inside.
      columns_are width a k one inside ∙ same k inside ∙ sym (columns_are width b k two inside)),
)
