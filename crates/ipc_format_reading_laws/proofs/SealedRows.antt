-- The rows of the columns of rows, and rows in groups.
use Rattle.std.proofs.Common.{◌≡◌, ◌∙◌, ℕ, zero, suc, ◌+◌, ◌≤◌, ◌<◌, List, [], ◌∷◌, ◌++◌, length, map, take, drop, get_or, refl, sym, ap, arith}
use Rattle.std.proofs.Common.{true, length-drop}
use Rattle.std.specs.Prelude.{◌==◌, nat_lt, slice_index_or}
use Rattle.std.specs.List.{list_all}
use Rattle.std.proofs.lemmas.Bool.{and_parts, ltb-true, leb-true, eqb-true}
use Rattle.std.proofs.lemmas.List.{take-append-drop}
use Rattle.std.proofs.lemmas.List.Folds.{list_all-append}
use Rattle.ipc_format_laws.specs.columnar_memory.declared.Field.{Field}
use Rattle.ipc_format_laws.specs.columns.Rows.{column_of_rows, columns_of_rows, is_row_of}
use Rattle.ipc_format_laws.specs.columns.Slots.{Slot, null, window}
use Rattle.ipc_format_laws.specs.columns.Tables.{rows_of_columns, row_at, batch_rows, rows_of_batches}
use Rattle.ipc_format_laws.proofs.columns_lemmas.Windows.{window_same}
use Rattle.ipc_format_laws.specs.grammar.Seals.{groups_within, groups_of, are_rows_of, is_batch_size}

-- ---- places of lists

map-window : {A B : Type 0} (g : A → B) (f : ℕ → A) (a n : ℕ) → map g (window f a n) ≡ window (λ i. g (f i)) a n
map-window g f a zero = refl
map-window g f a (suc n) = ap (λ rest. g (f a) ∷ rest) (map-window g f (a + 1) n)

-- a list is what stands at its places
window_list : {A : Type 0} (xs : List A) (d : A) → window (λ i. get_or xs i d) 0 (length xs) ≡ xs
window_list [] d = refl
window_list (x ∷ xs) d =
    let next : (i : ℕ) → i < length xs → get_or (x ∷ xs) (0 + 1 + i) d ≡ get_or xs (0 + i) d =
    λ i inside. ap (λ k. get_or (x ∷ xs) k d) (after i) ∙ ap (λ k. get_or xs k d) (at i) in
    ap (λ rest. x ∷ rest)
    (window_same (λ i. get_or (x ∷ xs) i d) (λ i. get_or xs i d) (0 + 1) 0 (length xs) next ∙ window_list xs d)
  where
    after : (i : ℕ) → 0 + 1 + i ≡ suc i
    after i = omega arith

    at : (i : ℕ) → i ≡ 0 + i
    at i = omega arith

get_or-map : {A B : Type 0} (g : A → B) (xs : List A) (i : ℕ) (d : B) (e : A) → i < length xs → get_or (map g xs) i d ≡ g (get_or xs i e)
get_or-map g [] i d e inside = absurd (omega arith)
get_or-map g (x ∷ xs) zero d e inside = refl
get_or-map g (x ∷ xs) (suc i) d e inside = get_or-map g xs i d e (omega arith)

-- ---- rows

row_passes : (fields : List Field) (rows : List (List Slot)) (i : ℕ) → list_all (is_row_of fields) rows ≡ true → i < length rows
    → length (get_or rows i []) ≡ length fields
row_passes fields [] i all inside = absurd (omega arith)
row_passes fields (row ∷ rows) zero all inside =
    let here = (and_parts (is_row_of fields row) (list_all (is_row_of fields) rows) all).0 in
    eqb-true (length row) (length fields) (and_parts (nat_lt 0 (length fields)) (length row == length fields) here).1
row_passes fields (row ∷ rows) (suc i) all inside =
    row_passes fields rows i (and_parts (is_row_of fields row) (list_all (is_row_of fields) rows) all).1 (omega arith)

-- the row at a place of the columns of some rows
row_is : (fields : List Field) (rows : List (List Slot)) (i : ℕ) → list_all (is_row_of fields) rows ≡ true → i < length rows
    → row_at (columns_of_rows fields rows) i ≡ get_or rows i []
row_is fields rows i all inside =
    let row = get_or rows i [] in
    map-window (λ (column : List Slot). slice_index_or column i null) (column_of_rows rows) 0 (length fields)
    ∙ window_same (λ k. slice_index_or (column_of_rows rows k) i null) (λ k. get_or row k null) 0 0 (length fields)
    (λ k within. get_or-map (λ (r : List Slot). slice_index_or r (0 + k) null) rows i null [] inside)
    ∙ ap (window (λ k. get_or row k null) 0) (sym (row_passes fields rows i all inside)) ∙ window_list row null

-- how many rows the columns of rows have, where there are columns
rows_count : (n : ℕ) (rows : List (List Slot)) → 0 < n → rows_of_columns (window (column_of_rows rows) 0 n) ≡ length rows
rows_count zero rows some = absurd (omega arith)
rows_count (suc n) rows some = length-map rows
  where
    length-map : (rows : List (List Slot)) → length (column_of_rows rows 0) ≡ length rows
    length-map [] = refl
    length-map (row ∷ rows) = ap suc (length-map rows)

-- the rows of the columns of some rows are these rows
pub rows_of_rows : (fields : List Field) (rows : List (List Slot)) → 0 < length fields → list_all (is_row_of fields) rows ≡ true
    → batch_rows (columns_of_rows fields rows) ≡ rows
rows_of_rows fields rows some all =
    let columns = columns_of_rows fields rows in
    ap (window (row_at columns) 0) (rows_count (length fields) rows some)
    ∙ window_same (row_at columns) (λ i. get_or rows i []) 0 0 (length rows) (λ i inside.
    ap (row_at columns) (at i) ∙ row_is fields rows i all inside ∙ ap (λ k. get_or rows k []) (sym (at i)))
    ∙ window_list rows []
  where
    at : (i : ℕ) → 0 + i ≡ i
    at i = omega arith

-- ---- groups

fewer : (n most : ℕ) (xs : List (List Slot)) (x : List Slot) → 1 ≤ n → length (x ∷ xs) ≤ suc most → length (drop n (x ∷ xs)) ≤ most
fewer n most xs x some h = omega (arith, length-drop n (x ∷ xs))

groups_join : (fields : List Field) (most n : ℕ) (rows : List (List Slot)) → 1 ≤ n → length rows ≤ most
    → list_all (is_row_of fields) rows ≡ true → rows_of_batches (map (columns_of_rows fields) (groups_within most n rows)) ≡ rows
groups_join fields zero n [] some few all = refl
groups_join fields zero n (row ∷ rows) some few all = absurd (omega arith)
groups_join fields (suc most) n [] some few all = refl
groups_join fields (suc most) n (row ∷ rows) some few all =
    let first = take n (row ∷ rows) in
    let others = drop n (row ∷ rows) in
    let test = is_row_of fields in
    let here = (and_parts (test row) (list_all test rows) all).0 in
    let has_fields = ltb-true 0 (length fields) (and_parts (nat_lt 0 (length fields)) (length row == length fields) here).0 in
    let joined : first ++ others ≡ row ∷ rows = take-append-drop n (row ∷ rows) in
    let each = and_parts (list_all test first) (list_all test others)
    (sym (list_all-append test first others) ∙ ap (list_all test) joined ∙ all) in
    let front = rows_of_rows fields first has_fields each.0 in
    let back = groups_join fields most n others some (fewer n most rows row some few) each.1 in
    (λ j. front j ++ back j) ∙ joined

-- the rows of the columns of groups of rows are these rows
pub rows_of_groups : (fields : List Field) (n : ℕ) (rows : List (List Slot)) → is_batch_size n ≡ true → are_rows_of fields rows ≡ true
    → rows_of_batches (map (columns_of_rows fields) (groups_of n rows)) ≡ rows
rows_of_groups fields n rows size all =
    groups_join fields (length rows) n rows (leb-true 1 n (and_parts _ _ size).0) (omega arith) all
