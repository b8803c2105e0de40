-- A choice of columns has the chosen values of each row, before and after a cut.
use Rattle.std.proofs.Common.{◌≡◌, ◌∙◌, ℕ, suc, ◌+◌, ◌-◌, ◌<◌, min, true, false, Bool, List, [], ◌∷◌, ◌++◌, length, map}
use Rattle.std.proofs.Common.{refl, sym, ap, ap₂, nat_lt, ◌&&◌, ◌==◌, if◌then◌else◌}
use Rattle.std.specs.Prelude.{Option, Some, None, slice_get, slice_index_or}
use Rattle.std.specs.List.{list_all, cons_option}
use Rattle.std.proofs.lemmas.Bool.{and_parts, and_from, eq-eqb, eqb-true, ltb-true}
use Rattle.std.proofs.lemmas.List.{map-append}
use Rattle.ipc_format.specs.columns.Slots.{Slot, null, window}
use Rattle.ipc_format.specs.columns.SoundColumns.{is_sound}
use Rattle.ipc_format.specs.columns.StoredColumns.{Column, column_len, cut, slots}
use Rattle.ipc_format.specs.columns.Tables.{row_at, rows_of_columns, batch_rows, chosen}
use Rattle.ipc_format.proofs.Windows.{window_same}
use Rattle.tables_chunks.specs.Batches.{batch_len, is_batch, stored_rows, cut_batch, cut_batches, choose_batches}
use Rattle.tables_chunks.specs.Batches.{ChoicesHaveColumns, CutsAndChoicesCommute}
use Rattle.tables_chunks.proofs.CutBatches.{are_parts}
use Rattle.tables_chunks.proofs.Lists.{chosen-map, found_at, list_all-found, window-map}
use Rattle.tables_chunks.proofs.LongColumns.{are_long, rows_are}

-- ---- columns

-- a test that all columns pass is passed by the chosen ones
chosen_pass : (test : Column → Bool) (columns : List Column) (ks : List ℕ) → list_all test columns ≡ true
    → list_all test (chosen ks columns) ≡ true
chosen_pass test columns [] all = refl
chosen_pass test columns (k ∷ ks) all = by_place (slice_get columns k) refl (chosen_pass test columns ks all)
  where
    by_place : (found : Option Column) → slice_get columns k ≡ found → list_all test (chosen ks columns) ≡ true
        → list_all test (cons_option found (chosen ks columns)) ≡ true
    by_place None is others = others
    by_place (Some column) is others =
        and_from (test column) (list_all test (chosen ks columns)) (list_all-found test columns k column all is) others

-- where a column stands at each place, as many are chosen as were asked for
chosen_count : (columns : List Column) (ks : List ℕ) → list_all (λ k. nat_lt k (length columns)) ks ≡ true
    → length (chosen ks columns) ≡ length ks
chosen_count columns [] there = refl
chosen_count columns (k ∷ ks) there =
    let parts = and_parts (nat_lt k (length columns)) (list_all (λ k. nat_lt k (length columns)) ks) there in
    let found = found_at columns k (ltb-true k (length columns) parts.0) in
    ap (λ (option : Option Column). length (cons_option option (chosen ks columns))) found.1 ∙ ap suc (chosen_count columns ks parts.1)

-- what is chosen of a batch, of which there is one column at least, is as long as the batch
chosen_len : (batch : List Column) (k : ℕ) (ks : List ℕ) → is_batch batch ≡ true → k < length batch
    → batch_len (chosen (k ∷ ks) batch) ≡ batch_len batch
chosen_len batch k ks long inside =
    let found = found_at batch k inside in
    let holds = list_all-found (λ column. is_sound column && (column_len column == batch_len batch)) batch k found.0 long found.1 in
    ap (λ (option : Option Column). batch_len (cons_option option (chosen ks batch))) found.1
    ∙ eqb-true (column_len found.0) (batch_len batch) (and_parts (is_sound found.0) (column_len found.0 == batch_len batch) holds).1

chosen_is_batch : (batch : List Column) (k : ℕ) (ks : List ℕ) → is_batch batch ≡ true → k < length batch
    → is_batch (chosen (k ∷ ks) batch) ≡ true
chosen_is_batch batch k ks long inside =
    ap (λ len. are_long len (chosen (k ∷ ks) batch)) (chosen_len batch k ks long inside)
    ∙ chosen_pass (λ column. is_sound column && (column_len column == batch_len batch)) batch (k ∷ ks) long

-- a row of the chosen columns is what is chosen of the row
chosen_row : (batch : List Column) (ks : List ℕ) (i : ℕ) → row_at (map slots (chosen ks batch)) i ≡ chosen ks (row_at (map slots batch) i)
chosen_row batch ks i =
    let at : List Slot → Slot = λ column. slice_index_or column i null in
    ap (map at) (sym (chosen-map slots ks batch)) ∙ sym (chosen-map at ks (map slots batch))

chosen_rows : (batch : List Column) (k : ℕ) (ks : List ℕ) → is_batch batch ≡ true → k < length batch
    → batch_rows (map slots (chosen (k ∷ ks) batch)) ≡ map (chosen (k ∷ ks)) (batch_rows (map slots batch))
chosen_rows batch k ks long inside =
    let picked : List (List Slot) = map slots (chosen (k ∷ ks) batch) in
    let whole : List (List Slot) = map slots batch in
    let size : rows_of_columns picked ≡ rows_of_columns whole =
    rows_are (chosen (k ∷ ks) batch) ∙ chosen_len batch k ks long inside ∙ sym (rows_are batch) in
    ap (window (row_at picked) 0) size
    ∙ window_same (row_at picked) (λ i. chosen (k ∷ ks) (row_at whole i)) 0 0 (rows_of_columns whole) (λ i small.
    chosen_row batch (k ∷ ks) (0 + i))
    ∙ sym (window-map (chosen (k ∷ ks)) (row_at whole) 0 (rows_of_columns whole))

-- ---- batches

-- places that stand within a width stand within a batch of it
within_batch : (width : ℕ) (batch : List Column) (ks : List ℕ) → length batch ≡ width → list_all (λ k. nat_lt k width) ks ≡ true
    → list_all (λ k. nat_lt k (length batch)) ks ≡ true
within_batch width batch ks size there = ap (λ (n : ℕ). list_all (λ k. nat_lt k n) ks) size ∙ there

first_within : (width : ℕ) (batch : List Column) (k : ℕ) (ks : List ℕ) → length batch ≡ width
    → list_all (λ k. nat_lt k width) (k ∷ ks) ≡ true → k < length batch
first_within width batch k ks size there =
    ltb-true k (length batch) (and_parts (nat_lt k (length batch)) (list_all (λ k. nat_lt k (length batch)) ks)
    (within_batch width batch (k ∷ ks) size there)).0

pub choices_have_columns : ChoicesHaveColumns
choices_have_columns width k ks [] are there = (refl, refl)
choices_have_columns width k ks (batch ∷ batches) are there =
    let parts = are_parts width batch batches are in
    let inside : k < length batch = first_within width batch k ks parts.1 there in
    let picked : List Column = chosen (k ∷ ks) batch in
    let count : length picked ≡ suc (length ks) = chosen_count batch (k ∷ ks) (within_batch width batch (k ∷ ks) parts.1 there) in
    let rest = choices_have_columns width k ks batches parts.2 there in (
      ap₂ (λ a b. a ++ b) (chosen_rows batch k ks parts.0 inside) rest.0
          ∙ sym (map-append (chosen (k ∷ ks)) (batch_rows (map slots batch)) (stored_rows batches)),
      and_from (is_batch picked && (length picked == suc (length ks)))
          (list_all (λ (batch : List Column). is_batch batch && (length batch == suc (length ks))) (choose_batches (k ∷ ks) batches))
          (and_from (is_batch picked) (length picked == suc (length ks)) (chosen_is_batch batch k ks parts.0 inside)
          (eq-eqb (length picked) (suc (length ks)) count)) rest.1,
    )

-- ---- cuts

-- a batch and those behind it, where a cut takes rows of the batch or none
chosen_of_cut : (k : ℕ) (ks : List ℕ) (o n taken : ℕ) (batch : List Column) (others left : List (List Column)) (test : Bool)
    → choose_batches (k ∷ ks) (if test then others else cut_batch o taken batch ∷ left)
    ≡ if test then choose_batches (k ∷ ks) others else cut_batch o taken (chosen (k ∷ ks) batch) ∷ choose_batches (k ∷ ks) left
chosen_of_cut k ks o n taken batch others left true = refl
chosen_of_cut k ks o n taken batch others left false =
    ap (λ (first : List Column). first ∷ choose_batches (k ∷ ks) left) (chosen-map (λ column. cut column o taken) (k ∷ ks) batch)

pub cuts_and_choices_commute : CutsAndChoicesCommute
cuts_and_choices_commute width k o n ks [] are there = refl
cuts_and_choices_commute width k o n ks (batch ∷ batches) are there =
    let parts = are_parts width batch batches are in
    let picked : List Column = chosen (k ∷ ks) batch in
    let rest : List (List Column) = choose_batches (k ∷ ks) batches in
    let len : batch_len batch ≡ batch_len picked = sym (chosen_len batch k ks parts.0 (first_within width batch k ks parts.1 there)) in
    let taken : ℕ = min n (batch_len batch - o) in
    chosen_of_cut k ks o n taken batch (cut_batches (o - batch_len batch) n batches) (cut_batches (o - batch_len batch) (n - taken) batches)
    (taken == 0)
    ∙ ap₂ (λ (a b : List (List Column)). if taken == 0 then a else cut_batch o taken picked ∷ b)
    (cuts_and_choices_commute width k (o - batch_len batch) n ks batches parts.2 there)
    (cuts_and_choices_commute width k (o - batch_len batch) (n - taken) ks batches parts.2 there)
    ∙ ap (λ (m : ℕ). if min n (m - o) == 0 then cut_batches (o - m) n rest
    else cut_batch o (min n (m - o)) picked ∷ cut_batches (o - m) (n - min n (m - o)) rest) len
