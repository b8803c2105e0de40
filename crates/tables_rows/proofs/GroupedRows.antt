-- Rows that are pushed in groups become the batches of their groups, and they fit exactly where each group does.
use Rattle.std.proofs.Common.{◌≡◌, ◌∙◌, ℕ, suc, ◌+◌, ◌≤◌, ◌<◌, Bool, true, false, ◌&&◌, ◌==◌, List, [], ◌∷◌, ◌++◌, length, map, drop}
use Rattle.std.proofs.Common.{get_or, refl, sym, ap, arith, append_assoc, length-append, if◌then◌else◌}
use Rattle.std.specs.Prelude.{slice_index_or}
use Rattle.std.specs.List.{list_all}
use Rattle.std.proofs.Math.Seq.{drop-cons}
use Rattle.std.proofs.lemmas.Bool.{and_parts, and_from, eq-eqb, ne_eqb, eqb-true, eqb-false, false≢true}
use Rattle.std.proofs.lemmas.List.{append-nil, map-append}
use Rattle.tables_chunks.specs.ipc_format.columnar_memory.declared.Field.{Field}
use Rattle.tables_chunks.specs.ipc_format.columns.OpenBatch.{fits}
use Rattle.tables_chunks.specs.ipc_format.columns.Rows.{column_of_rows, columns_of_rows, columns_fit, fresh_columns, batch_of_rows}
use Rattle.tables_chunks.specs.ipc_format.columns.SlotLaws.{BeginningsFit}
use Rattle.tables_chunks.specs.ipc_format.columns.Slots.{Slot, null, window}
use Rattle.tables_chunks.specs.ipc_format.columns.StoredColumns.{Column}
use Rattle.nested_arrays_cells.specs.builders.Begun.{opened_none}
use Rattle.nested_arrays_cells.specs.parts.Open.{Open, column_of, opened}
use Rattle.tables_chunks.specs.ipc_format.Seals.{groups_of}
use Rattle.tables_rows.specs.Grouping.{with_row, all_fit, emptied, Grouped, no_rows, closed, after_row, after_rows, rows_fit, all_batches}
use Rattle.tables_rows.proofs.RowGroups.{full_group, last_group, group_begins}

-- ---- open columns of rows

abbrev open_columns : List Field → List (List Slot) → List Open
open_columns [] columns = []
open_columns (field ∷ fields) [] = []
open_columns (field ∷ fields) (column ∷ columns) = opened field.data_type column ∷ open_columns fields columns

-- those of some fields, from column k on
abbrev opens_from : ℕ → List Field → List (List Slot) → List Open
opens_from k us rows = open_columns us (window (column_of_rows rows) k (length us))

row_pushed : (k : ℕ) (us : List Field) (rows : List (List Slot)) (row : List Slot) → length row ≡ k + length us
    → with_row (opens_from k us rows) (drop k row) ≡ opens_from k us (rows ++ row ∷ [])
row_pushed k [] rows row wide = refl
row_pushed k (u ∷ us) rows row wide =
    let slot = get_or row k null in
    let next : k + 1 ≡ suc k = omega arith in
    let here : column_of_rows rows k ++ slot ∷ [] ≡ column_of_rows (rows ++ row ∷ []) k =
    sym (map-append (λ (r : List Slot). slice_index_or r k null) rows (row ∷ [])) in
    let rest : with_row (opens_from (k + 1) us rows) (drop (suc k) row) ≡ opens_from (k + 1) us (rows ++ row ∷ []) =
    ap (λ i. with_row (opens_from (k + 1) us rows) (drop i row)) (sym next) ∙ row_pushed (k + 1) us rows row (omega arith) in
    ap (with_row (opens_from k (u ∷ us) rows)) (drop-cons row k null (omega arith))
    ∙ (λ j. opened u.data_type (here j) ∷ rest j)

opens_fit : (k : ℕ) (us : List Field) (rows : List (List Slot))
    → all_fit (opens_from k us rows) ≡ columns_fit us (window (column_of_rows rows) k (length us))
opens_fit k [] rows = refl
opens_fit k (u ∷ us) rows = ap (λ b. fits u.data_type (column_of_rows rows k) && b) (opens_fit (k + 1) us rows)

opens_none : (k : ℕ) (us : List Field) → opened_none us ≡ opens_from k us []
opens_none k [] = refl
opens_none k (u ∷ us) = ap (λ others. opened u.data_type [] ∷ others) (opens_none (k + 1) us)

opens_emptied : (k : ℕ) (us : List Field) (rows : List (List Slot)) → emptied (opens_from k us rows) ≡ opens_from k us []
opens_emptied k [] rows = refl
opens_emptied k (u ∷ us) rows = ap (λ others. opened u.data_type [] ∷ others) (opens_emptied (k + 1) us rows)

opens_become : (us : List Field) (columns : List (List Slot)) → map column_of (open_columns us columns) ≡ fresh_columns us columns
opens_become [] columns = refl
opens_become (u ∷ us) [] = refl
opens_become (u ∷ us) (column ∷ columns) = ap (λ others. column_of (opened u.data_type column) ∷ others) (opens_become us columns)

-- ---- what stands after some rows: batches, and the rows of a group that is not full

abbrev standing : List Field → List (List Column) → List (List Slot) → Grouped
standing us batches rest = record { batches = batches; columns = opens_from 0 us rest; count = length rest }

abbrev wider : List Field → List (List Column) → List (List Slot) → List Slot → Grouped
wider us batches rest row = record { batches = batches; columns = with_row (opens_from 0 us rest) row; count = length rest + 1 }

one_more : (us : List Field) (batches : List (List Column)) (rest : List (List Slot)) (row : List Slot) → length row ≡ length us
    → wider us batches rest row ≡ standing us batches (rest ++ row ∷ [])
one_more us batches rest row wide =
    let counted : length rest + 1 ≡ length (rest ++ row ∷ []) = sym (length-append rest (row ∷ [])) in
    let pushed = row_pushed 0 us rest row (omega (arith, wide)) in
    λ j. record { batches = batches; columns = pushed j; count = counted j }

closes : (us : List Field) (batches : List (List Column)) (rest : List (List Slot))
    → closed (standing us batches rest) ≡ standing us (batches ++ batch_of_rows us rest ∷ []) []
closes us batches rest = λ j. record {
  batches = batches ++ opens_become us (columns_of_rows us rest) j ∷ [];
  columns = opens_emptied 0 us rest j;
  count = 0;
}

module _ (n : ℕ) (us : List Field) where
  after_full : (batches : List (List Column)) (rest : List (List Slot)) (row : List Slot) → length row ≡ length us → length rest + 1 ≡ n
      → after_row n (standing us batches rest) row ≡ standing us (batches ++ batch_of_rows us (rest ++ row ∷ []) ∷ []) []
  after_full batches rest row wide full =
      ap (λ (b : Bool). if b then closed (wider us batches rest row) else wider us batches rest row) (eq-eqb (length rest + 1) n full)
      ∙ ap closed (one_more us batches rest row wide) ∙ closes us batches (rest ++ row ∷ [])

  after_short : (batches : List (List Column)) (rest : List (List Slot)) (row : List Slot) → length row ≡ length us
      → (length rest + 1 ≡ n → ⊥) → after_row n (standing us batches rest) row ≡ standing us batches (rest ++ row ∷ [])
  after_short batches rest row wide short =
      ap (λ (b : Bool). if b then closed (wider us batches rest row) else wider us batches rest row) (ne_eqb (length rest + 1) n short)
      ∙ one_more us batches rest row wide

  -- ---- the batches

  abbrev grouped_batches : List (List Slot) → List (List Column)
  grouped_batches rows = map (batch_of_rows us) (groups_of n rows)

  closed_batches : (batches : List (List Column)) (rest : List (List Slot)) → length rest < n
      → all_batches (standing us batches rest) ≡ batches ++ grouped_batches rest
  closed_batches batches [] short = sym (append-nil batches)
  closed_batches batches (row ∷ rest) short =
      ap (λ (b : Bool). if b then batches else (closed (standing us batches (row ∷ rest))).batches)
      (ne_eqb (length (row ∷ rest)) 0 (λ e. absurd (omega arith)))
      ∙ ap (λ (groups : Grouped). groups.batches) (closes us batches (row ∷ rest))
      ∙ ap (λ groups. batches ++ map (batch_of_rows us) groups) (sym (last_group n row rest short))

  not_full : (k m : ℕ) → m ≡ k + 1 → k < n → (k + 1 ≡ n → ⊥) → m < n
  not_full k m is short more = strict m (omega arith) (λ e. more (sym is ∙ e))
    where
      strict : (m : ℕ) → m ≤ n → (m ≡ n → ⊥) → m < n
      strict m few other = omega (arith, other)

  abbrev are_wide : List (List Slot) → Bool
  are_wide rows = list_all (λ (row : List Slot). length row == length us) rows

  wide_parts : (row : List Slot) (rows : List (List Slot)) → are_wide (row ∷ rows) ≡ true → (length row ≡ length us) × (are_wide rows ≡ true)
  wide_parts row rows wide =
      let parts = and_parts (length row == length us) (are_wide rows) wide in
      (eqb-true (length row) (length us) parts.0, parts.1)

  -- one more row, where it is so of those behind it
  batches_more : (batches : List (List Column)) (rest : List (List Slot)) (row : List Slot) (rows : List (List Slot)) (test : Bool)
      → length rest < n → length row ≡ length us
      → ((bs : List (List Column)) (rs : List (List Slot)) → length rs < n
      → all_batches (after_rows n (standing us bs rs) rows) ≡ bs ++ grouped_batches (rs ++ rows))
      → (length rest + 1 == n) ≡ test
      → all_batches (after_rows n (standing us batches rest) (row ∷ rows)) ≡ batches ++ grouped_batches (rest ++ row ∷ rows)
  batches_more batches rest row rows true short wide next is =
      let front = rest ++ row ∷ [] in
      let full = eqb-true (length rest + 1) n is in
      let joined : front ++ rows ≡ rest ++ row ∷ rows = append_assoc rest (row ∷ []) rows in
      let group = full_group n front rows (omega arith) (length-append rest (row ∷ []) ∙ full) in
      let batch = batch_of_rows us front in
      ap (λ groups. all_batches (after_rows n groups rows)) (after_full batches rest row wide full)
      ∙ next (batches ++ batch ∷ []) [] (omega arith)
      ∙ append_assoc batches (batch ∷ []) (grouped_batches rows)
      ∙ ap (λ groups. batches ++ map (batch_of_rows us) groups) (sym group ∙ ap (groups_of n) joined)
  batches_more batches rest row rows false short wide next is =
      let front = rest ++ row ∷ [] in
      let more = eqb-false (length rest + 1) n is in
      let joined : front ++ rows ≡ rest ++ row ∷ rows = append_assoc rest (row ∷ []) rows in
      ap (λ groups. all_batches (after_rows n groups rows)) (after_short batches rest row wide more)
      ∙ next batches front (not_full (length rest) (length front) (length-append rest (row ∷ [])) short more)
      ∙ ap (λ rs. batches ++ grouped_batches rs) joined

  batches_from : (batches : List (List Column)) (rest rows : List (List Slot)) → length rest < n → are_wide rows ≡ true
      → all_batches (after_rows n (standing us batches rest) rows) ≡ batches ++ grouped_batches (rest ++ rows)
  batches_from batches rest [] short wide = closed_batches batches rest short ∙ ap (λ rs. batches ++ grouped_batches rs) (sym (append-nil rest))
  batches_from batches rest (row ∷ rows) short wide =
      let parts = wide_parts row rows wide in
      batches_more batches rest row rows (length rest + 1 == n) short parts.0 (λ bs rs few. batches_from bs rs rows few parts.1) refl

  -- ---- whether they fit

  abbrev is_fitting : List (List Slot) → Bool
  is_fitting group = columns_fit us (columns_of_rows us group)

  abbrev are_fitting : List (List (List Slot)) → Bool
  are_fitting groups = list_all is_fitting groups

  -- the first rows of a group fit where all of them do
  module _ (law : BeginningsFit) where
    columns_begin : (k : ℕ) (vs : List Field) (rows others : List (List Slot))
        → columns_fit vs (window (column_of_rows (rows ++ others)) k (length vs)) ≡ true
        → columns_fit vs (window (column_of_rows rows) k (length vs)) ≡ true
    columns_begin k [] rows others fit = refl
    columns_begin k (v ∷ vs) rows others fit =
        let all = column_of_rows (rows ++ others) k in
        let parts = and_parts (fits v.data_type all) (columns_fit vs (window (column_of_rows (rows ++ others)) (k + 1) (length vs))) fit in
        let joined : all ≡ column_of_rows rows k ++ column_of_rows others k = map-append (λ (r : List Slot). slice_index_or r k null) rows others in
        and_from (fits v.data_type (column_of_rows rows k)) (columns_fit vs (window (column_of_rows rows) (k + 1) (length vs)))
        (law v.data_type (column_of_rows rows k) (column_of_rows others k) (ap (fits v.data_type) (sym joined) ∙ parts.0))
        (columns_begin (k + 1) vs rows others parts.1)

    -- the test of the first group, where its first rows don't fit
    not_fitting : (group others : List (List Slot)) (groups : List (List (List Slot))) → is_fitting group ≡ false
        → are_fitting ((group ++ others) ∷ groups) ≡ false
    not_fitting group others groups short = by_test (is_fitting (group ++ others)) refl
      where
        by_test : (test : Bool) → is_fitting (group ++ others) ≡ test → are_fitting ((group ++ others) ∷ groups) ≡ false
        by_test true is = absurd (false≢true (sym short ∙ columns_begin 0 us group others is))
        by_test false is = ap (λ b. b && are_fitting groups) is

    pushed_fits : (rest : List (List Slot)) (row : List Slot) → length row ≡ length us
        → all_fit (with_row (opens_from 0 us rest) row) ≡ is_fitting (rest ++ row ∷ [])
    pushed_fits rest row wide = ap all_fit (row_pushed 0 us rest row (omega (arith, wide))) ∙ opens_fit 0 us (rest ++ row ∷ [])

    fit_more : (batches : List (List Column)) (rest : List (List Slot)) (row : List Slot) (rows : List (List Slot)) (here full : Bool)
        → length rest < n → length row ≡ length us
        → ((bs : List (List Column)) (rs : List (List Slot)) → length rs < n → (1 ≤ length rs → is_fitting rs ≡ true)
        → rows_fit n (standing us bs rs) rows ≡ are_fitting (groups_of n (rs ++ rows)))
        → is_fitting (rest ++ row ∷ []) ≡ here → (length rest + 1 == n) ≡ full
        → rows_fit n (standing us batches rest) (row ∷ rows) ≡ are_fitting (groups_of n (rest ++ row ∷ rows))
    fit_more batches rest row rows false full short wide next here is =
        let front = rest ++ row ∷ [] in
        let joined : front ++ rows ≡ rest ++ row ∷ rows = append_assoc rest (row ∷ []) rows in
        let many : length front ≡ length rest + 1 = length-append rest (row ∷ []) in
        let begins = group_begins n front rows (omega arith) (omega arith) in
        ap (λ b. b && rows_fit n (after_row n (standing us batches rest) row) rows) (pushed_fits rest row wide ∙ here)
        ∙ sym (ap are_fitting (ap (groups_of n) (sym joined) ∙ begins.groups_are) ∙ not_fitting front begins.more begins.others here)
    fit_more batches rest row rows true true short wide next here is =
        let front = rest ++ row ∷ [] in
        let size = eqb-true (length rest + 1) n is in
        let joined : front ++ rows ≡ rest ++ row ∷ rows = append_assoc rest (row ∷ []) rows in
        let group = full_group n front rows (omega arith) (length-append rest (row ∷ []) ∙ size) in
        ap (λ b. b && rows_fit n (after_row n (standing us batches rest) row) rows) (pushed_fits rest row wide ∙ here)
        ∙ ap (λ groups. rows_fit n groups rows) (after_full batches rest row wide size)
        ∙ next (batches ++ batch_of_rows us front ∷ []) [] (omega arith) (λ some. absurd (omega arith))
        ∙ sym (ap are_fitting (ap (groups_of n) (sym joined) ∙ group) ∙ ap (λ b. b && are_fitting (groups_of n rows)) here)
    fit_more batches rest row rows true false short wide next here is =
        let front = rest ++ row ∷ [] in
        let more = eqb-false (length rest + 1) n is in
        let joined : front ++ rows ≡ rest ++ row ∷ rows = append_assoc rest (row ∷ []) rows in
        ap (λ b. b && rows_fit n (after_row n (standing us batches rest) row) rows) (pushed_fits rest row wide ∙ here)
        ∙ ap (λ groups. rows_fit n groups rows) (after_short batches rest row wide more)
        ∙ next batches front (not_full (length rest) (length front) (length-append rest (row ∷ [])) short more) (λ some. here)
        ∙ ap (λ rs. are_fitting (groups_of n rs)) joined

    fit_from : (batches : List (List Column)) (rest rows : List (List Slot)) → length rest < n → are_wide rows ≡ true
        → (1 ≤ length rest → is_fitting rest ≡ true)
        → rows_fit n (standing us batches rest) rows ≡ are_fitting (groups_of n (rest ++ rows))
    fit_from batches [] [] short wide fit = refl
    fit_from batches (row ∷ rest) [] short wide fit =
        sym (ap (λ rs. are_fitting (groups_of n rs)) (append-nil (row ∷ rest)) ∙ ap are_fitting (last_group n row rest short)
        ∙ ap (λ b. b && true) (fit (omega arith)))
    fit_from batches rest (row ∷ rows) short wide fit =
        let parts = wide_parts row rows wide in
        fit_more batches rest row rows (is_fitting (rest ++ row ∷ [])) (length rest + 1 == n) short parts.0
        (λ bs rs few fits. fit_from bs rs rows few parts.1 fits) refl refl

  -- ---- all rows

  begun : no_rows us ≡ standing us [] []
  begun = λ j. record { batches = []; columns = opens_none 0 us j; count = 0 }

  -- the batches of all rows are those of their groups
  pub batches_are_groups : (rows : List (List Slot)) → 1 ≤ n → list_all (λ (row : List Slot). length row == length us) rows ≡ true
      → all_batches (after_rows n (no_rows us) rows) ≡ map (batch_of_rows us) (groups_of n rows)
  batches_are_groups rows some wide = ap (λ groups. all_batches (after_rows n groups rows)) begun ∙ batches_from [] [] rows (omega arith) wide

  -- rows fit exactly where each of their groups does
  pub rows_fit_as_groups : BeginningsFit → (rows : List (List Slot)) → 1 ≤ n
      → list_all (λ (row : List Slot). length row == length us) rows ≡ true
      → rows_fit n (no_rows us) rows ≡ list_all (λ group. columns_fit us (columns_of_rows us group)) (groups_of n rows)
  rows_fit_as_groups law rows some wide =
      ap (λ groups. rows_fit n groups rows) begun ∙ fit_from law [] [] rows (omega arith) wide (λ some. absurd (omega arith))
