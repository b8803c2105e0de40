-- Groups stay ready for rows of their types, and rows are pushed one behind another.
use Rattle.std.proofs.Common.{◌≡◌, ◌∙◌, ℕ, zero, suc, ◌+◌, ◌-◌, ◌≤◌, ◌<◌, Bool, true, false, ◌&&◌, ◌==◌, List, [], ◌∷◌, ◌++◌, length, map}
use Rattle.std.proofs.Common.{take, drop, get_or, refl, sym, ap, subst, arith, if◌then◌else◌}
use Rattle.std.specs.Prelude.{nat_lt, slice_get, Some}
use Rattle.std.specs.List.{list_all}
use Rattle.std.proofs.lemmas.Bool.{and_parts, and_from, eq-eqb, eqb-true, eqb-false, lt-ltb}
use Rattle.std.proofs.lemmas.List.{length-map, map-append, take_more, append-nil}
use Rattle.std.proofs.lemmas.List.Concat.{flat_map-append}
use Rattle.columnar_memory_types.specs.Equality.{same_type, same_type-Decides}
use Rattle.tables_chunks.specs.ipc_format.columnar_memory.declared.DataType.{DataType}
use Rattle.tables_chunks.specs.ipc_format.columnar_memory.declared.Field.{Field}
use Rattle.tables_chunks.specs.ipc_format.columns.FreshLaws.{is_buildable}
use Rattle.tables_chunks.specs.ipc_format.columns.Slots.{Slot, window}
use Rattle.tables_chunks.specs.ipc_format.columns.StoredColumns.{Column, column_len, column_type, slots}
use Rattle.tables_chunks.specs.ipc_format.columns.Tables.{batch_rows, rows_of_batches}
use Rattle.tables_chunks.specs.ipc_format.Chunks.{rows_of, AreAsLong}
use Rattle.nested_arrays_cells.specs.builders.Begun.{opened_none}
use Rattle.nested_arrays_cells.specs.parts.Open.{Open, column_of, opened}
use Rattle.tables_chunks.specs.declared.fault.Fault.{Fault}
use Rattle.tables_chunks.specs.Batches.{batch_len, stored_rows}
use Rattle.tables_chunks.specs.SameRows.{rows_from, stored_row}
use Rattle.tables_chunks.specs.StoredTables.{is_of_fields, IsTable}
use Rattle.tables_chunks.specs.ipc_format.columnar_memory.declared.Schema.{Schema}
use Rattle.tables_chunks.proofs.BatchLists.{itself, batch_at}
use Rattle.tables_chunks.proofs.RowWindows.{all_rows}
use Rattle.tables_rows.specs.Grouping.{Grouped, IsReady, TakesRow, after_row, after_rows, all_fit, closed, emptied, no_rows, open_fits, open_types}
use Rattle.tables_rows.specs.Grouping.{rows_fit, with_row, IsNotTaken}
use Rattle.tables_rows.proofs.PushedSlots.{weaker}
use Rattle.tables_rows.proofs.FreshBatches.{fresh_length}

abbrev pub field_types : List Field → List DataType
field_types fields = map (λ (field : Field). field.data_type) fields

-- each column has so many slots
abbrev pub is_level : ℕ → List Open → Bool
is_level count columns = list_all (λ (column : Open). length column.slots == count) columns

-- ---- rows behind one another

after_append : (n : ℕ) (groups : Grouped) (xs ys : List (List Slot)) → after_rows n groups (xs ++ ys) ≡ after_rows n (after_rows n groups xs) ys
after_append n groups [] ys = refl
after_append n groups (x ∷ xs) ys = after_append n (after_row n groups x) xs ys

and_joined : (a b c : Bool) → (a && (b && c)) ≡ ((a && b) && c)
and_joined true b c = refl
and_joined false b c = refl

fit_append : (n : ℕ) (groups : Grouped) (xs ys : List (List Slot))
    → rows_fit n groups (xs ++ ys) ≡ (rows_fit n groups xs && rows_fit n (after_rows n groups xs) ys)
fit_append n groups [] ys = refl
fit_append n groups (x ∷ xs) ys =
    ap (λ b. all_fit (with_row groups.columns x) && b) (fit_append n (after_row n groups x) xs ys)
    ∙ and_joined (all_fit (with_row groups.columns x)) (rows_fit n (after_row n groups x) xs)
    (rows_fit n (after_rows n (after_row n groups x) xs) ys)

-- rows that are pushed behind some others
module _ (n : ℕ) (start now : Grouped) (before rows : List (List Slot)) (pushed : now ≡ after_rows n start before)
    (fit : rows_fit n start before ≡ true) where
  pub after_both : (after : Grouped) → after ≡ after_rows n now rows → after ≡ after_rows n start (before ++ rows)
  after_both after is = is ∙ ap (λ groups. after_rows n groups rows) pushed ∙ sym (after_append n start before rows)

  fit_is : rows_fit n start (before ++ rows) ≡ rows_fit n now rows
  fit_is = fit_append n start before rows ∙ (λ j. fit j && rows_fit n (sym pushed j) rows)

  pub fit_both : rows_fit n now rows ≡ true → rows_fit n start (before ++ rows) ≡ true
  fit_both is = fit_is ∙ is

  pub no_fit_both : (behind : List (List Slot)) → rows_fit n now rows ≡ false → rows_fit n start ((before ++ rows) ++ behind) ≡ false
  no_fit_both behind is =
      fit_append n start (before ++ rows) behind
      ∙ ap (λ b. b && rows_fit n (after_rows n start (before ++ rows)) behind) (fit_is ∙ is)

-- ---- ready groups

row_types : (columns : List Open) (row : List Slot) → open_types (with_row columns row) ≡ open_types columns
row_types [] row = refl
row_types (o ∷ columns) [] = refl
row_types (o ∷ columns) (slot ∷ row) = ap (λ rest. o.data_type ∷ rest) (row_types columns row)

emptied_types : (columns : List Open) → open_types (emptied columns) ≡ open_types columns
emptied_types [] = refl
emptied_types (o ∷ columns) = ap (λ rest. o.data_type ∷ rest) (emptied_types columns)

emptied_level : (columns : List Open) → is_level 0 (emptied columns) ≡ true
emptied_level [] = refl
emptied_level (o ∷ columns) = emptied_level columns

length_one_more : (xs : List Slot) (x : Slot) → length (xs ++ x ∷ []) ≡ length xs + 1
length_one_more [] x = refl
length_one_more (y ∷ xs) x = ap suc (length_one_more xs x) ∙ omega arith

pub row_level : (columns : List Open) (row : List Slot) (count : ℕ) → length row ≡ length columns → is_level count columns ≡ true
    → is_level (count + 1) (with_row columns row) ≡ true
row_level [] row count wide level = refl
row_level (o ∷ columns) [] count wide level = absurd (omega (arith, wide))
row_level (o ∷ columns) (slot ∷ row) count wide level =
    let parts = and_parts (length o.slots == count) (is_level count columns) level in
    let here : length (o.slots ++ slot ∷ []) ≡ count + 1 =
    length_one_more o.slots slot ∙ ap (λ k. k + 1) (eqb-true (length o.slots) count parts.0) in
    and_from (length (o.slots ++ slot ∷ []) == count + 1) (is_level (count + 1) (with_row columns row))
    (eq-eqb (length (o.slots ++ slot ∷ [])) (count + 1) here) (row_level columns row count (omega (arith, wide)) parts.1)

ready_by : (n : ℕ) (types : List DataType) (groups : Grouped) (row : List Slot) (test : Bool) → IsReady n types groups
    → length row ≡ length groups.columns → (groups.count + 1 == n) ≡ test → IsReady n types (after_row n groups row)
ready_by n types groups row true ready wide is =
    let wider : Grouped = record { batches = groups.batches; columns = with_row groups.columns row; count = groups.count + 1 } in
    subst (IsReady n types) (sym (ap (λ (b : Bool). if b then closed wider else wider) is)) (record {
      typed = emptied_types wider.columns ∙ row_types groups.columns row ∙ ready.typed;
      level = emptied_level wider.columns;
      room = omega (arith, ready.room);
    })
ready_by n types groups row false ready wide is =
    let wider : Grouped = record { batches = groups.batches; columns = with_row groups.columns row; count = groups.count + 1 } in
    subst (IsReady n types) (sym (ap (λ (b : Bool). if b then closed wider else wider) is)) (record {
      typed = row_types groups.columns row ∙ ready.typed;
      level = row_level groups.columns row groups.count wide ready.level;
      room = strict (groups.count + 1) (omega (arith, ready.room)) (eqb-false (groups.count + 1) n is);
    })
  where
    strict : (m : ℕ) → m ≤ n → (m ≡ n → ⊥) → m < n
    strict m few other = omega (arith, other)

pub ready_after : (n : ℕ) (types : List DataType) (groups : Grouped) (row : List Slot) → IsReady n types groups
    → length row ≡ length types → IsReady n types (after_row n groups row)
ready_after n types groups row ready wide =
    ready_by n types groups row (groups.count + 1 == n) ready
    (wide ∙ sym (ap length ready.typed) ∙ length-map groups.columns (λ (column : Open). column.data_type)) refl

pub all_ready : (n : ℕ) (types : List DataType) (groups : Grouped) (rows : List (List Slot)) → IsReady n types groups
    → list_all (λ (row : List Slot). length row == length types) rows ≡ true → IsReady n types (after_rows n groups rows)
all_ready n types groups [] ready wide = ready
all_ready n types groups (row ∷ rows) ready wide =
    let parts = and_parts (length row == length types) (list_all (λ (row : List Slot). length row == length types) rows) wide in
    all_ready n types (after_row n groups row) rows (ready_after n types groups row ready (eqb-true (length row) (length types) parts.0)) parts.1

-- ---- the chunk of a group

taken_length : (columns : List Open) (count k : ℕ) (array : Column) → all_fit columns ≡ true
    → list_all (λ (column : Open). is_buildable column.data_type) columns ≡ true → is_level count columns ≡ true
    → slice_get (map column_of columns) k ≡ Some array → column_len array ≡ count
taken_length [] count k array fit stored level found = absurd cc
taken_length (o ∷ columns) count zero array fit stored level found =
    let same : column_of o ≡ array = cc in
    ap column_len (sym same)
    ∙ fresh_length o.data_type o.slots (and_parts (is_buildable o.data_type)
    (list_all (λ (column : Open). is_buildable column.data_type) columns) stored).0 (and_parts (open_fits o) (all_fit columns) fit).0
    ∙ eqb-true (length o.slots) count (and_parts (length o.slots == count) (is_level count columns) level).0
taken_length (o ∷ columns) count (suc k) array fit stored level found =
    taken_length columns count k array (and_parts (open_fits o) (all_fit columns) fit).1
    (and_parts (is_buildable o.data_type) (list_all (λ (column : Open). is_buildable column.data_type) columns) stored).1
    (and_parts (length o.slots == count) (is_level count columns) level).1 found

taken_first : (columns : List Open) (count : ℕ) → all_fit columns ≡ true
    → list_all (λ (column : Open). is_buildable column.data_type) columns ≡ true → is_level count columns ≡ true
    → (k : ℕ) (array : Column) → slice_get (map column_of columns) k ≡ Some array → rows_of itself (map column_of columns) ≡ count
taken_first [] count fit stored level k array found = absurd cc
taken_first (o ∷ columns) count fit stored level k array found =
    taken_length (o ∷ columns) count 0 (column_of o) fit stored level refl

-- the arrays of level columns are as long as each other
pub taken_as_long : (columns : List Open) (arrays : List Column) (count : ℕ) → all_fit columns ≡ true
    → list_all (λ (column : Open). is_buildable column.data_type) columns ≡ true → is_level count columns ≡ true
    → arrays ≡ map column_of columns → AreAsLong itself arrays
taken_as_long columns arrays count fit stored level are =
    subst (AreAsLong itself) (sym are) (λ k array found.
    taken_length columns count k array fit stored level found ∙ sym (taken_first columns count fit stored level k array found))

-- ---- the rows of a batch

rows_inside : (count row : ℕ) (batch : List Column)
    → ((k : ℕ) (array : Column) → slice_get batch k ≡ Some array → column_len array ≡ count) → row < count
    → list_all (λ (array : Column). nat_lt row (column_len array)) batch ≡ true
rows_inside count row [] long lt = refl
rows_inside count row (array ∷ batch) long lt =
    and_from (nat_lt row (column_len array)) (list_all (λ (array : Column). nat_lt row (column_len array)) batch)
    (lt-ltb row (column_len array) (omega (arith, long 0 array refl)))
    (rows_inside count row batch (λ k other found. long (suc k) other found) lt)

-- a row of a chunk may be pushed into columns of its types
pub row_taken : (columns : List Open) (batch : List Column) (row : ℕ) → open_types columns ≡ map column_type batch → AreAsLong itself batch
    → row < rows_of itself batch → TakesRow columns batch row
row_taken columns batch row typed long lt = record { typed = typed; inside = rows_inside (rows_of itself batch) row batch long lt }

pub rows_are_long : (batch : List Column) → rows_of itself batch ≡ batch_len batch
rows_are_long [] = refl
rows_are_long (column ∷ columns) = refl

window_split : {A : Type 0} (f : ℕ → A) (a k n : ℕ) → k < n → window f a n ≡ (window f a k ++ f (a + k) ∷ []) ++ window f (a + k + 1) (n - k - 1)
window_split f a k zero lt = absurd (omega arith)
window_split f a zero (suc n) lt =
    let here : a ≡ a + 0 = omega arith in
    let next : a + 1 ≡ a + 0 + 1 = omega arith in
    let many : n ≡ suc n - 0 - 1 = omega arith in
    λ j. f (here j) ∷ window f (next j) (many j)
window_split f a (suc k) (suc n) lt =
    let here : a + 1 + k ≡ a + suc k = omega arith in
    let next : a + 1 + k + 1 ≡ a + suc k + 1 = omega arith in
    let many : n - k - 1 ≡ suc n - suc k - 1 = omega arith in
    ap (λ rest. f a ∷ rest) (window_split f (a + 1) k n (omega (arith, lt)))
    ∙ (λ j. f a ∷ ((window f (a + 1) k ++ f (here j) ∷ []) ++ window f (next j) (many j)))

window_next : {A : Type 0} (f : ℕ → A) (a k : ℕ) → window f a (k + 1) ≡ window f a k ++ f (a + k) ∷ []
window_next f a k =
    let few : k < k + 1 = omega arith in
    let none : k + 1 - k - 1 ≡ 0 = omega arith in
    window_split f a k (k + 1) few ∙ ap (λ m. (window f a k ++ f (a + k) ∷ []) ++ window f (a + k + 1) m) none
    ∙ append-nil (window f a k ++ f (a + k) ∷ [])

-- the rows up to one, and that one
pub rows_more : (batch : List Column) (k : ℕ) → rows_from batch 0 (k + 1) ≡ rows_from batch 0 k ++ stored_row batch k ∷ []
rows_more batch k =
    let here : 0 + k ≡ k = omega arith in
    window_next (stored_row batch) 0 k ∙ ap (λ i. rows_from batch 0 k ++ stored_row batch i ∷ []) here

-- the rows that stand behind one
pub rows_split : (batch : List Column) (k n : ℕ) → k < n
    → rows_from batch 0 n ≡ (rows_from batch 0 k ++ stored_row batch k ∷ []) ++ rows_from batch (0 + k + 1) (n - k - 1)
rows_split batch k n lt =
    let here : 0 + k ≡ k = omega arith in
    window_split (stored_row batch) 0 k n lt
    ∙ ap (λ i. (rows_from batch 0 k ++ stored_row batch i ∷ []) ++ rows_from batch (0 + k + 1) (n - k - 1)) here

-- ---- the batches of a table

-- a batch of fields has their types
types_of_fields : (fields : List Field) (batch : List Column) → is_of_fields fields batch ≡ true → field_types fields ≡ map column_type batch
types_of_fields [] [] fits = refl
types_of_fields [] (column ∷ columns) fits = absurd cc
types_of_fields (field ∷ fields) [] fits = absurd cc
types_of_fields (field ∷ fields) (column ∷ columns) fits =
    let parts = and_parts (same_type field.data_type (column_type column)) (is_of_fields fields columns) fits in
    let here = (same_type-Decides field.data_type (column_type column)).0 parts.0 in
    let rest = types_of_fields fields columns parts.1 in
    λ j. here j ∷ rest j

of_fields_at : (fields : List Field) (batches : List (List Column)) (i : ℕ) (batch : List Column)
    → list_all (is_of_fields fields) batches ≡ true → i < length batches → batch ≡ get_or batches i batch → is_of_fields fields batch ≡ true
of_fields_at fields [] i batch types lt is = absurd (omega arith)
of_fields_at fields (first ∷ batches) zero batch types lt is =
    ap (is_of_fields fields) is ∙ (and_parts (is_of_fields fields first) (list_all (is_of_fields fields) batches) types).0
of_fields_at fields (first ∷ batches) (suc i) batch types lt is =
    of_fields_at fields batches i batch (and_parts (is_of_fields fields first) (list_all (is_of_fields fields) batches) types).1
    (omega (arith, lt)) is

module _ (schema : Schema) (batches : List (List Column)) (i : ℕ) (batch : List Column) (table : IsTable schema batches) (lt : i < length batches)
    (is : batch ≡ get_or batches i batch) where
  pub batch_typed : field_types schema.fields ≡ map column_type batch
  batch_typed = types_of_fields schema.fields batch (of_fields_at schema.fields batches i batch table.types lt is)

  own_rows : batch_rows (map slots batch) ≡ rows_from batch 0 (batch_len batch)
  own_rows = all_rows batch (batch_at (length schema.fields) batches i batch table.whole lt is).0

  -- the rows up to a batch, and those of it
  pub batch_more : stored_rows (take (i + 1) batches) ≡ stored_rows (take i batches) ++ rows_from batch 0 (batch_len batch)
  batch_more =
      ap stored_rows (take_more batches i batch lt ∙ ap (λ (b : List Column). take i batches ++ b ∷ []) (sym is))
      ∙ stored_append (take i batches) (batch ∷ [])
      ∙ ap (λ rows. stored_rows (take i batches) ++ rows) (append-nil (batch_rows (map slots batch)) ∙ own_rows)
    where
      stored_append : (a b : List (List Column)) → stored_rows (a ++ b) ≡ stored_rows a ++ stored_rows b
      stored_append a b =
          ap rows_of_batches (map-append (λ (batch : List Column). map slots batch) a b)
          ∙ flat_map-append batch_rows (map (λ (batch : List Column). map slots batch) a) (map (λ (batch : List Column). map slots batch) b)

-- the rows of all batches stand behind those of the first ones
pub all_behind : (batches : List (List Column)) (i : ℕ) → stored_rows batches ≡ stored_rows (take i batches) ++ stored_rows (drop i batches)
all_behind [] zero = refl
all_behind [] (suc i) = refl
all_behind (batch ∷ batches) zero = refl
all_behind (batch ∷ batches) (suc i) =
    ap (λ rows. batch_rows (map slots batch) ++ rows) (all_behind batches i)
    ∙ joined (batch_rows (map slots batch)) (stored_rows (take i batches)) (stored_rows (drop i batches))
  where
    joined : {A : Type 0} (xs ys zs : List A) → xs ++ (ys ++ zs) ≡ (xs ++ ys) ++ zs
    joined [] ys zs = refl
    joined (x ∷ xs) ys zs = ap (λ rest. x ∷ rest) (joined xs ys zs)

-- no rows yet
none_typed : (fields : List Field) → open_types (opened_none fields) ≡ field_types fields
none_typed [] = refl
none_typed (field ∷ fields) = ap (λ rest. field.data_type ∷ rest) (none_typed fields)

none_level : (fields : List Field) → is_level 0 (opened_none fields) ≡ true
none_level [] = refl
none_level (field ∷ fields) = none_level fields

pub begun_ready : (n : ℕ) (fields : List Field) → 0 < n → IsReady n (field_types fields) (no_rows fields)
begun_ready n fields some = record { typed = none_typed fields; level = none_level fields; room = some }

begun_append : (fields : List Field) (field : Field) → opened_none (fields ++ field ∷ []) ≡ opened_none fields ++ opened field.data_type [] ∷ []
begun_append [] field = refl
begun_append (first ∷ fields) field = ap (λ rest. opened first.data_type [] ∷ rest) (begun_append fields field)

-- one field more has no slots more
pub begun_more : (fields : List Field) (i : ℕ) (field : Field) (columns after : List Open) (column : Open) → i < length fields
    → field ≡ get_or fields i field → columns ≡ opened_none (take i fields) → column ≡ opened field.data_type []
    → after ≡ columns ++ column ∷ [] → after ≡ opened_none (take (i + 1) fields)
begun_more fields i field columns after column lt is so_far begun more =
    more ∙ (λ j. so_far j ++ begun j ∷ []) ∙ sym (begun_append (take i fields) field)
    ∙ sym (ap opened_none (take_more fields i field lt ∙ ap (λ (u : Field). take i fields ++ u ∷ []) (sym is)))

-- ---- one row more, and one batch more

-- some rows are pushed into groups, which are ready for more
pub record ArePushed (n : ℕ) (types : List DataType) (start now : Grouped) (rows : List (List Slot)) : Type 0 where
  pub pushed : now ≡ after_rows n start rows
  pub fit : rows_fit n start rows ≡ true
  pub ready : IsReady n types now

pub row_joins : (n : ℕ) (start now after : Grouped) (batch arrays : List Column) (k : ℕ) → arrays ≡ batch
    → now ≡ after_rows n start (rows_from batch 0 k) → rows_fit n start (rows_from batch 0 k) ≡ true
    → IsReady n (map column_type batch) now → rows_fit n now (stored_row arrays k ∷ []) ≡ true
    → after ≡ after_rows n now (stored_row arrays k ∷ [])
    → ArePushed n (map column_type batch) start after (rows_from batch 0 (k + 1))
row_joins n start now after batch arrays k are pushed fit ready here is =
    let row = stored_row batch k in
    let before = rows_from batch 0 k in
    let same : stored_row arrays k ≡ row = ap (λ (columns : List Column). stored_row columns k) are in
    let own : after ≡ after_rows n now (row ∷ []) = is ∙ ap (λ r. after_rows n now (r ∷ [])) same in
    let wide : length row ≡ length (map column_type batch) = length-map batch _ ∙ sym (length-map batch column_type) in
    record {
      pushed = after_both n start now before (row ∷ []) pushed fit after own ∙ ap (after_rows n start) (sym (rows_more batch k));
      fit = ap (rows_fit n start) (rows_more batch k)
          ∙ fit_both n start now before (row ∷ []) pushed fit (ap (λ r. rows_fit n now (r ∷ [])) (sym same) ∙ here);
      ready = subst (IsReady n (map column_type batch)) (sym own) (ready_after n (map column_type batch) now row ready wide);
    }

pub row_refuses : (n : ℕ) (start now : Grouped) (batch arrays : List Column) (k : ℕ) → arrays ≡ batch
    → now ≡ after_rows n start (rows_from batch 0 k) → rows_fit n start (rows_from batch 0 k) ≡ true → k < batch_len batch
    → (fault : Fault) → IsNotTaken (rows_fit n now (stored_row arrays k ∷ []) ≡ false) fault
    → IsNotTaken (rows_fit n start (rows_from batch 0 (batch_len batch)) ≡ false) fault
row_refuses n start now batch arrays k are pushed fit lt fault refused =
    weaker (rows_fit n now (stored_row arrays k ∷ []) ≡ false) (rows_fit n start (rows_from batch 0 (batch_len batch)) ≡ false) (λ is.
    ap (rows_fit n start) (rows_split batch k (batch_len batch) lt)
    ∙ no_fit_both n start now (rows_from batch 0 k) (stored_row batch k ∷ []) pushed fit (rows_from batch (0 + k + 1) (batch_len batch - k - 1))
    (ap (λ (columns : List Column). rows_fit n now (stored_row columns k ∷ [])) (sym are) ∙ is)) fault refused

module _ (n : ℕ) (schema : Schema) (batches : List (List Column)) (now : Grouped) (i : ℕ) (batch : List Column) (table : IsTable schema batches)
    (pushed : now ≡ after_rows n (no_rows schema.fields) (stored_rows (take i batches)))
    (fit : rows_fit n (no_rows schema.fields) (stored_rows (take i batches)) ≡ true) (lt : i < length batches) (is : batch ≡ get_or batches i batch)
  where
    abbrev own : List (List Slot)
    own = rows_from batch 0 (batch_len batch)

    pub batch_joins : (after : Grouped) → IsReady n (field_types schema.fields) now → rows_fit n now own ≡ true → after ≡ after_rows n now own
        → ArePushed n (field_types schema.fields) (no_rows schema.fields) after (stored_rows (take (i + 1) batches))
    batch_joins after ready here put =
        let start = no_rows schema.fields in
        let before = stored_rows (take i batches) in
        let more = batch_more schema batches i batch table lt is in
        record {
          pushed = after_both n start now before own pushed fit after put ∙ ap (after_rows n start) (sym more);
          fit = ap (rows_fit n start) more ∙ fit_both n start now before own pushed fit here;
          ready = subst (IsReady n (field_types schema.fields)) (sym put)
              (all_ready n (field_types schema.fields) now own ready (widths 0 (batch_len batch)));
        }
      where
        wide : length batch ≡ length (field_types schema.fields)
        wide = sym (length-map batch column_type) ∙ ap length (sym (batch_typed schema batches i batch table lt is))

        widths : (a m : ℕ) → list_all (λ (row : List Slot). length row == length (field_types schema.fields)) (rows_from batch a m) ≡ true
        widths a zero = refl
        widths a (suc m) = and_from (length (stored_row batch a) == length (field_types schema.fields))
            (list_all (λ (row : List Slot). length row == length (field_types schema.fields)) (rows_from batch (a + 1) m))
            (eq-eqb (length (stored_row batch a)) (length (field_types schema.fields)) (length-map batch _ ∙ wide)) (widths (a + 1) m)

    pub batch_refuses : (fault : Fault) → IsNotTaken (rows_fit n now own ≡ false) fault
        → IsNotTaken (rows_fit n (no_rows schema.fields) (stored_rows batches) ≡ false) fault
    batch_refuses fault refused =
        let start = no_rows schema.fields in
        let split = all_behind batches (i + 1)
        ∙ ap (λ rows. rows ++ stored_rows (drop (i + 1) batches)) (batch_more schema batches i batch table lt is) in
        weaker (rows_fit n now own ≡ false) (rows_fit n start (stored_rows batches) ≡ false) (λ no_fit.
        ap (rows_fit n start) split
        ∙ no_fit_both n start now (stored_rows (take i batches)) own pushed fit (stored_rows (drop (i + 1) batches)) no_fit) fault refused

-- no rows are pushed yet
pub begun_groups : (n : ℕ) (fields args : List Field) (batches : List (List Column)) (columns : List Open) → 0 < n → batches ≡ []
    → columns ≡ opened_none args → args ≡ fields
    → ArePushed n (field_types fields) (no_rows fields) (record { batches = batches; columns = columns; count = 0 }) []
begun_groups n fields args batches columns some none begun are =
    let same : record { batches = batches; columns = columns; count = 0 } ≡ no_rows fields =
    (λ j. record { batches = none j; columns = (begun ∙ ap opened_none are) j; count = 0 }) in
    record { pushed = same; fit = refl; ready = subst (IsReady n (field_types fields)) (sym same) (begun_ready n fields some) }
