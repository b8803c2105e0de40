-- Open columns, and the rows that they hold.
use Rattle.std.proofs.Common.{◌≡◌, ◌∙◌, ℕ, zero, suc, ◌+◌, ◌<◌, true, List, [], ◌∷◌, ◌++◌, length, map, get_or, refl, sym, ap, ap₂, arith}
use Rattle.std.proofs.Common.{zero-add, ◌&&◌, ◌==◌}
use Rattle.std.specs.Prelude.{All, nat_lt}
use Rattle.std.specs.List.{list_all}
use Rattle.std.proofs.lemmas.Bool.{and_from, eq-eqb, lt-ltb}
use Rattle.std.proofs.lemmas.List.{length-map, length_push, get_or_append_left, get_or_at}
use Rattle.columnar_memory_types.specs.declared.data_type.Field.{Field}
use Rattle.tables_chunks.specs.ipc_format.columns.OpenBatch.{fits}
use Rattle.tables_chunks.specs.ipc_format.columns.FreshColumns.{fresh}
use Rattle.tables_chunks.specs.ipc_format.columns.Rows.{column_of_rows, columns_of_rows, columns_fit, fresh_columns, is_row_of}
use Rattle.tables_chunks.specs.ipc_format.columns.Slots.{Slot, null, window}
use Rattle.tables_chunks.specs.ipc_format.columns.Tables.{row_at, rows_of_columns, batch_rows}
use Rattle.nested_arrays_cells.specs.parts.Open.{Open, column_of, with_slot}
use Rattle.tables_chunks.specs.ipc_format.Seals.{are_rows_of}
use Rattle.tables_chunks.proofs.ipc_format_lemmas.Windows.{window_same, length-window}
use Rattle.tables_rows.specs.Columns.{types_of, field_types, slots_of_each, open_count, rows_of, is_fitting, with_each, AreLong}

-- ---- values of a function at places

window-map : {A B : Type 0} (g : A → B) (f : ℕ → A) (first n : ℕ) → map g (window f first n) ≡ window (λ i. g (f i)) first n
window-map g f first zero = refl
window-map g f first (suc n) = ap (λ xs. g (f first) ∷ xs) (window-map g f (first + 1) n)

window_more : {A : Type 0} (f : ℕ → A) (first n : ℕ) → window f first (n + 1) ≡ window f first n ++ f (first + n) ∷ []
window_more f first zero =
    let here : first ≡ first + 0 = omega arith in
    ap (λ k. f k ∷ []) here
window_more f first (suc n) =
    let size : suc n + 1 ≡ suc (n + 1) = omega arith in
    let last : first + 1 + n ≡ first + suc n = omega arith in
    ap (window f first) size
    ∙ ap (λ xs. f first ∷ xs) (window_more f (first + 1) n ∙ ap (λ k. window f (first + 1) n ++ f k ∷ []) last)

-- the elements of a list, by their places
elements : {A : Type 0} (d : A) (xs : List A) → window (λ i. get_or xs i d) 0 (length xs) ≡ xs
elements d [] = refl
elements d (x ∷ xs) =
    ap (λ others. x ∷ others)
    (window_same (λ i. get_or (x ∷ xs) i d) (λ i. get_or xs i d) 1 0 (length xs) (λ i small. after x xs d i) ∙ elements d xs)
  where
    after : {A : Type 0} (x : A) (xs : List A) (d : A) (i : ℕ) → get_or (x ∷ xs) (1 + i) d ≡ get_or xs (0 + i) d
    after x xs d i =
        let more : 1 + i ≡ suc i = omega arith in
        ap (λ j. get_or (x ∷ xs) j d) more ∙ ap (λ j. get_or xs j d) (sym (zero-add i))

-- ---- the columns of their rows

-- row i has at place k what column k has at place i
value_at : (columns : List (List Slot)) (k i : ℕ) → get_or (row_at columns i) k null ≡ get_or (get_or columns k []) i null
value_at [] k i = refl
value_at (column ∷ columns) zero i = refl
value_at (column ∷ columns) (suc k) i = value_at columns k i

pub rows_count : (columns : List Open) → length (rows_of columns) ≡ open_count columns
rows_count columns = length-window (row_at (slots_of_each columns)) 0 (open_count columns)

-- column k of the rows of some columns is their column k, where it has a slot for each row
column_is : (columns : List (List Slot)) (k : ℕ) → length (get_or columns k []) ≡ rows_of_columns columns
    → column_of_rows (batch_rows columns) k ≡ get_or columns k []
column_is columns k size =
    let column : List Slot = get_or columns k [] in
    window-map (λ (row : List Slot). get_or row k null) (row_at columns) 0 (rows_of_columns columns)
    ∙ ap (window (λ i. get_or (row_at columns i) k null) 0) (sym size)
    ∙ window_same (λ i. get_or (row_at columns i) k null) (λ i. get_or column i null) 0 0 (length column) (λ i small. value_at columns k (0 + i))
    ∙ elements null column

long_at : (count : ℕ) (columns : List Open) (k : ℕ) → AreLong count columns → k < length columns
    → length (get_or (slots_of_each columns) k []) ≡ count
long_at count [] k long inside = absurd (omega arith)
long_at count (column ∷ columns) zero long inside = long 0 column inside
long_at count (column ∷ columns) (suc k) long inside = long_at count columns k (λ j d less. long (suc j) d (omega arith)) (omega arith)

pub columns_are : (fields : List Field) (columns : List Open) → length columns ≡ length fields → AreLong (open_count columns) columns
    → columns_of_rows fields (rows_of columns) ≡ slots_of_each columns
columns_are fields columns many long =
    let each : List (List Slot) = slots_of_each columns in
    let size : length fields ≡ length each = sym many ∙ sym (length-map columns (λ (column : Open). column.slots)) in
    ap (window (column_of_rows (rows_of columns)) 0) size
    ∙ window_same (column_of_rows (rows_of columns)) (λ k. get_or each k []) 0 0 (length each) (λ k small.
    column_is each (0 + k) (long_at (open_count columns) columns (0 + k) long (omega (arith, many, size, small))))
    ∙ elements [] each

-- each row has a value a field
pub rows_are_wide : (fields : List Field) (columns : List Open) → length columns ≡ length fields → are_rows_of fields (rows_of columns) ≡ true
rows_are_wide fields [] many = refl
rows_are_wide fields (column ∷ columns) many = each 0 (open_count (column ∷ columns))
  where
    each : (first n : ℕ) → list_all (is_row_of fields) (window (row_at (slots_of_each (column ∷ columns))) first n) ≡ true
    each first zero = refl
    each first (suc n) =
        let row : List Slot = row_at (slots_of_each (column ∷ columns)) first in
        let size : length row ≡ length fields =
        length-map (slots_of_each (column ∷ columns)) (λ (held : List Slot). get_or held first null)
        ∙ length-map (column ∷ columns) (λ (column : Open). column.slots) ∙ many in
        and_from (is_row_of fields row) (list_all (is_row_of fields) (window (row_at (slots_of_each (column ∷ columns))) (first + 1) n))
        (and_from (nat_lt 0 (length fields)) (length row == length fields) (lt-ltb 0 (length fields) (omega (arith, many)))
        (eq-eqb (length row) (length fields) size)) (each (first + 1) n)

-- ---- columns of the types of fields

pub as_many : (fields : List Field) (columns : List Open) → types_of columns ≡ field_types fields → length columns ≡ length fields
as_many fields columns types =
    sym (length-map columns (λ (column : Open). column.data_type)) ∙ ap length types ∙ length-map fields (λ (field : Field). field.data_type)

pub fitting_is : (fields : List Field) (columns : List Open) → types_of columns ≡ field_types fields
    → columns_fit fields (slots_of_each columns) ≡ list_all is_fitting columns
fitting_is [] [] types = refl
fitting_is [] (column ∷ columns) types = absurd cc
fitting_is (field ∷ fields) [] types = absurd cc
fitting_is (field ∷ fields) (column ∷ columns) types =
    let first : field.data_type ≡ column.data_type = cc in
    let others : types_of columns ≡ field_types fields = cc in
    λ j. fits (first j) column.slots && fitting_is fields columns others j

pub stored_is : (fields : List Field) (columns : List Open) → types_of columns ≡ field_types fields
    → fresh_columns fields (slots_of_each columns) ≡ map column_of columns
stored_is [] [] types = refl
stored_is [] (column ∷ columns) types = absurd cc
stored_is (field ∷ fields) [] types = absurd cc
stored_is (field ∷ fields) (column ∷ columns) types =
    let first : field.data_type ≡ column.data_type = cc in
    let others : types_of columns ≡ field_types fields = cc in
    λ j. fresh (first j) column.slots ∷ stored_is fields columns others j

-- ---- one slot more in each

pub types_more : (columns : List Open) (slots : List Slot) → types_of (with_each columns slots) ≡ types_of columns
types_more [] slots = refl
types_more (column ∷ columns) [] = refl
types_more (column ∷ columns) (slot ∷ slots) = ap (λ types. column.data_type ∷ types) (types_more columns slots)

long_first : (P : Open → Type 0) (column : Open) (columns : List Open) → P column → All P columns → All P (column ∷ columns)
long_first P column columns first others zero d inside = first
long_first P column columns first others (suc k) d inside = others k d (omega arith)

long_behind : (count : ℕ) (column : Open) (columns : List Open) → AreLong count (column ∷ columns) → AreLong count columns
long_behind count column columns long k d inside = long (suc k) d (omega arith)

pub long_more : (count : ℕ) (columns : List Open) (slots : List Slot) → length slots ≡ length columns → AreLong count columns
    → AreLong (count + 1) (with_each columns slots)
long_more count [] slots many long = λ k d inside. absurd (omega arith)
long_more count (column ∷ columns) [] many long = absurd (omega (arith, many))
long_more count (column ∷ columns) (slot ∷ slots) many long =
    let size : length column.slots ≡ count = long 0 column (omega arith) in
    long_first (λ (o : Open). length o.slots ≡ count + 1) (with_slot column slot) (with_each columns slots)
    (omega (arith, length_push column.slots slot, size))
    (long_more count columns slots (omega (arith, many)) (long_behind count column columns long))

row_kept : (count i : ℕ) (columns : List Open) (slots : List Slot) → AreLong count columns → i < count
    → row_at (slots_of_each (with_each columns slots)) i ≡ row_at (slots_of_each columns) i
row_kept count i [] slots long less = refl
row_kept count i (column ∷ columns) [] long less = refl
row_kept count i (column ∷ columns) (slot ∷ slots) long less =
    let size : length column.slots ≡ count = long 0 column (omega arith) in
    ap₂ (λ (value : Slot) values. value ∷ values) (get_or_append_left column.slots (slot ∷ []) null i (omega (arith, size)))
    (row_kept count i columns slots (long_behind count column columns long) less)

row_last : (count : ℕ) (columns : List Open) (slots : List Slot) → length slots ≡ length columns → AreLong count columns
    → row_at (slots_of_each (with_each columns slots)) count ≡ slots
row_last count [] [] many long = refl
row_last count [] (slot ∷ slots) many long = absurd (omega (arith, many))
row_last count (column ∷ columns) [] many long = absurd (omega (arith, many))
row_last count (column ∷ columns) (slot ∷ slots) many long =
    ap₂ (λ (value : Slot) values. value ∷ values) (get_or_at column.slots slot [] null count (long 0 column (omega arith)))
    (row_last count columns slots (omega (arith, many)) (long_behind count column columns long))

pub count_is : (count : ℕ) (columns : List Open) → 0 < length columns → AreLong count columns → open_count columns ≡ count
count_is count [] some long = absurd (omega arith)
count_is count (column ∷ columns) some long = long 0 column some

pub each_count : (columns : List Open) (slots : List Slot) → length (with_each columns slots) ≡ length columns
each_count [] slots = refl
each_count (column ∷ columns) [] = refl
each_count (column ∷ columns) (slot ∷ slots) = ap suc (each_count columns slots)

pub rows_more : (columns : List Open) (slots : List Slot) → 0 < length columns → length slots ≡ length columns
    → AreLong (open_count columns) columns → rows_of (with_each columns slots) ≡ rows_of columns ++ slots ∷ []
rows_more columns slots some many long =
    let count = open_count columns in
    let new : List (List Slot) = slots_of_each (with_each columns slots) in
    let old : List (List Slot) = slots_of_each columns in
    let size : open_count (with_each columns slots) ≡ count + 1 =
    count_is (count + 1) (with_each columns slots) (omega (arith, some, each_count columns slots)) (long_more count columns slots many long) in
    let last : row_at new (0 + count) ≡ slots = ap (row_at new) (zero-add count) ∙ row_last count columns slots many long in
    ap (window (row_at new) 0) size
    ∙ window_more (row_at new) 0 count
    ∙ ap₂ (λ (rows : List (List Slot)) row. rows ++ row ∷ [])
    (window_same (row_at new) (row_at old) 0 0 count (λ i small. row_kept count (0 + i) columns slots long (omega (arith, small)))) last
