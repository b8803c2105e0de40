-- What open columns store, as the columns of a batch.
use Rattle.std.proofs.Common.{◌≡◌, ◌∙◌, ℕ, zero, suc, ◌+◌, ◌<◌, true, List, [], ◌∷◌, ◌++◌, length, map, take, get_or, refl, sym, ap}
use Rattle.std.proofs.Common.{ap₂, arith, ◌&&◌}
use Rattle.std.specs.Prelude.{slice_get, Some}
use Rattle.std.specs.List.{list_all}
use Rattle.std.proofs.lemmas.Bool.{and_parts, and_from}
use Rattle.std.proofs.lemmas.List.{map-append, take_more}
use Rattle.std.proofs.lemmas.List.Concat.{flat_map-append}
use Rattle.std.proofs.lemmas.List.{append-nil}
use Rattle.columnar_memory_types.specs.Equality.{same_type, same_type-Decides}
use Rattle.columnar_memory_types.specs.declared.data_type.DataType.{DataType}
use Rattle.columnar_memory_types.specs.declared.data_type.Field.{Field}
use Rattle.tables_chunks.specs.Batches.{stored_rows, batch_len}
use Rattle.tables_chunks.specs.StoredTables.{is_of_fields}
use Rattle.tables_chunks.specs.ipc_format.Chunks.{rows_of, AreAsLong}
use Rattle.tables_chunks.specs.ipc_format.columns.FreshLaws.{is_buildable}
use Rattle.tables_chunks.specs.ipc_format.columns.Slots.{Slot}
use Rattle.tables_chunks.specs.ipc_format.columns.StoredColumns.{Column, column_len, column_type, slots}
use Rattle.tables_chunks.specs.ipc_format.columns.Tables.{batch_rows, rows_of_batches}
use Rattle.nested_arrays_cells.specs.parts.Open.{Open, column_of}
use Rattle.tables_chunks.proofs.ipc_format_lemmas.FreshSlots.{fresh_lengths, fresh_slots}
use Rattle.tables_chunks.proofs.ipc_format_lemmas.FreshTypes.{fresh_types}
use Rattle.tables_rows.specs.Columns.{are_fitting, is_fitting, open_count, slots_of_each, types_of, field_types, AreLong}
use Rattle.tables_rows.specs.Columns as open_columns

-- a column is seen as itself
abbrev itself : Column → Column
itself column = column

pub one_more_taken : (columns : List Open) (arrays : List Column) (k : ℕ) (d : Open) (column : Open) (array : Column) → k < length columns
    → arrays ≡ map column_of (take k columns) → column ≡ get_or columns k d → array ≡ column_of column
    → arrays ++ array ∷ [] ≡ map column_of (take (k + 1) columns)
one_more_taken columns arrays k d column array inside taken own is =
    ap₂ (λ (cs : List Column) c. cs ++ c ∷ []) taken (is ∙ ap column_of own)
    ∙ sym (map-append column_of (take k columns) (get_or columns k d ∷ []))
    ∙ ap (map column_of) (sym (take_more columns k d inside))

-- ---- lengths

fit_first : (column : Open) (columns : List Open) → are_fitting (column ∷ columns) ≡ true
    → (is_fitting column ≡ true) × (is_buildable column.data_type ≡ true) × (are_fitting columns ≡ true)
fit_first column columns fit =
    let parts = and_parts (is_fitting column && is_buildable column.data_type) (are_fitting columns) fit in
    let first = and_parts (is_fitting column) (is_buildable column.data_type) parts.0 in
    (first.0, first.1, parts.1)

pub all_fitting : (columns : List Open) → are_fitting columns ≡ true → list_all is_fitting columns ≡ true
all_fitting [] fit = refl
all_fitting (column ∷ columns) fit =
    let parts = fit_first column columns fit in
    and_from (is_fitting column) (list_all is_fitting columns) parts.0 (all_fitting columns parts.2)

long_stored : (count : ℕ) (columns : List Open) → are_fitting columns ≡ true → AreLong count columns → (k : ℕ) (column : Column)
    → slice_get (map column_of columns) k ≡ Some column → column_len column ≡ count
long_stored count [] fit long k column found = absurd cc
long_stored count (first ∷ columns) fit long zero column found =
    let parts = fit_first first columns fit in
    let same : column_of first ≡ column = cc in
    ap column_len (sym same) ∙ fresh_lengths first.data_type first.slots parts.1 parts.0 ∙ long 0 first (omega arith)
long_stored count (first ∷ columns) fit long (suc k) column found =
    long_stored count columns (fit_first first columns fit).2 (λ j d inside. long (suc j) d (omega arith)) k column found

first_count : (columns : List Open) → are_fitting columns ≡ true → rows_of itself (map column_of columns) ≡ open_count columns
first_count [] fit = refl
first_count (column ∷ columns) fit =
    let parts = fit_first column columns fit in fresh_lengths column.data_type column.slots parts.1 parts.0

-- columns of one length become arrays of one length
pub long_arrays : (columns : List Open) (arrays : List Column) → are_fitting columns ≡ true → AreLong (open_count columns) columns
    → arrays ≡ map column_of columns → AreAsLong itself arrays
long_arrays columns arrays fit long is k array found =
    long_stored (open_count columns) columns fit long k array (ap (λ (cs : List Column). slice_get cs k) (sym is) ∙ found)
    ∙ sym (first_count columns fit) ∙ ap (rows_of itself) (sym is)

pub batch_count : (columns : List Open) → are_fitting columns ≡ true → batch_len (map column_of columns) ≡ open_count columns
batch_count [] fit = refl
batch_count (column ∷ columns) fit =
    let parts = fit_first column columns fit in fresh_lengths column.data_type column.slots parts.1 parts.0

-- ---- types

same_itself : (a b : DataType) → a ≡ b → same_type b a ≡ true
same_itself a b e = (same_type-Decides b a).1 (sym e)

-- the columns of fields become a batch of these fields
pub batch_types : (fields : List Field) (columns : List Open) → types_of columns ≡ field_types fields
    → is_of_fields fields (map column_of columns) ≡ true
batch_types [] [] types = refl
batch_types [] (column ∷ columns) types = absurd cc
batch_types (field ∷ fields) [] types = absurd cc
batch_types (field ∷ fields) (column ∷ columns) types =
    let first : column.data_type ≡ field.data_type = cc in
    let others : types_of columns ≡ field_types fields = cc in
    and_from (same_type field.data_type (column_type (column_of column))) (is_of_fields fields (map column_of columns))
    (same_itself (column_type (column_of column)) field.data_type (fresh_types column.data_type column.slots ∙ first))
    (batch_types fields columns others)

-- ---- rows

stored_slots : (columns : List Open) → are_fitting columns ≡ true → map slots (map column_of columns) ≡ slots_of_each columns
stored_slots [] fit = refl
stored_slots (column ∷ columns) fit =
    let parts = fit_first column columns fit in
    λ j. fresh_slots column.data_type column.slots parts.1 parts.0 j ∷ stored_slots columns parts.2 j

-- a batch of the columns has their rows behind those of the batches before
pub rows_behind : (batches : List (List Column)) (columns : List Open) → are_fitting columns ≡ true
    → stored_rows (batches ++ map column_of columns ∷ []) ≡ stored_rows batches ++ open_columns.rows_of columns
rows_behind batches columns fit =
    let each : List Column → List (List Slot) = λ (batch : List Column). map slots batch in
    ap rows_of_batches (map-append each batches (map column_of columns ∷ []))
    ∙ flat_map-append batch_rows (map each batches) (map slots (map column_of columns) ∷ [])
    ∙ ap (λ (rows : List (List Slot)). stored_rows batches ++ rows)
    (append-nil (batch_rows (map slots (map column_of columns))) ∙ ap batch_rows (stored_slots columns fit))
