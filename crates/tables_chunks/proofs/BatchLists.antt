-- Batches that are added to others, counted and looked through one by one.
use Rattle.std.proofs.Common.{◌≡◌, ◌∙◌, ℕ, zero, suc, ◌+◌, ◌≤◌, ◌<◌, true, List, [], ◌∷◌, ◌++◌, length, map, take, drop, get_or, refl}
use Rattle.std.proofs.Common.{sym, ap, arith}
use Rattle.std.proofs.Common.{◌&&◌, ◌==◌, length-append}
use Rattle.std.specs.Prelude.{slice_get, Some}
use Rattle.std.specs.List.{list_all}
use Rattle.std.proofs.lemmas.Bool.{and_parts, and_from, eq-eqb, eqb-true}
use Rattle.std.proofs.lemmas.List.{map-append, take_more, take_all, take-append-drop}
use Rattle.std.proofs.lemmas.List.Concat.{flat_map-append}
use Rattle.columnar_memory_types.specs.Equality.{same_type}
use Rattle.columnar_memory_types.specs.declared.data_type.Field.{Field}
use Rattle.columnar_memory_types.specs.declared.schema.Schema.{Schema}
use Rattle.ipc_format.specs.Chunks.{rows_of, AreAsLong}
use Rattle.ipc_format.specs.columns.SoundColumns.{is_sound}
use Rattle.ipc_format.specs.columns.StoredColumns.{Column, column_len, column_type, slots}
use Rattle.ipc_format.specs.columns.Tables.{batch_rows, rows_of_batches}
use Rattle.tables_chunks.specs.Batches.{batch_len, is_batch, stored_rows, AreBatches}
use Rattle.tables_chunks.proofs.Lists.{list_all-append}
use Rattle.tables_chunks.proofs.LongColumns.{are_long, long_parts, long_from, rows_count}
use Rattle.tables_chunks.specs.StoredTables.{IsTable, is_of_fields}
use Rattle.tables_chunks.specs.TableSchemas.{IsTableSchema}

-- ---- chunks

-- a column is seen as itself
abbrev pub itself : Column → Column
itself column = column

pub rows_are_len : (batch : List Column) → rows_of itself batch ≡ batch_len batch
rows_are_len [] = refl
rows_are_len (column ∷ columns) = refl

whole_columns : (len : ℕ) (columns : List Column) → list_all is_sound columns ≡ true
    → ((k : ℕ) (column : Column) → slice_get columns k ≡ Some column → column_len column ≡ len) → are_long len columns ≡ true
whole_columns len [] sound long = refl
whole_columns len (column ∷ columns) sound long =
    let parts = and_parts (is_sound column) (list_all is_sound columns) sound in
    long_from len column columns parts.0 (long 0 column refl) (whole_columns len columns parts.1 (λ k other found. long (suc k) other found))

-- sound columns that are as long as the first are a batch
pub whole_batch : (batch : List Column) → list_all is_sound batch ≡ true → AreAsLong itself batch → is_batch batch ≡ true
whole_batch [] sound long = refl
whole_batch (column ∷ columns) sound long = whole_columns (column_len column) (column ∷ columns) sound long

long_at : (len : ℕ) (columns : List Column) (k : ℕ) (column : Column) → are_long len columns ≡ true → slice_get columns k ≡ Some column
    → column_len column ≡ len
long_at len [] k column long found = absurd cc
long_at len (first ∷ columns) zero column long found =
    let same : first ≡ column = cc in
    ap column_len (sym same) ∙ (long_parts len first columns long).1
long_at len (first ∷ columns) (suc k) column long found = long_at len columns k column (long_parts len first columns long).2 found

-- a batch may be a chunk
pub as_long : (batch : List Column) → is_batch batch ≡ true → AreAsLong itself batch
as_long batch long = λ k column found. long_at (batch_len batch) batch k column long found ∙ sym (rows_are_len batch)

-- ---- batches one more

stored_rows-append : (a b : List (List Column)) → stored_rows (a ++ b) ≡ stored_rows a ++ stored_rows b
stored_rows-append a b =
    ap rows_of_batches (map-append (λ (batch : List Column). map slots batch) a b)
    ∙ flat_map-append batch_rows (map (λ (batch : List Column). map slots batch) a) (map (λ (batch : List Column). map slots batch) b)

stored_rows-one : (batch : List Column) → length (stored_rows (batch ∷ [])) ≡ batch_len batch
stored_rows-one batch = length-append (batch_rows (map slots batch)) [] ∙ omega (arith, rows_count batch)

-- one batch more has its rows more
pub count_more : (batches : List (List Column)) (batch : List Column)
    → length (stored_rows (batches ++ batch ∷ [])) ≡ length (stored_rows batches) + batch_len batch
count_more batches batch =
    ap length (stored_rows-append batches (batch ∷ [])) ∙ length-append (stored_rows batches) (stored_rows (batch ∷ []))
    ∙ ap (λ (n : ℕ). length (stored_rows batches) + n) (stored_rows-one batch)

pub count_taken : (batches : List (List Column)) (i : ℕ) (batch : List Column) → i < length batches → batch ≡ get_or batches i batch
    → length (stored_rows (take (i + 1) batches)) ≡ length (stored_rows (take i batches)) + batch_len batch
count_taken batches i batch inside is =
    ap (λ (xs : List (List Column)). length (stored_rows xs))
    (take_more batches i batch inside ∙ ap (λ (x : List Column). take i batches ++ x ∷ []) (sym is))
    ∙ count_more (take i batches) batch

-- some of the batches have no more rows than all
pub count_part : (batches : List (List Column)) (i : ℕ) → length (stored_rows (take i batches)) ≤ length (stored_rows batches)
count_part batches i =
    let all : length (stored_rows batches) ≡ length (stored_rows (take i batches)) + length (stored_rows (drop i batches)) =
    ap (λ (xs : List (List Column)). length (stored_rows xs)) (sym (take-append-drop i batches))
    ∙ ap length (stored_rows-append (take i batches) (drop i batches))
    ∙ length-append (stored_rows (take i batches)) (stored_rows (drop i batches)) in
    omega arith

-- ---- batches of a schema

-- a batch that fits fields has as many columns
pub fits_width : (fields : List Field) (batch : List Column) → is_of_fields fields batch ≡ true → length batch ≡ length fields
fits_width [] [] fits = refl
fits_width [] (column ∷ columns) fits = absurd cc
fits_width (field ∷ fields) [] fits = absurd cc
fits_width (field ∷ fields) (column ∷ columns) fits =
    ap suc (fits_width fields columns (and_parts (same_type field.data_type (column_type column)) (is_of_fields fields columns) fits).1)

-- whole batches that fit a schema are those of a table
pub table_from : (schema : Schema) (batches : List (List Column)) → IsTableSchema schema → list_all is_batch batches ≡ true
    → list_all (is_of_fields schema.fields) batches ≡ true → IsTable schema batches
table_from schema batches form whole fit = record { form = form; whole = widths batches whole fit; types = fit }
  where
    widths : (batches : List (List Column)) → list_all is_batch batches ≡ true → list_all (is_of_fields schema.fields) batches ≡ true
        → AreBatches (length schema.fields) batches
    widths [] whole fit = refl
    widths (batch ∷ batches) whole fit =
        let one = and_parts (is_batch batch) (list_all is_batch batches) whole in
        let other = and_parts (is_of_fields schema.fields batch) (list_all (is_of_fields schema.fields) batches) fit in
        and_from (is_batch batch && (length batch == length schema.fields))
        (list_all (λ (batch : List Column). is_batch batch && (length batch == length schema.fields)) batches)
        (and_from (is_batch batch) (length batch == length schema.fields) one.0
        (eq-eqb (length batch) (length schema.fields) (fits_width schema.fields batch other.0))) (widths batches one.1 other.1)

-- one batch more that fits
pub table_more : (schema : Schema) (batches : List (List Column)) (batch : List Column) → IsTable schema batches → is_batch batch ≡ true
    → is_of_fields schema.fields batch ≡ true → IsTable schema (batches ++ batch ∷ [])
table_more schema batches batch table whole fits =
    let one : IsTable schema (batch ∷ []) =
    table_from schema (batch ∷ []) table.form (and_from (is_batch batch) true whole refl) (and_from
    (is_of_fields schema.fields batch) true fits refl) in
    record {
      form = table.form;
      whole = list_all-append (λ (batch : List Column). is_batch batch && (length batch == length schema.fields)) batches (batch ∷ []) table.whole
          one.whole;
      types = list_all-append (is_of_fields schema.fields) batches (batch ∷ []) table.types one.types;
    }

-- a batch of a table is whole, and has a column a field
pub batch_at : (width : ℕ) (batches : List (List Column)) (i : ℕ) (batch : List Column) → AreBatches width batches → i < length batches
    → batch ≡ get_or batches i batch → (is_batch batch ≡ true) × (length batch ≡ width)
batch_at width [] i batch are inside is = absurd (omega arith)
batch_at width (first ∷ batches) zero batch are inside is =
    let parts = and_parts (is_batch first && (length first == width))
    (list_all (λ (batch : List Column). is_batch batch && (length batch == width)) batches) are in
    let both = and_parts (is_batch first) (length first == width) parts.0 in
    (ap is_batch is ∙ both.0, ap length is ∙ eqb-true (length first) width both.1)
batch_at width (first ∷ batches) (suc i) batch are inside is =
    batch_at width batches i batch (and_parts (is_batch first && (length first == width))
    (list_all (λ (batch : List Column). is_batch batch && (length batch == width)) batches) are).1 (omega arith) is

-- ---- what a loop has gone through

-- arrays that were all looked at, and are as long as the first, are a batch
pub whole_from : (batch items : List Column) (i : ℕ) → items ≡ batch → length items ≤ i → list_all is_sound (take i items) ≡ true
    → AreAsLong itself batch → is_batch batch ≡ true
whole_from batch items i are past sound long =
    whole_batch batch (ap (list_all is_sound) (sym (take_all i items past ∙ are)) ∙ sound) long

-- where the rows of the batches so far and of one more don't fit, those of all don't
pub count_past : (batches : List (List Column)) (i rows limit : ℕ) (batch : List Column) → i < length batches → batch ≡ get_or batches i batch
    → rows ≡ length (stored_rows (take i batches)) → limit ≤ rows + batch_len batch → limit ≤ length (stored_rows batches)
count_past batches i rows limit batch inside is counted past =
    omega (arith, count_taken batches i batch inside is, count_part batches (i + 1))

pub count_next : (batches : List (List Column)) (i rows sum : ℕ) (batch : List Column) → i < length batches → batch ≡ get_or batches i batch
    → rows ≡ length (stored_rows (take i batches)) → sum ≡ rows + batch_len batch → sum ≡ length (stored_rows (take (i + 1) batches))
count_next batches i rows sum batch inside is counted more = omega (arith, count_taken batches i batch inside is)

pub count_all : (batches : List (List Column)) (i rows : ℕ) → length batches ≤ i → rows ≡ length (stored_rows (take i batches))
    → rows ≡ length (stored_rows batches)
count_all batches i rows past counted = counted ∙ ap (λ (xs : List (List Column)). length (stored_rows xs)) (take_all i batches past)
