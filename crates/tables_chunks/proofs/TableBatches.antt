-- What is made of a table's batches fits the schema that is made of the table's.
use Rattle.std.proofs.Common.{◌≡◌, ◌∙◌, ℕ, zero, suc, ◌+◌, ◌-◌, ◌≤◌, ◌<◌, min, true, false, Bool, List, [], ◌∷◌, length}
use Rattle.std.proofs.Common.{refl, sym, ap, ap₂, arith, ◌&&◌, ◌==◌, nat_lt, if◌then◌else◌}
use Rattle.std.specs.Prelude.{Option, Some, None, slice_get}
use Rattle.std.specs.List.{list_all, cons_option}
use Rattle.std.proofs.lemmas.Bool.{and_parts, and_from, ltb-true}
use Rattle.std.proofs.lemmas.List.{length-map}
use Rattle.columnar_memory_types.specs.Equality.{same_type}
use Rattle.columnar_memory_types.specs.declared.data_type.Field.{Field}
use Rattle.columnar_memory_types.specs.declared.schema.Schema.{Schema}
use Rattle.ipc_format.specs.columns.Slots.{Slot}
use Rattle.ipc_format.specs.columns.StoredColumns.{Column, column_type}
use Rattle.ipc_format.specs.columns.Tables.{chosen, part, choice}
use Rattle.ipc_format.proofs.Cuts.{column_type-cut}
use Rattle.ipc_format.proofs.Windows.{length-cut_list}
use Rattle.tables_chunks.specs.Batches.{batch_len, is_batch, stored_rows, cut_batch, cut_batches, choose_batches}
use Rattle.tables_chunks.proofs.ChosenBatches.{choices_have_columns}
use Rattle.tables_chunks.proofs.CutBatches.{cuts_have_parts}
use Rattle.tables_chunks.specs.Choices.{are_below, IsChoice}
use Rattle.tables_chunks.specs.StoredTables.{Stored, IsTable, as_table, is_of_fields, row_count}
use Rattle.tables_chunks.specs.TableSchemas.{IsTableSchema}
use Rattle.tables_chunks.proofs.ChosenSchemas.{chosen_schemas_are_written}
use Rattle.tables_chunks.specs.TableParts.{cut_table, choose_columns}

-- ---- parts

cut_fits : (fields : List Field) (batch : List Column) (o n : ℕ) → is_of_fields fields (cut_batch o n batch) ≡ is_of_fields fields batch
cut_fits [] [] o n = refl
cut_fits [] (column ∷ columns) o n = refl
cut_fits (field ∷ fields) [] o n = refl
cut_fits (field ∷ fields) (column ∷ columns) o n =
    ap₂ (λ (a b : Bool). a && b) (ap (same_type field.data_type) (column_type-cut column o n)) (cut_fits fields columns o n)

cuts_fit : (fields : List Field) (batches : List (List Column)) (o n : ℕ) → list_all (is_of_fields fields) batches ≡ true
    → list_all (is_of_fields fields) (cut_batches o n batches) ≡ true
cuts_fit fields [] o n fit = refl
cuts_fit fields (batch ∷ batches) o n fit =
    let parts = and_parts (is_of_fields fields batch) (list_all (is_of_fields fields) batches) fit in
    let taken : ℕ = min n (batch_len batch - o) in
    by_test fields (cut_batch o taken batch) (cut_batches (o - batch_len batch) n batches) (cut_batches (o - batch_len batch) (n - taken) batches)
    (taken == 0) (cut_fits fields batch o taken ∙ parts.0) (cuts_fit fields batches (o - batch_len batch) n parts.1)
    (cuts_fit fields batches (o - batch_len batch) (n - taken) parts.1)
  where
    by_test : (fields : List Field) (window : List Column) (others left : List (List Column)) (test : Bool)
        → is_of_fields fields window ≡ true → list_all (is_of_fields fields) others ≡ true → list_all (is_of_fields fields) left ≡ true
        → list_all (is_of_fields fields) (if test then others else window ∷ left) ≡ true
    by_test fields window others left true here passed taken = passed
    by_test fields window others left false here passed taken =
        and_from (is_of_fields fields window) (list_all (is_of_fields fields) left) here taken

-- a cut of a table's batches is a table's, of as many rows as were asked for, which are the part of the table's
pub cut_is_table : (schema : Schema) (batches : List (List Column)) (o n : ℕ) → IsTable schema batches → o + n ≤ length (stored_rows batches)
    → IsTable schema (cut_batches o n batches)
cut_is_table schema batches o n table within = record {
  form = table.form;
  whole = (cuts_have_parts (length schema.fields) o n batches table.whole within).1;
  types = cuts_fit schema.fields batches o n table.types;
}

pub cut_count : (schema : Schema) (batches : List (List Column)) (o n : ℕ) → IsTable schema batches → o + n ≤ length (stored_rows batches)
    → n ≡ length (stored_rows (cut_batches o n batches))
cut_count schema batches o n table within =
    sym (ap length (cuts_have_parts (length schema.fields) o n batches table.whole within).0
    ∙ length-cut_list (stored_rows batches) o n within)

pub cut_is_part : (table : Stored) (o n : ℕ) → IsTable table.schema table.batches → o + n ≤ row_count table
    → as_table (cut_table o n table) ≡ part o n (as_table table)
cut_is_part table o n is within =
    ap (λ (rows : List (List Slot)). record { schema = table.schema; rows = rows })
    (cuts_have_parts (length table.schema.fields) o n table.batches is.whole within).0

-- ---- choices

-- where a batch fits fields, there is a field and a column of its type at each place below their number
record IsFieldAt (fields : List Field) (batch : List Column) (k : ℕ) : Type 0 where
  field : Field
  column : Column
  field_is : slice_get fields k ≡ Some field
  column_is : slice_get batch k ≡ Some column
  same : same_type field.data_type (column_type column) ≡ true

field_at : (fields : List Field) (batch : List Column) (k : ℕ) → is_of_fields fields batch ≡ true → k < length fields
    → IsFieldAt fields batch k
field_at [] batch k fits inside = absurd (omega arith)
field_at (field ∷ fields) [] k fits inside = absurd cc
field_at (field ∷ fields) (column ∷ columns) zero fits inside = record {
  field = field;
  column = column;
  field_is = refl;
  column_is = refl;
  same = (and_parts (same_type field.data_type (column_type column)) (is_of_fields fields columns) fits).0;
}
field_at (field ∷ fields) (column ∷ columns) (suc k) fits inside =
    let others = (and_parts (same_type field.data_type (column_type column)) (is_of_fields fields columns) fits).1 in
    let found = field_at fields columns k others (omega arith) in
    record {
      field = found.field;
      column = found.column;
      field_is = found.field_is;
      column_is = found.column_is;
      same = found.same;
    }

choice_fits : (fields : List Field) (batch : List Column) (ks : List ℕ) → is_of_fields fields batch ≡ true
    → are_below (length fields) ks ≡ true → is_of_fields (chosen ks fields) (chosen ks batch) ≡ true
choice_fits fields batch [] fits below = refl
choice_fits fields batch (k ∷ ks) fits below =
    let parts = and_parts (nat_lt k (length fields)) (are_below (length fields) ks) below in
    let found = field_at fields batch k fits (ltb-true k (length fields) parts.0) in
    ap₂ (λ (field : Option Field) (column : Option Column).
    is_of_fields (cons_option field (chosen ks fields)) (cons_option column (chosen ks batch))) found.field_is found.column_is
    ∙ and_from (same_type found.field.data_type (column_type found.column)) (is_of_fields (chosen ks fields) (chosen ks batch)) found.same
    (choice_fits fields batch ks fits parts.1)

choices_fit : (fields : List Field) (k : ℕ) (ks : List ℕ) (batches : List (List Column)) → list_all (is_of_fields fields) batches ≡ true
    → are_below (length fields) (k ∷ ks) ≡ true → list_all (is_of_fields (chosen (k ∷ ks) fields)) (choose_batches (k ∷ ks) batches) ≡ true
choices_fit fields k ks [] fit below = refl
choices_fit fields k ks (batch ∷ batches) fit below =
    let parts = and_parts (is_of_fields fields batch) (list_all (is_of_fields fields) batches) fit in
    and_from (is_of_fields (chosen (k ∷ ks) fields) (chosen (k ∷ ks) batch))
    (list_all (is_of_fields (chosen (k ∷ ks) fields)) (choose_batches (k ∷ ks) batches)) (choice_fits fields batch (k ∷ ks) parts.0 below)
    (choices_fit fields k ks batches parts.1 below)

-- where there is an element at each place, as many are chosen as were asked for
pub length-chosen : {A : Type 0} (xs : List A) (ks : List ℕ) → are_below (length xs) ks ≡ true → length (chosen ks xs) ≡ length ks
length-chosen xs [] below = refl
length-chosen {A} xs (k ∷ ks) below =
    let parts = and_parts (nat_lt k (length xs)) (are_below (length xs) ks) below in
    one_more (slice_get xs k) (some_at xs k (ltb-true k (length xs) parts.0)) ∙ ap suc (length-chosen xs ks parts.1)
  where
    some_at : (xs : List A) (k : ℕ) → k < length xs → (x : A) × (slice_get xs k ≡ Some x)
    some_at [] k inside = absurd (omega arith)
    some_at (x ∷ xs) zero inside = (x, refl)
    some_at (x ∷ xs) (suc k) inside = some_at xs k (omega arith)

    nothing : (x : A) → None ≡ Some x → ⊥
    nothing x e = absurd cc

    one_more : (found : Option A) → (x : A) × (found ≡ Some x) → length (cons_option found (chosen ks xs)) ≡ suc (length (chosen ks xs))
    one_more (Some x) is = refl
    one_more None is = absurd (nothing is.0 is.1)

-- the schema of chosen fields is that of a table, where the whole schema is
pub choice_form : (schema : Schema) (ks : List ℕ) → IsTableSchema schema → IsChoice (length schema.fields) ks
    → IsTableSchema (record schema { fields = chosen ks schema.fields })
choice_form schema ks form is =
    let picked = chosen_schemas_are_written schema ks form.writable form.normal is.distinct is.below in
    record { writable = picked.0; normal = picked.1 }

-- a choice of a table's batches is a table's, under the chosen fields
pub choice_is_table : (schema : Schema) (batches : List (List Column)) (ks : List ℕ) → IsTable schema batches
    → IsChoice (length schema.fields) ks → IsTable (record schema { fields = chosen ks schema.fields }) (choose_batches ks batches)
choice_is_table schema batches [] table is = record { form = choice_form schema [] table.form is; whole = refl; types = refl }
choice_is_table schema batches (k ∷ ks) table is = record {
  form = choice_form schema (k ∷ ks) table.form is;
  whole = ap (λ width. list_all (λ (batch : List Column). is_batch batch && (length batch == width)) (choose_batches (k ∷ ks) batches))
      (length-chosen schema.fields (k ∷ ks) is.below)
      ∙ (choices_have_columns (length schema.fields) k ks batches table.whole is.below).1;
  types = choices_fit schema.fields k ks batches table.types is.below;
}

-- and has as many rows, where a column is chosen
pub choice_count : (schema : Schema) (batches : List (List Column)) (k : ℕ) (ks : List ℕ) → IsTable schema batches
    → IsChoice (length schema.fields) (k ∷ ks) → length (stored_rows batches) ≡ length (stored_rows (choose_batches (k ∷ ks) batches))
choice_count schema batches k ks table is =
    sym (ap length (choices_have_columns (length schema.fields) k ks batches table.whole is.below).0
    ∙ length-map (stored_rows batches) (chosen (k ∷ ks)))

pub choice_is_choice : (table : Stored) (ks : List ℕ) → IsTable table.schema table.batches → IsChoice (length table.schema.fields) ks
    → as_table (choose_columns ks table) ≡ choice ks (as_table table)
choice_is_choice table [] is chooses = refl
choice_is_choice table (k ∷ ks) is chooses =
    ap (λ (rows : List (List Slot)). record { schema = record table.schema { fields = chosen (k ∷ ks) table.schema.fields }; rows = rows })
    (choices_have_columns (length table.schema.fields) k ks table.batches is.whole chooses.below).0
