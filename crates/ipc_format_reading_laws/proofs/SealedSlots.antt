-- Slots that fit a type name no type that has another form, and what is read of the columns of rows are these columns.
use Rattle.std.proofs.Common.{◌≡◌, ◌∙◌, ℕ, ◌+◌, Bool, true, List, [], ◌∷◌, length, map, refl, ap}
use Rattle.std.specs.Prelude.{◌==◌}
use Rattle.std.specs.List.{list_all}
use Rattle.std.proofs.lemmas.Bool.{and_parts, false≢true}
use Rattle.ipc_format_laws.specs.columnar_memory.declared.DataType.{DataType, map-DataType}
use Rattle.ipc_format_laws.specs.columnar_memory.declared.DataType.TheOpen as layer
use Rattle.ipc_format_laws.specs.columnar_memory.declared.Field.{Field}
use Rattle.ipc_format_laws.specs.columnar_memory.declared.IntervalUnit.TheVariants as intervals
use Rattle.ipc_format_laws.specs.columnar_memory.declared.PrimitiveType.{PrimitiveType}
use Rattle.ipc_format_laws.specs.columnar_memory.declared.PrimitiveType.TheVariants as kinds
use Rattle.ipc_format_laws.specs.columns.Cells.{is_null, is_truth, is_number_of, is_days_and_ms, is_months_days_and_ns, is_text, is_bytes, is_bytes_of}
use Rattle.ipc_format_laws.specs.columns.Cells.{is_list_of, is_list_of_size, fit_each, is_record_of, fits_step, fits_cell}
use Rattle.ipc_format_laws.specs.columns.FreshLaws.{is_buildable, are_buildable}
use Rattle.ipc_format_laws.specs.columns.OpenBatch.{is_within, fits}
use Rattle.ipc_format_laws.specs.columns.Rows.{column_of_rows, columns_of_rows, columns_fit, fresh_columns, batch_of_rows}
use Rattle.ipc_format_laws.specs.columns.Slots.{Slot, Slots, null, truth, number, pair, triple, text, bytes, items, fields, no_slot, slot_then}
use Rattle.ipc_format_laws.specs.columns.Slots.{slot_list, window}
use Rattle.ipc_format_laws.proofs.columns_lemmas.Folds.{fold_keeps}
use Rattle.ipc_format_laws.proofs.columns_lemmas.FreshSlots.{fresh_slots}
use Rattle.ipc_format_reading_laws.specs.NormalColumns.{normal_slot, normal_slots}
use Rattle.ipc_format_reading_laws.specs.StoredTables.{read_slots, read_batches}

-- ---- slots that pass a test are normal

abbrev Keeps : (Slot → Bool) → Type 0
Keeps test = (slot : Slot) → test slot ≡ true → normal_slot slot ≡ slot

null_keeps : Keeps is_null
null_keeps null h = refl
null_keeps _ h = absurd (false≢true h)

truth_keeps : Keeps is_truth
truth_keeps null h = refl
truth_keeps (truth b) h = refl
truth_keeps _ h = absurd (false≢true h)

number_keeps : (kind : PrimitiveType) → Keeps (is_number_of kind)
number_keeps kind null h = refl
number_keeps kind (number own n) h = refl
number_keeps kind _ h = absurd (false≢true h)

days_keep : Keeps is_days_and_ms
days_keep null h = refl
days_keep (pair own days ms) h = refl
days_keep _ h = absurd (false≢true h)

months_keep : Keeps is_months_days_and_ns
months_keep null h = refl
months_keep (triple own months days ns) h = refl
months_keep _ h = absurd (false≢true h)

text_keeps : Keeps is_text
text_keeps null h = refl
text_keeps (text content) h = refl
text_keeps _ h = absurd (false≢true h)

bytes_keep : Keeps is_bytes
bytes_keep null h = refl
bytes_keep (bytes content) h = refl
bytes_keep _ h = absurd (false≢true h)

sized_bytes_keep : (size : ℕ) → Keeps (is_bytes_of size)
sized_bytes_keep size null h = refl
sized_bytes_keep size (bytes content) h = refl
sized_bytes_keep size _ h = absurd (false≢true h)

each_keeps : (test : Slot → Bool) → Keeps test → (slots : Slots) → list_all test (slot_list slots) ≡ true → normal_slots slots ≡ slots
each_keeps test keeps no_slot h = refl
each_keeps test keeps (slot_then slot slots) h =
    let parts = and_parts (test slot) (list_all test (slot_list slots)) h in
    λ j. slot_then (keeps slot parts.0 j) (each_keeps test keeps slots parts.1 j)

list_keeps : (test : Slot → Bool) → Keeps test → Keeps (is_list_of test)
list_keeps test keeps null h = refl
list_keeps test keeps (items slots) h = ap items (each_keeps test keeps slots h)
list_keeps test keeps _ h = absurd (false≢true h)

sized_list_keeps : (size : ℕ) (test : Slot → Bool) → Keeps test → Keeps (is_list_of_size size test)
sized_list_keeps size test keeps null h = refl
sized_list_keeps size test keeps (items slots) h =
    ap items (each_keeps test keeps slots (and_parts (length (slot_list slots) == size) (list_all test (slot_list slots)) h).1)
sized_list_keeps size test keeps _ h = absurd (false≢true h)

abbrev Kept : Type 0
Kept = (test : Slot → Bool) × Keeps test

fields_keep : (tests : List Kept) (slots : Slots) → fit_each (map (λ e. e.0) tests) slots ≡ true → normal_slots slots ≡ slots
fields_keep [] no_slot h = refl
fields_keep [] (slot_then slot slots) h = absurd (false≢true h)
fields_keep (test ∷ tests) no_slot h = absurd (false≢true h)
fields_keep (test ∷ tests) (slot_then slot slots) h =
    let parts = and_parts (test.0 slot) (fit_each (map (λ (e : Kept). e.0) tests) slots) h in
    λ j. slot_then (test.1 slot parts.0 j) (fields_keep tests slots parts.1 j)

record_keeps : (tests : List Kept) → Keeps (is_record_of (map (λ e. e.0) tests))
record_keeps tests null h = refl
record_keeps tests (fields slots) h = ap fields (fields_keep tests slots h)
record_keeps tests _ h = absurd (false≢true h)

step_keeps : (z : layer.DataType-F Kept Kept) → Keeps (fits_step (map-DataType Kept Kept (Slot → Bool) (Slot → Bool) (λ e. e.0) (λ e. e.0) z))
step_keeps layer.Boolean = truth_keeps
step_keeps layer.Int8 = number_keeps kinds.Int8
step_keeps layer.Int16 = number_keeps kinds.Int16
step_keeps layer.Int32 = number_keeps kinds.Int32
step_keeps layer.Int64 = number_keeps kinds.Int64
step_keeps layer.UInt8 = number_keeps kinds.UInt8
step_keeps layer.UInt16 = number_keeps kinds.UInt16
step_keeps layer.UInt32 = number_keeps kinds.UInt32
step_keeps layer.UInt64 = number_keeps kinds.UInt64
step_keeps (layer.Timestamp unit timezone) = number_keeps kinds.Int64
step_keeps layer.Date32 = number_keeps kinds.Int32
step_keeps layer.Date64 = number_keeps kinds.Int64
step_keeps (layer.Time32 unit) = number_keeps kinds.Int32
step_keeps (layer.Time64 unit) = number_keeps kinds.Int64
step_keeps (layer.Duration unit) = number_keeps kinds.Int64
step_keeps (layer.Interval intervals.YearMonth) = number_keeps kinds.Int32
step_keeps (layer.Interval intervals.DayTime) = days_keep
step_keeps (layer.Interval intervals.MonthDayNano) = months_keep
step_keeps (layer.Decimal precision scale) = number_keeps kinds.Int128
step_keeps (layer.Decimal256 precision scale) = number_keeps kinds.Int256
step_keeps layer.Utf8 = text_keeps
step_keeps layer.LargeUtf8 = text_keeps
step_keeps layer.Binary = bytes_keep
step_keeps layer.LargeBinary = bytes_keep
step_keeps (layer.FixedSizeBinary size) = sized_bytes_keep size
step_keeps (layer.List item) = list_keeps item.0 item.1
step_keeps (layer.LargeList item) = list_keeps item.0 item.1
step_keeps (layer.FixedSizeList item size) = sized_list_keeps size item.0 item.1
step_keeps (layer.Struct children) = record_keeps children
step_keeps (layer.Dictionary key value is_ordered) = value.1
step_keeps (layer.Extension name inner metadata) = inner.1
step_keeps _ = null_keeps

pub cell_normal : (t : DataType) → Keeps (fits_cell t)
cell_normal = fold_keeps fits_step (λ field. field.data_type) Keeps Keeps step_keeps (λ z. z.data_type.1)

-- ---- columns

column_normal : (t : DataType) (column : List Slot) → list_all (fits_cell t) column ≡ true → map normal_slot column ≡ column
column_normal t [] h = refl
column_normal t (slot ∷ column) h =
    let parts = and_parts (fits_cell t slot) (list_all (fits_cell t) column) h in
    λ j. cell_normal t slot parts.0 j ∷ column_normal t column parts.1 j

columns_read : (us : List Field) (column : ℕ → List Slot) (k : ℕ) → are_buildable us ≡ true → columns_fit us (window column k (length us)) ≡ true
    → map read_slots (fresh_columns us (window column k (length us))) ≡ window column k (length us)
columns_read [] column k can fit = refl
columns_read (u ∷ us) column k can fit =
    let cans = and_parts (is_buildable u.data_type) (are_buildable us) can in
    let fitting = and_parts (fits u.data_type (column k)) (columns_fit us (window column (k + 1) (length us))) fit in
    let cells = (and_parts (list_all (fits_cell u.data_type) (column k)) (is_within u.data_type (column k)) fitting.0).0 in
    let here = ap (map normal_slot) (fresh_slots u.data_type (column k) cans.0 fitting.0) ∙ column_normal u.data_type (column k) cells in
    let rest = columns_read us column (k + 1) cans.1 fitting.1 in
    λ j. here j ∷ rest j

-- what is read of the columns that batches of rows become is the columns of these rows
pub batches_read : (us : List Field) (groups : List (List (List Slot))) → are_buildable us ≡ true
    → list_all (λ group. columns_fit us (columns_of_rows us group)) groups ≡ true
    → read_batches (map (batch_of_rows us) groups) ≡ map (columns_of_rows us) groups
batches_read us [] can fit = refl
batches_read us (group ∷ groups) can fit =
    let parts = and_parts (columns_fit us (columns_of_rows us group)) (list_all (λ group. columns_fit us (columns_of_rows us group)) groups) fit in
    let here = columns_read us (column_of_rows group) 0 can parts.0 in
    let rest = batches_read us groups can parts.1 in
    λ j. here j ∷ rest j
