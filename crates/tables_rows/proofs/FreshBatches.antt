-- The batch that some rows become: its columns have the types of their fields, and are as long as the rows.
use Rattle.std.proofs.Common.{◌≡◌, ◌∙◌, ℕ, ◌+◌, true, false, List, [], ◌∷◌, length, map, refl, sym, ap, subst}
use Rattle.std.specs.List.{list_all}
use Rattle.std.proofs.lemmas.Bool.{and_from}
use Rattle.columnar_memory_types.specs.Equality.{same_type, same_type-Decides}
use Rattle.tables_chunks.specs.ipc_format.columnar_memory.declared.DataType.{DataType, map-DataType}
use Rattle.tables_chunks.specs.ipc_format.columnar_memory.declared.DataType.TheOpen as layer
use Rattle.tables_chunks.specs.ipc_format.columnar_memory.declared.DataType.TheFolds.{para-Field, para-roll-DataType, ind-DataType}
use Rattle.tables_chunks.specs.ipc_format.columnar_memory.declared.DataType.TheViews.{roll-DataType}
use Rattle.tables_chunks.specs.ipc_format.columnar_memory.declared.Field.{Field}
use Rattle.tables_chunks.specs.ipc_format.columnar_memory.declared.IntervalUnit.TheVariants as intervals
use Rattle.tables_chunks.specs.ipc_format.columns.FreshColumns.{Maker, MakerUnder, fresh_step, fresh_field_step, fresh_under, fresh}
use Rattle.tables_chunks.specs.ipc_format.columns.FreshLaws.{is_buildable}
use Rattle.tables_chunks.specs.ipc_format.columns.OpenBatch.{fits}
use Rattle.tables_chunks.specs.ipc_format.columns.Rows.{column_of_rows, fresh_columns, batch_of_rows}
use Rattle.tables_chunks.specs.ipc_format.columns.Slots.{Slot, window}
use Rattle.tables_chunks.specs.ipc_format.columns.StoredColumns.{column_len, column_type}
use Rattle.tables_chunks.specs.ipc_format.Schemas.{no_ids}
use Rattle.tables_chunks.specs.ipc_format.WrittenStreams.{Batch, batch_of_slots, batch_of_stored}
use Rattle.tables_chunks.specs.StoredTables.{is_of_fields}
use Rattle.tables_chunks.proofs.ipc_format_lemmas.Claims.{LayerWith, NoClaim, bare_layer}
use Rattle.tables_chunks.proofs.ipc_format_lemmas.FreshBatches.{rows_encode}

-- ---- types

abbrev Layer : Type 0
Layer = layer.DataType-F DataType Field

abbrev fresh_layer : Layer → MakerUnder
fresh_layer x = fresh_step (map-DataType DataType Field (DataType × MakerUnder) (Field × Maker) (λ t. (t, fresh_under t))
    (λ u. (u, para-Field MakerUnder Maker fresh_step fresh_field_step u)) x)

abbrev HasType : DataType → Type 0
HasType t = (whole : DataType) (xs : List Slot) → column_type (fresh_under t whole xs) ≡ whole

at_roll : (x : Layer) → ((whole : DataType) (xs : List Slot) → column_type (fresh_layer x whole xs) ≡ whole) → HasType (roll-DataType x)
at_roll x h = rw (para-roll-DataType MakerUnder Maker fresh_step fresh_field_step x) h

type_step : (y : LayerWith HasType NoClaim) → HasType (roll-DataType (bare_layer HasType NoClaim y))
type_step (layer.Extension name inner metadata) = at_roll (layer.Extension name inner.0 metadata) inner.1
type_step (layer.Interval intervals.YearMonth) = at_roll (layer.Interval intervals.YearMonth) (λ whole xs. refl)
type_step (layer.Interval intervals.DayTime) = at_roll (layer.Interval intervals.DayTime) (λ whole xs. refl)
type_step (layer.Interval intervals.MonthDayNano) = at_roll (layer.Interval intervals.MonthDayNano) (λ whole xs. refl)
type_step y = at_roll (bare_layer HasType NoClaim y) (λ whole xs. refl)

-- the column that stores some slots has the type that it was made for
fresh_type : (t : DataType) → HasType t
fresh_type = ind-DataType HasType NoClaim (λ x y is. subst (λ (x : Layer). HasType (roll-DataType x)) is (type_step y)) (λ x y is. tt)

columns_typed : (us : List Field) (column : ℕ → List Slot) (k : ℕ)
    → is_of_fields us (fresh_columns us (window column k (length us))) ≡ true
columns_typed [] column k = refl
columns_typed (u ∷ us) column k =
    let t = u.data_type in
    let here : same_type t (column_type (fresh t (column k))) ≡ true =
    ap (same_type t) (fresh_type t t (column k)) ∙ (same_type-Decides t t).1 refl in
    and_from (same_type t (column_type (fresh t (column k)))) (is_of_fields us (fresh_columns us (window column (k + 1) (length us)))) here
    (columns_typed us column (k + 1))

-- each batch has a column a field, of its field's type
pub groups_typed : (us : List Field) (groups : List (List (List Slot))) → list_all (is_of_fields us) (map (batch_of_rows us) groups) ≡ true
groups_typed us [] = refl
groups_typed us (group ∷ groups) =
    and_from (is_of_fields us (batch_of_rows us group)) (list_all (is_of_fields us) (map (batch_of_rows us) groups))
    (columns_typed us (column_of_rows group) 0) (groups_typed us groups)

-- ---- lengths

-- rows of one value each
abbrev rows_of_one : List Slot → List (List Slot)
rows_of_one xs = map (λ (x : Slot). x ∷ []) xs

one_column : (xs : List Slot) → column_of_rows (rows_of_one xs) 0 ≡ xs
one_column [] = refl
one_column (x ∷ xs) = ap (λ others. x ∷ others) (one_column xs)

abbrev field_of : DataType → Field
field_of t = record { name = []; data_type = t; is_nullable = false; metadata = [] }

-- the column that stores some slots has as many, where they fit its type
pub fresh_length : (t : DataType) (xs : List Slot) → is_buildable t ≡ true → fits t xs ≡ true → column_len (fresh t xs) ≡ length xs
unfolding batch_of_stored batch_of_slots
fresh_length t xs can fit =
    let us = field_of t ∷ [] in
    let same = rows_encode us no_ids (rows_of_one xs) (and_from (is_buildable t) true can refl)
    (and_from (fits t (column_of_rows (rows_of_one xs) 0)) true (ap (fits t) (one_column xs) ∙ fit) refl) in
    ap (λ ys. column_len (fresh t ys)) (sym (one_column xs)) ∙ ap (λ (batch : Batch). batch.rows) same ∙ ap length (one_column xs)
