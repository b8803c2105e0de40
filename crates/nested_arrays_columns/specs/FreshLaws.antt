-- What holds of the column that stores some slots, where they fit its type.
use Rattle.std.specs.Prelude.{◌≡◌, Bool, true, false, ◌&&◌, List, length, map, nat_le}
use Rattle.std.specs.List.{list_all}
use Rattle.columnar_memory_core.specs.declared.DataType.{DataType}
use Rattle.columnar_memory_core.specs.declared.DataType.TheOpen as layer
use Rattle.columnar_memory_core.specs.declared.DataType.TheFolds.{para-DataType}
use Rattle.columnar_memory_core.specs.declared.DataType.TheViews.{out-DataType}
use Rattle.columnar_memory_core.specs.declared.Field.{Field}
use Rattle.nested_arrays_columns.specs.FreshColumns.{fresh}
use Rattle.nested_arrays_columns.specs.OpenBatch.{fits}
use Rattle.nested_arrays_columns.specs.Rows.{columns_of_rows, columns_fit, batch_of_rows}
use Rattle.nested_arrays_columns.specs.Slots.{Slot}
use Rattle.nested_arrays_columns.specs.SoundColumns.{is_sound, is_entry}
use Rattle.nested_arrays_columns.specs.StoredColumns.{column_len, column_type, slots}

-- One layer of a type, where each type below stands as its answer: no float and no union, sizes of one at least, a struct with a field, a
-- map of structs of two.
abbrev pub buildable_step : layer.DataType-F (DataType × Bool) (Field × Bool) → Bool
buildable_step layer.Float16 = false
buildable_step layer.Float32 = false
buildable_step layer.Float64 = false
buildable_step (layer.FixedSizeBinary size) = nat_le 1 size
buildable_step (layer.List item) = item.1
buildable_step (layer.LargeList item) = item.1
buildable_step (layer.FixedSizeList item size) = nat_le 1 size && item.1
buildable_step (layer.Map entry is_sorted) = is_entry (out-DataType entry.0.data_type) && entry.1
buildable_step (layer.Struct children) = nat_le 1 (length children) && list_all (λ (child : Field × Bool). child.1) children
buildable_step (layer.Union children ids mode) = false
buildable_step (layer.Dictionary key value is_ordered) = value.1
buildable_step (layer.Extension name inner metadata) = inner.1
buildable_step _ = true

-- whether slots of a type are stored as they come
abbrev pub is_buildable : DataType → Bool
is_buildable = para-DataType Bool Bool buildable_step (λ field. field.data_type.1)

-- it has the type, a slot for each, and these slots
abbrev pub FreshTypes : Type 0
FreshTypes = (data_type : DataType) (some : List Slot) → column_type (fresh data_type some) ≡ data_type

abbrev pub FreshLengths : Type 0
FreshLengths = (data_type : DataType) (some : List Slot) → is_buildable data_type ≡ true → fits data_type some ≡ true
    → column_len (fresh data_type some) ≡ length some

abbrev pub FreshSlots : Type 0
FreshSlots = (data_type : DataType) (some : List Slot) → is_buildable data_type ≡ true → fits data_type some ≡ true
    → slots (fresh data_type some) ≡ some

-- it is sound
abbrev pub FreshIsSound : Type 0
FreshIsSound = (data_type : DataType) (some : List Slot) → is_buildable data_type ≡ true → fits data_type some ≡ true
    → is_sound (fresh data_type some) ≡ true

-- each of several fields has a type of which slots are stored as they come
abbrev pub are_buildable : List Field → Bool
are_buildable schema_fields = list_all (λ (field : Field). is_buildable field.data_type) schema_fields

-- where the columns of some rows fit, the columns that a batch of these rows becomes have their slots, and are sound
abbrev pub BatchesOfRows : Type 0
BatchesOfRows = (schema_fields : List Field) (rows : List (List Slot)) → are_buildable schema_fields ≡ true
    → columns_fit schema_fields (columns_of_rows schema_fields rows) ≡ true
    → (map slots (batch_of_rows schema_fields rows) ≡ columns_of_rows schema_fields rows)
    × (list_all is_sound (batch_of_rows schema_fields rows) ≡ true)
