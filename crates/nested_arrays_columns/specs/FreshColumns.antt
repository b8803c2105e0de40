-- The column that stores some slots and nothing else: what a builder stores that was pushed them. Zeros or no bytes stand under nulls,
-- offsets go from 0 on without gaps, a dictionary's values stand in the order of first use, and children are made in the same way (Arrow
-- columnar format, "Physical Memory Layout").
use Rattle.std.specs.Prelude.{ℕ, suc, ◌+◌, ℤ, pos, Bool, false, not, List, [], ◌∷◌, length, map, replicate, Option, Some, None, if◌then◌else◌}
use Rattle.std.specs.List.{flat_map, list_any}
use Rattle.columnar_memory_core.specs.declared.DataType.{DataType}
use Rattle.columnar_memory_core.specs.declared.DataType.TheOpen as layer
use Rattle.columnar_memory_core.specs.declared.DataType.TheFolds.{para-DataType}
use Rattle.columnar_memory_core.specs.declared.Field.{Field}
use Rattle.columnar_memory_core.specs.declared.PrimitiveType.{PrimitiveType}
use Rattle.columnar_memory_core.specs.declared.PrimitiveType.TheVariants as kinds
use Rattle.nested_arrays_columns.specs.Cells.{is_null}
use Rattle.nested_arrays_columns.specs.Children.{items_of, joined_items, joined_fixed_items, field_slots, dictionary_values}
use Rattle.nested_arrays_columns.specs.Kinds.{kind_of}
use Rattle.nested_arrays_columns.specs.SameSlots.{place_among}
use Rattle.nested_arrays_columns.specs.Slots.{Slot, null, truth, number, pair, triple, text, bytes}
use Rattle.nested_arrays_columns.specs.StoredColumns.{Stored, bits, numbers, pairs, triples, texts, byte_strings, fixed_bytes, Column, Columns}
use Rattle.nested_arrays_columns.specs.StoredColumns.{nulls, flat, lists, fixed_lists, records, unions, dictionary, no_column, column_then}

-- ---- what is stored of a slot

abbrev pub is_valid : Slot → Bool
is_valid slot = not (is_null slot)

abbrev pub is_true : Slot → Bool
is_true (truth b) = b
is_true _ = false

abbrev pub number_of : Slot → ℤ
number_of (number kind n) = n
number_of _ = pos 0

abbrev pub pair_of : Slot → ℤ × ℤ
pair_of (pair kind days ms) = (days, ms)
pair_of _ = (pos 0, pos 0)

abbrev pub triple_of : Slot → ℤ × ℤ × ℤ
triple_of (triple kind months days ns) = (months, days, ns)
triple_of _ = (pos 0, pos 0, pos 0)

-- the bytes of a text or of bytes; null has none
abbrev pub content_of : Slot → List ℕ
content_of (text content) = content
content_of (bytes content) = content
content_of _ = []

-- bytes of one size; zeros under a null
abbrev pub fixed_content_of : ℕ → Slot → List ℕ
fixed_content_of size (bytes content) = content
fixed_content_of size _ = replicate size 0

-- a slot's key: its place among the values, and 0 under a null
abbrev pub key_among : List Slot → Slot → ℕ
key_among values null = 0
key_among values slot = place_among slot values

-- ---- masks, offsets and values

-- a mark for each slot, where one is null; else no mask
abbrev pub mask_of : List Slot → Option (List Bool)
mask_of slots = if list_any is_null slots then Some (map is_valid slots) else None

-- the sums of the first none, one, two .. of some numbers, from a first sum on
abbrev pub sums_from : ℕ → List ℕ → List ℕ
sums_from sum [] = sum ∷ []
sums_from sum (n ∷ ns) = sum ∷ sums_from (sum + n) ns

-- where each slot's bytes begin and end, and where its items do
abbrev pub content_offsets : List Slot → List ℕ
content_offsets slots = sums_from 0 (map (λ slot. length (content_of slot)) slots)

abbrev pub item_offsets : List Slot → List ℕ
item_offsets slots = sums_from 0 (map (λ slot. length (items_of slot)) slots)

abbrev pub numbers_as : PrimitiveType → List Slot → Stored
numbers_as kinds.DaysMs slots = pairs kinds.DaysMs (map pair_of slots)
numbers_as kinds.MonthDayNano slots = triples kinds.MonthDayNano (map triple_of slots)
numbers_as kind slots = numbers kind (map number_of slots)

-- numbers of the kind that a type has, if it has one
abbrev pub numbers_of : Option PrimitiveType → List Slot → Stored
numbers_of None slots = bits []
numbers_of (Some kind) slots = numbers_as kind slots

-- the values of a type without children
abbrev pub fresh_values : {A B : Type 0} → layer.DataType-F A B → List Slot → Stored
fresh_values layer.Boolean slots = bits (map is_true slots)
fresh_values layer.Binary slots = byte_strings (content_offsets slots) (flat_map content_of slots)
fresh_values layer.LargeBinary slots = byte_strings (content_offsets slots) (flat_map content_of slots)
fresh_values layer.Utf8 slots = texts (content_offsets slots) (flat_map content_of slots)
fresh_values layer.LargeUtf8 slots = texts (content_offsets slots) (flat_map content_of slots)
fresh_values (layer.FixedSizeBinary size) slots = fixed_bytes size (flat_map (fixed_content_of size) slots)
fresh_values type_layer slots = numbers_of (kind_of type_layer) slots

-- ---- columns

-- what makes a column of some slots
abbrev pub Maker : Type 0
Maker = List Slot → Column

-- the same under the whole type, which is an extension around what is stored or that itself
abbrev pub MakerUnder : Type 0
MakerUnder = DataType → Maker

-- a column for each field, from field k on
abbrev pub fresh_fields : List (Field × Maker) → List Slot → ℕ → Columns
fresh_fields [] slots k = no_column
fresh_fields (field ∷ more) slots k = column_then (field.1 (field_slots slots k)) (fresh_fields more slots (suc k))

abbrev pub fresh_lists : DataType → Maker → Maker
fresh_lists whole item slots = lists whole (mask_of slots) (item_offsets slots) (item (joined_items slots))

abbrev pub fresh_keys : DataType → Maker → Maker
fresh_keys whole value slots =
    dictionary whole (mask_of slots) (map (λ slot. pos (key_among (dictionary_values slots) slot)) slots) (value (dictionary_values slots))

-- One layer of a type, where each type below stands as what makes its columns. The slots of a union do not say where its children's stand,
-- so none is stored.
abbrev pub fresh_step : layer.DataType-F (DataType × MakerUnder) (Field × Maker) → MakerUnder
fresh_step layer.Null whole slots = nulls whole (length slots)
fresh_step (layer.List item) whole slots = fresh_lists whole item.1 slots
fresh_step (layer.LargeList item) whole slots = fresh_lists whole item.1 slots
fresh_step (layer.Map entry is_sorted) whole slots = fresh_lists whole entry.1 slots
fresh_step (layer.FixedSizeList item size) whole slots = fixed_lists whole (mask_of slots) size (item.1 (joined_fixed_items size slots))
fresh_step (layer.Struct children) whole slots = records whole (mask_of slots) (length slots) (fresh_fields children slots 0)
fresh_step (layer.Union children ids mode) whole slots = unions whole [] None no_column
fresh_step (layer.Dictionary key value is_ordered) whole slots = fresh_keys whole (value.1 value.0) slots
fresh_step (layer.Extension name inner metadata) whole slots = inner.1 whole slots
fresh_step type_layer whole slots = flat whole (mask_of slots) (fresh_values type_layer slots)

abbrev pub fresh_field_step : layer.Field-F (DataType × MakerUnder) (Field × Maker) → Maker
fresh_field_step field slots = field.data_type.1 field.data_type.0 slots

abbrev pub fresh_under : DataType → MakerUnder
fresh_under = para-DataType MakerUnder Maker fresh_step fresh_field_step

-- the column of a type that stores some slots
abbrev pub fresh : DataType → Maker
fresh data_type = fresh_under data_type data_type
