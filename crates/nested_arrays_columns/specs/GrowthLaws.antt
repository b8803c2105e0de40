-- What the column of slots with one more stores, and when they fit where the others do.
use Rattle.std.specs.Prelude.{◌≡◌, ℕ, ◌+◌, pos, Bool, true, ◌&&◌, ◌||◌, List, [], ◌∷◌, ◌++◌, length, map, nat_le, Some}
use Rattle.nested_arrays_columns.specs.columnar_memory.declared.DataType.{DataType}
use Rattle.nested_arrays_columns.specs.columnar_memory.declared.DataType.TheOpen as layer
use Rattle.nested_arrays_columns.specs.columnar_memory.declared.Field.{Field}
use Rattle.nested_arrays_columns.specs.columnar_memory.declared.IntegerType.{IntegerType}
use Rattle.nested_arrays_columns.specs.columnar_memory.declared.PhysicalType.TheVariants as physical
use Rattle.nested_arrays_columns.specs.columnar_memory.declared.PrimitiveType.{PrimitiveType}
use Rattle.nested_arrays_columns.specs.columnar_memory.Layouts.{physical_type}
use Rattle.nested_arrays_columns.specs.Cells.{is_null}
use Rattle.nested_arrays_columns.specs.Children.{items_of, fixed_items_of, joined_items, joined_fixed_items, dictionary_values}
use Rattle.nested_arrays_columns.specs.FreshColumns.{is_valid, key_among, item_offsets, fresh}
use Rattle.nested_arrays_columns.specs.Kinds.{most_slots, most_values}
use Rattle.nested_arrays_columns.specs.OpenBatch.{most_short, most_long, fits}
use Rattle.nested_arrays_columns.specs.Rows.{columns_fit, fresh_columns}
use Rattle.nested_arrays_columns.specs.SameSlots.{is_among}
use Rattle.nested_arrays_columns.specs.Slots.{Slot}
use Rattle.nested_arrays_columns.specs.StoredColumns.{lists, fixed_lists, records, dictionary, in_columns, type_layer}
use Rattle.nested_arrays_columns.specs.OpenParts.{marks_of, mask_from, item_of, is_list, is_list_sized, is_record_sized, is_of_kind}
use Rattle.nested_arrays_columns.specs.OpenParts.{slots_of_fields, fields_of_slot, pushed_each, grown_values, keys_among}

-- ---- what is stored

abbrev pub ListsGrow : Type 0
ListsGrow = (t : DataType) (item : Field) → item_of (type_layer t) ≡ Some item → (some : List Slot) (s : Slot) → fresh t (some ++ s ∷ [])
    ≡ lists t (mask_from (marks_of some ++ is_valid s ∷ [])) (item_offsets some ++ (length (joined_items some) + length (items_of s)) ∷ [])
    (fresh item.data_type (joined_items some ++ items_of s))

abbrev pub FixedListsGrow : Type 0
FixedListsGrow = (t : DataType) (item : Field) (size : ℕ) → type_layer t ≡ layer.FixedSizeList item size → (some : List Slot) (s : Slot)
    → fresh t (some ++ s ∷ []) ≡ fixed_lists t (mask_from (marks_of some ++ is_valid s ∷ [])) size
    (fresh item.data_type (joined_fixed_items size some ++ fixed_items_of size s))

abbrev pub StructsGrow : Type 0
StructsGrow = (t : DataType) (children : List Field) → type_layer t ≡ layer.Struct children → (some : List Slot) (s : Slot)
    → fresh t (some ++ s ∷ []) ≡ records t (mask_from (marks_of some ++ is_valid s ∷ [])) (length some + 1)
    (in_columns (fresh_columns children (pushed_each (slots_of_fields (length children) some) (fields_of_slot (length children) s))))

abbrev pub DictionariesGrow : Type 0
DictionariesGrow = (t : DataType) (key : IntegerType) (value : DataType) (is_ordered : Bool)
    → type_layer t ≡ layer.Dictionary key value is_ordered → (some : List Slot) (s : Slot)
    → fresh t (some ++ s ∷ []) ≡ dictionary t (mask_from (marks_of some ++ is_valid s ∷ []))
    (map pos (keys_among (dictionary_values some) some ++ key_among (grown_values (dictionary_values some) s) s ∷ []))
    (fresh value (grown_values (dictionary_values some) s))

-- ---- what fits

abbrev pub OneMoreListFits : Type 0
OneMoreListFits = (t : DataType) (item : Field) → type_layer t ≡ layer.List item → (some : List Slot) (s : Slot) → fits t some ≡ true
    → fits t (some ++ s ∷ [])
    ≡ (is_list s && nat_le (length some + 1) most_slots && nat_le (length (joined_items some) + length (items_of s)) most_short
    && fits item.data_type (joined_items some ++ items_of s))

abbrev pub OneMoreLargeListFits : Type 0
OneMoreLargeListFits = (t : DataType) (item : Field) → type_layer t ≡ layer.LargeList item → (some : List Slot) (s : Slot) → fits t some ≡ true
    → fits t (some ++ s ∷ [])
    ≡ (is_list s && nat_le (length some + 1) most_slots && nat_le (length (joined_items some) + length (items_of s)) most_long
    && fits item.data_type (joined_items some ++ items_of s))

abbrev pub OneMoreFixedListFits : Type 0
OneMoreFixedListFits = (t : DataType) (item : Field) (size : ℕ) → type_layer t ≡ layer.FixedSizeList item size → (some : List Slot) (s : Slot)
    → fits t some ≡ true → fits t (some ++ s ∷ []) ≡ (is_list_sized size s && nat_le (length some + 1) most_slots
    && fits item.data_type (joined_fixed_items size some ++ fixed_items_of size s))

abbrev pub OneMoreStructFits : Type 0
OneMoreStructFits = (t : DataType) (children : List Field) → type_layer t ≡ layer.Struct children → (some : List Slot) (s : Slot)
    → fits t some ≡ true → fits t (some ++ s ∷ []) ≡ (is_record_sized (length children) s && nat_le (length some + 1) most_slots
    && columns_fit children (pushed_each (slots_of_fields (length children) some) (fields_of_slot (length children) s)))

-- a dictionary takes a null, one of its values, or one more that fits behind them
abbrev pub OneMoreKeyFits : Type 0
OneMoreKeyFits = (t : DataType) (key : IntegerType) (value : DataType) (is_ordered : Bool)
    → type_layer t ≡ layer.Dictionary key value is_ordered → (some : List Slot) (s : Slot) → fits t some ≡ true → fits t (some ++ s ∷ [])
    ≡ (nat_le (length some + 1) most_slots && (is_null s || is_among s (dictionary_values some)
    || (nat_le (length (dictionary_values some) + 1) (most_values key) && fits value (dictionary_values some ++ s ∷ []))))

abbrev pub OneMoreNumberFits : Type 0
OneMoreNumberFits = (t : DataType) (kind : PrimitiveType) → physical_type t ≡ physical.Primitive kind → (some : List Slot) (s : Slot)
    → fits t some ≡ true → fits t (some ++ s ∷ []) ≡ (is_of_kind kind s && nat_le (length some + 1) most_slots)
