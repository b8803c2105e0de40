-- What the column of some slots stores, and which slots fit, by one layer of their type.
use Rattle.std.specs.Prelude.{◌≡◌, ℕ, pos, Bool, true, ◌&&◌, List, [], length, map, take, nat_le, Some}
use Rattle.std.specs.List.{list_all}
use Rattle.nested_arrays_columns.specs.columnar_memory.declared.DataType.{DataType}
use Rattle.nested_arrays_columns.specs.columnar_memory.declared.DataType.TheOpen as layer
use Rattle.nested_arrays_columns.specs.columnar_memory.declared.Field.{Field}
use Rattle.nested_arrays_columns.specs.columnar_memory.declared.IntegerType.{IntegerType}
use Rattle.nested_arrays_columns.specs.columnar_memory.declared.PhysicalType.TheVariants as physical
use Rattle.nested_arrays_columns.specs.columnar_memory.declared.PrimitiveType.{PrimitiveType}
use Rattle.nested_arrays_columns.specs.columnar_memory.Layouts.{physical_type}
use Rattle.nested_arrays_columns.specs.Cells.{is_null}
use Rattle.nested_arrays_columns.specs.Children.{joined_items, joined_fixed_items, dictionary_values}
use Rattle.nested_arrays_columns.specs.FreshColumns.{mask_of, item_offsets, numbers_as, fresh}
use Rattle.nested_arrays_columns.specs.Kinds.{most_values}
use Rattle.nested_arrays_columns.specs.OpenBatch.{most_short, most_long, is_length, fits}
use Rattle.nested_arrays_columns.specs.Rows.{columns_fit, fresh_columns}
use Rattle.nested_arrays_columns.specs.Slots.{Slot}
use Rattle.nested_arrays_columns.specs.StoredColumns.{flat, lists, fixed_lists, records, dictionary, in_columns, type_layer}
use Rattle.nested_arrays_columns.specs.OpenParts.{item_of, is_list, is_list_sized, is_record_sized, is_of_kind, slots_of_fields, keys_among}

-- ---- what is stored

-- lists of either width and maps store the items of their slots, joined
abbrev pub ListsStored : Type 0
ListsStored = (t : DataType) (item : Field) → item_of (type_layer t) ≡ Some item → (some : List Slot)
    → fresh t some ≡ lists t (mask_of some) (item_offsets some) (fresh item.data_type (joined_items some))

abbrev pub FixedListsStored : Type 0
FixedListsStored = (t : DataType) (item : Field) (size : ℕ) → type_layer t ≡ layer.FixedSizeList item size → (some : List Slot)
    → fresh t some ≡ fixed_lists t (mask_of some) size (fresh item.data_type (joined_fixed_items size some))

abbrev pub StructsStored : Type 0
StructsStored = (t : DataType) (children : List Field) → type_layer t ≡ layer.Struct children → (some : List Slot)
    → fresh t some ≡ records t (mask_of some) (length some) (in_columns (fresh_columns children (slots_of_fields (length children) some)))

abbrev pub DictionariesStored : Type 0
DictionariesStored = (t : DataType) (key : IntegerType) (value : DataType) (is_ordered : Bool)
    → type_layer t ≡ layer.Dictionary key value is_ordered → (some : List Slot)
    → fresh t some ≡ dictionary t (mask_of some) (map pos (keys_among (dictionary_values some) some)) (fresh value (dictionary_values some))

abbrev pub NumbersStored : Type 0
NumbersStored = (t : DataType) (kind : PrimitiveType) → physical_type t ≡ physical.Primitive kind → (some : List Slot)
    → fresh t some ≡ flat t (mask_of some) (numbers_as kind some)

-- ---- what fits

abbrev pub ListsFit : Type 0
ListsFit = (t : DataType) (item : Field) → type_layer t ≡ layer.List item → (some : List Slot) → fits t some
    ≡ (list_all is_list some && is_length some && nat_le (length (joined_items some)) most_short && fits item.data_type (joined_items some))

abbrev pub LargeListsFit : Type 0
LargeListsFit = (t : DataType) (item : Field) → type_layer t ≡ layer.LargeList item → (some : List Slot) → fits t some
    ≡ (list_all is_list some && is_length some && nat_le (length (joined_items some)) most_long && fits item.data_type (joined_items some))

abbrev pub MapsFit : Type 0
MapsFit = (t : DataType) (entry : Field) (is_sorted : Bool) → type_layer t ≡ layer.Map entry is_sorted → (some : List Slot)
    → fits t some ≡ (list_all is_null some && is_length some)

abbrev pub FixedListsFit : Type 0
FixedListsFit = (t : DataType) (item : Field) (size : ℕ) → type_layer t ≡ layer.FixedSizeList item size → (some : List Slot)
    → fits t some ≡ (list_all (is_list_sized size) some && is_length some && fits item.data_type (joined_fixed_items size some))

abbrev pub StructsFit : Type 0
StructsFit = (t : DataType) (children : List Field) → type_layer t ≡ layer.Struct children → (some : List Slot) → fits t some
    ≡ (list_all (is_record_sized (length children)) some && is_length some && columns_fit children (slots_of_fields (length children) some))

abbrev pub DictionariesFit : Type 0
DictionariesFit = (t : DataType) (key : IntegerType) (value : DataType) (is_ordered : Bool)
    → type_layer t ≡ layer.Dictionary key value is_ordered → (some : List Slot) → fits t some
    ≡ (is_length some && nat_le (length (dictionary_values some)) (most_values key) && fits value (dictionary_values some))

abbrev pub NumbersFit : Type 0
NumbersFit = (t : DataType) (kind : PrimitiveType) → physical_type t ≡ physical.Primitive kind → (some : List Slot)
    → fits t some ≡ (list_all (is_of_kind kind) some && is_length some)

-- no slots fit every type, and the first ones of what fits fit
abbrev pub NothingFits : Type 0
NothingFits = (t : DataType) → fits t [] ≡ true

abbrev pub FirstOnesFit : Type 0
FirstOnesFit = (t : DataType) (n : ℕ) (some : List Slot) → fits t some ≡ true → fits t (take n some) ≡ true
