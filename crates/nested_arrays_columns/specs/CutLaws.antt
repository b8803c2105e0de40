-- What the column of the first ones of some slots stores, in terms of what the column of all stores.
use Rattle.std.specs.Prelude.{◌≡◌, ℕ, ◌+◌, ◌*◌, ◌≤◌, pos, Bool, true, List, length, map, take, Some}
use Rattle.nested_arrays_columns.specs.columnar_memory.declared.DataType.{DataType}
use Rattle.nested_arrays_columns.specs.columnar_memory.declared.DataType.TheOpen as layer
use Rattle.nested_arrays_columns.specs.columnar_memory.declared.Field.{Field}
use Rattle.nested_arrays_columns.specs.columnar_memory.declared.IntegerType.{IntegerType}
use Rattle.nested_arrays_columns.specs.columnar_memory.Spans.{offset_at}
use Rattle.nested_arrays_columns.specs.Children.{joined_items, joined_fixed_items, dictionary_values}
use Rattle.nested_arrays_columns.specs.FreshColumns.{item_offsets, fresh}
use Rattle.nested_arrays_columns.specs.OpenBatch.{fits}
use Rattle.nested_arrays_columns.specs.Rows.{fresh_columns}
use Rattle.nested_arrays_columns.specs.Slots.{Slot}
use Rattle.nested_arrays_columns.specs.StoredColumns.{lists, fixed_lists, records, dictionary, in_columns, type_layer}
use Rattle.nested_arrays_columns.specs.OpenParts.{marks_of, mask_from, item_of, item_spans, slots_of_fields, keys_among, values_used}

abbrev pub ListsCut : Type 0
ListsCut = (t : DataType) (item : Field) → item_of (type_layer t) ≡ Some item → (n : ℕ) (some : List Slot)
    → fresh t (take n some) ≡ lists t (mask_from (take n (marks_of some))) (take (n + 1) (item_offsets some))
    (fresh item.data_type (take (offset_at (item_spans some) n) (joined_items some)))

abbrev pub FixedListsCut : Type 0
FixedListsCut = (t : DataType) (item : Field) (size : ℕ) → type_layer t ≡ layer.FixedSizeList item size → (n : ℕ) (some : List Slot)
    → fits t some ≡ true → n ≤ length some → fresh t (take n some) ≡ fixed_lists t (mask_from (take n (marks_of some))) size
    (fresh item.data_type (take (size * n) (joined_fixed_items size some)))

abbrev pub StructsCut : Type 0
StructsCut = (t : DataType) (children : List Field) → type_layer t ≡ layer.Struct children → (n : ℕ) (some : List Slot) → n ≤ length some
    → fresh t (take n some) ≡ records t (mask_from (take n (marks_of some))) n
    (in_columns (fresh_columns children (map (take n) (slots_of_fields (length children) some))))

-- a dictionary keeps the values that its first valid keys need
abbrev pub DictionariesCut : Type 0
DictionariesCut = (t : DataType) (key : IntegerType) (value : DataType) (is_ordered : Bool)
    → type_layer t ≡ layer.Dictionary key value is_ordered → (n : ℕ) (some : List Slot) → n ≤ length some
    → fresh t (take n some)
    ≡ dictionary t (mask_from (take n (marks_of some))) (map pos (take n (keys_among (dictionary_values some) some)))
    (fresh value (take (values_used (take n (marks_of some)) (take n (keys_among (dictionary_values some) some))) (dictionary_values some)))
