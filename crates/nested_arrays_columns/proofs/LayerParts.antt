-- What the column of some slots stores, by the layer of its type: its own parts, and the columns of its children.
use Rattle.std.proofs.Common.{◌≡◌, ◌∙◌, ℕ, suc, List, [], ◌∷◌, Bool, false, length, map, refl, sym, ap, arith}
use Rattle.std.specs.Prelude.{Some, ◌+◌, is_some, unwrap_or}
use Rattle.std.specs.List.{flat_map}
use Rattle.nested_arrays_columns.specs.columnar_memory.declared.DataType.{DataType}
use Rattle.nested_arrays_columns.specs.columnar_memory.declared.DataType.TheOpen as layer
use Rattle.nested_arrays_columns.specs.columnar_memory.declared.Field.{Field}
use Rattle.nested_arrays_columns.specs.columnar_memory.declared.IntegerType.{IntegerType}
use Rattle.nested_arrays_columns.specs.columnar_memory.declared.IntervalUnit.TheVariants as intervals
use Rattle.nested_arrays_columns.specs.columnar_memory.declared.PhysicalType.TheVariants as physical
use Rattle.nested_arrays_columns.specs.columnar_memory.declared.PrimitiveType.{PrimitiveType}
use Rattle.nested_arrays_columns.specs.columnar_memory.Layouts.{physical_type}
use Rattle.nested_arrays_columns.specs.Children.{joined_items, joined_fixed_items, field_slots, dictionary_values}
use Rattle.nested_arrays_columns.specs.FreshColumns.{is_true, content_of, fixed_content_of, mask_of, content_offsets, item_offsets, numbers_as}
use Rattle.nested_arrays_columns.specs.FreshColumns.{numbers_of, Maker, fresh_fields, fresh}
use Rattle.nested_arrays_columns.specs.Kinds.{kind_of}
use Rattle.nested_arrays_columns.specs.Rows.{fresh_columns}
use Rattle.nested_arrays_columns.specs.Slots.{Slot, window}
use Rattle.nested_arrays_columns.specs.StoredColumns.{bits, texts, byte_strings, fixed_bytes, nulls, flat, lists, fixed_lists, records, dictionary}
use Rattle.nested_arrays_columns.specs.StoredColumns.{column_then, in_columns, type_layer}
use Rattle.nested_arrays_columns.proofs.FreshLengths.{Layer, fresh_field, fresh_layer, makers_of, unlike}
use Rattle.nested_arrays_columns.proofs.FreshParts.{keys_of}
use Rattle.nested_arrays_columns.proofs.TypeLayers.{is_extension, layer_layout}
use Rattle.nested_arrays_columns.specs.OpenParts.{item_of, kind_in, slots_of_fields}
use Rattle.nested_arrays_columns.proofs.TypeSteps.{fresh_by_layer, layout_by_layer, not_extended, fresh_field_is}

-- ---- lists and maps

items_made : (t : DataType) (item : Field) (xs : List Slot)
    → lists t (mask_of xs) (item_offsets xs) (fresh_field item (joined_items xs))
    ≡ lists t (mask_of xs) (item_offsets xs) (fresh item.data_type (joined_items xs))
items_made t item xs = ap (λ (make : Maker). lists t (mask_of xs) (item_offsets xs) (make (joined_items xs))) (fresh_field_is item)

items_of_layer : (t : DataType) (x : Layer) (item : Field) (xs : List Slot) → item_of x ≡ Some item
    → fresh_layer x t xs ≡ lists t (mask_of xs) (item_offsets xs) (fresh item.data_type (joined_items xs))
items_of_layer t (layer.List own) item xs is =
    items_made t own xs ∙ ap (λ o. lists t (mask_of xs) (item_offsets xs) (fresh (unwrap_or o own).data_type (joined_items xs))) is
items_of_layer t (layer.LargeList own) item xs is =
    items_made t own xs ∙ ap (λ o. lists t (mask_of xs) (item_offsets xs) (fresh (unwrap_or o own).data_type (joined_items xs))) is
items_of_layer t (layer.Map own is_sorted) item xs is =
    items_made t own xs ∙ ap (λ o. lists t (mask_of xs) (item_offsets xs) (fresh (unwrap_or o own).data_type (joined_items xs))) is
items_of_layer t _ item xs is = absurd (unlike (ap is_some is))

-- lists of either width and maps store the joined items of their slots
pub fresh_items : (t : DataType) (item : Field) → item_of (type_layer t) ≡ Some item → (xs : List Slot)
    → fresh t xs ≡ lists t (mask_of xs) (item_offsets xs) (fresh item.data_type (joined_items xs))
fresh_items t item is xs = fresh_by_layer t (type_layer t) refl xs ∙ items_of_layer t (type_layer t) item xs is

pub fresh_list : (t : DataType) (item : Field) → type_layer t ≡ layer.List item → (xs : List Slot)
    → fresh t xs ≡ lists t (mask_of xs) (item_offsets xs) (fresh item.data_type (joined_items xs))
fresh_list t item is xs = fresh_items t item (ap item_of is) xs

pub fresh_large_list : (t : DataType) (item : Field) → type_layer t ≡ layer.LargeList item → (xs : List Slot)
    → fresh t xs ≡ lists t (mask_of xs) (item_offsets xs) (fresh item.data_type (joined_items xs))
fresh_large_list t item is xs = fresh_items t item (ap item_of is) xs

pub fresh_map : (t : DataType) (entry : Field) (is_sorted : Bool) → type_layer t ≡ layer.Map entry is_sorted → (xs : List Slot)
    → fresh t xs ≡ lists t (mask_of xs) (item_offsets xs) (fresh entry.data_type (joined_items xs))
fresh_map t entry is_sorted is xs = fresh_items t entry (ap item_of is) xs

-- ---- lists of one size

pub fresh_fixed_list : (t : DataType) (item : Field) (size : ℕ) → type_layer t ≡ layer.FixedSizeList item size → (xs : List Slot)
    → fresh t xs ≡ fixed_lists t (mask_of xs) size (fresh item.data_type (joined_fixed_items size xs))
fresh_fixed_list t item size is xs =
    fresh_by_layer t (layer.FixedSizeList item size) is xs
    ∙ ap (λ (make : Maker). fixed_lists t (mask_of xs) size (make (joined_fixed_items size xs))) (fresh_field_is item)

-- ---- structs

fields_made : (us : List Field) (xs : List Slot) (k : ℕ)
    → fresh_fields (makers_of us) xs k ≡ in_columns (fresh_columns us (window (field_slots xs) k (length us)))
fields_made [] xs k = refl
fields_made (u ∷ us) xs k =
    let next : suc k ≡ k + 1 = omega arith in
    let rest = fields_made us xs (suc k) ∙ ap (λ m. in_columns (fresh_columns us (window (field_slots xs) m (length us)))) next in
    λ j. column_then (fresh_field_is u j (field_slots xs k)) (rest j)

pub fresh_struct : (t : DataType) (us : List Field) → type_layer t ≡ layer.Struct us → (xs : List Slot)
    → fresh t xs ≡ records t (mask_of xs) (length xs) (in_columns (fresh_columns us (slots_of_fields (length us) xs)))
fresh_struct t us is xs =
    fresh_by_layer t (layer.Struct us) is xs ∙ ap (records t (mask_of xs) (length xs)) (fields_made us xs 0)

-- ---- dictionaries

pub fresh_dictionary : (t : DataType) (key : IntegerType) (value : DataType) (is_ordered : Bool)
    → type_layer t ≡ layer.Dictionary key value is_ordered → (xs : List Slot)
    → fresh t xs ≡ dictionary t (mask_of xs) (keys_of xs) (fresh value (dictionary_values xs))
fresh_dictionary t key value is_ordered is xs = fresh_by_layer t (layer.Dictionary key value is_ordered) is xs

-- ---- without children

pub fresh_nulls : (t : DataType) → type_layer t ≡ layer.Null → (xs : List Slot) → fresh t xs ≡ nulls t (length xs)
fresh_nulls t is xs = fresh_by_layer t layer.Null is xs

pub fresh_booleans : (t : DataType) → type_layer t ≡ layer.Boolean → (xs : List Slot) → fresh t xs ≡ flat t (mask_of xs) (bits (map is_true xs))
fresh_booleans t is xs = fresh_by_layer t layer.Boolean is xs

pub fresh_binary : (t : DataType) → type_layer t ≡ layer.Binary → (xs : List Slot)
    → fresh t xs ≡ flat t (mask_of xs) (byte_strings (content_offsets xs) (flat_map content_of xs))
fresh_binary t is xs = fresh_by_layer t layer.Binary is xs

pub fresh_large_binary : (t : DataType) → type_layer t ≡ layer.LargeBinary → (xs : List Slot)
    → fresh t xs ≡ flat t (mask_of xs) (byte_strings (content_offsets xs) (flat_map content_of xs))
fresh_large_binary t is xs = fresh_by_layer t layer.LargeBinary is xs

pub fresh_texts : (t : DataType) → type_layer t ≡ layer.Utf8 → (xs : List Slot)
    → fresh t xs ≡ flat t (mask_of xs) (texts (content_offsets xs) (flat_map content_of xs))
fresh_texts t is xs = fresh_by_layer t layer.Utf8 is xs

pub fresh_large_texts : (t : DataType) → type_layer t ≡ layer.LargeUtf8 → (xs : List Slot)
    → fresh t xs ≡ flat t (mask_of xs) (texts (content_offsets xs) (flat_map content_of xs))
fresh_large_texts t is xs = fresh_by_layer t layer.LargeUtf8 is xs

pub fresh_fixed_binary : (t : DataType) (size : ℕ) → type_layer t ≡ layer.FixedSizeBinary size → (xs : List Slot)
    → fresh t xs ≡ flat t (mask_of xs) (fixed_bytes size (flat_map (fixed_content_of size) xs))
fresh_fixed_binary t size is xs = fresh_by_layer t (layer.FixedSizeBinary size) is xs

-- numbers of a kind, whatever they stand for
numbers_of_layer : (t : DataType) (x : Layer) (kind : PrimitiveType) (xs : List Slot) → kind_of x ≡ Some kind
    → fresh_layer x t xs ≡ flat t (mask_of xs) (numbers_as kind xs)
numbers_of_layer t layer.Null kind xs is = absurd (unlike (ap is_some is))
numbers_of_layer t layer.Boolean kind xs is = absurd (unlike (ap is_some is))
numbers_of_layer t layer.Binary kind xs is = absurd (unlike (ap is_some is))
numbers_of_layer t layer.LargeBinary kind xs is = absurd (unlike (ap is_some is))
numbers_of_layer t (layer.FixedSizeBinary size) kind xs is = absurd (unlike (ap is_some is))
numbers_of_layer t layer.Utf8 kind xs is = absurd (unlike (ap is_some is))
numbers_of_layer t layer.LargeUtf8 kind xs is = absurd (unlike (ap is_some is))
numbers_of_layer t (layer.List item) kind xs is = absurd (unlike (ap is_some is))
numbers_of_layer t (layer.LargeList item) kind xs is = absurd (unlike (ap is_some is))
numbers_of_layer t (layer.FixedSizeList item size) kind xs is = absurd (unlike (ap is_some is))
numbers_of_layer t (layer.Struct children) kind xs is = absurd (unlike (ap is_some is))
numbers_of_layer t (layer.Union children ids mode) kind xs is = absurd (unlike (ap is_some is))
numbers_of_layer t (layer.Map entry is_sorted) kind xs is = absurd (unlike (ap is_some is))
numbers_of_layer t (layer.Dictionary key value is_ordered) kind xs is = absurd (unlike (ap is_some is))
numbers_of_layer t (layer.Extension name inner metadata) kind xs is = absurd (unlike (ap is_some is))
numbers_of_layer t (layer.Interval intervals.YearMonth) kind xs is = ap (λ k. flat t (mask_of xs) (numbers_of k xs)) is
numbers_of_layer t (layer.Interval intervals.DayTime) kind xs is = ap (λ k. flat t (mask_of xs) (numbers_of k xs)) is
numbers_of_layer t (layer.Interval intervals.MonthDayNano) kind xs is = ap (λ k. flat t (mask_of xs) (numbers_of k xs)) is
numbers_of_layer t _ kind xs is = ap (λ k. flat t (mask_of xs) (numbers_of k xs)) is

pub fresh_numbers : (t : DataType) (kind : PrimitiveType) → kind_of (type_layer t) ≡ Some kind → (xs : List Slot)
    → fresh t xs ≡ flat t (mask_of xs) (numbers_as kind xs)
fresh_numbers t kind is xs = fresh_by_layer t (type_layer t) refl xs ∙ numbers_of_layer t (type_layer t) kind xs is

-- the kind of a type's numbers is that of its layout
layer_kind : (x : Layer) → is_extension x ≡ false → kind_of x ≡ kind_in (layer_layout x)
layer_kind (layer.Extension name inner metadata) plain = absurd cc
layer_kind (layer.Interval intervals.YearMonth) plain = refl
layer_kind (layer.Interval intervals.DayTime) plain = refl
layer_kind (layer.Interval intervals.MonthDayNano) plain = refl
layer_kind _ plain = refl

pub kind_by_layout : (t : DataType) → kind_of (type_layer t) ≡ kind_in (physical_type t)
kind_by_layout t = layer_kind (type_layer t) (not_extended t) ∙ ap kind_in (sym (layout_by_layer t (type_layer t) refl))

-- numbers of a kind, by how they lie in memory
pub fresh_primitive : (t : DataType) (kind : PrimitiveType) → physical_type t ≡ physical.Primitive kind → (xs : List Slot)
    → fresh t xs ≡ flat t (mask_of xs) (numbers_as kind xs)
fresh_primitive t kind is xs = fresh_numbers t kind (kind_by_layout t ∙ ap kind_in is) xs
