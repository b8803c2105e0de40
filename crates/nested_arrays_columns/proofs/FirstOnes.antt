-- The first ones of slots, by the layer of their type: what their column stores, in terms of what the column of all stores.
use Rattle.std.proofs.Common.{◌≡◌, ◌∙◌, ℕ, suc, ◌+◌, ◌*◌, ◌≤◌, List, length, map, take, Bool, true, sym, ap, arith}
use Rattle.std.specs.Prelude.{Some, pos}
use Rattle.std.specs.List.{flat_map, list_all}
use Rattle.std.proofs.lemmas.Bool.{and_parts, eqb-true}
use Rattle.std.proofs.lemmas.List.{length-take-le, length-replicate, take-map}
use Rattle.nested_arrays_columns.specs.columnar_memory.declared.DataType.{DataType}
use Rattle.nested_arrays_columns.specs.columnar_memory.declared.DataType.TheOpen as layer
use Rattle.nested_arrays_columns.specs.columnar_memory.declared.Field.{Field}
use Rattle.nested_arrays_columns.specs.columnar_memory.declared.IntegerType.{IntegerType}
use Rattle.nested_arrays_columns.specs.columnar_memory.Spans.{offset_at}
use Rattle.nested_arrays_columns.specs.Cells.{is_bytes_of}
use Rattle.nested_arrays_columns.specs.Children.{items_of, fixed_items_of, joined_items, joined_fixed_items, dictionary_values}
use Rattle.nested_arrays_columns.specs.FreshColumns.{is_true, content_of, fixed_content_of, content_offsets, item_offsets, fresh}
use Rattle.nested_arrays_columns.specs.OpenBatch.{is_length, fits}
use Rattle.nested_arrays_columns.specs.Rows.{fresh_columns}
use Rattle.nested_arrays_columns.specs.Slots.{Slot, null, items, slot_list}
use Rattle.nested_arrays_columns.specs.StoredColumns.{bits, texts, byte_strings, fixed_bytes, nulls, flat, lists, fixed_lists, records, dictionary}
use Rattle.nested_arrays_columns.specs.StoredColumns.{in_columns, type_layer}
use Rattle.nested_arrays_columns.proofs.Conditions.{parts_of_3}
use Rattle.nested_arrays_columns.proofs.FreshLengths.{content_piece}
use Rattle.nested_arrays_columns.specs.OpenParts.{marks_of, mask_from, is_list_sized, item_of, slots_of_fields, keys_among, values_used, content_spans}
use Rattle.nested_arrays_columns.specs.OpenParts.{item_spans}
use Rattle.nested_arrays_columns.proofs.Fields.{fields_cut}
use Rattle.nested_arrays_columns.proofs.Fits.{fits_fixed_list, fits_fixed_binary}
use Rattle.nested_arrays_columns.proofs.LayerParts.{fresh_items, fresh_fixed_list, fresh_struct, fresh_dictionary, fresh_nulls, fresh_booleans}
use Rattle.nested_arrays_columns.proofs.LayerParts.{fresh_binary, fresh_large_binary, fresh_texts, fresh_large_texts, fresh_fixed_binary}
use Rattle.nested_arrays_columns.proofs.Masks.{mask_cut}
use Rattle.nested_arrays_columns.proofs.Pieces.{joined_cut_at, offsets_cut, sized_cut}
use Rattle.nested_arrays_columns.proofs.Values.{keys_are, keys_first, values_cut}

-- ---- parts

one_behind : (n : ℕ) → suc n ≡ n + 1
one_behind n = omega arith

pub item_offsets_cut : (n : ℕ) (xs : List Slot) → item_offsets (take n xs) ≡ take (n + 1) (item_offsets xs)
item_offsets_cut n xs = offsets_cut items_of n xs ∙ ap (λ m. take m (item_offsets xs)) (one_behind n)

pub items_cut : (n : ℕ) (xs : List Slot) → joined_items (take n xs) ≡ take (offset_at (item_spans xs) n) (joined_items xs)
items_cut n xs = joined_cut_at items_of n xs

pub content_offsets_cut : (n : ℕ) (xs : List Slot) → content_offsets (take n xs) ≡ take (n + 1) (content_offsets xs)
content_offsets_cut n xs = offsets_cut content_of n xs ∙ ap (λ m. take m (content_offsets xs)) (one_behind n)

pub contents_cut : (n : ℕ) (xs : List Slot) → flat_map content_of (take n xs) ≡ take (offset_at (content_spans xs) n) (flat_map content_of xs)
contents_cut n xs = joined_cut_at content_of n xs

sized_items : (size : ℕ) (x : Slot) → is_list_sized size x ≡ true → length (fixed_items_of size x) ≡ size
sized_items size null h = length-replicate size null
sized_items size (items slots) h = eqb-true (length (slot_list slots)) size h
sized_items size _ h = absurd cc

pub fixed_items_cut : (size n : ℕ) (xs : List Slot) → list_all (is_list_sized size) xs ≡ true → n ≤ length xs
    → joined_fixed_items size (take n xs) ≡ take (size * n) (joined_fixed_items size xs)
fixed_items_cut size n xs fit le = sized_cut (fixed_items_of size) (is_list_sized size) size (sized_items size) n xs fit le

pub fixed_contents_cut : (size n : ℕ) (xs : List Slot) → list_all (is_bytes_of size) xs ≡ true → n ≤ length xs
    → flat_map (fixed_content_of size) (take n xs) ≡ take (size * n) (flat_map (fixed_content_of size) xs)
fixed_contents_cut size n xs fit le = sized_cut (fixed_content_of size) (is_bytes_of size) size (content_piece size) n xs fit le

-- ---- columns

pub items_stored_cut : (t : DataType) (item : Field) → item_of (type_layer t) ≡ Some item → (n : ℕ) (xs : List Slot)
    → fresh t (take n xs) ≡ lists t (mask_from (take n (marks_of xs))) (take (n + 1) (item_offsets xs))
    (fresh item.data_type (take (offset_at (item_spans xs) n) (joined_items xs)))
items_stored_cut t item is n xs =
    fresh_items t item is (take n xs)
    ∙ (λ j. lists t (mask_cut n xs j) (item_offsets_cut n xs j) (fresh item.data_type (items_cut n xs j)))

pub fixed_stored_cut : (t : DataType) (item : Field) (size : ℕ) → type_layer t ≡ layer.FixedSizeList item size → (n : ℕ) (xs : List Slot)
    → fits t xs ≡ true → n ≤ length xs → fresh t (take n xs) ≡ fixed_lists t (mask_from (take n (marks_of xs))) size
    (fresh item.data_type (take (size * n) (joined_fixed_items size xs)))
fixed_stored_cut t item size is n xs h le =
    let own = (parts_of_3 (list_all (is_list_sized size) xs) (is_length xs) (fits item.data_type (joined_fixed_items size xs))
    (sym (fits_fixed_list t item size is xs) ∙ h)).0 in
    fresh_fixed_list t item size is (take n xs)
    ∙ (λ j. fixed_lists t (mask_cut n xs j) size (fresh item.data_type (fixed_items_cut size n xs own le j)))

pub struct_stored_cut : (t : DataType) (us : List Field) → type_layer t ≡ layer.Struct us → (n : ℕ) (xs : List Slot) → n ≤ length xs
    → fresh t (take n xs) ≡ records t (mask_from (take n (marks_of xs))) n
    (in_columns (fresh_columns us (map (take n) (slots_of_fields (length us) xs))))
struct_stored_cut t us is n xs le =
    fresh_struct t us is (take n xs)
    ∙ (λ j. records t (mask_cut n xs j) (length-take-le n xs le j) (in_columns (fresh_columns us (fields_cut (length us) n xs j))))

pub dictionary_stored_cut : (t : DataType) (key : IntegerType) (value : DataType) (is_ordered : Bool)
    → type_layer t ≡ layer.Dictionary key value is_ordered → (n : ℕ) (xs : List Slot) → n ≤ length xs
    → fresh t (take n xs) ≡ dictionary t (mask_from (take n (marks_of xs))) (map pos (take n (keys_among (dictionary_values xs) xs)))
    (fresh value (take (values_used (take n (marks_of xs)) (take n (keys_among (dictionary_values xs) xs))) (dictionary_values xs)))
dictionary_stored_cut t key value is_ordered is n xs le =
    let keys = keys_are (take n xs) ∙ ap (map pos) (keys_first n xs) in
    fresh_dictionary t key value is_ordered is (take n xs)
    ∙ (λ j. dictionary t (mask_cut n xs j) (keys j) (fresh value (values_cut n xs le j)))

pub nulls_stored_cut : (t : DataType) → type_layer t ≡ layer.Null → (n : ℕ) (xs : List Slot) → n ≤ length xs → fresh t (take n xs) ≡ nulls t n
nulls_stored_cut t is n xs le = fresh_nulls t is (take n xs) ∙ ap (nulls t) (length-take-le n xs le)

pub booleans_stored_cut : (t : DataType) → type_layer t ≡ layer.Boolean → (n : ℕ) (xs : List Slot)
    → fresh t (take n xs) ≡ flat t (mask_from (take n (marks_of xs))) (bits (take n (map is_true xs)))
booleans_stored_cut t is n xs =
    fresh_booleans t is (take n xs) ∙ (λ j. flat t (mask_cut n xs j) (bits (sym (take-map is_true n xs) j)))

pub binary_stored_cut : (t : DataType) → type_layer t ≡ layer.Binary → (n : ℕ) (xs : List Slot)
    → fresh t (take n xs) ≡ flat t (mask_from (take n (marks_of xs)))
    (byte_strings (take (n + 1) (content_offsets xs)) (take (offset_at (content_spans xs) n) (flat_map content_of xs)))
binary_stored_cut t is n xs =
    fresh_binary t is (take n xs) ∙ (λ j. flat t (mask_cut n xs j) (byte_strings (content_offsets_cut n xs j) (contents_cut n xs j)))

pub large_binary_stored_cut : (t : DataType) → type_layer t ≡ layer.LargeBinary → (n : ℕ) (xs : List Slot)
    → fresh t (take n xs) ≡ flat t (mask_from (take n (marks_of xs)))
    (byte_strings (take (n + 1) (content_offsets xs)) (take (offset_at (content_spans xs) n) (flat_map content_of xs)))
large_binary_stored_cut t is n xs =
    fresh_large_binary t is (take n xs) ∙ (λ j. flat t (mask_cut n xs j) (byte_strings (content_offsets_cut n xs j) (contents_cut n xs j)))

pub texts_stored_cut : (t : DataType) → type_layer t ≡ layer.Utf8 → (n : ℕ) (xs : List Slot)
    → fresh t (take n xs) ≡ flat t (mask_from (take n (marks_of xs)))
    (texts (take (n + 1) (content_offsets xs)) (take (offset_at (content_spans xs) n) (flat_map content_of xs)))
texts_stored_cut t is n xs =
    fresh_texts t is (take n xs) ∙ (λ j. flat t (mask_cut n xs j) (texts (content_offsets_cut n xs j) (contents_cut n xs j)))

pub large_texts_stored_cut : (t : DataType) → type_layer t ≡ layer.LargeUtf8 → (n : ℕ) (xs : List Slot)
    → fresh t (take n xs) ≡ flat t (mask_from (take n (marks_of xs)))
    (texts (take (n + 1) (content_offsets xs)) (take (offset_at (content_spans xs) n) (flat_map content_of xs)))
large_texts_stored_cut t is n xs =
    fresh_large_texts t is (take n xs) ∙ (λ j. flat t (mask_cut n xs j) (texts (content_offsets_cut n xs j) (contents_cut n xs j)))

pub fixed_binary_stored_cut : (t : DataType) (size : ℕ) → type_layer t ≡ layer.FixedSizeBinary size → (n : ℕ) (xs : List Slot)
    → fits t xs ≡ true → n ≤ length xs → fresh t (take n xs)
    ≡ flat t (mask_from (take n (marks_of xs))) (fixed_bytes size (take (size * n) (flat_map (fixed_content_of size) xs)))
fixed_binary_stored_cut t size is n xs h le =
    let own = (and_parts (list_all (is_bytes_of size) xs) (is_length xs) (sym (fits_fixed_binary t size is xs) ∙ h)).0 in
    fresh_fixed_binary t size is (take n xs)
    ∙ (λ j. flat t (mask_cut n xs j) (fixed_bytes size (fixed_contents_cut size n xs own le j)))
