-- Slots with one more, by the layer of their type: what their column stores, and when they fit where the others do.
use Rattle.std.proofs.Common.{◌≡◌, ◌∙◌, ℕ, ◌+◌, List, [], ◌∷◌, ◌++◌, length, map, Bool, true, false, refl, sym, ap, arith}
use Rattle.std.specs.Prelude.{Some, ◌&&◌, ◌||◌, nat_le, pos, sum_by, if◌then◌else◌}
use Rattle.std.specs.List.{flat_map, list_all}
use Rattle.std.proofs.lemmas.Bool.{and_parts, cases_Bool}
use Rattle.std.proofs.lemmas.List.{append-nil, length_push}
use mathlib.Core.Logic.{inl, inr}
use Rattle.nested_arrays_columns.specs.columnar_memory.declared.DataType.{DataType}
use Rattle.nested_arrays_columns.specs.columnar_memory.declared.DataType.TheOpen as layer
use Rattle.nested_arrays_columns.specs.columnar_memory.declared.Field.{Field}
use Rattle.nested_arrays_columns.specs.columnar_memory.declared.IntegerType.{IntegerType}
use Rattle.nested_arrays_columns.specs.columnar_memory.declared.PhysicalType.TheVariants as physical
use Rattle.nested_arrays_columns.specs.columnar_memory.declared.PrimitiveType.{PrimitiveType}
use Rattle.nested_arrays_columns.specs.columnar_memory.Layouts.{physical_type}
use Rattle.nested_arrays_columns.specs.Cells.{is_null, is_truth, is_text, is_bytes, is_bytes_of}
use Rattle.nested_arrays_columns.specs.Children.{items_of, fixed_items_of, joined_items, joined_fixed_items, dictionary_values}
use Rattle.nested_arrays_columns.specs.FreshColumns.{is_valid, content_of, key_among, item_offsets}
use Rattle.nested_arrays_columns.specs.FreshColumns.{fresh}
use Rattle.nested_arrays_columns.specs.Kinds.{most_slots, most_values}
use Rattle.nested_arrays_columns.specs.OpenBatch.{byte_count, most_short, most_long, is_length, bytes_within, fits}
use Rattle.nested_arrays_columns.specs.Rows.{columns_fit, fresh_columns}
use Rattle.nested_arrays_columns.specs.SameSlots.{is_among}
use Rattle.nested_arrays_columns.specs.Slots.{Slot, null}
use Rattle.nested_arrays_columns.specs.StoredColumns.{nulls, lists, fixed_lists, records, dictionary}
use Rattle.nested_arrays_columns.specs.StoredColumns.{in_columns, type_layer}
use Rattle.nested_arrays_columns.proofs.Conditions.{parts_of_3, parts_of_4}
use Rattle.nested_arrays_columns.specs.OpenParts.{marks_of, mask_from, is_list, is_list_sized, is_record_sized, item_of, is_of_kind, slots_of_fields}
use Rattle.nested_arrays_columns.specs.OpenParts.{fields_of_slot, pushed_each, grown_values, keys_among}
use Rattle.nested_arrays_columns.proofs.Fields.{fields_one_more}
use Rattle.nested_arrays_columns.proofs.Fits.{fits_list, fits_large_list, fits_map, fits_fixed_list, fits_struct, fits_dictionary, fits_nulls}
use Rattle.nested_arrays_columns.proofs.Fits.{fits_booleans, fits_binary, fits_large_binary, fits_texts, fits_large_texts, fits_fixed_binary}
use Rattle.nested_arrays_columns.proofs.Fits.{fits_primitive}
use Rattle.nested_arrays_columns.proofs.LayerParts.{fresh_items, fresh_fixed_list, fresh_struct, fresh_dictionary, fresh_nulls}
use Rattle.nested_arrays_columns.proofs.Limits.{all_one_more, length_one_more, bytes_counted}
use Rattle.nested_arrays_columns.proofs.Masks.{mask_one_more}
use Rattle.nested_arrays_columns.proofs.Pieces.{joined_one_more, joined_length_one_more, offsets_one_more}
use Rattle.nested_arrays_columns.proofs.Values.{values_grow, keys_one_more, keys_are}

-- ---- what is stored

pub items_stored_one_more : (t : DataType) (item : Field) → item_of (type_layer t) ≡ Some item → (xs : List Slot) (s : Slot)
    → fresh t (xs ++ s ∷ []) ≡ lists t (mask_from (marks_of xs ++ is_valid s ∷ []))
    (item_offsets xs ++ (length (joined_items xs) + length (items_of s)) ∷ []) (fresh item.data_type (joined_items xs ++ items_of s))
items_stored_one_more t item is xs s =
    fresh_items t item is (xs ++ s ∷ [])
    ∙ (λ j. lists t (mask_one_more xs s j) (offsets_one_more items_of xs s j) (fresh item.data_type (joined_one_more items_of xs s j)))

pub fixed_stored_one_more : (t : DataType) (item : Field) (size : ℕ) → type_layer t ≡ layer.FixedSizeList item size → (xs : List Slot) (s : Slot)
    → fresh t (xs ++ s ∷ []) ≡ fixed_lists t (mask_from (marks_of xs ++ is_valid s ∷ [])) size
    (fresh item.data_type (joined_fixed_items size xs ++ fixed_items_of size s))
fixed_stored_one_more t item size is xs s =
    fresh_fixed_list t item size is (xs ++ s ∷ [])
    ∙ (λ j. fixed_lists t (mask_one_more xs s j) size (fresh item.data_type (joined_one_more (fixed_items_of size) xs s j)))

pub struct_stored_one_more : (t : DataType) (us : List Field) → type_layer t ≡ layer.Struct us → (xs : List Slot) (s : Slot)
    → fresh t (xs ++ s ∷ []) ≡ records t (mask_from (marks_of xs ++ is_valid s ∷ [])) (length xs + 1)
    (in_columns (fresh_columns us (pushed_each (slots_of_fields (length us) xs) (fields_of_slot (length us) s))))
struct_stored_one_more t us is xs s =
    fresh_struct t us is (xs ++ s ∷ [])
    ∙ (λ j. records t (mask_one_more xs s j) (length_push xs s j) (in_columns (fresh_columns us (fields_one_more (length us) xs s j))))

pub dictionary_stored_one_more : (t : DataType) (key : IntegerType) (value : DataType) (is_ordered : Bool)
    → type_layer t ≡ layer.Dictionary key value is_ordered → (xs : List Slot) (s : Slot)
    → fresh t (xs ++ s ∷ []) ≡ dictionary t (mask_from (marks_of xs ++ is_valid s ∷ []))
    (map pos (keys_among (dictionary_values xs) xs ++ key_among (grown_values (dictionary_values xs) s) s ∷ []))
    (fresh value (grown_values (dictionary_values xs) s))
dictionary_stored_one_more t key value is_ordered is xs s =
    let keys = keys_are (xs ++ s ∷ []) ∙ ap (map pos) (keys_one_more xs s
    ∙ ap (λ values. keys_among (dictionary_values xs) xs ++ key_among values s ∷ []) (values_grow xs s)) in
    fresh_dictionary t key value is_ordered is (xs ++ s ∷ [])
    ∙ (λ j. dictionary t (mask_one_more xs s j) (keys j) (fresh value (values_grow xs s j)))

pub nulls_stored_one_more : (t : DataType) → type_layer t ≡ layer.Null → (xs : List Slot) (s : Slot)
    → fresh t (xs ++ s ∷ []) ≡ nulls t (length xs + 1)
nulls_stored_one_more t is xs s = fresh_nulls t is (xs ++ s ∷ []) ∙ ap (nulls t) (length_push xs s)

-- ---- what fits

-- where slots fit by themselves and by their number
plain_one_more : (t : DataType) (test : Slot → Bool) → ((xs : List Slot) → fits t xs ≡ (list_all test xs && is_length xs))
    → (xs : List Slot) (s : Slot) → fits t xs ≡ true → fits t (xs ++ s ∷ []) ≡ (test s && nat_le (length xs + 1) most_slots)
plain_one_more t test is xs s h =
    let own = (and_parts (list_all test xs) (is_length xs) (sym (is xs) ∙ h)).0 in
    is (xs ++ s ∷ []) ∙ (λ j. all_one_more test xs s own j && length_one_more xs s j)

pub nulls_fit_one_more : (t : DataType) → type_layer t ≡ layer.Null → (xs : List Slot) (s : Slot) → fits t xs ≡ true
    → fits t (xs ++ s ∷ []) ≡ (is_null s && nat_le (length xs + 1) most_slots)
nulls_fit_one_more t is = plain_one_more t is_null (fits_nulls t is)

pub map_fits_one_more : (t : DataType) (entry : Field) (is_sorted : Bool) → type_layer t ≡ layer.Map entry is_sorted → (xs : List Slot) (s : Slot)
    → fits t xs ≡ true → fits t (xs ++ s ∷ []) ≡ (is_null s && nat_le (length xs + 1) most_slots)
map_fits_one_more t entry is_sorted is = plain_one_more t is_null (fits_map t entry is_sorted is)

pub booleans_fit_one_more : (t : DataType) → type_layer t ≡ layer.Boolean → (xs : List Slot) (s : Slot) → fits t xs ≡ true
    → fits t (xs ++ s ∷ []) ≡ (is_truth s && nat_le (length xs + 1) most_slots)
booleans_fit_one_more t is = plain_one_more t is_truth (fits_booleans t is)

pub primitives_fit_one_more : (t : DataType) (kind : PrimitiveType) → physical_type t ≡ physical.Primitive kind → (xs : List Slot) (s : Slot)
    → fits t xs ≡ true → fits t (xs ++ s ∷ []) ≡ (is_of_kind kind s && nat_le (length xs + 1) most_slots)
primitives_fit_one_more t kind is = plain_one_more t (is_of_kind kind) (fits_primitive t kind is)

pub fixed_binary_fits_one_more : (t : DataType) (size : ℕ) → type_layer t ≡ layer.FixedSizeBinary size → (xs : List Slot) (s : Slot)
    → fits t xs ≡ true → fits t (xs ++ s ∷ []) ≡ (is_bytes_of size s && nat_le (length xs + 1) most_slots)
fixed_binary_fits_one_more t size is = plain_one_more t (is_bytes_of size) (fits_fixed_binary t size is)

-- where they have bytes with a limit
strings_one_more : (t : DataType) (test : Slot → Bool) (limit : ℕ) → ((xs : List Slot) → fits t xs ≡ (list_all test xs && bytes_within limit xs))
    → (xs : List Slot) (s : Slot) → fits t xs ≡ true → fits t (xs ++ s ∷ [])
    ≡ (test s && (nat_le (length xs + 1) most_slots && nat_le (length (flat_map content_of xs) + length (content_of s)) limit))
strings_one_more t test limit is xs s h =
    let own = (and_parts (list_all test xs) (bytes_within limit xs) (sym (is xs) ∙ h)).0 in
    let all : sum_by byte_count (xs ++ s ∷ []) ≡ length (flat_map content_of xs) + length (content_of s) =
    bytes_counted (xs ++ s ∷ []) ∙ joined_length_one_more content_of xs s in
    is (xs ++ s ∷ []) ∙ (λ j. all_one_more test xs s own j && (length_one_more xs s j && nat_le (all j) limit))

pub binary_fits_one_more : (t : DataType) → type_layer t ≡ layer.Binary → (xs : List Slot) (s : Slot) → fits t xs ≡ true
    → fits t (xs ++ s ∷ [])
    ≡ (is_bytes s && (nat_le (length xs + 1) most_slots && nat_le (length (flat_map content_of xs) + length (content_of s)) most_short))
binary_fits_one_more t is = strings_one_more t is_bytes most_short (fits_binary t is)

pub large_binary_fits_one_more : (t : DataType) → type_layer t ≡ layer.LargeBinary → (xs : List Slot) (s : Slot) → fits t xs ≡ true
    → fits t (xs ++ s ∷ [])
    ≡ (is_bytes s && (nat_le (length xs + 1) most_slots && nat_le (length (flat_map content_of xs) + length (content_of s)) most_long))
large_binary_fits_one_more t is = strings_one_more t is_bytes most_long (fits_large_binary t is)

pub texts_fit_one_more : (t : DataType) → type_layer t ≡ layer.Utf8 → (xs : List Slot) (s : Slot) → fits t xs ≡ true
    → fits t (xs ++ s ∷ [])
    ≡ (is_text s && (nat_le (length xs + 1) most_slots && nat_le (length (flat_map content_of xs) + length (content_of s)) most_short))
texts_fit_one_more t is = strings_one_more t is_text most_short (fits_texts t is)

pub large_texts_fit_one_more : (t : DataType) → type_layer t ≡ layer.LargeUtf8 → (xs : List Slot) (s : Slot) → fits t xs ≡ true
    → fits t (xs ++ s ∷ [])
    ≡ (is_text s && (nat_le (length xs + 1) most_slots && nat_le (length (flat_map content_of xs) + length (content_of s)) most_long))
large_texts_fit_one_more t is = strings_one_more t is_text most_long (fits_large_texts t is)

-- where they have items with a limit
items_one_more : (t : DataType) (item : Field) (limit : ℕ) → ((xs : List Slot) → fits t xs
    ≡ (list_all is_list xs && is_length xs && nat_le (length (joined_items xs)) limit && fits item.data_type (joined_items xs)))
    → (xs : List Slot) (s : Slot) → fits t xs ≡ true → fits t (xs ++ s ∷ [])
    ≡ (is_list s && nat_le (length xs + 1) most_slots && nat_le (length (joined_items xs) + length (items_of s)) limit
    && fits item.data_type (joined_items xs ++ items_of s))
items_one_more t item limit is xs s h =
    let own = (parts_of_4 (list_all is_list xs) (is_length xs) (nat_le (length (joined_items xs)) limit) (fits item.data_type (joined_items xs))
    (sym (is xs) ∙ h)).0 in
    is (xs ++ s ∷ [])
    ∙ (λ j. all_one_more is_list xs s own j && length_one_more xs s j && nat_le (joined_length_one_more items_of xs s j) limit
    && fits item.data_type (joined_one_more items_of xs s j))

pub list_fits_one_more : (t : DataType) (item : Field) → type_layer t ≡ layer.List item → (xs : List Slot) (s : Slot) → fits t xs ≡ true
    → fits t (xs ++ s ∷ [])
    ≡ (is_list s && nat_le (length xs + 1) most_slots && nat_le (length (joined_items xs) + length (items_of s)) most_short
    && fits item.data_type (joined_items xs ++ items_of s))
list_fits_one_more t item is = items_one_more t item most_short (fits_list t item is)

pub large_list_fits_one_more : (t : DataType) (item : Field) → type_layer t ≡ layer.LargeList item → (xs : List Slot) (s : Slot)
    → fits t xs ≡ true → fits t (xs ++ s ∷ [])
    ≡ (is_list s && nat_le (length xs + 1) most_slots && nat_le (length (joined_items xs) + length (items_of s)) most_long
    && fits item.data_type (joined_items xs ++ items_of s))
large_list_fits_one_more t item is = items_one_more t item most_long (fits_large_list t item is)

pub fixed_list_fits_one_more : (t : DataType) (item : Field) (size : ℕ) → type_layer t ≡ layer.FixedSizeList item size → (xs : List Slot) (s : Slot)
    → fits t xs ≡ true → fits t (xs ++ s ∷ [])
    ≡ (is_list_sized size s && nat_le (length xs + 1) most_slots && fits item.data_type (joined_fixed_items size xs ++ fixed_items_of size s))
fixed_list_fits_one_more t item size is xs s h =
    let all = joined_fixed_items size xs in
    let own = (parts_of_3 (list_all (is_list_sized size) xs) (is_length xs) (fits item.data_type all)
    (sym (fits_fixed_list t item size is xs) ∙ h)).0 in
    fits_fixed_list t item size is (xs ++ s ∷ [])
    ∙ (λ j. all_one_more (is_list_sized size) xs s own j && length_one_more xs s j
    && fits item.data_type (joined_one_more (fixed_items_of size) xs s j))

pub struct_fits_one_more : (t : DataType) (us : List Field) → type_layer t ≡ layer.Struct us → (xs : List Slot) (s : Slot) → fits t xs ≡ true
    → fits t (xs ++ s ∷ []) ≡ (is_record_sized (length us) s && nat_le (length xs + 1) most_slots
    && columns_fit us (pushed_each (slots_of_fields (length us) xs) (fields_of_slot (length us) s)))
struct_fits_one_more t us is xs s h =
    let shape = is_record_sized (length us) in
    let own = (parts_of_3 (list_all shape xs) (is_length xs) (columns_fit us (slots_of_fields (length us) xs))
    (sym (fits_struct t us is xs) ∙ h)).0 in
    fits_struct t us is (xs ++ s ∷ [])
    ∙ (λ j. all_one_more shape xs s own j && length_one_more xs s j && columns_fit us (fields_one_more (length us) xs s j))

-- a dictionary takes a null, one of its values, or one more that fits behind them
pub dictionary_fits_one_more : (t : DataType) (key : IntegerType) (value : DataType) (is_ordered : Bool)
    → type_layer t ≡ layer.Dictionary key value is_ordered → (xs : List Slot) (s : Slot) → fits t xs ≡ true → fits t (xs ++ s ∷ [])
    ≡ (nat_le (length xs + 1) most_slots && (is_null s || is_among s (dictionary_values xs)
    || (nat_le (length (dictionary_values xs) + 1) (most_values key) && fits value (dictionary_values xs ++ s ∷ []))))
dictionary_fits_one_more t key value is_ordered is xs s h =
    let values = dictionary_values xs in
    let room = nat_le (length xs + 1) most_slots in
    let most = most_values key in
    let more = nat_le (length values + 1) most && fits value (values ++ s ∷ []) in
    let choose : Bool → List Slot = λ b. if b then values else values ++ s ∷ [] in
    let parts = parts_of_3 (is_length xs) (nat_le (length values) most) (fits value values)
    (sym (fits_dictionary t key value is_ordered is xs) ∙ h) in
    let size : length (values ++ s ∷ []) ≡ length values + 1 = length_push values s in
    fits_dictionary t key value is_ordered is (xs ++ s ∷ [])
    ∙ (λ j. length_one_more xs s j && nat_le (length (values_grow xs s j)) most && fits value (values_grow xs s j))
    ∙ elim (cases_Bool (is_null s || is_among s values)) [
      | inl kept ↦
          let same : grown_values values s ≡ values = ap choose kept in
          (λ j. room && nat_le (length (same j)) most && fits value (same j))
          ∙ kept_all room (nat_le (length values) most) (fits value values) (is_null s || is_among s values) more parts.1 parts.2 kept
      | inr new ↦
          let grown : grown_values values s ≡ values ++ s ∷ [] = ap choose new in
          (λ j. room && nat_le (length (grown j)) most && fits value (grown j))
          ∙ ap (λ n. room && nat_le n most && fits value (values ++ s ∷ [])) size
          ∙ grown_all room (nat_le (length values + 1) most) (fits value (values ++ s ∷ [])) (is_null s || is_among s values) new
    ]
  where
    kept_all : (a b c d e : Bool) → b ≡ true → c ≡ true → d ≡ true → (a && b && c) ≡ (a && (d || e))
    kept_all true true true true e hb hc hd = refl
    kept_all false true true true e hb hc hd = refl
    kept_all a false c d e hb hc hd = absurd cc
    kept_all a true false d e hb hc hd = absurd cc
    kept_all a true true false e hb hc hd = absurd cc

    grown_all : (a b c d : Bool) → d ≡ false → (a && b && c) ≡ (a && (d || (b && c)))
    grown_all true b c false hd = refl
    grown_all false b c false hd = refl
    grown_all a b c true hd = absurd cc

-- ---- nulls

and_true : (b : Bool) → (b && true) ≡ b
and_true true = refl
and_true false = refl

-- a null brings no items, so only the number of slots counts
nothing_more : (t : DataType) (item : Field) (limit : ℕ) → ((xs : List Slot) → fits t xs
    ≡ (list_all is_list xs && is_length xs && nat_le (length (joined_items xs)) limit && fits item.data_type (joined_items xs)))
    → (xs : List Slot) → fits t xs ≡ true → fits t (xs ++ null ∷ []) ≡ nat_le (length xs + 1) most_slots
nothing_more t item limit is xs h =
    let all = joined_items xs in
    let room = nat_le (length xs + 1) most_slots in
    let none : all ++ [] ≡ all = append-nil all in
    let size : length all + 0 ≡ length all = omega arith in
    let parts = parts_of_4 (list_all is_list xs) (is_length xs) (nat_le (length all) limit) (fits item.data_type all) (sym (is xs) ∙ h) in
    items_one_more t item limit is xs null h
    ∙ (λ j. room && nat_le (size j) limit && fits item.data_type (none j))
    ∙ (λ j. room && parts.2 j && parts.3 j) ∙ and_true (room && true) ∙ and_true room

pub list_takes_null : (t : DataType) (item : Field) → type_layer t ≡ layer.List item → (xs : List Slot) → fits t xs ≡ true
    → fits t (xs ++ null ∷ []) ≡ nat_le (length xs + 1) most_slots
list_takes_null t item is = nothing_more t item most_short (fits_list t item is)

pub large_list_takes_null : (t : DataType) (item : Field) → type_layer t ≡ layer.LargeList item → (xs : List Slot) → fits t xs ≡ true
    → fits t (xs ++ null ∷ []) ≡ nat_le (length xs + 1) most_slots
large_list_takes_null t item is = nothing_more t item most_long (fits_large_list t item is)

pub dictionary_takes_null : (t : DataType) (key : IntegerType) (value : DataType) (is_ordered : Bool)
    → type_layer t ≡ layer.Dictionary key value is_ordered → (xs : List Slot) → fits t xs ≡ true
    → fits t (xs ++ null ∷ []) ≡ nat_le (length xs + 1) most_slots
dictionary_takes_null t key value is_ordered is xs h =
    dictionary_fits_one_more t key value is_ordered is xs null h ∙ and_true (nat_le (length xs + 1) most_slots)
