-- What is known of the types below: what their slots fit, and which types are buildable, by one layer of a type.
use Rattle.std.proofs.Common.{◌≡◌, ◌∙◌, ℕ, ◌<◌, ◌≤◌, List, [], ◌∷◌, length, get_or, Bool, true, refl, sym, ap, arith}
use Rattle.std.specs.Prelude.{Some, ◌&&◌, is_some, unwrap_or, nat_le}
use Rattle.std.specs.List.{list_all}
use Rattle.std.proofs.lemmas.Bool.{and_parts, leb-true}
use Rattle.std.proofs.lemmas.List.{length-map}
use Rattle.nested_arrays_columns.specs.columnar_memory.declared.DataType.{DataType}
use Rattle.nested_arrays_columns.specs.columnar_memory.declared.DataType.TheOpen as layer
use Rattle.nested_arrays_columns.specs.columnar_memory.declared.DataType.TheViews.{out-DataType}
use Rattle.nested_arrays_columns.specs.columnar_memory.declared.Field.{Field}
use Rattle.nested_arrays_columns.specs.columnar_memory.declared.IntegerType.{IntegerType}
use Rattle.nested_arrays_columns.specs.Cells.{is_null}
use Rattle.nested_arrays_columns.specs.Children.{joined_items, joined_fixed_items, field_slots, dictionary_values}
use Rattle.nested_arrays_columns.specs.FreshLaws.{is_buildable, are_buildable}
use Rattle.nested_arrays_columns.specs.Kinds.{most_values}
use Rattle.nested_arrays_columns.specs.OpenBatch.{most_short, most_long, is_length, fits}
use Rattle.nested_arrays_columns.specs.Rows.{columns_fit}
use Rattle.nested_arrays_columns.specs.Slots.{Slot}
use Rattle.nested_arrays_columns.specs.SoundColumns.{is_entry}
use Rattle.nested_arrays_columns.specs.StoredColumns.{type_layer}
use Rattle.nested_arrays_columns.proofs.Conditions.{parts_of_3, parts_of_4}
use Rattle.nested_arrays_columns.proofs.FreshBelow.{no_items}
use Rattle.nested_arrays_columns.proofs.FreshLengths.{Layer, buildable_field, answers, can_all, unlike}
use Rattle.nested_arrays_columns.specs.OpenParts.{is_list, is_list_sized, is_record_sized, item_of, most_items, slots_of_fields}
use Rattle.nested_arrays_columns.proofs.Fields.{column_fits, field_at, fields_count}
use Rattle.nested_arrays_columns.proofs.Fits.{nothing_fits, fits_list, fits_large_list, fits_map, fits_fixed_list, fits_struct, fits_dictionary}
use Rattle.nested_arrays_columns.proofs.TypeSteps.{buildable_by_layer, buildable_field_is}

-- ---- what fits below

record Below (item : DataType) (limit : ℕ) (xs : List Slot) : Type 0 where
  few : length (joined_items xs) ≤ limit
  fit : fits item (joined_items xs) ≡ true

listed : (item : DataType) (limit : ℕ) (xs : List Slot)
    → (list_all is_list xs && is_length xs && nat_le (length (joined_items xs)) limit && fits item (joined_items xs)) ≡ true → Below item limit xs
listed item limit xs h =
    let parts = parts_of_4 (list_all is_list xs) (is_length xs) (nat_le (length (joined_items xs)) limit) (fits item (joined_items xs)) h in
    record { few = leb-true (length (joined_items xs)) limit parts.2; fit = parts.3 }

below_layer : (t : DataType) (x : Layer) (item : Field) (xs : List Slot) → type_layer t ≡ x → item_of x ≡ Some item → fits t xs ≡ true
    → Below item.data_type (most_items x) xs
below_layer t (layer.List own) item xs is of h =
    let same : own ≡ item = ap (λ o. unwrap_or o own) of in
    listed item.data_type most_short xs (sym (ap (λ (u : Field). list_all is_list xs && is_length xs
    && nat_le (length (joined_items xs)) most_short && fits u.data_type (joined_items xs)) same) ∙ sym (fits_list t own is xs) ∙ h)
below_layer t (layer.LargeList own) item xs is of h =
    let same : own ≡ item = ap (λ o. unwrap_or o own) of in
    listed item.data_type most_long xs (sym (ap (λ (u : Field). list_all is_list xs && is_length xs
    && nat_le (length (joined_items xs)) most_long && fits u.data_type (joined_items xs)) same) ∙ sym (fits_large_list t own is xs) ∙ h)
below_layer t (layer.Map own is_sorted) item xs is of h =
    let none : joined_items xs ≡ [] =
    no_items xs (and_parts (list_all is_null xs) (is_length xs) (sym (fits_map t own is_sorted is xs) ∙ h)).0 in
    record {
      few = omega (arith, ap length none);
      fit = ap (fits item.data_type) none ∙ nothing_fits item.data_type;
    }
below_layer t _ item xs is of h = absurd (unlike (ap is_some of))

-- the items of lists or maps that fit are within the limit of offsets, and fit
pub items_few : (t : DataType) (item : Field) → item_of (type_layer t) ≡ Some item → (xs : List Slot) → fits t xs ≡ true
    → length (joined_items xs) ≤ most_items (type_layer t)
items_few t item of xs h = (below_layer t (type_layer t) item xs refl of h).few

pub items_fit_below : (t : DataType) (item : Field) → item_of (type_layer t) ≡ Some item → (xs : List Slot) → fits t xs ≡ true
    → fits item.data_type (joined_items xs) ≡ true
items_fit_below t item of xs h = (below_layer t (type_layer t) item xs refl of h).fit

pub fixed_items_fit_below : (t : DataType) (item : Field) (size : ℕ) → type_layer t ≡ layer.FixedSizeList item size → (xs : List Slot)
    → fits t xs ≡ true → (list_all (is_list_sized size) xs ≡ true) × (fits item.data_type (joined_fixed_items size xs) ≡ true)
fixed_items_fit_below t item size is xs h =
    let parts = parts_of_3 (list_all (is_list_sized size) xs) (is_length xs) (fits item.data_type (joined_fixed_items size xs))
    (sym (fits_fixed_list t item size is xs) ∙ h) in
    (parts.0, parts.2)

pub fields_fit_below : (t : DataType) (us : List Field) → type_layer t ≡ layer.Struct us → (xs : List Slot) → fits t xs ≡ true
    → columns_fit us (slots_of_fields (length us) xs) ≡ true
fields_fit_below t us is xs h =
    (parts_of_3 (list_all (is_record_sized (length us)) xs) (is_length xs) (columns_fit us (slots_of_fields (length us) xs))
    (sym (fits_struct t us is xs) ∙ h)).2

pub field_fits_below : (t : DataType) (us : List Field) → type_layer t ≡ layer.Struct us → (xs : List Slot) → fits t xs ≡ true → (k : ℕ) (u : Field)
    → k < length us → fits (get_or us k u).data_type (field_slots xs k) ≡ true
field_fits_below t us is xs h k u lt =
    ap (fits (get_or us k u).data_type) (sym (field_at (length us) xs k [] lt))
    ∙ column_fits us (slots_of_fields (length us) xs) k u [] (fields_fit_below t us is xs h) lt (omega (arith, lt, fields_count (length us) xs))

pub values_fit_below : (t : DataType) (key : IntegerType) (value : DataType) (is_ordered : Bool)
    → type_layer t ≡ layer.Dictionary key value is_ordered → (xs : List Slot) → fits t xs ≡ true
    → (length (dictionary_values xs) ≤ most_values key) × (fits value (dictionary_values xs) ≡ true)
values_fit_below t key value is_ordered is xs h =
    let values = dictionary_values xs in
    let parts = parts_of_3 (is_length xs) (nat_le (length values) (most_values key)) (fits value values)
    (sym (fits_dictionary t key value is_ordered is xs) ∙ h) in
    (leb-true (length values) (most_values key) parts.1, parts.2)

-- ---- which types are buildable

pub buildable_list : (t : DataType) (item : Field) → type_layer t ≡ layer.List item → is_buildable t ≡ is_buildable item.data_type
buildable_list t item is = buildable_by_layer t (layer.List item) is ∙ buildable_field_is item

pub buildable_large_list : (t : DataType) (item : Field) → type_layer t ≡ layer.LargeList item → is_buildable t ≡ is_buildable item.data_type
buildable_large_list t item is = buildable_by_layer t (layer.LargeList item) is ∙ buildable_field_is item

pub buildable_map : (t : DataType) (entry : Field) (is_sorted : Bool) → type_layer t ≡ layer.Map entry is_sorted
    → is_buildable t ≡ (is_entry (out-DataType entry.data_type) && is_buildable entry.data_type)
buildable_map t entry is_sorted is =
    buildable_by_layer t (layer.Map entry is_sorted) is ∙ ap (λ b. is_entry (out-DataType entry.data_type) && b) (buildable_field_is entry)

pub buildable_fixed_list : (t : DataType) (item : Field) (size : ℕ) → type_layer t ≡ layer.FixedSizeList item size
    → is_buildable t ≡ (nat_le 1 size && is_buildable item.data_type)
buildable_fixed_list t item size is =
    buildable_by_layer t (layer.FixedSizeList item size) is ∙ ap (λ b. nat_le 1 size && b) (buildable_field_is item)

all_buildable : (us : List Field) → can_all us ≡ are_buildable us
all_buildable [] = refl
all_buildable (u ∷ us) = λ j. buildable_field_is u j && all_buildable us j

pub buildable_struct : (t : DataType) (us : List Field) → type_layer t ≡ layer.Struct us
    → is_buildable t ≡ (nat_le 1 (length us) && are_buildable us)
buildable_struct t us is =
    let many : length (answers us) ≡ length us = length-map us (λ u. (u, buildable_field u)) in
    buildable_by_layer t (layer.Struct us) is ∙ (λ j. nat_le 1 (many j) && all_buildable us j)

pub buildable_dictionary : (t : DataType) (key : IntegerType) (value : DataType) (is_ordered : Bool)
    → type_layer t ≡ layer.Dictionary key value is_ordered → is_buildable t ≡ is_buildable value
buildable_dictionary t key value is_ordered is = buildable_by_layer t (layer.Dictionary key value is_ordered) is

pub buildable_fixed_binary : (t : DataType) (size : ℕ) → type_layer t ≡ layer.FixedSizeBinary size → is_buildable t ≡ nat_le 1 size
buildable_fixed_binary t size is = buildable_by_layer t (layer.FixedSizeBinary size) is
