-- The column that stores some slots is sound: an induction over its type.
use Rattle.std.proofs.Common.{◌≡◌, ◌∙◌, ℕ, suc, ◌-◌, ◌*◌, ◌/◌, ◌≤◌, Bool, true, false, List, [], ◌∷◌, length, map, refl, sym, ap, subst, arith, ◌==◌}
use Rattle.std.proofs.Common.{min}
use Rattle.std.specs.Prelude.{pos, ◌&&◌, nat_le}
use Rattle.std.specs.List.{list_all, flat_map}
use Rattle.std.proofs.lemmas.Bool.{and_parts, and_from, leb-true, eq-eqb}
use Rattle.std.proofs.lemmas.List.{length-map}
use denote.Hole.Carrier
use Rattle.columnar_memory_core.specs.declared.DataType.{DataType, map-DataType}
use Rattle.columnar_memory_core.specs.declared.DataType.TheOpen as layer
use Rattle.columnar_memory_core.specs.declared.DataType.TheFolds.{fold-Field, fold-roll-DataType, para-roll-DataType, fold-roll-Field}
use Rattle.columnar_memory_core.specs.declared.DataType.TheFolds.{para-roll-Field, ind-DataType}
use Rattle.columnar_memory_core.specs.declared.DataType.TheViews.{roll-DataType, roll-Field, out-DataType}
use Rattle.columnar_memory_core.specs.declared.Field.{Field, map-Field}
use Rattle.columnar_memory_core.specs.declared.IntegerType.{IntegerType}
use Rattle.columnar_memory_core.specs.declared.IntervalUnit.TheVariants as intervals
use Rattle.columnar_memory_core.specs.declared.PhysicalType.{PhysicalType}
use Rattle.columnar_memory_core.specs.declared.PhysicalType.TheVariants as physical
use Rattle.columnar_memory_core.specs.declared.PrimitiveType.TheVariants as kinds
use Rattle.columnar_memory_core.specs.Equality.{same_type, same_type-Decides}
use Rattle.columnar_memory_core.specs.Layouts.{physical_type}
use Rattle.nested_arrays_columns.specs.Cells.{is_text, is_bytes, is_bytes_of, is_list_of_size, fits_step, fits_cell}
use Rattle.nested_arrays_columns.specs.Children.{items_of, fixed_items_of, joined_items, joined_fixed_items, field_of, field_slots, dictionary_values}
use Rattle.nested_arrays_columns.specs.FreshColumns.{is_true, number_of, pair_of, triple_of, content_of, fixed_content_of, key_among, mask_of}
use Rattle.nested_arrays_columns.specs.FreshColumns.{content_offsets}
use Rattle.nested_arrays_columns.specs.FreshColumns.{item_offsets, Maker, MakerUnder, fresh_fields, fresh_lists, fresh_keys, fresh_step}
use Rattle.nested_arrays_columns.specs.FreshColumns.{fresh_field_step, fresh_under}
use Rattle.nested_arrays_columns.specs.FreshLaws.{buildable_step, is_buildable, FreshIsSound}
use Rattle.nested_arrays_columns.specs.Kinds.{is_key, most_offset, most_values}
use Rattle.nested_arrays_columns.specs.OpenBatch.{most_short, most_long, is_length, bytes_within, fields_within, within_step, is_within}
use Rattle.nested_arrays_columns.specs.Slots.{Slot, null}
use Rattle.nested_arrays_columns.specs.SoundColumns.{holds_below, is_byte, mask_fits, are_offsets, are_strings, is_text_at, are_pieces, is_stored_as}
use Rattle.nested_arrays_columns.specs.SoundColumns.{has_size, is_null_type, is_entry, has_item_type, has_fixed_item_type, has_value_type, have_types}
use Rattle.nested_arrays_columns.specs.SoundColumns.{has_field_types, have_len, has_value_at, is_sound, are_sound}
use Rattle.nested_arrays_columns.specs.StoredColumns.{Stored, bits, numbers, pairs, triples, texts, byte_strings, fixed_bytes, Columns, flat}
use Rattle.nested_arrays_columns.specs.StoredColumns.{fixed_lists}
use Rattle.nested_arrays_columns.specs.StoredColumns.{records, stored_len, column_type, column_len, type_layer}
use Rattle.nested_arrays_columns.proofs.Claims.{TypeWith, FieldWith, LayerWith, bare_layer}
use Rattle.nested_arrays_columns.proofs.Conditions.{parts_of_3}
use Rattle.nested_arrays_columns.proofs.Fitting.{null_fits}
use Rattle.nested_arrays_columns.proofs.FreshBelow.{joined_passes, items_fit, no_items, fixed_items_fit, pieces_length, fixed_piece, values_fit}
use Rattle.nested_arrays_columns.proofs.FreshBelow.{TakeNull, fields_pass, fields_fit}
use Rattle.nested_arrays_columns.proofs.FreshLengths.{makers_of, answers, can_all}
use Rattle.nested_arrays_columns.proofs.FreshLengths.{Layer, buildable_field, fresh_field, cell_field, buildable_layer, fresh_layer, cell_layer}
use Rattle.nested_arrays_columns.proofs.FreshLengths.{unlike}
use Rattle.nested_arrays_columns.proofs.FreshLengths.{offsets_count, content_piece, of_size, fresh_counts}
use Rattle.nested_arrays_columns.proofs.FreshParts.{mask_sound, offsets_sound, strings_sound, text_is_bytes, bytes_are_bytes, texts_sound}
use Rattle.nested_arrays_columns.proofs.FreshParts.{fixed_is_bytes, pieces_sound, numbers_sound, pairs_sound, triples_sound, keys_of, keys_fit}
use Rattle.nested_arrays_columns.proofs.FreshParts.{keys_stand}
use Rattle.nested_arrays_columns.proofs.FreshTypes.{fresh_type}
use Rattle.nested_arrays_columns.proofs.TypeLayers.{is_extension, layer_itself, layer_within, layer_layout, layout_is}

abbrev within_field : Field → List Slot → Bool
within_field = fold-Field (List Slot → Bool) (List Slot → Bool) within_step (λ field. field.data_type)

abbrev within_layer : Layer → List Slot → Bool
within_layer x = within_step (map-DataType DataType Field (List Slot → Bool) (List Slot → Bool) is_within within_field x)

-- ---- the claim

abbrev Sound : Maker → (Slot → Bool) → (List Slot → Bool) → Type 0
Sound make cell within = (xs : List Slot) → list_all cell xs ≡ true → within xs ≡ true → is_sound (make xs) ≡ true

abbrev TypeSound : DataType → Type 0
TypeSound t = is_buildable t ≡ true → (whole : DataType) → type_layer whole ≡ type_layer t → Sound (fresh_under t whole) (fits_cell t) (is_within t)

record SoundField (make : Maker) (cell : Slot → Bool) (within : List Slot → Bool) (data_type : DataType) : Type 0 where
  takes_null : cell null ≡ true
  typed : (xs : List Slot) → column_type (make xs) ≡ data_type
  counts : (xs : List Slot) → list_all cell xs ≡ true → column_len (make xs) ≡ length xs
  sound : Sound make cell within

abbrev FieldSound : Field → Type 0
FieldSound u = buildable_field u ≡ true → SoundField (fresh_field u) (cell_field u) (within_field u) u.data_type

at_roll : (x : Layer)
    → (buildable_layer x ≡ true → (whole : DataType) → type_layer whole ≡ type_layer (roll-DataType x)
    → Sound (fresh_layer x whole) (cell_layer x) (within_layer x)) → TypeSound (roll-DataType x)
at_roll x h = rw (
  para-roll-DataType Bool Bool buildable_step (λ field. field.data_type.1) x,
  para-roll-DataType MakerUnder Maker fresh_step fresh_field_step x,
  fold-roll-DataType (Slot → Bool) (Slot → Bool) fits_step (λ field. field.data_type) x,
  fold-roll-DataType (List Slot → Bool) (List Slot → Bool) within_step (λ field. field.data_type) x,
) h

at_plain : (x : Layer) → is_extension x ≡ false
    → (buildable_layer x ≡ true → (whole : DataType) → type_layer whole ≡ x → Sound (fresh_layer x whole) (cell_layer x) (within_layer x))
    → TypeSound (roll-DataType x)
at_plain x plain h = at_roll x (λ can whole is. h can whole (is ∙ layer_itself x plain))

lies_as : (whole : DataType) (x : Layer) → type_layer whole ≡ x → physical_type whole ≡ layer_layout x
lies_as whole x is = layout_is whole ∙ ap layer_layout is

same_itself : (a b : DataType) → a ≡ b → same_type b a ≡ true
same_itself a b e = (same_type-Decides b a).1 (sym e)

-- ---- without children

flat_sound : (whole : DataType) (x : Layer) → type_layer whole ≡ x → (xs : List Slot) (stored : Stored) → is_stored_as (layer_layout x) stored ≡ true
    → has_size x stored ≡ true → stored_len stored ≡ length xs → is_sound (flat whole (mask_of xs) stored) ≡ true
flat_sound whole x is xs stored fits sized size =
    and_from (is_stored_as (physical_type whole) stored && has_size (type_layer whole) stored) (mask_fits (mask_of xs) (stored_len stored))
    (and_from (is_stored_as (physical_type whole) stored) (has_size (type_layer whole) stored)
    (ap (λ l. is_stored_as l stored) (lies_as whole x is) ∙ fits) (ap (λ x. has_size x stored) is ∙ sized))
    (mask_sound xs (stored_len stored) size)

texts_are_sound : (layout : PhysicalType) (limit : ℕ) → most_offset layout ≡ limit → (xs : List Slot) → list_all is_text xs ≡ true
    → bytes_within limit xs ≡ true
    → (are_strings layout (content_offsets xs) (flat_map content_of xs)
    && holds_below (length (content_offsets xs) - 1) (is_text_at (content_offsets xs) (flat_map content_of xs))) ≡ true
texts_are_sound layout limit most xs fits within =
    and_from (are_strings layout (content_offsets xs) (flat_map content_of xs))
    (holds_below (length (content_offsets xs) - 1) (is_text_at (content_offsets xs) (flat_map content_of xs)))
    (strings_sound layout limit most is_text text_is_bytes xs fits within) (texts_sound xs fits)

fixed_bytes_sound : (size : ℕ) → nat_le 1 size ≡ true → (whole : DataType) → type_layer whole ≡ layer.FixedSizeBinary size → (xs : List Slot)
    → list_all (is_bytes_of size) xs ≡ true
    → is_sound (flat whole (mask_of xs) (fixed_bytes size (flat_map (fixed_content_of size) xs))) ≡ true
fixed_bytes_sound size at_least whole is xs fits =
    let content : List ℕ = flat_map (fixed_content_of size) xs in
    let long : length content ≡ size * length xs = pieces_length (is_bytes_of size) (fixed_content_of size) size (content_piece size) xs fits in
    flat_sound whole (layer.FixedSizeBinary size) is xs (fixed_bytes size content)
    (and_from (are_pieces size (length content)) (list_all is_byte content) (pieces_sound size (length content) (length xs) at_least long)
    (joined_passes (is_bytes_of size) is_byte (fixed_content_of size) (fixed_is_bytes size) xs fits))
    (eq-eqb size size refl) (of_size size (length content) (length xs) at_least long)

-- ---- lists

lists_sound : (whole : DataType) (limit : ℕ) → most_offset (physical_type whole) ≡ limit → (make : Maker) (xs : List Slot)
    → length (joined_items xs) ≤ limit → column_len (make (joined_items xs)) ≡ length (joined_items xs)
    → has_item_type (type_layer whole) (column_type (make (joined_items xs))) ≡ true → is_sound (make (joined_items xs)) ≡ true
    → is_sound (fresh_lists whole make xs) ≡ true
lists_sound whole limit most make xs few size typed sound =
    let child = make (joined_items xs) in
    let offsets : List ℕ = item_offsets xs in
    let least : ℕ = min (most_offset (physical_type whole)) (column_len child) in
    and_from (has_item_type (type_layer whole) (column_type child) && are_offsets offsets least && mask_fits (mask_of xs) (length offsets - 1))
    (is_sound child)
    (and_from (has_item_type (type_layer whole) (column_type child) && are_offsets offsets least) (mask_fits (mask_of xs) (length offsets - 1))
    (and_from (has_item_type (type_layer whole) (column_type child)) (are_offsets offsets least) typed
    (offsets_sound items_of xs least (to_min (length (joined_items xs)) (most_offset (physical_type whole)) (column_len child) limit few most size)))
    (mask_sound xs (length offsets - 1) (offsets_count (λ x. length (items_of x)) xs)))
    sound
  where
    to_min : (n m c limit : ℕ) → n ≤ limit → m ≡ limit → c ≡ n → n ≤ min m c
    to_min n m c limit h e g = omega (arith, h, e, g)

-- lists of a type whose items have a field's type
items_sound : (whole : DataType) (limit : ℕ) → most_offset (physical_type whole) ≡ limit → (u : Field)
    → SoundField (fresh_field u) (cell_field u) (within_field u) u.data_type → (xs : List Slot)
    → list_all (cell_field u) (joined_items xs) ≡ true
    → (is_length xs && nat_le (length (joined_items xs)) limit && within_field u (joined_items xs)) ≡ true
    → ((child : DataType) → child ≡ u.data_type → has_item_type (type_layer whole) child ≡ true)
    → is_sound (fresh_lists whole (fresh_field u) xs) ≡ true
items_sound whole limit most u below xs fits within typed =
    let parts = parts_of_3 (is_length xs) (nat_le (length (joined_items xs)) limit) (within_field u (joined_items xs)) within in
    lists_sound whole limit most (fresh_field u) xs (leb-true (length (joined_items xs)) limit parts.1) (below.counts (joined_items xs) fits)
    (typed (column_type (fresh_field u (joined_items xs))) (below.typed (joined_items xs)))
    (below.sound (joined_items xs) fits parts.2)

fixed_lists_sound : (size : ℕ) → nat_le 1 size ≡ true → (u : Field) (whole : DataType) → type_layer whole ≡ layer.FixedSizeList u size
    → SoundField (fresh_field u) (cell_field u) (within_field u) u.data_type → (xs : List Slot)
    → list_all (is_list_of_size size (cell_field u)) xs ≡ true → within_field u (joined_fixed_items size xs) ≡ true
    → is_sound (fixed_lists whole (mask_of xs) size (fresh_field u (joined_fixed_items size xs))) ≡ true
fixed_lists_sound size at_least u whole is below xs fits within =
    let child = fresh_field u (joined_fixed_items size xs) in
    let each = fixed_items_fit size (cell_field u) below.takes_null xs fits in
    let long : column_len child ≡ size * length xs =
    below.counts (joined_fixed_items size xs) each
    ∙ pieces_length (is_list_of_size size (cell_field u)) (fixed_items_of size) size (fixed_piece size (cell_field u)) xs fits in
    and_from (has_fixed_item_type (type_layer whole) size (column_type child) && are_pieces size (column_len child)
    && mask_fits (mask_of xs) (column_len child / size)) (is_sound child)
    (and_from (has_fixed_item_type (type_layer whole) size (column_type child) && are_pieces size (column_len child))
    (mask_fits (mask_of xs) (column_len child / size))
    (and_from (has_fixed_item_type (type_layer whole) size (column_type child)) (are_pieces size (column_len child))
    (ap (λ x. has_fixed_item_type x size (column_type child)) is
    ∙ and_from (size == size) (same_type u.data_type (column_type child)) (eq-eqb size size refl)
    (same_itself (column_type child) u.data_type (below.typed (joined_fixed_items size xs))))
    (pieces_sound size (column_len child) (length xs) at_least long))
    (mask_sound xs (column_len child / size) (of_size size (column_len child) (length xs) at_least long)))
    (below.sound (joined_fixed_items size xs) each within)

-- ---- structs

abbrev Children : Type 0
Children = List (FieldWith FieldSound)

abbrev fields_of : Children → List Field
fields_of ys = map (λ e. e.0) ys

take_nulls : (ys : Children) → can_all (fields_of ys) ≡ true → TakeNull (map cell_field (fields_of ys))
take_nulls [] can = tt
take_nulls (y ∷ ys) can =
    let parts = and_parts (buildable_field y.0) (can_all (fields_of ys)) can in ((y.1 parts.0).takes_null, take_nulls ys parts.1)

record SoundChildren (us : List Field) (columns : Columns) (n : ℕ) : Type 0 where
  types : have_types us columns ≡ true
  lengths : have_len columns n ≡ true
  sound : are_sound columns ≡ true

children_sound : (ys : Children) → can_all (fields_of ys) ≡ true → (xs : List Slot) (k : ℕ) → fields_pass (map cell_field (fields_of ys)) xs k
    → fields_within (map within_field (fields_of ys)) xs k ≡ true
    → SoundChildren (fields_of ys) (fresh_fields (makers_of (fields_of ys)) xs k) (length xs)
children_sound [] can xs k fit within = record { types = refl; lengths = refl; sound = refl }
children_sound (y ∷ ys) can xs k fit within =
    let parts = and_parts (buildable_field y.0) (can_all (fields_of ys)) can in
    let limits = and_parts (within_field y.0 (field_slots xs k)) (fields_within (map within_field (fields_of ys)) xs (suc k)) within in
    let below = y.1 parts.0 in
    let column = fresh_field y.0 (field_slots xs k) in
    let columns = fresh_fields (makers_of (fields_of ys)) xs (suc k) in
    let rest = children_sound ys parts.1 xs (suc k) fit.1 limits.1 in
    record {
      types = and_from (same_type y.0.data_type (column_type column)) (have_types (fields_of ys) columns)
          (same_itself (column_type column) y.0.data_type (below.typed (field_slots xs k))) rest.types;
      lengths = and_from (column_len column == length xs) (have_len columns (length xs))
          (eq-eqb (column_len column) (length xs) (below.counts (field_slots xs k) fit.0 ∙ length-map xs (field_of k))) rest.lengths;
      sound = and_from (is_sound column) (are_sound columns) (below.sound (field_slots xs k) fit.0 limits.0) rest.sound;
    }

records_sound : (ys : Children) (whole : DataType) → type_layer whole ≡ layer.Struct (fields_of ys)
    → (nat_le 1 (length (answers (fields_of ys))) && can_all (fields_of ys)) ≡ true
    → Sound (λ xs. records whole (mask_of xs) (length xs) (fresh_fields (makers_of (fields_of ys)) xs 0))
    (cell_layer (layer.Struct (fields_of ys))) (within_layer (layer.Struct (fields_of ys)))
records_sound [] whole is can xs fits within = absurd (unlike can)
records_sound (y ∷ ys) whole is can xs fits within =
    let us : List Field = fields_of (y ∷ ys) in
    let each = (and_parts (nat_le 1 (length (answers us))) (can_all us) can).1 in
    let limits = (and_parts (is_length xs) (fields_within (map within_field us) xs 0) within).1 in
    let columns = fresh_fields (makers_of us) xs 0 in
    let below = children_sound (y ∷ ys) each xs 0 (fields_fit (map cell_field us) xs (take_nulls (y ∷ ys) each) fits) limits in
    and_from (has_field_types (type_layer whole) columns && have_len columns (length xs) && mask_fits (mask_of xs) (length xs)) (are_sound columns)
    (and_from (has_field_types (type_layer whole) columns && have_len columns (length xs)) (mask_fits (mask_of xs) (length xs))
    (and_from (has_field_types (type_layer whole) columns) (have_len columns (length xs))
    (ap (λ x. has_field_types x columns) is ∙ below.types) below.lengths)
    (mask_sound xs (length xs) refl))
    below.sound

-- ---- dictionaries

keys_sound : (key : IntegerType) (value : DataType) (is_ordered : Bool) (whole : DataType) → type_layer whole ≡ layer.Dictionary key value is_ordered
    → is_buildable value ≡ true → Sound (fresh_under value value) (fits_cell value) (is_within value) → (xs : List Slot)
    → list_all (fits_cell value) xs ≡ true
    → (is_length xs && nat_le (length (dictionary_values xs)) (most_values key) && is_within value (dictionary_values xs)) ≡ true
    → is_sound (fresh_keys whole (fresh_under value value) xs) ≡ true
keys_sound key value is_ordered whole is can below xs fits within =
    let parts = parts_of_3 (is_length xs) (nat_le (length (dictionary_values xs)) (most_values key)) (is_within value
    (dictionary_values xs)) within in
    let each = values_fit (fits_cell value) xs fits in
    let values = fresh_under value value (dictionary_values xs) in
    let size = fresh_counts value can value (dictionary_values xs) each in
    let few = leb-true (length (dictionary_values xs)) (most_values key) parts.1 in
    let typed : Bool = has_value_type (type_layer whole) (keys_of xs) (column_type values) in
    let masked : Bool = mask_fits (mask_of xs) (length (keys_of xs)) in
    let stand : Bool = holds_below (length (keys_of xs)) (has_value_at (mask_of xs) (keys_of xs) (column_len values)) in
    and_from (typed && masked && stand) (is_sound values)
    (and_from (typed && masked) stand
    (and_from typed masked
    (ap (λ x. has_value_type x (keys_of xs) (column_type values)) is
    ∙ and_from (same_type value (column_type values)) (list_all (is_key key) (keys_of xs))
    (same_itself (column_type values) value (fresh_type value value (dictionary_values xs))) (keys_fit key xs few))
    (mask_sound xs (length (keys_of xs)) (length-map xs (λ x. pos (key_among (dictionary_values xs) x)))))
    (keys_stand xs (column_len values) size))
    (below (dictionary_values xs) each parts.2)

-- ---- the induction

sound_step : (y : LayerWith TypeSound FieldSound) → TypeSound (roll-DataType (bare_layer TypeSound FieldSound y))
sound_step layer.Null = at_plain layer.Null refl (λ can whole is xs fits within. ap is_null_type is)
sound_step layer.Boolean = at_plain layer.Boolean refl (λ can whole is xs fits within.
    flat_sound whole layer.Boolean is xs (bits (map is_true xs)) refl refl (length-map xs is_true))
sound_step layer.Int8 = at_plain layer.Int8 refl (λ can whole is xs fits within.
    flat_sound whole layer.Int8 is xs (numbers kinds.Int8 (map number_of xs)) (numbers_sound kinds.Int8 refl xs fits) refl (length-map xs number_of))
sound_step layer.Int16 = at_plain layer.Int16 refl (λ can whole is xs fits within.
    flat_sound whole layer.Int16 is xs (numbers kinds.Int16 (map number_of xs)) (numbers_sound kinds.Int16 refl xs fits) refl
    (length-map xs number_of))
sound_step layer.Int32 = at_plain layer.Int32 refl (λ can whole is xs fits within.
    flat_sound whole layer.Int32 is xs (numbers kinds.Int32 (map number_of xs)) (numbers_sound kinds.Int32 refl xs fits) refl
    (length-map xs number_of))
sound_step layer.Int64 = at_plain layer.Int64 refl (λ can whole is xs fits within.
    flat_sound whole layer.Int64 is xs (numbers kinds.Int64 (map number_of xs)) (numbers_sound kinds.Int64 refl xs fits) refl
    (length-map xs number_of))
sound_step layer.UInt8 = at_plain layer.UInt8 refl (λ can whole is xs fits within.
    flat_sound whole layer.UInt8 is xs (numbers kinds.UInt8 (map number_of xs)) (numbers_sound kinds.UInt8 refl xs fits) refl
    (length-map xs number_of))
sound_step layer.UInt16 = at_plain layer.UInt16 refl (λ can whole is xs fits within.
    flat_sound whole layer.UInt16 is xs (numbers kinds.UInt16 (map number_of xs)) (numbers_sound kinds.UInt16 refl xs fits) refl
    (length-map xs number_of))
sound_step layer.UInt32 = at_plain layer.UInt32 refl (λ can whole is xs fits within.
    flat_sound whole layer.UInt32 is xs (numbers kinds.UInt32 (map number_of xs)) (numbers_sound kinds.UInt32 refl xs fits) refl
    (length-map xs number_of))
sound_step layer.UInt64 = at_plain layer.UInt64 refl (λ can whole is xs fits within.
    flat_sound whole layer.UInt64 is xs (numbers kinds.UInt64 (map number_of xs)) (numbers_sound kinds.UInt64 refl xs fits) refl
    (length-map xs number_of))
sound_step layer.Date32 = at_plain layer.Date32 refl (λ can whole is xs fits within.
    flat_sound whole layer.Date32 is xs (numbers kinds.Int32 (map number_of xs)) (numbers_sound kinds.Int32 refl xs fits) refl
    (length-map xs number_of))
sound_step layer.Date64 = at_plain layer.Date64 refl (λ can whole is xs fits within.
    flat_sound whole layer.Date64 is xs (numbers kinds.Int64 (map number_of xs)) (numbers_sound kinds.Int64 refl xs fits) refl
    (length-map xs number_of))
sound_step (layer.Timestamp unit timezone) = at_plain (layer.Timestamp unit timezone) refl (λ can whole is xs fits within.
    flat_sound whole (layer.Timestamp unit timezone) is xs (numbers kinds.Int64 (map number_of xs)) (numbers_sound kinds.Int64 refl xs fits) refl
    (length-map xs number_of))
sound_step (layer.Time32 unit) = at_plain (layer.Time32 unit) refl (λ can whole is xs fits within.
    flat_sound whole (layer.Time32 unit) is xs (numbers kinds.Int32 (map number_of xs)) (numbers_sound kinds.Int32 refl xs fits) refl
    (length-map xs number_of))
sound_step (layer.Time64 unit) = at_plain (layer.Time64 unit) refl (λ can whole is xs fits within.
    flat_sound whole (layer.Time64 unit) is xs (numbers kinds.Int64 (map number_of xs)) (numbers_sound kinds.Int64 refl xs fits) refl
    (length-map xs number_of))
sound_step (layer.Duration unit) = at_plain (layer.Duration unit) refl (λ can whole is xs fits within.
    flat_sound whole (layer.Duration unit) is xs (numbers kinds.Int64 (map number_of xs)) (numbers_sound kinds.Int64 refl xs fits) refl
    (length-map xs number_of))
sound_step (layer.Interval intervals.YearMonth) = at_plain (layer.Interval intervals.YearMonth) refl (λ can whole is xs fits within.
    flat_sound whole (layer.Interval intervals.YearMonth) is xs (numbers kinds.Int32 (map number_of xs))
    (numbers_sound kinds.Int32 refl xs fits) refl (length-map xs number_of))
sound_step (layer.Decimal precision scale) = at_plain (layer.Decimal precision scale) refl (λ can whole is xs fits within.
    flat_sound whole (layer.Decimal precision scale) is xs (numbers kinds.Int128 (map number_of xs)) (numbers_sound kinds.Int128 refl xs fits) refl
    (length-map xs number_of))
sound_step (layer.Decimal256 precision scale) = at_plain (layer.Decimal256 precision scale) refl (λ can whole is xs fits within.
    flat_sound whole (layer.Decimal256 precision scale) is xs (numbers kinds.Int256 (map number_of xs))
    (numbers_sound kinds.Int256 refl xs fits) refl (length-map xs number_of))
sound_step (layer.Interval intervals.DayTime) = at_plain (layer.Interval intervals.DayTime) refl (λ can whole is xs fits within.
    flat_sound whole (layer.Interval intervals.DayTime) is xs (pairs kinds.DaysMs (map pair_of xs)) (pairs_sound xs fits) refl
    (length-map xs pair_of))
sound_step (layer.Interval intervals.MonthDayNano) = at_plain (layer.Interval intervals.MonthDayNano) refl (λ can whole is xs fits within.
    flat_sound whole (layer.Interval intervals.MonthDayNano) is xs (triples kinds.MonthDayNano (map triple_of xs)) (triples_sound xs fits) refl
    (length-map xs triple_of))
sound_step layer.Float16 = at_plain layer.Float16 refl (λ can whole is. absurd (unlike can))
sound_step layer.Float32 = at_plain layer.Float32 refl (λ can whole is. absurd (unlike can))
sound_step layer.Float64 = at_plain layer.Float64 refl (λ can whole is. absurd (unlike can))
sound_step layer.Utf8 = at_plain layer.Utf8 refl (λ can whole is xs fits within.
    flat_sound whole layer.Utf8 is xs (texts (content_offsets xs) (flat_map content_of xs))
    (texts_are_sound physical.Utf8 most_short refl xs fits within) refl (offsets_count (λ x. length (content_of x)) xs))
sound_step layer.LargeUtf8 = at_plain layer.LargeUtf8 refl (λ can whole is xs fits within.
    flat_sound whole layer.LargeUtf8 is xs (texts (content_offsets xs) (flat_map content_of xs))
    (texts_are_sound physical.LargeUtf8 most_long refl xs fits within) refl (offsets_count (λ x. length (content_of x)) xs))
sound_step layer.Binary = at_plain layer.Binary refl (λ can whole is xs fits within.
    flat_sound whole layer.Binary is xs (byte_strings (content_offsets xs) (flat_map content_of xs))
    (strings_sound physical.Binary most_short refl is_bytes bytes_are_bytes xs fits within) refl (offsets_count (λ x. length (content_of x)) xs))
sound_step layer.LargeBinary = at_plain layer.LargeBinary refl (λ can whole is xs fits within.
    flat_sound whole layer.LargeBinary is xs (byte_strings (content_offsets xs) (flat_map content_of xs))
    (strings_sound physical.LargeBinary most_long refl is_bytes bytes_are_bytes xs fits within) refl
    (offsets_count (λ x. length (content_of x)) xs))
sound_step (layer.FixedSizeBinary size) =
    at_plain (layer.FixedSizeBinary size) refl (λ can whole is xs fits within. fixed_bytes_sound size can whole is xs fits)
sound_step (layer.List item) = at_plain (layer.List item.0) refl (λ can whole is xs fits within.
    items_sound whole most_short (ap most_offset (lies_as whole (layer.List item.0) is)) item.0 (item.1 can) xs
    (items_fit (cell_field item.0) xs fits) within
    (λ child e. ap (λ x. has_item_type x child) is ∙ same_itself child item.0.data_type e))
sound_step (layer.LargeList item) = at_plain (layer.LargeList item.0) refl (λ can whole is xs fits within.
    items_sound whole most_long (ap most_offset (lies_as whole (layer.LargeList item.0) is)) item.0 (item.1 can) xs
    (items_fit (cell_field item.0) xs fits) within
    (λ child e. ap (λ x. has_item_type x child) is ∙ same_itself child item.0.data_type e))
sound_step (layer.Map entry is_sorted) = at_plain (layer.Map entry.0 is_sorted) refl (λ can whole is xs fits within.
    let parts = and_parts (is_entry (out-DataType entry.0.data_type)) (buildable_field entry.0) can in
    items_sound whole most_short (ap most_offset (lies_as whole (layer.Map entry.0 is_sorted) is)) entry.0 (entry.1 parts.1) xs
    (ap (list_all (cell_field entry.0)) (no_items xs fits)) within
    (λ child e. ap (λ x. has_item_type x child) is
    ∙ and_from (same_type entry.0.data_type child) (is_entry (out-DataType child)) (same_itself child entry.0.data_type e)
    (ap (λ t. is_entry (out-DataType t)) e ∙ parts.0)))
sound_step (layer.FixedSizeList item size) = at_plain (layer.FixedSizeList item.0 size) refl (λ can whole is xs fits within.
    let parts = and_parts (nat_le 1 size) (buildable_field item.0) can in
    fixed_lists_sound size parts.0 item.0 whole is (item.1 parts.1) xs fits
    (and_parts (is_length xs) (within_field item.0 (joined_fixed_items size xs)) within).1)
sound_step (layer.Struct children) =
    at_plain (layer.Struct (fields_of children)) refl (λ can whole is. records_sound children whole is can)
sound_step (layer.Union children ids mode) =
    at_plain (layer.Union (fields_of children) ids mode) refl (λ can whole is. absurd (unlike can))
sound_step (layer.Dictionary key value is_ordered) = at_plain (layer.Dictionary key value.0 is_ordered) refl (λ can whole is xs fits within.
    keys_sound key value.0 is_ordered whole is can (value.1 can value.0 refl) xs fits within)
sound_step (layer.Extension name inner metadata) = at_roll (layer.Extension name inner.0 metadata) (λ can whole is.
    inner.1 can whole (is ∙ layer_within name inner.0 metadata))

field_sound : (x : layer.Field-F DataType Field) → TypeSound x.data_type → FieldSound (roll-Field x)
unfolding roll-DataType denote.Hole.Carrier.roll
field_sound x h can =
    let ok = sym (para-roll-Field Bool Bool buildable_step (λ field. field.data_type.1) x) ∙ can in
    let here : SoundField (fresh_under x.data_type x.data_type) (fits_cell x.data_type) (is_within x.data_type) x.data_type = record {
      takes_null = null_fits x.data_type;
      typed = fresh_type x.data_type x.data_type;
      counts = fresh_counts x.data_type ok x.data_type;
      sound = h ok x.data_type refl;
    } in
    rw (
      para-roll-Field MakerUnder Maker fresh_step fresh_field_step x,
      fold-roll-Field (Slot → Bool) (Slot → Bool) fits_step (λ field. field.data_type) x,
      fold-roll-Field (List Slot → Bool) (List Slot → Bool) within_step (λ field. field.data_type) x,
    ) here

sound_all : (t : DataType) → TypeSound t
sound_all = ind-DataType TypeSound FieldSound (λ x y is. subst (λ (x : Layer). TypeSound (roll-DataType x)) is (sound_step y))
    (λ x y is. subst (λ (x : layer.Field-F DataType Field). FieldSound (roll-Field x)) is
    (field_sound (map-Field (TypeWith TypeSound) (FieldWith FieldSound) DataType Field (λ e. e.0) (λ e. e.0) y) y.data_type.1))

pub fresh_is_sound : FreshIsSound
fresh_is_sound t xs can fit =
    let parts = and_parts (list_all (fits_cell t) xs) (is_within t xs) fit in sound_all t can t refl xs parts.0 parts.1
