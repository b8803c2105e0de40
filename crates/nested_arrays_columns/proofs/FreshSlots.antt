-- The column that stores some slots has these slots: an induction over its type.
use Rattle.std.proofs.Common.{◌≡◌, ◌∙◌, ℕ, zero, suc, ◌+◌, ◌-◌, ◌*◌, ◌<◌, ◌≤◌, Bool, true, false, List, [], ◌∷◌, length, map, take, get_or, refl, sym}
use Rattle.std.proofs.Common.{ap}
use Rattle.std.proofs.Common.{subst, arith}
use Rattle.std.specs.Prelude.{ℤ, pos, ◌&&◌, nat_le, slice_range}
use Rattle.std.specs.List.{list_all, flat_map}
use Rattle.std.proofs.Math.ListN.{get_or-map}
use Rattle.std.proofs.lemmas.Bool.{and_parts}
use Rattle.std.proofs.lemmas.List.{length-map}
use Rattle.std.proofs.lemmas.Option.{get_or_from_slice_get}
use Rattle.columnar_memory_core.specs.declared.DataType.{DataType}
use Rattle.columnar_memory_core.specs.declared.DataType.TheOpen as layer
use Rattle.columnar_memory_core.specs.declared.DataType.TheFolds.{fold-roll-DataType, para-roll-DataType, fold-roll-Field}
use Rattle.columnar_memory_core.specs.declared.DataType.TheFolds.{para-roll-Field, ind-DataType}
use Rattle.columnar_memory_core.specs.declared.DataType.TheViews.{roll-DataType, roll-Field}
use Rattle.columnar_memory_core.specs.declared.Field.{Field, map-Field}
use Rattle.columnar_memory_core.specs.declared.IntervalUnit.TheVariants as intervals
use Rattle.columnar_memory_core.specs.declared.PrimitiveType.{PrimitiveType}
use Rattle.columnar_memory_core.specs.declared.PrimitiveType.TheVariants as kinds
use Rattle.nested_arrays_columns.specs.Cells.{is_null, is_truth, is_number_of, is_days_and_ms, is_months_days_and_ns, is_text, is_bytes, is_bytes_of}
use Rattle.nested_arrays_columns.specs.Cells.{is_list_of, is_list_of_size, fit_each, is_record_of, fits_step, fits_cell}
use Rattle.nested_arrays_columns.specs.Children.{items_of, fixed_items_of, slot_number, field_of, joined_items, joined_fixed_items, field_slots}
use Rattle.nested_arrays_columns.specs.Children.{dictionary_values}
use Rattle.nested_arrays_columns.specs.FreshColumns.{is_valid, is_true, number_of, pair_of, triple_of, content_of, fixed_content_of, key_among}
use Rattle.nested_arrays_columns.specs.FreshColumns.{mask_of}
use Rattle.nested_arrays_columns.specs.FreshColumns.{content_offsets, item_offsets, Maker, MakerUnder, fresh_fields, fresh_lists, fresh_keys}
use Rattle.nested_arrays_columns.specs.FreshColumns.{fresh_step, fresh_field_step, fresh_under}
use Rattle.nested_arrays_columns.specs.FreshLaws.{buildable_step, is_buildable, FreshLengths, FreshSlots}
use Rattle.nested_arrays_columns.specs.Kinds.{same_kind, in_kind, is_signed}
use Rattle.nested_arrays_columns.specs.OpenBatch.{is_within}
use Rattle.nested_arrays_columns.specs.SameSlots.{is_among}
use Rattle.nested_arrays_columns.specs.Slots.{Slot, Slots, null, truth, number, pair, triple, text, bytes, items, fields, no_slot, slot_then}
use Rattle.nested_arrays_columns.specs.Slots.{in_slots}
use Rattle.nested_arrays_columns.specs.Slots.{slot_list, window}
use Rattle.nested_arrays_columns.specs.StoredColumns.{bits, numbers, pairs, triples, texts, byte_strings, fixed_bytes, Column, flat, fixed_lists}
use Rattle.nested_arrays_columns.specs.StoredColumns.{records}
use Rattle.nested_arrays_columns.specs.StoredColumns.{unless_null, string_at, stored_at, column_len, slot_at, slots_at, slots, cut_list, place_of}
use Rattle.nested_arrays_columns.proofs.Claims.{TypeWith, FieldWith, LayerWith, bare_layer}
use Rattle.nested_arrays_columns.proofs.Fitting.{null_fits}
use Rattle.nested_arrays_columns.proofs.FreshBelow.{items_fit, fixed_items_fit, fixed_piece, values_fit, TakeNull, fields_pass, fields_fit}
use Rattle.nested_arrays_columns.proofs.FreshKeys.{all_among, key_below, at_key}
use Rattle.nested_arrays_columns.proofs.FreshLengths.{makers_of, answers, can_all}
use Rattle.nested_arrays_columns.proofs.FreshLengths.{Layer, buildable_field, fresh_field, cell_field, buildable_layer, fresh_layer, cell_layer}
use Rattle.nested_arrays_columns.proofs.FreshLengths.{unlike}
use Rattle.nested_arrays_columns.proofs.FreshLengths.{content_piece, fresh_counts}
use Rattle.nested_arrays_columns.proofs.FreshPlaces.{by_place, at_window, passes_at, masked, begins_at, ends_at, piece_at, size_at, piece_inside}
use Rattle.nested_arrays_columns.proofs.SameSlotsDecide.{same_kind-implies}
use Rattle.nested_arrays_columns.proofs.Windows.{length-window, cut_list-window}

-- ---- the claim

-- at each place of the column stands the slot of that place
abbrev Places : Maker → (Slot → Bool) → Type 0
Places make cell = (xs : List Slot) → list_all cell xs ≡ true → (i : ℕ) → i < length xs → slot_at (make xs) i ≡ get_or xs i null

record Keeps (make : Maker) (cell : Slot → Bool) : Type 0 where
  takes_null : cell null ≡ true
  keeps : (xs : List Slot) → list_all cell xs ≡ true → slots (make xs) ≡ xs

abbrev TypePlaces : DataType → Type 0
TypePlaces t = is_buildable t ≡ true → (whole : DataType) → Places (fresh_under t whole) (fits_cell t)

abbrev FieldKeeps : Field → Type 0
FieldKeeps u = buildable_field u ≡ true → Keeps (fresh_field u) (cell_field u)

at_roll : (x : Layer) → (buildable_layer x ≡ true → (whole : DataType) → Places (fresh_layer x whole) (cell_layer x)) → TypePlaces (roll-DataType x)
at_roll x h = rw (
  para-roll-DataType Bool Bool buildable_step (λ field. field.data_type.1) x,
  para-roll-DataType MakerUnder Maker fresh_step fresh_field_step x,
  fold-roll-DataType (Slot → Bool) (Slot → Bool) fits_step (λ field. field.data_type) x,
) h

-- ---- without children

-- what stands under the mask is the slot where that holds of what fits and isn't null
under_mask : (test : Slot → Bool) (xs : List Slot) (at : ℕ → Slot) → list_all test xs ≡ true
    → ((i : ℕ) → i < length xs → test (get_or xs i null) ≡ true → is_valid (get_or xs i null) ≡ true → at i ≡ get_or xs i null)
    → (i : ℕ) → i < length xs → unless_null (mask_of xs) i (at i) ≡ get_or xs i null
under_mask test xs at fits each i lt = masked xs i (at i) lt (each i lt (passes_at test xs i null fits lt))

null_back : (slot : Slot) → is_null slot ≡ true → null ≡ slot
null_back null h = refl
null_back _ h = absurd cc

truth_back : (slot : Slot) → is_truth slot ≡ true → is_valid slot ≡ true → truth (is_true slot) ≡ slot
truth_back (truth b) fits valid = refl
truth_back _ fits valid = absurd cc

number_back : (kind : PrimitiveType) (slot : Slot) → is_number_of kind slot ≡ true → is_valid slot ≡ true → number kind (number_of slot) ≡ slot
number_back kind (number own n) fits valid =
    ap (λ k. number k n) (same_kind-implies kind own (and_parts (same_kind kind own) (in_kind own n) fits).0)
number_back kind _ fits valid = absurd cc

pair_back : (slot : Slot) → is_days_and_ms slot ≡ true → is_valid slot ≡ true → pair kinds.DaysMs (pair_of slot).0 (pair_of slot).1 ≡ slot
pair_back (pair own days ms) fits valid =
    let parts = and_parts (same_kind kinds.DaysMs own && is_signed 32 days) (is_signed 32 ms) fits in
    ap (λ k. pair k days ms) (same_kind-implies kinds.DaysMs own (and_parts (same_kind kinds.DaysMs own) (is_signed 32 days) parts.0).0)
pair_back _ fits valid = absurd cc

triple_back : (slot : Slot) → is_months_days_and_ns slot ≡ true → is_valid slot ≡ true
    → triple kinds.MonthDayNano (triple_of slot).0 (triple_of slot).1 (triple_of slot).2 ≡ slot
triple_back (triple own months days ns) fits valid =
    let one = and_parts (same_kind kinds.MonthDayNano own && is_signed 32 months && is_signed 32 days) (is_signed 64 ns) fits in
    let two = and_parts (same_kind kinds.MonthDayNano own && is_signed 32 months) (is_signed 32 days) one.0 in
    ap (λ k. triple k months days ns)
    (same_kind-implies kinds.MonthDayNano own (and_parts (same_kind kinds.MonthDayNano own) (is_signed 32 months) two.0).0)
triple_back _ fits valid = absurd cc

text_back : (slot : Slot) → is_text slot ≡ true → is_valid slot ≡ true → text (content_of slot) ≡ slot
text_back (text content) fits valid = refl
text_back _ fits valid = absurd cc

bytes_back : (slot : Slot) → is_bytes slot ≡ true → is_valid slot ≡ true → bytes (content_of slot) ≡ slot
bytes_back (bytes content) fits valid = refl
bytes_back _ fits valid = absurd cc

fixed_bytes_back : (size : ℕ) (slot : Slot) → is_bytes_of size slot ≡ true → is_valid slot ≡ true → bytes (fixed_content_of size slot) ≡ slot
fixed_bytes_back size (bytes content) fits valid = refl
fixed_bytes_back size _ fits valid = absurd cc

truths_stand : (whole : DataType) → Places (λ xs. flat whole (mask_of xs) (bits (map is_true xs))) is_truth
truths_stand whole xs fits = under_mask is_truth xs (λ i. truth (get_or (map is_true xs) i false)) fits
    (λ i lt fit valid. ap truth (get_or-map is_true xs i null) ∙ truth_back (get_or xs i null) fit valid)

numbers_stand : (kind : PrimitiveType) (whole : DataType) → Places (λ xs. flat whole (mask_of xs) (numbers kind (map number_of xs)))
    (is_number_of kind)
numbers_stand kind whole xs fits = under_mask (is_number_of kind) xs (λ i. number kind (get_or (map number_of xs) i (pos 0))) fits
    (λ i lt fit valid. ap (number kind) (get_or-map number_of xs i null) ∙ number_back kind (get_or xs i null) fit valid)

pairs_stand : (whole : DataType) → Places (λ xs. flat whole (mask_of xs) (pairs kinds.DaysMs (map pair_of xs))) is_days_and_ms
pairs_stand whole xs fits =
    under_mask is_days_and_ms xs (λ i. stored_at (pairs kinds.DaysMs (map pair_of xs)) i) fits
    (λ i lt fit valid. ap (λ (v : ℤ × ℤ). pair kinds.DaysMs v.0 v.1) (get_or-map pair_of xs i null) ∙ pair_back (get_or xs i null) fit valid)

triples_stand : (whole : DataType) → Places (λ xs. flat whole (mask_of xs) (triples kinds.MonthDayNano (map triple_of xs))) is_months_days_and_ns
triples_stand whole xs fits =
    under_mask is_months_days_and_ns xs (λ i. stored_at (triples kinds.MonthDayNano (map triple_of xs)) i) fits
    (λ i lt fit valid. ap (λ (v : ℤ × ℤ × ℤ). triple kinds.MonthDayNano v.0 v.1 v.2) (get_or-map triple_of xs i null)
    ∙ triple_back (get_or xs i null) fit valid)

-- the string of slot i
pub string_is : (xs : List Slot) (i : ℕ) → i < length xs → string_at (content_offsets xs) (flat_map content_of xs) i ≡ content_of (get_or xs i null)
string_is xs i lt =
    (λ j. slice_range (flat_map content_of xs) (begins_at content_of xs i (before i (length xs) lt) j) (ends_at content_of xs i lt j))
    ∙ piece_at content_of xs i lt
  where
    before : (i n : ℕ) → i < n → i ≤ n
    before i n h = omega arith

texts_stand : (whole : DataType) → Places (λ xs. flat whole (mask_of xs) (texts (content_offsets xs) (flat_map content_of xs))) is_text
texts_stand whole xs fits =
    under_mask is_text xs (λ i. text (string_at (content_offsets xs) (flat_map content_of xs) i)) fits
    (λ i lt fit valid. ap text (string_is xs i lt) ∙ text_back (get_or xs i null) fit valid)

strings_stand : (whole : DataType) → Places (λ xs. flat whole (mask_of xs) (byte_strings (content_offsets xs) (flat_map content_of xs))) is_bytes
strings_stand whole xs fits =
    under_mask is_bytes xs (λ i. bytes (string_at (content_offsets xs) (flat_map content_of xs) i)) fits
    (λ i lt fit valid. ap bytes (string_is xs i lt) ∙ bytes_back (get_or xs i null) fit valid)

fixed_bytes_stand : (size : ℕ) (whole : DataType)
    → Places (λ xs. flat whole (mask_of xs) (fixed_bytes size (flat_map (fixed_content_of size) xs))) (is_bytes_of size)
fixed_bytes_stand size whole xs fits =
    let content : List ℕ = flat_map (fixed_content_of size) xs in
    under_mask (is_bytes_of size) xs (λ i. bytes (slice_range content (size * i) (size * i + size))) fits
    (λ i lt fit valid.
    let before = size_at (is_bytes_of size) (fixed_content_of size) size (content_piece size) xs i fits lt in
    let own = content_piece size (get_or xs i null) fit in
    ap bytes ((λ j. cut_list content (sym before j) (sym own j)) ∙ piece_at (fixed_content_of size) xs i lt)
    ∙ fixed_bytes_back size (get_or xs i null) fit valid)

-- ---- lists

listed_back : (some : Slots) → in_slots (slot_list some) ≡ some
listed_back no_slot = refl
listed_back (slot_then slot some) = ap (slot_then slot) (listed_back some)

-- a part of a column's slots
part_is : (column : Column) (xs : List Slot) (o n : ℕ) → slots column ≡ xs → o + n ≤ length xs → window (slot_at column) o n ≡ cut_list xs o n
part_is column xs o n same inside =
    let size : column_len column ≡ length xs = sym (length-window (slot_at column) 0 (column_len column)) ∙ ap length same in
    sym (cut_list-window (slot_at column) (column_len column) o n (omega (arith, size, inside))) ∙ ap (λ ys. cut_list ys o n) same

-- the items of slot i
items_are : (column : Column) (xs : List Slot) (i : ℕ) → slots column ≡ joined_items xs → i < length xs
    → window (slot_at column) (get_or (item_offsets xs) i 0) (get_or (item_offsets xs) (i + 1) 0 - get_or (item_offsets xs) i 0)
    ≡ items_of (get_or xs i null)
items_are column xs i same lt =
    let before : ℕ = length (flat_map items_of (take i xs)) in
    let own : ℕ = length (items_of (get_or xs i null)) in
    let first = begins_at items_of xs i (to (length xs) lt) in
    let last = ends_at items_of xs i lt in
    (λ j. window (slot_at column) (first j) (last j - first j))
    ∙ ap (window (slot_at column) before) (less before own)
    ∙ part_is column (joined_items xs) before own same (piece_inside items_of xs i lt)
    ∙ piece_at items_of xs i lt
  where
    to : (n : ℕ) → i < n → i ≤ n
    to n h = omega arith

    less : (a b : ℕ) → a + b - a ≡ b
    less a b = omega arith

list_back : (cell : Slot → Bool) (slot : Slot) → is_list_of cell slot ≡ true → is_valid slot ≡ true → items (in_slots (items_of slot)) ≡ slot
list_back cell (items some) fits valid = ap items (listed_back some)
list_back cell _ fits valid = absurd cc

lists_stand : (item : Maker) (cell : Slot → Bool) (whole : DataType) → Keeps item cell → Places (fresh_lists whole item) (is_list_of cell)
lists_stand item cell whole below xs fits =
    let column = item (joined_items xs) in
    let same = below.keeps (joined_items xs) (items_fit cell xs fits) in
    under_mask (is_list_of cell) xs
    (λ i. items (in_slots (window (slot_at column) (get_or (item_offsets xs) i 0) (get_or (item_offsets xs) (i + 1) 0 - get_or
    (item_offsets xs) i 0))))
    fits
    (λ i lt fit valid. ap (λ ys. items (in_slots ys)) (items_are column xs i same lt) ∙ list_back cell (get_or xs i null) fit valid)

-- a slot that is null is not there
no_map : (slot other : Slot) → is_null slot ≡ true → is_valid slot ≡ true → other ≡ slot
no_map null other fits valid = absurd cc
no_map _ other fits valid = absurd cc

maps_stand : (item : Maker) (whole : DataType) → Places (fresh_lists whole item) is_null
maps_stand item whole xs fits =
    let column = item (joined_items xs) in
    under_mask is_null xs
    (λ i. items (in_slots (window (slot_at column) (get_or (item_offsets xs) i 0) (get_or (item_offsets xs) (i + 1) 0 - get_or
    (item_offsets xs) i 0))))
    fits (λ i lt fit valid. no_map (get_or xs i null) _ fit valid)

fixed_list_back : (size : ℕ) (cell : Slot → Bool) (slot : Slot) → is_list_of_size size cell slot ≡ true → is_valid slot ≡ true
    → items (in_slots (fixed_items_of size slot)) ≡ slot
fixed_list_back size cell (items some) fits valid = ap items (listed_back some)
fixed_list_back size cell _ fits valid = absurd cc

fixed_lists_stand : (size : ℕ) (item : Maker) (cell : Slot → Bool) (whole : DataType) → Keeps item cell
    → Places (λ xs. fixed_lists whole (mask_of xs) size (item (joined_fixed_items size xs))) (is_list_of_size size cell)
fixed_lists_stand size item cell whole below xs fits =
    let column = item (joined_fixed_items size xs) in
    let same = below.keeps (joined_fixed_items size xs) (fixed_items_fit size cell below.takes_null xs fits) in
    under_mask (is_list_of_size size cell) xs (λ i. items (in_slots (window (slot_at column) (size * i) size))) fits
    (λ i lt fit valid.
    let before = size_at (is_list_of_size size cell) (fixed_items_of size) size (fixed_piece size cell) xs i fits lt in
    let own = fixed_piece size cell (get_or xs i null) fit in
    ap (λ ys. items (in_slots ys))
    ((λ j. window (slot_at column) (sym before j) (sym own j))
    ∙ part_is column (joined_fixed_items size xs) (length (flat_map (fixed_items_of size) (take i xs))) (length (fixed_items_of size
    (get_or xs i null))) same (piece_inside (fixed_items_of size) xs i lt)
    ∙ piece_at (fixed_items_of size) xs i lt)
    ∙ fixed_list_back size cell (get_or xs i null) fit valid)

-- ---- structs

abbrev Children : Type 0
Children = List (FieldWith FieldKeeps)

abbrev fields_of : Children → List Field
fields_of ys = map (λ e. e.0) ys

take_nulls : (ys : Children) → can_all (fields_of ys) ≡ true → TakeNull (map cell_field (fields_of ys))
take_nulls [] can = tt
take_nulls (y ∷ ys) can =
    let parts = and_parts (buildable_field y.0) (can_all (fields_of ys)) can in ((y.1 parts.0).takes_null, take_nulls ys parts.1)

-- the fields of one slot, from field k on
abbrev fields_from : Slot → ℕ → ℕ → List Slot
fields_from slot k zero = []
fields_from slot k (suc m) = field_of k slot ∷ fields_from slot (suc k) m

children_stand : (ys : Children) → can_all (fields_of ys) ≡ true → (xs : List Slot) (k : ℕ) → fields_pass (map cell_field (fields_of ys)) xs k
    → (i : ℕ) → i < length xs
    → slots_at (fresh_fields (makers_of (fields_of ys)) xs k) i ≡ in_slots (fields_from (get_or xs i null) k (length (fields_of ys)))
children_stand [] can xs k fit i lt = refl
children_stand (y ∷ ys) can xs k fit i lt =
    let parts = and_parts (buildable_field y.0) (can_all (fields_of ys)) can in
    let column = fresh_field y.0 (field_slots xs k) in
    let same = (y.1 parts.0).keeps (field_slots xs k) fit.0 in
    let size : column_len column ≡ length xs =
    sym (length-window (slot_at column) 0 (column_len column)) ∙ ap length same ∙ length-map xs (field_of k) in
    let here : slot_at column i ≡ field_of k (get_or xs i null) =
    at_window (slot_at column) (column_len column) (field_slots xs k) i null same (omega (arith, size, lt)) ∙ get_or-map (field_of k) xs i null in
    let rest = children_stand ys parts.1 xs (suc k) fit.1 i lt in
    λ j. slot_then (here j) (rest j)

behind_slot : (slot : Slot) (some : Slots) (k m : ℕ) → fields_from (fields (slot_then slot some)) (suc k) m ≡ fields_from (fields some) k m
behind_slot slot some k zero = refl
behind_slot slot some k (suc m) = ap (λ xs. slot_number k some ∷ xs) (behind_slot slot some (suc k) m)

all_fields : (us : List Field) (some : Slots) → fit_each (map cell_field us) some ≡ true → fields_from (fields some) 0 (length us) ≡ slot_list some
all_fields [] no_slot h = refl
all_fields [] (slot_then slot some) h = absurd cc
all_fields (u ∷ us) no_slot h = absurd cc
all_fields (u ∷ us) (slot_then slot some) h =
    let parts = and_parts (cell_field u slot) (fit_each (map cell_field us) some) h in
    ap (λ xs. slot ∷ xs) (behind_slot slot some 0 (length us) ∙ all_fields us some parts.1)

record_back : (us : List Field) (slot : Slot) → is_record_of (map cell_field us) slot ≡ true → is_valid slot ≡ true
    → fields (in_slots (fields_from slot 0 (length us))) ≡ slot
record_back us (fields some) fits valid = ap (λ xs. fields (in_slots xs)) (all_fields us some fits) ∙ ap fields (listed_back some)
record_back us _ fits valid = absurd cc

records_stand : (ys : Children) → can_all (fields_of ys) ≡ true → (whole : DataType)
    → Places (λ xs. records whole (mask_of xs) (length xs) (fresh_fields (makers_of (fields_of ys)) xs 0))
    (is_record_of (map cell_field (fields_of ys)))
records_stand ys can whole xs fits =
    under_mask (is_record_of (map cell_field (fields_of ys))) xs (λ i. fields (slots_at (fresh_fields (makers_of (fields_of ys)) xs 0) i)) fits
    (λ i lt fit valid.
    ap fields (children_stand ys can xs 0 (fields_fit (map cell_field (fields_of ys)) xs (take_nulls ys can) fits) i lt)
    ∙ record_back (fields_of ys) (get_or xs i null) fit valid)

-- ---- dictionaries

keys_stand : (value : DataType) (whole : DataType) → is_buildable value ≡ true → Places (fresh_under value value) (fits_cell value)
    → Places (fresh_keys whole (fresh_under value value)) (fits_cell value)
keys_stand value whole can below xs fits =
    let values : List Slot = dictionary_values xs in
    let each = values_fit (fits_cell value) xs fits in
    let key : Slot → ℤ = λ slot. pos (key_among values slot) in
    under_mask (fits_cell value) xs (λ i. slot_at (fresh_under value value values) (place_of (get_or (map key xs) i (pos 0)))) fits
    (λ i lt fit valid.
    let among = passes_at (λ slot. is_among slot xs) xs i null (all_among xs) lt in
    let slot = get_or xs i null in
    ap (λ k. slot_at (fresh_under value value values) (place_of k)) (get_or-map key xs i null)
    ∙ below values each (key_among values slot) (key_below slot xs valid among)
    ∙ get_or_from_slice_get values (key_among values slot) slot null (at_key slot xs valid among))

-- ---- the induction

places_step : (y : LayerWith TypePlaces FieldKeeps) → TypePlaces (roll-DataType (bare_layer TypePlaces FieldKeeps y))
places_step layer.Null =
    at_roll layer.Null (λ can whole xs fits i lt. null_back (get_or xs i null) (passes_at is_null xs i null fits lt))
places_step layer.Boolean = at_roll layer.Boolean (λ can whole. truths_stand whole)
places_step layer.Utf8 = at_roll layer.Utf8 (λ can whole. texts_stand whole)
places_step layer.LargeUtf8 = at_roll layer.LargeUtf8 (λ can whole. texts_stand whole)
places_step layer.Binary = at_roll layer.Binary (λ can whole. strings_stand whole)
places_step layer.LargeBinary = at_roll layer.LargeBinary (λ can whole. strings_stand whole)
places_step (layer.FixedSizeBinary size) = at_roll (layer.FixedSizeBinary size) (λ can whole. fixed_bytes_stand size whole)
places_step (layer.List item) = at_roll (layer.List item.0) (λ can whole. lists_stand (fresh_field item.0) (cell_field item.0) whole (item.1 can))
places_step (layer.LargeList item) =
    at_roll (layer.LargeList item.0) (λ can whole. lists_stand (fresh_field item.0) (cell_field item.0) whole (item.1 can))
places_step (layer.Map entry is_sorted) = at_roll (layer.Map entry.0 is_sorted) (λ can whole. maps_stand (fresh_field entry.0) whole)
places_step (layer.FixedSizeList item size) = at_roll (layer.FixedSizeList item.0 size) (λ can whole.
    fixed_lists_stand size (fresh_field item.0) (cell_field item.0) whole (item.1 (and_parts (nat_le 1 size) (buildable_field item.0) can).1))
places_step (layer.Struct children) = at_roll (layer.Struct (fields_of children)) (λ can whole.
    records_stand children (and_parts (nat_le 1 (length (answers (fields_of children)))) (can_all (fields_of children)) can).1 whole)
places_step (layer.Union children ids mode) = at_roll (layer.Union (fields_of children) ids mode) (λ can whole. absurd (unlike can))
places_step (layer.Dictionary key value is_ordered) =
    at_roll (layer.Dictionary key value.0 is_ordered) (λ can whole. keys_stand value.0 whole can (value.1 can value.0))
places_step (layer.Extension name inner metadata) = at_roll (layer.Extension name inner.0 metadata) (λ can whole. inner.1 can whole)
places_step layer.Float16 = at_roll layer.Float16 (λ can whole. absurd (unlike can))
places_step layer.Float32 = at_roll layer.Float32 (λ can whole. absurd (unlike can))
places_step layer.Float64 = at_roll layer.Float64 (λ can whole. absurd (unlike can))
places_step (layer.Interval intervals.YearMonth) =
    at_roll (layer.Interval intervals.YearMonth) (λ can whole. numbers_stand kinds.Int32 whole)
places_step (layer.Interval intervals.DayTime) = at_roll (layer.Interval intervals.DayTime) (λ can whole. pairs_stand whole)
places_step (layer.Interval intervals.MonthDayNano) = at_roll (layer.Interval intervals.MonthDayNano) (λ can whole. triples_stand whole)
places_step layer.Int8 = at_roll layer.Int8 (λ can whole. numbers_stand kinds.Int8 whole)
places_step layer.Int16 = at_roll layer.Int16 (λ can whole. numbers_stand kinds.Int16 whole)
places_step layer.Int32 = at_roll layer.Int32 (λ can whole. numbers_stand kinds.Int32 whole)
places_step layer.Int64 = at_roll layer.Int64 (λ can whole. numbers_stand kinds.Int64 whole)
places_step layer.UInt8 = at_roll layer.UInt8 (λ can whole. numbers_stand kinds.UInt8 whole)
places_step layer.UInt16 = at_roll layer.UInt16 (λ can whole. numbers_stand kinds.UInt16 whole)
places_step layer.UInt32 = at_roll layer.UInt32 (λ can whole. numbers_stand kinds.UInt32 whole)
places_step layer.UInt64 = at_roll layer.UInt64 (λ can whole. numbers_stand kinds.UInt64 whole)
places_step layer.Date32 = at_roll layer.Date32 (λ can whole. numbers_stand kinds.Int32 whole)
places_step layer.Date64 = at_roll layer.Date64 (λ can whole. numbers_stand kinds.Int64 whole)
places_step (layer.Timestamp unit timezone) = at_roll (layer.Timestamp unit timezone) (λ can whole. numbers_stand kinds.Int64 whole)
places_step (layer.Time32 unit) = at_roll (layer.Time32 unit) (λ can whole. numbers_stand kinds.Int32 whole)
places_step (layer.Time64 unit) = at_roll (layer.Time64 unit) (λ can whole. numbers_stand kinds.Int64 whole)
places_step (layer.Duration unit) = at_roll (layer.Duration unit) (λ can whole. numbers_stand kinds.Int64 whole)
places_step (layer.Decimal precision scale) = at_roll (layer.Decimal precision scale) (λ can whole. numbers_stand kinds.Int128 whole)
places_step (layer.Decimal256 precision scale) = at_roll (layer.Decimal256 precision scale) (λ can whole. numbers_stand kinds.Int256 whole)

field_keeps : (x : layer.Field-F DataType Field) → TypePlaces x.data_type → FieldKeeps (roll-Field x)
field_keeps x h can =
    let ok = sym (para-roll-Field Bool Bool buildable_step (λ field. field.data_type.1) x) ∙ can in
    let here : Keeps (fresh_under x.data_type x.data_type) (fits_cell x.data_type) = record {
      takes_null = null_fits x.data_type;
      keeps = λ xs fits. by_place (slot_at (fresh_under x.data_type x.data_type xs)) (column_len (fresh_under x.data_type x.data_type xs)) xs null
          (fresh_counts x.data_type ok x.data_type xs fits) (h ok x.data_type xs fits);
    } in
    rw (
      para-roll-Field MakerUnder Maker fresh_step fresh_field_step x,
      fold-roll-Field (Slot → Bool) (Slot → Bool) fits_step (λ field. field.data_type) x,
    ) here

places_all : (t : DataType) → TypePlaces t
places_all = ind-DataType TypePlaces FieldKeeps (λ x y is. subst (λ (x : Layer). TypePlaces (roll-DataType x)) is (places_step y))
    (λ x y is. subst (λ (x : layer.Field-F DataType Field). FieldKeeps (roll-Field x)) is
    (field_keeps (map-Field (TypeWith TypePlaces) (FieldWith FieldKeeps) DataType Field (λ e. e.0) (λ e. e.0) y) y.data_type.1))

pub fresh_keeps : (t : DataType) → is_buildable t ≡ true → (whole : DataType) (xs : List Slot) → list_all (fits_cell t) xs ≡ true
    → slots (fresh_under t whole xs) ≡ xs
fresh_keeps t can whole xs fits =
    by_place (slot_at (fresh_under t whole xs)) (column_len (fresh_under t whole xs)) xs null (fresh_counts t can whole xs fits)
    (places_all t can whole xs fits)

pub fresh_slots : FreshSlots
fresh_slots t xs can fit = fresh_keeps t can t xs (and_parts (list_all (fits_cell t) xs) (is_within t xs) fit).0

pub fresh_lengths : FreshLengths
fresh_lengths t xs can fit = fresh_counts t can t xs (and_parts (list_all (fits_cell t) xs) (is_within t xs) fit).0
