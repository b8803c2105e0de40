-- What fits a type: null, and the beginning of what fits.
use Rattle.std.proofs.Common.{◌≡◌, ℕ, suc, ◌≤◌, List, [], ◌∷◌, ◌++◌, length, map, refl, sym, ap, ◌∙◌, arith, Bool, true, length-append}
use Rattle.std.specs.Prelude.{◌&&◌, not, sum_by, nat_le}
use Rattle.std.specs.List.{list_all, filter}
use Rattle.std.proofs.lemmas.List.{map-append}
use Rattle.std.proofs.lemmas.List.Sums.{sum_by-append}
use Rattle.std.proofs.lemmas.List.Elements.{filter-append}
use Rattle.std.proofs.lemmas.Grind.{flat_map-append}
use Rattle.std.proofs.lemmas.List.Folds.{list_all-append}
use Rattle.std.proofs.lemmas.Bool.{and_parts, and_from, le-leb, leb-true}
use Rattle.columnar_memory_core.specs.declared.DataType.{DataType, map-DataType}
use Rattle.columnar_memory_core.specs.declared.DataType.TheOpen as layer
use Rattle.columnar_memory_core.specs.declared.IntegerType.{IntegerType}
use Rattle.columnar_memory_core.specs.declared.IntervalUnit.TheVariants as intervals
use Rattle.nested_arrays_columns.specs.Cells.{is_null, fits_step, fits_cell}
use Rattle.nested_arrays_columns.specs.Children.{items_of, fixed_items_of, field_of, joined_items, joined_fixed_items, field_slots, dictionary_values}
use Rattle.nested_arrays_columns.specs.Kinds.{most_slots, most_values}
use Rattle.nested_arrays_columns.specs.OpenBatch.{byte_count, most_short, most_long, is_length, bytes_within, items_within, fields_within}
use Rattle.nested_arrays_columns.specs.OpenBatch.{values_within, within_step, is_within, fits}
use Rattle.nested_arrays_columns.specs.SameSlots.{same_slot, distinct}
use Rattle.nested_arrays_columns.specs.Slots.{Slot, null}
use Rattle.nested_arrays_columns.proofs.Conditions.{parts_of_3}
use Rattle.nested_arrays_columns.proofs.Folds.{fold_keeps}

-- ---- null

abbrev TakesNull : (Slot → Bool) → Type 0
TakesNull test = test null ≡ true

null_fits_step : (z : layer.DataType-F ((t : Slot → Bool) × TakesNull t) ((t : Slot → Bool) × TakesNull t))
    → TakesNull (fits_step (map-DataType ((t : Slot → Bool) × TakesNull t) ((t : Slot → Bool) × TakesNull t) (Slot → Bool) (Slot
    → Bool) (λ e. e.0) (λ e. e.0) z))
null_fits_step (layer.Interval intervals.YearMonth) = refl
null_fits_step (layer.Interval intervals.DayTime) = refl
null_fits_step (layer.Interval intervals.MonthDayNano) = refl
null_fits_step (layer.Dictionary key value is_ordered) = value.1
null_fits_step (layer.Extension name inner metadata) = inner.1
null_fits_step _ = refl

pub null_fits : (t : DataType) → fits_cell t null ≡ true
null_fits = fold_keeps fits_step (λ field. field.data_type) TakesNull TakesNull null_fits_step (λ z. z.data_type.1)

-- ---- beginnings

-- what were new among further slots after some
new_to : List Slot → List Slot → List Slot
new_to [] others = others
new_to (slot ∷ slots) others = filter (λ other. not (same_slot slot other)) (new_to slots others)

distinct-append : (xs ys : List Slot) → distinct (xs ++ ys) ≡ distinct xs ++ new_to xs (distinct ys)
unfolding new_to
distinct-append [] ys = refl
distinct-append (x ∷ xs) ys =
    let test : Slot → Bool = λ other. not (same_slot x other) in
    ap (λ rest. x ∷ filter test rest) (distinct-append xs ys) ∙ ap (λ rest. x ∷ rest) (filter-append test (distinct xs) (new_to xs (distinct ys)))

abbrev is_value : Slot → Bool
is_value slot = not (is_null slot)

dictionary_values-append : (xs ys : List Slot) → dictionary_values (xs ++ ys) ≡ dictionary_values xs ++ new_to (filter is_value xs)
    (dictionary_values ys)
dictionary_values-append xs ys = ap distinct (filter-append is_value xs ys) ∙ distinct-append (filter is_value xs) (filter is_value ys)

-- a test that holds of the beginning of what it holds of
abbrev Begins : (List Slot → Bool) → Type 0
Begins test = (xs ys : List Slot) → test (xs ++ ys) ≡ true → test xs ≡ true

le_less : (a b c : ℕ) → nat_le a c ≡ true → b ≤ a → nat_le b c ≡ true
le_less a b c h less = le-leb b c (omega (arith, leb-true a c h, less))

is_length_begins : Begins is_length
is_length_begins xs ys h = le_less (length (xs ++ ys)) (length xs) most_slots h (omega (arith, length-append xs ys))

bytes_begin : (limit : ℕ) → Begins (bytes_within limit)
bytes_begin limit xs ys h =
    let parts = and_parts (is_length (xs ++ ys)) (nat_le (sum_by byte_count (xs ++ ys)) limit) h in
    and_from (is_length xs) (nat_le (sum_by byte_count xs) limit) (is_length_begins xs ys parts.0)
    (le_less (sum_by byte_count (xs ++ ys)) (sum_by byte_count xs) limit parts.1 (omega (arith, sum_by-append byte_count xs ys)))

items_begin : (limit : ℕ) (item : List Slot → Bool) → Begins item → Begins (items_within limit item)
items_begin limit item begins xs ys h =
    let all = joined_items (xs ++ ys) in
    let own = joined_items xs in
    let others = joined_items ys in
    let e : all ≡ own ++ others = flat_map-append items_of xs ys in
    let parts = parts_of_3 (is_length (xs ++ ys)) (nat_le (length all) limit) (item all) h in
    let fewer : length own ≤ length all = omega (arith, ap length e, length-append own others) in
    and_from (is_length xs && nat_le (length own) limit) (item own)
    (and_from (is_length xs) (nat_le (length own) limit) (is_length_begins xs ys parts.0) (le_less (length all) (length own) limit parts.1 fewer))
    (begins own others (ap item (sym e) ∙ parts.2))

fixed_items_begin : (size : ℕ) (item : List Slot → Bool) → Begins item → Begins (λ slots. is_length slots && item (joined_fixed_items size slots))
fixed_items_begin size item begins xs ys h =
    let parts = and_parts (is_length (xs ++ ys)) (item (joined_fixed_items size (xs ++ ys))) h in
    and_from (is_length xs) (item (joined_fixed_items size xs)) (is_length_begins xs ys parts.0)
    (begins (joined_fixed_items size xs) (joined_fixed_items size ys) (ap item (sym (flat_map-append (fixed_items_of size) xs ys)) ∙ parts.1))

values_begin : (key : IntegerType) (value : List Slot → Bool) → Begins value → Begins (values_within key value)
values_begin key value begins xs ys h =
    let all = dictionary_values (xs ++ ys) in
    let own = dictionary_values xs in
    let others = new_to (filter is_value xs) (dictionary_values ys) in
    let e : all ≡ own ++ others = dictionary_values-append xs ys in
    let parts = parts_of_3 (is_length (xs ++ ys)) (nat_le (length all) (most_values key)) (value all) h in
    let fewer : length own ≤ length all = omega (arith, ap length e, length-append own others) in
    and_from (is_length xs && nat_le (length own) (most_values key)) (value own)
    (and_from (is_length xs) (nat_le (length own) (most_values key)) (is_length_begins xs ys parts.0)
    (le_less (length all) (length own) (most_values key) parts.1 fewer))
    (begins own others (ap value (sym e) ∙ parts.2))

abbrev Within : Type 0
Within = (test : List Slot → Bool) × Begins test

fields_begin : (tests : List Within) (k : ℕ) (xs ys : List Slot) → fields_within (map (λ e. e.0) tests) (xs ++ ys) k ≡ true
    → fields_within (map (λ e. e.0) tests) xs k ≡ true
fields_begin [] k xs ys h = refl
fields_begin (test ∷ tests) k xs ys h =
    let more = map (λ (e : Within). e.0) tests in
    let parts = and_parts (test.0 (field_slots (xs ++ ys) k)) (fields_within more (xs ++ ys) (suc k)) h in
    and_from (test.0 (field_slots xs k)) (fields_within more xs (suc k))
    (test.1 (field_slots xs k) (field_slots ys k) (ap test.0 (sym (map-append (field_of k) xs ys)) ∙ parts.0))
    (fields_begin tests (suc k) xs ys parts.1)

within_step_begins : (z : layer.DataType-F Within Within) → Begins
    (within_step (map-DataType Within Within (List Slot → Bool) (List Slot → Bool) (λ e. e.0) (λ e. e.0) z))
within_step_begins layer.Binary = bytes_begin most_short
within_step_begins layer.Utf8 = bytes_begin most_short
within_step_begins layer.LargeBinary = bytes_begin most_long
within_step_begins layer.LargeUtf8 = bytes_begin most_long
within_step_begins (layer.List item) = items_begin most_short item.0 item.1
within_step_begins (layer.Map entry is_sorted) = items_begin most_short entry.0 entry.1
within_step_begins (layer.LargeList item) = items_begin most_long item.0 item.1
within_step_begins (layer.FixedSizeList item size) = fixed_items_begin size item.0 item.1
within_step_begins (layer.Struct children) = λ xs ys h.
    let tests = map (λ (e : Within). e.0) children in
    let parts = and_parts (is_length (xs ++ ys)) (fields_within tests (xs ++ ys) 0) h in
    and_from (is_length xs) (fields_within tests xs 0) (is_length_begins xs ys parts.0) (fields_begin children 0 xs ys parts.1)
within_step_begins (layer.Dictionary key value is_ordered) = values_begin key value.0 value.1
within_step_begins (layer.Extension name inner metadata) = inner.1
within_step_begins _ = is_length_begins

is_within_begins : (t : DataType) → Begins (is_within t)
is_within_begins = fold_keeps within_step (λ field. field.data_type) Begins Begins within_step_begins (λ z. z.data_type.1)

pub beginnings_fit : (t : DataType) (slots others : List Slot) → fits t (slots ++ others) ≡ true → fits t slots ≡ true
beginnings_fit t slots others h =
    let parts = and_parts (list_all (fits_cell t) (slots ++ others)) (is_within t (slots ++ others)) h in
    let cells = and_parts (list_all (fits_cell t) slots) (list_all (fits_cell t) others) (sym (list_all-append (fits_cell t) slots others)
    ∙ parts.0) in
    and_from (list_all (fits_cell t) slots) (is_within t slots) cells.0 (is_within_begins t slots others parts.1)
