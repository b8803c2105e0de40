-- Dictionary-encoded columns read back: their keys are written as they stand, and their values stand as the dictionary of the id at their field
-- (Arrow columnar format, "Dictionary-encoded Layout").
use Rattle.std.proofs.Common.{◌≡◌, ◌∙◌, ℕ, ◌+◌, ◌*◌, ◌≤◌, ◌<◌, ℤ, pos, negsuc, Bool, true, false, not, ◌&&◌, ◌||◌, List, [], ◌∷◌, length, get_or}
use Rattle.std.proofs.Common.{refl, sym, ap, arith, zero-add}
use Rattle.std.specs.Prelude.{Option, Some, nat_lt, int_le}
use Rattle.std.specs.List.{list_all}
use Rattle.std.proofs.lemmas.Bool.{and_parts, ltb-true, false≢true}
use Rattle.ipc_format_laws.specs.columnar_memory.declared.DataType.{DataType}
use Rattle.ipc_format_laws.specs.columnar_memory.declared.DataType.TheOpen as layer
use Rattle.ipc_format_laws.specs.columnar_memory.declared.IntegerType.{IntegerType}
use Rattle.ipc_format_laws.specs.columnar_memory.Equality.{same_type, same_type-Decides}
use Rattle.ipc_format_laws.specs.columns.Kinds.{is_key}
use Rattle.ipc_format_laws.specs.columns.Slots.{Slot, null, window}
use Rattle.ipc_format_laws.specs.columns.StoredColumns.{Column, dictionary, unless_null, is_valid_at, cut_list, cut_mask, column_type, column_len}
use Rattle.ipc_format_laws.specs.columns.StoredColumns.{type_layer, place_of, slot_at, slots}
use Rattle.ipc_format_laws.specs.columns.SoundColumns.{holds_below, mask_fits, has_value_type, has_value_at, is_sound}
use Rattle.ipc_format_laws.proofs.columns_lemmas.Windows.{get_or-cut_list, length-cut_list, length-window}
use Rattle.ipc_format_laws.proofs.columns_lemmas.Conditions.{parts_of_4, holds_at, list_all-cut_list}
use Rattle.ipc_format_laws.proofs.columns_lemmas.Cuts.{is_valid_at-cut_mask}
use Rattle.ipc_format_laws.proofs.columns_lemmas.CutStored.{mask_fits-cut}
use Rattle.ipc_format_laws.proofs.columns_lemmas.TypeLayers.{Layer}
use Rattle.ipc_format_laws.specs.grammar.Values.{key_at, key_size}
use Rattle.ipc_format_laws.specs.grammar.Columns.{Place, buffer_at, taken_of, is_valid_in, slots_by, names_value, slot_of_key, dictionary_slots}
use Rattle.ipc_format_laws.specs.grammar.Buffers.{key_width}
use Rattle.ipc_format_laws.specs.grammar.Encoding.{Encoded, column_over}
use Rattle.ipc_format_laws.specs.grammar.StoredEncoding.{node_over, mask_bytes, integer_bytes, key_bytes}
use Rattle.ipc_format_laws.specs.Columns.{StandsAmong, HoldsColumns}
use Rattle.ipc_format_laws.proofs.Elements.{part_next, window_passes}
use Rattle.ipc_format_laws.proofs.Buffers.{buffer_reads}
use Rattle.ipc_format_reading_laws.specs.StoredColumns.{HasValues, RangeReadsBack}
use Rattle.ipc_format_reading_laws.proofs.StoredIntegers.{keys_size, key_back}
use Rattle.ipc_format_reading_laws.proofs.StoredLayers.{read_layer}
use Rattle.ipc_format_reading_laws.proofs.StoredMasks.{mask_validity, mask_valid_at, range_marked, range_slots}
use Rattle.ipc_format_reading_laws.proofs.StoredRanges.{by_layer, type_is, at_window}

-- ---- what a key names

-- a valid key is the place of one of so many values
abbrev is_place : Bool → ℤ → ℕ → Bool
is_place valid key count = not valid || (int_le (pos 0) key && nat_lt (place_of key) count)

names : (valid : Bool) (key : ℤ) (count : ℕ) → is_place valid key count ≡ true → (not valid || names_value count key) ≡ true
names false key count h = refl
names true (pos k) count h = (and_parts (int_le (pos 0) (pos k)) (nat_lt k count) h).1
names true (negsuc k) count h = absurd (false≢true h)

named_slot : (values : Column) (key : ℤ) → (int_le (pos 0) key && nat_lt (place_of key) (column_len values)) ≡ true
    → slot_of_key (slots values) key ≡ slot_at values (place_of key)
named_slot values (pos k) h =
    let inside = ltb-true k (column_len values) (and_parts (int_le (pos 0) (pos k)) (nat_lt k (column_len values)) h).1 in
    at_window (slot_at values) 0 (column_len values) k null inside ∙ ap (slot_at values) (zero-add k)
named_slot values (negsuc k) h = absurd (false≢true h)

-- the slot of a valid key is the value at its place
key_slot : (values : Column) (valid : Bool) (key : ℤ) → is_place valid key (column_len values) ≡ true → valid ≡ true
    → slot_of_key (slots values) key ≡ slot_at values (place_of key)
key_slot values true key h is = named_slot values key h
key_slot values false key h is = absurd (false≢true is)

-- ---- columns of keys

-- the slots of keys among some values
abbrev keyed_at : Option (List Bool) → List ℤ → Column → ℕ → Slot
keyed_at mask keys values i = unless_null mask i (slot_at values (place_of (get_or keys i (pos 0))))

-- what is written of n keys from key o on
abbrev keys_range : Layer → Option (List Bool) → List ℤ → ℕ → ℕ → Encoded
keys_range x mask keys o n =
    column_over (node_over n (cut_mask mask o n)) (mask_bytes (cut_mask mask o n) ∷ key_bytes true x (cut_list keys o n) ∷ []) []

-- what such a column says of its parts
record AreKeys (mask : Option (List Bool)) (keys : List ℤ) (values : Column) : Type 0 where
  marks : mask_fits mask (length keys) ≡ true
  places : holds_below (length keys) (has_value_at mask keys (column_len values)) ≡ true

abbrev KeysRead : Layer → Option (List Bool) → List ℤ → Column → Type 0
KeysRead x mask keys values = (o n : ℕ) (at : Place) (all : Encoded) → o + n ≤ length keys → HoldsColumns at.source all
    → StandsAmong all (keys_range x mask keys o n) at.node at.buffer → taken_of at.limit n ≡ n
    → HasValues at.standing at.ids (column_type values) (slots values) → read_layer x at ≡ Some (window (keyed_at mask keys values) o n)

keys_by : (key : IntegerType) (value : DataType) (is_ordered : Bool) (mask : Option (List Bool)) (keys : List ℤ) (values : Column)
    → value ≡ column_type values → list_all (is_key key) keys ≡ true → AreKeys mask keys values
    → KeysRead (layer.Dictionary key value is_ordered) mask keys values
unfolding dictionary_slots
keys_by key value is_ordered mask keys values same fit are o n at all within holds stands whole has =
    let taken : List ℤ = cut_list keys o n in
    let part : Option (List Bool) = cut_mask mask o n in
    let content : List ℕ = integer_bytes true (key_width key) taken in
    let count : length taken ≡ n = length-cut_list keys o n within in
    let part_fits : mask_fits part n ≡ true = mask_fits-cut mask (length keys) o n are.marks within in
    let typed : same_type (column_type values) value ≡ true = (same_type-Decides (column_type values) value).1 (sym same) in
    let marked = range_marked at all mask (length keys) o n [] (content ∷ []) are.marks within holds stands.nodes stands.buffers whole in
    let bytes : buffer_at at.source (at.buffer + 1) (n * key_size key) ≡ Some content =
    buffer_reads at.source all (at.buffer + 1) (n * key_size key) content [] holds
    (part_next (mask_bytes part) (content ∷ []) stands.buffers) (ap (λ k. k * key_size key) (sym count) ∙ keys_size key taken) in
    let key_is : (i : ℕ) → i < n → key_at key true content i ≡ get_or keys (o + i) (pos 0) = λ i inside.
    key_back key taken i (list_all-cut_list (is_key key) keys o n fit) (omega (arith, count)) ∙ get_or-cut_list keys o n i (pos 0) inside in
    let place : (i : ℕ) → i < n → has_value_at mask keys (column_len values) (o + i) ≡ true = λ i inside.
    holds_at (length keys) (has_value_at mask keys (column_len values)) (o + i) are.places (omega arith) in
    let test : ℕ → Bool = λ i. not (is_valid_in (mask_validity part) i) || names_value (length (slots values)) (key_at key true content i) in
    let passes : list_all test (window (λ i. i) 0 n) ≡ true =
    window_passes test (λ i. i) 0 n (λ (i : ℕ) (inside : i < n).
    let valid : is_valid_in (mask_validity part) i ≡ is_valid_at mask (o + i) =
    mask_valid_at part n i part_fits inside ∙ is_valid_at-cut_mask mask o n i inside in
    ap test (zero-add i)
    ∙ (λ j. not (valid j) || names_value (length-window (slot_at values) 0 (column_len values) j) (key_is i inside j))
    ∙ names (is_valid_at mask (o + i)) (get_or keys (o + i) (pos 0)) (column_len values) (place i inside)) in
    let same_slots : slots_by (mask_validity part) (λ i. slot_of_key (slots values) (key_at key true content i)) n
    ≡ window (keyed_at mask keys values) o n =
    range_slots mask (length keys) o n (λ i. slot_of_key (slots values) (key_at key true content i))
    (λ i. slot_at values (place_of (get_or keys i (pos 0)))) are.marks within
    (λ (i : ℕ) (inside : i < n) (valid : is_valid_at mask (o + i) ≡ true).
    ap (slot_of_key (slots values)) (key_is i inside)
    ∙ key_slot values (is_valid_at mask (o + i)) (get_or keys (o + i) (pos 0)) (place i inside) valid) in
    rw (has.own, has.found, typed, marked, bytes, holds.order, passes, same_slots) refl

keys_at : (x : Layer) (mask : Option (List Bool)) (keys : List ℤ) (values : Column) → has_value_type x keys (column_type values) ≡ true
    → AreKeys mask keys values → KeysRead x mask keys values
keys_at (layer.Dictionary key value is_ordered) mask keys values typed are =
    let parts = and_parts (same_type value (column_type values)) (list_all (is_key key) keys) typed in
    keys_by key value is_ordered mask keys values (type_is value (column_type values) parts.0) parts.1 are
keys_at _ mask keys values typed are = absurd (false≢true typed)

-- Every sound dictionary-encoded column reads back, with keys of every integer type; a key under a null is not looked at.
pub dictionary_reads_back : (data_type : DataType) (mask : Option (List Bool)) (keys : List ℤ) (values : Column)
    → is_sound (dictionary data_type mask keys values) ≡ true → RangeReadsBack (dictionary data_type mask keys values)
dictionary_reads_back data_type mask keys values sound o n at all within version holds stands whole standing =
    let parts = parts_of_4 (has_value_type (type_layer data_type) keys (column_type values)) (mask_fits mask (length keys))
    (holds_below (length keys) (has_value_at mask keys (column_len values))) (is_sound values) sound in
    by_layer data_type at (window (keyed_at mask keys values) o n)
    (keys_at (type_layer data_type) mask keys values parts.0 (record { marks = parts.1; places = parts.2 }) o n at all within holds stands whole
    standing)
