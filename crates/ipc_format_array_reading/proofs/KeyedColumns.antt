-- The slots of a column of keys, by what is read of it and by the values that stand.
use Rattle.std.proofs.Common.{◌≡◌, ◌∙◌, ◌+◌, ◌*◌, ◌<◌, ◌&&◌, ℕ, zero, suc, Bool, true, false, List, [], ◌∷◌, length, map, drop, get_or}
use Rattle.std.proofs.Common.{refl, sym, ap, subst, arith, inl, inr}
use Rattle.std.specs.Prelude.{ℤ, pos, negsuc, Option, Some, None, ◌||◌, not, nat_lt, int_le, cond, if◌then◌else◌, slice_index_or}
use Rattle.std.specs.Ordering.{int_eq}
use Rattle.std.specs.BTreeMap.{BTreeMap}
use Rattle.std.specs.Map.{lookup}
use Rattle.std.specs.List.{list_all}
use Rattle.std.proofs.lemmas.Bool.{and_from, and_parts, cases_Bool, false≢true, le-leb, ltb-true, true≢false}
use Rattle.std.proofs.lemmas.List.{get_or-map, length-map}
use Rattle.ipc_format_column_writing.specs.columnar_memory.Bits as memory
use Rattle.ipc_format_column_writing.specs.columnar_memory.Equality.{same_type}
use Rattle.ipc_format_column_writing.specs.columnar_memory.Layouts.{physical_type}
use Rattle.ipc_format_column_writing.specs.columnar_memory.Numbers as memory_numbers
use Rattle.ipc_format_column_writing.specs.columnar_memory.Numbers.{Numbers, first_number, numbers_in, one}
use Rattle.ipc_format_column_writing.specs.columnar_memory.Windows.{window}
use Rattle.ipc_format_column_writing.specs.columnar_memory.declared.DataType.{DataType}
use Rattle.ipc_format_column_writing.specs.columnar_memory.declared.DataType.TheOpen as layer
use Rattle.ipc_format_column_writing.specs.columnar_memory.declared.IntegerType.{IntegerType}
use Rattle.ipc_format_column_writing.specs.columnar_memory.declared.IntegerType.TheVariants as integers
use Rattle.ipc_format_column_writing.specs.columnar_memory.declared.IntervalUnit.TheVariants as intervals
use Rattle.ipc_format_column_writing.specs.columnar_memory.declared.PhysicalType.{PhysicalType}
use Rattle.ipc_format_column_writing.specs.columnar_memory.declared.PhysicalType.TheVariants as physical
use Rattle.ipc_format_column_writing.specs.columnar_memory.declared.PrimitiveType.{PrimitiveType}
use Rattle.ipc_format_column_writing.specs.nested_arrays.Slots.{Slot, null}
use Rattle.ipc_format_column_writing.specs.nested_arrays.SoundColumns.{has_value_at, holds_below}
use Rattle.ipc_format_column_writing.specs.nested_arrays.StoredColumns.{Column, column_len, column_type, dictionary}
use Rattle.ipc_format_column_writing.specs.nested_arrays.StoredColumns.{is_valid_at, place_of, slot_at, slots}
use Rattle.ipc_format_column_writing.specs.nested_arrays.StoredColumns.{type_layer, unless_null}
use Rattle.ipc_format_column_writing.specs.flatbuffers.Reading.{◌>>=◌, guard}
use Rattle.ipc_format_column_writing.specs.grammar.Columns.{Dictionary, Marked, Place, Validity}
use Rattle.ipc_format_column_writing.specs.grammar.Columns.{all_valid, bitmap, buffer_at, dictionary_slots}
use Rattle.ipc_format_column_writing.specs.grammar.Columns.{is_valid_in, marked_in, names_value, own_id}
use Rattle.ipc_format_column_writing.specs.grammar.Columns.{slot_by, slot_of_key, slots_by, slots_in}
use Rattle.ipc_format_column_writing.specs.grammar.Columns.{standing_for, validity_in}
use Rattle.ipc_format_column_writing.specs.grammar.Messages.{Version}
use Rattle.ipc_format_column_writing.specs.grammar.Schemas.{Ids}
use Rattle.ipc_format_column_writing.specs.grammar.Values.{bit_at, element_bytes, key_at, key_of, key_size}
use Rattle.ipc_format_column_writing.specs.messages.declared.values.Buffer.{Buffer}
use Rattle.ipc_format_column_writing.specs.messages.declared.values.FieldNode.{FieldNode}
use Rattle.ipc_format_column_writing.specs.column_reading.Buffers.{next_values, next_window, source_of, values_in}
use Rattle.ipc_format_column_writing.specs.column_reading.Reads.{front, next_marked}
use Rattle.ipc_format_column_writing.specs.nested_arrays.Keys.{kind_of_keys}
use Rattle.ipc_format_array_reading.specs.ArrayReads.{Test, array_slots, is_readable}
use Rattle.ipc_format_array_reading.proofs.Layers.{layer_plain, layer_reads, layer_tests, read_layer, test_layer}
use Rattle.ipc_format_column_writing.proofs.reading_lemmas.Marks.{front_made, later_window, mask_of, marks_of}
use Rattle.ipc_format_column_writing.proofs.reading_lemmas.Readings.{through, through_two}
use Rattle.ipc_format_column_writing.proofs.columnar_memory_lemmas.bitmap_lemmas.Lists.{get_or-window, length-window, window_same}
use Rattle.ipc_format_column_writing.proofs.columns_lemmas.Conditions.{holds_at, holds_from}
use Rattle.ipc_format_column_writing.proofs.columns_lemmas.TypeLayers.{Layer, is_extension, layer_layout, layout_is}
use Rattle.ipc_format_array_reading.specs.Keyed.{has_values, if_values, keyed_column, keyed_slots, next_keys, values_for}
use Rattle.ipc_format_array_reading.specs.ReadArrays.{at_front, dictionary_of, standing_in}

-- ---- tests

bool_same : (a b : Bool) → (a ≡ true → b ≡ true) → (b ≡ true → a ≡ true) → a ≡ b
bool_same true b to from = sym (to refl)
bool_same false true to from = from refl
bool_same false false to from = refl

window_each : (test : ℕ → Bool) (o n i : ℕ) → list_all test (window (λ k. k) o n) ≡ true → i < n → test (o + i) ≡ true
window_each test o zero i all below = absurd (omega arith)
window_each test o (suc n) zero all below =
    let at : o + 0 ≡ o = omega arith in
    ap test at ∙ (and_parts (test o) (list_all test (window (λ k. k) (o + 1) n)) all).0
window_each test o (suc n) (suc i) all below =
    let at : o + suc i ≡ o + 1 + i = omega arith in
    ap test at ∙ window_each test (o + 1) n i (and_parts (test o) (list_all test (window (λ k. k) (o + 1) n)) all).1 (omega arith)

window_all : (test : ℕ → Bool) (o n : ℕ) → ((i : ℕ) → i < n → test (o + i) ≡ true) → list_all test (window (λ k. k) o n) ≡ true
window_all test o zero each = refl
window_all test o (suc n) each =
    let at : o ≡ o + 0 = omega arith in
    and_from (test o) (list_all test (window (λ k. k) (o + 1) n)) (ap test at ∙ each 0 (omega arith))
    (window_all test (o + 1) n (λ (i : ℕ) (below : i < n).
    let there : o + 1 + i ≡ o + suc i = omega arith in
    ap test there ∙ each (suc i) (omega arith)))

-- the same test at each place of a window, and below a number
tests_same : (n : ℕ) (first second : ℕ → Bool) → ((i : ℕ) → i < n → first i ≡ second i)
    → list_all first (window (λ k. k) 0 n) ≡ holds_below n second
tests_same n first second same =
    bool_same (list_all first (window (λ k. k) 0 n)) (holds_below n second)
    (λ all. holds_from n second (λ (i : ℕ) (below : i < n).
    let at : i ≡ 0 + i = omega arith in
    sym (same i below) ∙ ap first at ∙ window_each first 0 n i all below))
    (λ holds. window_all first 0 n (λ (i : ℕ) (below : i < n).
    let at : 0 + i ≡ i = omega arith in
    ap first at ∙ same i below ∙ holds_at n second i holds below))

-- ---- single keys

valid_same : (validity : Validity) (n i : ℕ) → i < n → is_valid_in validity i ≡ is_valid_at (mask_of validity n) i
unfolding memory.bit_at
valid_same all_valid n i below = refl
valid_same (bitmap bytes) n i below =
    let at : 0 + i ≡ i = omega arith in
    sym (get_or-window (memory.bit_at bytes) 0 n i false below ∙ ap (bit_at bytes) at)

names_same : (count : ℕ) (key : ℤ) → names_value count key ≡ (int_le (pos 0) key && nat_lt (place_of key) count)
names_same count (pos k) = ap (λ b. b && nat_lt k count) (sym (le-leb 0 k (omega arith)))
names_same count (negsuc k) = refl

key_slot : (values : Column) (key : ℤ) → (int_le (pos 0) key && nat_lt (place_of key) (column_len values)) ≡ true
    → slot_of_key (slots values) key ≡ slot_at values (place_of key)
key_slot values (pos k) is =
    let below : k < column_len values =
    ltb-true k (column_len values) (and_parts (int_le (pos 0) (pos k)) (nat_lt k (column_len values)) is).1 in
    let at : 0 + k ≡ k = omega arith in
    get_or-window (slot_at values) 0 (column_len values) k null below ∙ ap (slot_at values) at
key_slot values (negsuc k) is = absurd (false≢true is)

key_is : (key : IntegerType) (little : Bool) (bytes : List ℕ) → first_number (numbers_in (kind_of_keys key) little bytes) ≡ key_of key little bytes
key_is integers.Int8 true bytes = refl
key_is integers.Int8 false bytes = refl
key_is integers.Int16 true bytes = refl
key_is integers.Int16 false bytes = refl
key_is integers.Int32 true bytes = refl
key_is integers.Int32 false bytes = refl
key_is integers.Int64 true bytes = refl
key_is integers.Int64 false bytes = refl
key_is integers.UInt8 true bytes = refl
key_is integers.UInt8 false bytes = refl
key_is integers.UInt16 true bytes = refl
key_is integers.UInt16 false bytes = refl
key_is integers.UInt32 true bytes = refl
key_is integers.UInt32 false bytes = refl
key_is integers.UInt64 true bytes = refl
key_is integers.UInt64 false bytes = refl

size_is : (key : IntegerType) → key_size key ≡ memory_numbers.kind_size (kind_of_keys key)
size_is integers.Int8 = refl
size_is integers.Int16 = refl
size_is integers.Int32 = refl
size_is integers.Int64 = refl
size_is integers.UInt8 = refl
size_is integers.UInt16 = refl
size_is integers.UInt32 = refl
size_is integers.UInt64 = refl

-- the keys that some bytes spell
keys_in : IntegerType → Bool → ℕ → List ℕ → List ℤ
keys_in key little n content = map first_number (values_in (kind_of_keys key) little n content)

keys_counted : (key : IntegerType) (little : Bool) (n : ℕ) (content : List ℕ) → length (keys_in key little n content) ≡ n
unfolding keys_in
keys_counted key little n content =
    length-map (values_in (kind_of_keys key) little n content) first_number
    ∙ length-window (λ i. numbers_in (kind_of_keys key) little (element_bytes (memory_numbers.kind_size (kind_of_keys key)) content i)) 0 n

key_there : (key : IntegerType) (little : Bool) (n : ℕ) (content : List ℕ) (i : ℕ) → i < n
    → key_at key little content i ≡ get_or (keys_in key little n content) i (pos 0)
unfolding keys_in
key_there key little n content i below =
    let kind = kind_of_keys key in
    let value : ℕ → Numbers = λ i. numbers_in kind little (element_bytes (memory_numbers.kind_size kind) content i) in
    let count : length (window value 0 n) ≡ n = length-window value 0 n in
    let at : 0 + i ≡ i = omega arith in
    sym (get_or-map first_number (window value 0 n) i (one (pos 0)) (pos 0) (omega (arith, below, count))
    ∙ ap first_number (get_or-window value 0 n i (one (pos 0)) below ∙ ap value at)
    ∙ key_is key little (element_bytes (memory_numbers.kind_size kind) content i)
    ∙ ap (λ (size : ℕ). key_of key little (element_bytes size content i)) (sym (size_is key)))

-- ---- the slots of keys among some values

abbrev key_test : IntegerType → Bool → List Slot → Validity → List ℕ → ℕ → Bool
key_test key little values validity content i =
    not (is_valid_in validity i) || names_value (length values) (key_at key little content i)

abbrev key_value : IntegerType → Bool → List Slot → List ℕ → ℕ → Slot
key_value key little values content i = slot_of_key values (key_at key little content i)

abbrev has_key : Option (List Bool) → List ℤ → ℕ → ℕ → Bool
has_key mask keys count i = has_value_at mask keys count i

test_same : (key : IntegerType) (little : Bool) (values : Column) (validity : Validity) (n : ℕ) (content : List ℕ) (i : ℕ) → i < n
    → key_test key little (slots values) validity content i
    ≡ has_value_at (mask_of validity n) (keys_in key little n content) (column_len values) i
test_same key little values validity n content i below =
    (λ j. not (valid_same validity n i below j)
    || names_value (length-window (slot_at values) 0 (column_len values) j) (key_there key little n content i below j))
    ∙ ap (λ b. not (is_valid_at (mask_of validity n) i) || b)
    (names_same (column_len values) (get_or (keys_in key little n content) i (pos 0)))

slot_under : (validity valid : Bool) (value stored : Slot) → validity ≡ valid → (valid ≡ true → value ≡ stored)
    → (if validity then value else null) ≡ (if valid then stored else null)
slot_under true valid value stored is same = same (sym is) ∙ ap (λ b. if b then stored else null) is
slot_under false valid value stored is same = ap (λ b. if b then stored else null) is

test_seen : (valid test : Bool) → (not valid || test) ≡ true → valid ≡ true → test ≡ true
test_seen true test either is = either
test_seen false test either is = absurd (false≢true is)

slots_are : (t : DataType) (key : IntegerType) (little : Bool) (values : Column) (validity : Validity) (n : ℕ) (content : List ℕ)
    → holds_below n (has_value_at (mask_of validity n) (keys_in key little n content) (column_len values)) ≡ true
    → slots_by validity (key_value key little (slots values) content) n
    ≡ slots (dictionary t (mask_of validity n) (keys_in key little n content) values)
slots_are t key little values validity n content holds =
    let keys = keys_in key little n content in
    let mask = mask_of validity n in
    let stored : ℕ → Slot = λ i. unless_null mask i (slot_at values (place_of (get_or keys i (pos 0)))) in
    window_same (slot_by validity (key_value key little (slots values) content)) stored 0 0 n (λ (i : ℕ) (below : i < n).
    let at : i ≡ 0 + i = omega arith in
    subst (λ (k : ℕ). slot_by validity (key_value key little (slots values) content) k ≡ stored k) at
    (slot_under (is_valid_in validity i) (is_valid_at mask i) (key_value key little (slots values) content i)
    (slot_at values (place_of (get_or keys i (pos 0)))) (valid_same validity n i below) (λ valid.
    ap (slot_of_key (slots values)) (key_there key little n content i below)
    ∙ key_slot values (get_or keys i (pos 0))
    (test_seen (is_valid_at mask i) _ (holds_at n (has_value_at mask keys (column_len values)) i holds below) valid))))
    ∙ ap (window stored 0) (sym (keys_counted key little n content))

-- what is made of the marks and of the keys' bytes
made_keys : (t : DataType) (key : IntegerType) (little : Bool) (values : Column) (validity : Validity) (n : ℕ) (content : List ℕ)
    → (guard (list_all (key_test key little (slots values) validity content) (window (λ i. i) 0 n))
    >>= (λ _. Some (slots_by validity (key_value key little (slots values) content) n)))
    ≡ keyed_slots t values (mask_of validity n, values_in (kind_of_keys key) little n content)
unfolding keys_in
made_keys t key little values validity n content =
    let keys = keys_in key little n content in
    let mask = mask_of validity n in
    let test = has_value_at mask keys (column_len values) in
    let made : List Slot = slots_by validity (key_value key little (slots values) content) n in
    let whole : Column = dictionary t mask keys values in
    let counted : holds_below n test ≡ holds_below (length keys) test = ap (λ k. holds_below k test) (sym (keys_counted key little n content)) in
    ap (λ b. guard b >>= (λ _. Some made))
    (tests_same n (key_test key little (slots values) validity content) test (λ i below. test_same key little values validity n content i below))
    ∙ by_test (holds_below n test) made whole (slots_are t key little values validity n content)
    ∙ ap (λ b. (if b then Some whole else None) >>= (λ column. Some (slots column))) counted
  where
    by_test : (b : Bool) (made : List Slot) (whole : Column) → (b ≡ true → made ≡ slots whole)
        → (guard b >>= (λ _. Some made)) ≡ ((if b then Some whole else None) >>= (λ column. Some (slots column)))
    by_test true made whole same = ap Some (same refl)
    by_test false made whole same = refl

-- ---- what is read

marked_same : (nodes : List FieldNode) (buffers : List Buffer) (version : Version) (little : Bool) (standing : List Dictionary) (limit : Option ℕ)
    (origin : ℕ) (here : Ids) (room : List ℕ)
    → marked_in (at_front nodes buffers version little standing limit origin here room) ≡ marked_in (front nodes buffers little limit origin room)
unfolding marked_in validity_in buffer_at
marked_same nodes buffers version little standing limit origin here room = refl

buffer_same : (nodes : List FieldNode) (buffers : List Buffer) (version : Version) (little : Bool) (standing : List Dictionary) (limit : Option ℕ)
    (origin : ℕ) (here : Ids) (room : List ℕ) (k needed : ℕ)
    → buffer_at (at_front nodes buffers version little standing limit origin here room).source k needed
    ≡ buffer_at (source_of nodes buffers little room origin) k needed
unfolding buffer_at
buffer_same nodes buffers version little standing limit origin here room k needed = refl

keys_through : {A B M C : Type 0} (marks : Option A) (read : A → Option B) (pair : A → B → M) (g : M → Option C)
    → ((marks >>= (λ m. read m >>= (λ x. Some (pair m x)))) >>= g) ≡ (marks >>= (λ m. read m >>= (λ x. g (pair m x))))
keys_through None read pair g = refl
keys_through (Some m) read pair g = through_two (read m) (λ x. Some (pair m x)) g

abbrev found_keys : IntegerType → Column → Place → Option (List Slot)
found_keys key values at = do
  marked ← marked_in at
  content ← buffer_at at.source (at.buffer + 1) (marked.taken * key_size key)
  _ ← guard (list_all (key_test key at.source.is_little_endian (slots values) marked.validity content) (window (λ i. i) 0 marked.taken))
  Some (slots_by marked.validity (key_value key at.source.is_little_endian (slots values) content) marked.taken)

keys_behind : (t : DataType) (key : IntegerType) (values : Column) (nodes : List FieldNode) (buffers : List Buffer) (version : Version)
    (little : Bool) (standing : List Dictionary) (limit : Option ℕ) (origin : ℕ) (here : Ids) (room : List ℕ) (found : Marked)
    → (buffer_at (at_front nodes buffers version little standing limit origin here room).source 1 (found.taken * key_size key)
    >>= (λ content. guard (list_all (key_test key little (slots values) found.validity content) (window (λ i. i) 0 found.taken))
    >>= (λ _. Some (slots_by found.validity (key_value key little (slots values) content) found.taken))))
    ≡ (next_values (kind_of_keys key) little (drop 1 buffers) origin found.taken room
    >>= (λ keys. keyed_slots t values (mask_of found.validity found.taken, keys)))
keys_behind t key values nodes buffers version little standing limit origin here room found =
    let n = found.taken in
    let kind = kind_of_keys key in
    let f : List ℕ → Option (List Slot) =
    λ content. guard (list_all (key_test key little (slots values) found.validity content) (window (λ i. i) 0 n))
    >>= (λ _. Some (slots_by found.validity (key_value key little (slots values) content) n)) in
    ap (λ (given : Option (List ℕ)). given >>= f)
    (buffer_same nodes buffers version little standing limit origin here room 1 (n * key_size key)
    ∙ ap (λ (size : ℕ). buffer_at (source_of nodes buffers little room origin) 1 (n * size)) (size_is key)
    ∙ later_window 1 nodes buffers little origin (n * memory_numbers.kind_size kind) room)
    ∙ through (next_window (drop 1 buffers) origin (n * memory_numbers.kind_size kind) room) (values_in kind little n) f
    (λ keys. keyed_slots t values (mask_of found.validity n, keys)) (λ content. made_keys t key little values found.validity n content)

keys_found : (t : DataType) (key : IntegerType) (values : Column) (nodes : List FieldNode) (buffers : List Buffer) (version : Version)
    (little : Bool) (standing : List Dictionary) (limit : Option ℕ) (origin : ℕ) (here : Ids) (room : List ℕ)
    → found_keys key values (at_front nodes buffers version little standing limit origin here room)
    ≡ (next_keys (kind_of_keys key) little nodes limit buffers origin room >>= keyed_slots t values)
keys_found t key values nodes buffers version little standing limit origin here room =
    let at = at_front nodes buffers version little standing limit origin here room in
    let kind = kind_of_keys key in
    let f : Marked → Option (List Slot) = λ found. buffer_at at.source 1 (found.taken * key_size key)
    >>= (λ content. guard (list_all (key_test key little (slots values) found.validity content) (window (λ i. i) 0 found.taken))
    >>= (λ _. Some (slots_by found.validity (key_value key little (slots values) content) found.taken))) in
    ap (λ (found : Option Marked). found >>= f) (marked_same nodes buffers version little standing limit origin here room)
    ∙ front_made nodes buffers little limit origin room f
    (λ m. next_values kind little (drop 1 buffers) origin m.0 room >>= (λ keys. keyed_slots t values (m.1, keys)))
    (λ found. keys_behind t key values nodes buffers version little standing limit origin here room found)
    ∙ sym (keys_through (next_marked nodes limit buffers origin room) (λ m. next_values kind little (drop 1 buffers) origin m.0 room)
    (λ m keys. (m.1, keys)) (keyed_slots t values))

-- ---- the dictionary that stands

found_either : {C : Type 0} (b : Bool) (d : Dictionary) (v : Column) (ds : Option Dictionary) (vs : Option Column) (f : Dictionary → Option C)
    (g : Column → Option C) → f d ≡ g v → (ds >>= f) ≡ (vs >>= g) → ((if b then Some d else ds) >>= f) ≡ (cond b (Some v) vs >>= g)
found_either true d v ds vs f g here later = here
found_either false d v ds vs f g here later = later

standing_found : {C : Type 0} (id : ℤ) (entries : List (ℤ × Column)) (f : Dictionary → Option C) (g : Column → Option C)
    → ((entry : ℤ × Column) → f (dictionary_of entry) ≡ g entry.1)
    → (standing_for id (map dictionary_of entries) >>= f) ≡ (lookup (int_eq id) entries >>= g)
standing_found id [] f g same = refl
standing_found id (entry ∷ entries) f g same =
    found_either (int_eq id entry.0) (dictionary_of entry) entry.1 (standing_for id (map dictionary_of entries)) (lookup (int_eq id) entries) f g
    (same entry) (standing_found id entries f g same)

through_id : {A C : Type 0} (id : Option A) (f g : A → Option C) → ((a : A) → f a ≡ g a) → (id >>= f) ≡ (id >>= g)
through_id None f g same = refl
through_id (Some a) f g same = same a

guarded : {C : Type 0} (b c : Bool) (v : Column) (rest : Option C) (g : Column → Option C) → c ≡ b → rest ≡ g v
    → (guard b >>= (λ _. rest)) ≡ ((if c then Some v else None) >>= g)
guarded true c v rest g is same = same ∙ ap (λ test. (if test then Some v else None) >>= g) (sym is)
guarded false c v rest g is same = ap (λ test. (if test then Some v else None) >>= g) (sym is)

-- ---- one layer

pub record KeyedLayer (x : Layer) (key : IntegerType) : Type 0 where
  pub value : DataType
  pub reads : (at : Place) → read_layer x at ≡ dictionary_slots key value at
  pub tests : (here : Ids) → test_layer x here ≡ true
  pub typed : (child : DataType) → has_values x child ≡ same_type child value

abbrev is_dictionary : PhysicalType → Bool
is_dictionary (physical.Dictionary key) = true
is_dictionary _ = false

abbrev key_in : IntegerType → PhysicalType → IntegerType
key_in other (physical.Dictionary key) = key
key_in other _ = other

keyed_layer : (x : Layer) (key : IntegerType) → layer_layout x ≡ physical.Dictionary key → is_extension x ≡ false → KeyedLayer x key
keyed_layer (layer.Dictionary stored value is_ordered) key is plain = record {
  value = value;
  reads = λ at. ap (λ k. dictionary_slots k value at) (ap (key_in key) is);
  tests = λ here. refl;
  typed = λ child. refl;
}
keyed_layer (layer.Interval intervals.YearMonth) key is plain = absurd (false≢true (ap is_dictionary is))
keyed_layer (layer.Interval intervals.DayTime) key is plain = absurd (false≢true (ap is_dictionary is))
keyed_layer (layer.Interval intervals.MonthDayNano) key is plain = absurd (false≢true (ap is_dictionary is))
keyed_layer (layer.Extension name inner metadata) key is plain = absurd (true≢false plain)
keyed_layer x key is plain = absurd (false≢true (ap is_dictionary is))

pub keyed_of : (t : DataType) (key : IntegerType) → physical_type t ≡ physical.Dictionary key → KeyedLayer (type_layer t) key
keyed_of t key is = keyed_layer (type_layer t) key (sym (layout_is t) ∙ is) (layer_plain t)

-- ---- the slots of a column of keys are made of the values that stand, and of the marks and the keys that are read

slots_found : (t : DataType) (key : IntegerType) (it : KeyedLayer (type_layer t) key) (nodes : List FieldNode) (buffers : List Buffer)
    (version : Version) (little : Bool) (dictionaries : BTreeMap ℤ Column) (limit : Option ℕ) (origin : ℕ) (here : Ids) (room : List ℕ)
    → dictionary_slots key it.value (at_front nodes buffers version little (standing_in dictionaries) limit origin here room)
    ≡ (values_for (type_layer t) (own_id here) dictionaries
    >>= (λ values. next_keys (kind_of_keys key) little nodes limit buffers origin room >>= keyed_slots t values))
unfolding dictionary_slots
slots_found t key it nodes buffers version little dictionaries limit origin here room =
    let at = at_front nodes buffers version little (standing_in dictionaries) limit origin here room in
    let g : Column → Option (List Slot) =
    λ values. next_keys (kind_of_keys key) little nodes limit buffers origin room >>= keyed_slots t values in
    let f : Dictionary → Option (List Slot) = λ found. guard (same_type found.data_type it.value) >>= (λ _.
    marked_in at >>= (λ marked. buffer_at at.source (at.buffer + 1) (marked.taken * key_size key) >>= (λ content.
    guard (list_all (key_test key little found.slots marked.validity content) (window (λ i. i) 0 marked.taken)) >>= (λ _.
    Some (slots_by marked.validity (key_value key little found.slots content) marked.taken))))) in
    through_id (own_id here) (λ id. standing_for id (standing_in dictionaries) >>= f)
    (λ id. (lookup (int_eq id) dictionaries.entries >>= if_values (type_layer t)) >>= g) (λ id.
    standing_found id dictionaries.entries f (λ values. if_values (type_layer t) values >>= g) (λ entry.
    guarded (same_type (column_type entry.1) it.value) (has_values (type_layer t) (column_type entry.1)) entry.1
    (found_keys key entry.1 at) g (it.typed (column_type entry.1))
    (keys_found t key entry.1 nodes buffers version little (standing_in dictionaries) limit origin here room))
    ∙ sym (through_two (lookup (int_eq id) dictionaries.entries) (if_values (type_layer t)) g))
    ∙ sym (through_two (own_id here) (λ id. lookup (int_eq id) dictionaries.entries >>= if_values (type_layer t)) g)

pub keyed_given : (t : DataType) (key : IntegerType) (nodes : List FieldNode) (buffers : List Buffer) (version : Version) (little : Bool)
    (dictionaries : BTreeMap ℤ Column) (limit : Option ℕ) (origin : ℕ) (here : Ids) → physical_type t ≡ physical.Dictionary key
    → (room : List ℕ)
    → array_slots t (at_front nodes buffers version little (standing_in dictionaries) limit origin here room)
    ≡ (values_for (type_layer t) (own_id here) dictionaries
    >>= (λ values. next_keys (kind_of_keys key) little nodes limit buffers origin room >>= keyed_slots t values))
keyed_given t key nodes buffers version little dictionaries limit origin here is room =
    let at = at_front nodes buffers version little (standing_in dictionaries) limit origin here room in
    let it = keyed_of t key is in
    let test : is_readable t here ≡ true = ap (λ (f : Test). f here) (layer_tests t) ∙ it.tests here in
    let read : slots_in t at ≡ dictionary_slots key it.value at = ap (λ r. r at) (layer_reads t) ∙ it.reads at in
    (λ j. guard (test j) >>= (λ _. read j))
    ∙ slots_found t key it nodes buffers version little dictionaries limit origin here room
