-- The slots of columns of byte strings and of texts, by what is read of them.
use Rattle.std.proofs.Common.{◌≡◌, ◌∙◌, ◌+◌, ◌-◌, ◌<◌, ◌≤◌, ℕ, zero, suc, List, [], ◌∷◌, Bool, true, false, length, drop, take, get_or, sum}
use Rattle.std.proofs.Common.{refl, sym, ap, arith}
use Rattle.std.specs.Prelude.{Option, Some, None, slice_get, slice_range}
use Rattle.std.specs.List.{list_all}
use Rattle.std.specs.Str.{is_utf8}
use Rattle.std.proofs.lemmas.Bool.{and_parts, and_from, cases_Bool}
use Rattle.std.proofs.lemmas.Str.{is_utf8-from_IsUtf8, IsUtf8-from_is_utf8}
use mathlib.Core.Logic.{inl, inr}
use Rattle.ipc_format_column_bytes.specs.flat_arrays.ByteStrings.{ByteStrings, cut_by, len_of, values_of}
use Rattle.ipc_format_column_bytes.specs.flat_arrays.Fits.{binary_layout, text_layout}
use Rattle.ipc_format_column_bytes.specs.flat_arrays.Texts.{AllTexts}
use Rattle.ipc_format_column_bytes.proofs.flat_lemmas.bytes_lemmas.Places.{value_between}
use Rattle.ipc_format_column_bytes.specs.streams.columnar_memory.Layouts.{physical_type}
use Rattle.ipc_format_column_bytes.specs.streams.columnar_memory.Spans.{Spans, ends_from, offsets_of, offset_at}
use Rattle.ipc_format_column_bytes.specs.streams.columnar_memory.Windows.{window}
use Rattle.ipc_format_column_bytes.specs.streams.columnar_memory.declared.DataType.{DataType}
use Rattle.ipc_format_column_bytes.specs.streams.columns.Slots.{Slot, text, bytes}
use Rattle.ipc_format_column_bytes.specs.streams.columns.StoredColumns.{unless_null, slots}
use Rattle.ipc_format_column_bytes.specs.streams.flatbuffers.Reading.{◌>>=◌, guard}
use Rattle.ipc_format_column_bytes.specs.streams.grammar.Columns.{Marked, buffer_at, offsets_in, byte_slots, slots_by, piece_at, last_of}
use Rattle.ipc_format_column_bytes.specs.streams.messages.declared.values.Buffer.{Buffer}
use Rattle.ipc_format_column_bytes.specs.streams.messages.declared.values.FieldNode.{FieldNode}
use Rattle.ipc_format_column_bytes.proofs.streams_lemmas.columnar_memory_lemmas.buffer_lemmas.Runs.{length-ends_from, sum-cons}
use Rattle.ipc_format_column_reading.specs.Buffers.{source_of, next_window}
use Rattle.ipc_format_column_reading.specs.FlatColumns.{binary_column, text_column}
use Rattle.ipc_format_column_reading.specs.Reads.{Strings, strings_of, front, front_slots, next_marked, next_offsets, next_strings, offset_width}
use Rattle.ipc_format_column_reading.proofs.Marks.{mask_of, front_made, later_window, later_offsets, slots_same}
use Rattle.ipc_format_column_reading.proofs.Readings.{through_two}
use Rattle.ipc_format_column_reading.proofs.Types.{binaries_read, large_binaries_read, texts_read, large_texts_read}

-- ---- what is made of the marks, the offsets and the bytes

abbrev pub string_slots : (List ℕ → Slot) → Strings → List Slot
string_slots slot s = window (λ i. unless_null s.validity i (slot (piece_at s.offsets s.bytes i))) 0 s.taken

abbrev pub are_allowed : (List ℕ → Bool) → Strings → Bool
are_allowed is_allowed s = list_all is_allowed (window (piece_at s.offsets s.bytes) 0 s.taken)

abbrev pub strings_made : (List ℕ → Bool) → (List ℕ → Slot) → Strings → Option (List Slot)
strings_made is_allowed slot s = guard (are_allowed is_allowed s) >>= (λ _. Some (string_slots slot s))

-- the marks, the offsets, and the bytes by where they end
with_bytes : (is_allowed : List ℕ → Bool) (slot : List ℕ → Slot) (found : Marked) (offsets : List ℕ) (given : Option (List ℕ))
    → (given >>= (λ values. guard (list_all is_allowed (window (piece_at offsets values) 0 found.taken))
    >>= (λ _. Some (slots_by found.validity (λ i. slot (piece_at offsets values i)) found.taken))))
    ≡ ((given >>= (λ values. Some (strings_of found.taken (mask_of found.validity found.taken) offsets values)))
    >>= strings_made is_allowed slot)
with_bytes is_allowed slot found offsets None = refl
with_bytes is_allowed slot found offsets (Some values) =
    ap (λ (made : List Slot). guard (list_all is_allowed (window (piece_at offsets values) 0 found.taken)) >>= (λ _. Some made))
    (slots_same found.validity found.taken (λ i. slot (piece_at offsets values i)) (λ i. slot (piece_at offsets values i)) (λ i below. refl))

with_offsets : (is_allowed : List ℕ → Bool) (slot : List ℕ → Slot) (found : Marked) (given : Option (List ℕ)) (window_to : ℕ → Option (List ℕ))
    → (given >>= (λ offsets. window_to (last_of offsets)
    >>= (λ values. guard (list_all is_allowed (window (piece_at offsets values) 0 found.taken))
    >>= (λ _. Some (slots_by found.validity (λ i. slot (piece_at offsets values i)) found.taken)))))
    ≡ ((given >>= (λ offsets. window_to (last_of offsets)
    >>= (λ values. Some (strings_of found.taken (mask_of found.validity found.taken) offsets values))))
    >>= strings_made is_allowed slot)
with_offsets is_allowed slot found None window_to = refl
with_offsets is_allowed slot found (Some offsets) window_to = with_bytes is_allowed slot found offsets (window_to (last_of offsets))

abbrev behind_marks : Bool → Bool → List Buffer → ℕ → List ℕ → ℕ × Option (List Bool) → Option Strings
behind_marks is_large little buffers origin room marks =
    next_offsets is_large little (drop 1 buffers) marks.0 origin room
    >>= (λ offsets. next_window (drop 2 buffers) origin (last_of offsets) room
    >>= (λ values. Some (strings_of marks.0 marks.1 offsets values)))

abbrev direct : (List ℕ → Bool) → (List ℕ → Slot) → Marked → Option (List ℕ) → (ℕ → Option (List ℕ)) → Option (List Slot)
direct is_allowed slot found given window_to =
    given >>= (λ offsets. window_to (last_of offsets)
    >>= (λ values. guard (list_all is_allowed (window (piece_at offsets values) 0 found.taken))
    >>= (λ _. Some (slots_by found.validity (λ i. slot (piece_at offsets values i)) found.taken))))

-- the slots of a column of strings are made of its marks, its offsets and its bytes
strings_given : (is_allowed : List ℕ → Bool) (slot : List ℕ → Slot) (is_large : Bool) (nodes : List FieldNode) (buffers : List Buffer)
    (little : Bool) (limit : Option ℕ) (origin : ℕ) (room : List ℕ)
    → byte_slots (offset_width is_large) is_allowed slot (front nodes buffers little limit origin room)
    ≡ (next_strings is_large nodes limit buffers little origin room >>= strings_made is_allowed slot)
unfolding byte_slots
strings_given is_allowed slot is_large nodes buffers little limit origin room =
    front_made nodes buffers little limit origin room
    (λ found. direct is_allowed slot found (offsets_in (offset_width is_large) (source_of nodes buffers little room origin) 1 found.taken)
    (λ end. buffer_at (source_of nodes buffers little room origin) 2 end))
    (λ marks. behind_marks is_large little buffers origin room marks >>= strings_made is_allowed slot)
    (λ found.
    (λ j. direct is_allowed slot found (later_offsets 1 is_large nodes buffers little origin found.taken room j)
    (λ end. later_window 2 nodes buffers little origin end room j))
    ∙ with_offsets is_allowed slot found (next_offsets is_large little (drop 1 buffers) found.taken origin room)
    (λ end. next_window (drop 2 buffers) origin end room))
    ∙ sym (through_two (next_marked nodes limit buffers origin room) (behind_marks is_large little buffers origin room)
    (strings_made is_allowed slot))

pub binaries_given : (t : DataType) (is_large : Bool) (nodes : List FieldNode) (buffers : List Buffer) (little : Bool) (limit : Option ℕ)
    (origin : ℕ) → physical_type t ≡ binary_layout is_large → (room : List ℕ)
    → front_slots t nodes buffers little limit origin room
    ≡ (next_strings is_large nodes limit buffers little origin room >>= strings_made (λ piece. true) bytes)
binaries_given t true nodes buffers little limit origin is room =
    large_binaries_read t is _ ∙ strings_given (λ piece. true) bytes true nodes buffers little limit origin room
binaries_given t false nodes buffers little limit origin is room =
    binaries_read t is _ ∙ strings_given (λ piece. true) bytes false nodes buffers little limit origin room

pub texts_given : (t : DataType) (is_large : Bool) (nodes : List FieldNode) (buffers : List Buffer) (little : Bool) (limit : Option ℕ)
    (origin : ℕ) → physical_type t ≡ text_layout is_large → (room : List ℕ)
    → front_slots t nodes buffers little limit origin room
    ≡ (next_strings is_large nodes limit buffers little origin room >>= strings_made is_utf8 text)
texts_given t true nodes buffers little limit origin is room =
    large_texts_read t is _ ∙ strings_given is_utf8 text true nodes buffers little limit origin room
texts_given t false nodes buffers little limit origin is room =
    texts_read t is _ ∙ strings_given is_utf8 text false nodes buffers little limit origin room

-- ---- arrays

abbrev pub parts_of : ByteStrings → Strings
parts_of a = strings_of (len_of a) a.validity (offsets_of a.offsets) a.bytes

spans_count : (s : Spans) → length (offsets_of s) - 1 ≡ length s.lengths
spans_count s = omega (arith, length-ends_from s.start s.lengths)

pub binary_slots_are : (a : ByteStrings) → string_slots bytes (parts_of a) ≡ slots (binary_column a)
binary_slots_are a =
    ap (λ (n : ℕ). window (λ i. unless_null a.validity i (bytes (piece_at (offsets_of a.offsets) a.bytes i))) 0 n) (sym (spans_count a.offsets))

pub text_slots_are : (a : ByteStrings) → string_slots text (parts_of a) ≡ slots (text_column a)
text_slots_are a =
    ap (λ (n : ℕ). window (λ i. unless_null a.validity i (text (piece_at (offsets_of a.offsets) a.bytes i))) 0 n) (sym (spans_count a.offsets))

all_allowed : (pieces : List (List ℕ)) → list_all (λ piece. true) pieces ≡ true
all_allowed [] = refl
all_allowed (piece ∷ pieces) = all_allowed pieces

-- byte strings have no test
pub binary_made : (a : ByteStrings) → strings_made (λ piece. true) bytes (parts_of a) ≡ Some (slots (binary_column a))
binary_made a =
    ap (λ (test : Bool). guard test >>= (λ _. Some (string_slots bytes (parts_of a))))
    (all_allowed (window (piece_at (offsets_of a.offsets) a.bytes) 0 (len_of a)))
    ∙ ap Some (binary_slots_are a)

-- ---- the pieces between offsets are the values of an array

get_or-ends_from : (before : ℕ) (lengths : List ℕ) (i : ℕ) → i < length lengths
    → get_or (ends_from before lengths) i 0 ≡ before + sum (take (suc i) lengths)
get_or-ends_from before [] i h = absurd (omega arith)
get_or-ends_from before (l ∷ ls) zero h = omega (arith, sum-cons l [])
get_or-ends_from before (l ∷ ls) (suc i) h =
    let here : get_or (ends_from (before + l) ls) i 0 ≡ before + l + sum (take (suc i) ls) = get_or-ends_from (before + l) ls i (omega arith) in
    here ∙ omega (arith, sum-cons l (take (suc i) ls))

-- an offset is where its span begins
get_or-offsets_of : (s : Spans) (i : ℕ) → i ≤ length s.lengths → get_or (offsets_of s) i 0 ≡ offset_at s i
get_or-offsets_of s zero h = omega arith
get_or-offsets_of s (suc i) h = get_or-ends_from s.start s.lengths i (omega arith)

piece_there : (a : ByteStrings) (i : ℕ) → i < len_of a → slice_get (values_of a) i ≡ Some (piece_at (offsets_of a.offsets) a.bytes i)
piece_there a i below =
    let from : get_or (offsets_of a.offsets) i 0 ≡ offset_at a.offsets i = get_or-offsets_of a.offsets i (omega arith) in
    let to : get_or (offsets_of a.offsets) (i + 1) 0 ≡ offset_at a.offsets (i + 1) = get_or-offsets_of a.offsets (i + 1) (omega arith) in
    value_between a i below ∙ sym (λ j. Some (slice_range a.bytes (from j) (to j)))

length-cut_by : (lengths content : List ℕ) → length (cut_by lengths content) ≡ length lengths
length-cut_by [] content = refl
length-cut_by (l ∷ ls) content = ap suc (length-cut_by ls (drop l content))

window_is : {A : Type 0} (f : ℕ → A) (a : ℕ) (xs : List A) → ((i : ℕ) → i < length xs → slice_get xs i ≡ Some (f (a + i)))
    → window f a (length xs) ≡ xs
window_is f a [] each = refl
window_is f a (x ∷ xs) each =
    let place : a + 0 ≡ a = omega arith in
    let here : Some x ≡ Some (f a) = each 0 (omega arith) ∙ ap (λ (k : ℕ). Some (f k)) place in
    let first : f a ≡ x = cc in
    let later = window_is f (a + 1) xs (λ i below.
    let next : a + suc i ≡ a + 1 + i = omega arith in
    each (suc i) (omega arith) ∙ ap (λ (k : ℕ). Some (f k)) next) in
    λ j. first j ∷ later j

pub pieces_are : (a : ByteStrings) → window (piece_at (offsets_of a.offsets) a.bytes) 0 (len_of a) ≡ values_of a
pieces_are a =
    let count : length (values_of a) ≡ len_of a = length-cut_by a.offsets.lengths (drop a.offsets.start a.bytes) in
    ap (window (piece_at (offsets_of a.offsets) a.bytes) 0) (sym count)
    ∙ window_is (piece_at (offsets_of a.offsets) a.bytes) 0 (values_of a) (λ i below.
    let at : 0 + i ≡ i = omega arith in
    piece_there a i (omega arith) ∙ ap (λ (k : ℕ). Some (piece_at (offsets_of a.offsets) a.bytes k)) (sym at))

-- each value is UTF-8 exactly where the test says so
texts_pass : (xs : List (List ℕ)) → AllTexts xs → list_all is_utf8 xs ≡ true
texts_pass [] all = refl
texts_pass (x ∷ xs) all = and_from (is_utf8 x) (list_all is_utf8 xs) (is_utf8-from_IsUtf8 x all.0) (texts_pass xs all.1)

passing_are_texts : (xs : List (List ℕ)) → list_all is_utf8 xs ≡ true → AllTexts xs
passing_are_texts [] passed = tt
passing_are_texts (x ∷ xs) passed =
    let parts = and_parts (is_utf8 x) (list_all is_utf8 xs) passed in
    (IsUtf8-from_is_utf8 x parts.0, passing_are_texts xs parts.1)

pub text_made : (a : ByteStrings) → AllTexts (values_of a) → strings_made is_utf8 text (parts_of a) ≡ Some (slots (text_column a))
text_made a all =
    ap (λ (test : Bool). guard test >>= (λ _. Some (string_slots text (parts_of a)))) (ap (list_all is_utf8) (pieces_are a) ∙ texts_pass
    (values_of a) all)
    ∙ ap Some (text_slots_are a)

-- where some value is not UTF-8, there are no slots
pub no_texts : (a : ByteStrings) → ¬ AllTexts (values_of a) → strings_made is_utf8 text (parts_of a) ≡ None
no_texts a none =
    elim (cases_Bool (are_allowed is_utf8 (parts_of a))) [
      | inl passed ↦ absurd (none (passing_are_texts (values_of a) (ap (list_all is_utf8) (sym (pieces_are a)) ∙ passed)))
      | inr failed ↦ ap (λ (test : Bool). guard test >>= (λ _. Some (string_slots text (parts_of a)))) failed
    ]
