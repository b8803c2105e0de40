-- How many slots are taken at the fronts of the queues, and which of them are valid, as a mask.
use Rattle.std.proofs.Common.{◌≡◌, ◌∙◌, ◌+◌, ◌/◌, ◌<◌, ℕ, zero, suc, List, [], ◌∷◌, Bool, true, false, map, drop, refl, sym, ap, arith}
use Rattle.std.specs.Prelude.{Option, Some, None, slice_get, int_lt, pos, if◌then◌else◌}
use Rattle.ipc_format_column_bytes.specs.streams.columnar_memory.Bits as memory
use Rattle.ipc_format_column_bytes.specs.streams.columnar_memory.Bits.{bits_of}
use Rattle.ipc_format_column_bytes.specs.streams.columnar_memory.Windows.{window}
use Rattle.ipc_format_column_bytes.specs.streams.columnar_memory.declared.DataType.{DataType}
use Rattle.ipc_format_column_bytes.specs.streams.columns.Slots.{Slot, null}
use Rattle.ipc_format_column_bytes.specs.streams.columns.StoredColumns.{Stored, flat, is_valid_at, unless_null, stored_at, stored_len, slots}
use Rattle.ipc_format_column_bytes.specs.streams.flatbuffers.Reading.{◌>>=◌}
use Rattle.ipc_format_column_bytes.specs.streams.grammar.Columns.{Marked, Validity, all_valid, bitmap, marked_in, validity_in, buffer_at, offsets_in, is_valid_in}
use Rattle.ipc_format_column_bytes.specs.streams.grammar.Columns.{slots_by, slot_by}
use Rattle.ipc_format_column_bytes.specs.streams.grammar.Values.{bit_at}
use Rattle.ipc_format_column_bytes.specs.streams.messages.declared.values.Buffer.{Buffer}
use Rattle.ipc_format_column_bytes.specs.streams.messages.declared.values.FieldNode.{FieldNode}
use Rattle.ipc_format_column_bytes.proofs.streams_lemmas.columnar_memory_lemmas.bitmap_lemmas.Lists.{get_or-window, window_same}
use Rattle.ipc_format_column_reading.specs.Buffers.{source_of, buffer_of, taken_in, next_bits, next_window}
use Rattle.ipc_format_column_reading.specs.Reads.{front, next_marked, next_offsets, offset_width}
use Rattle.ipc_format_column_reading.proofs.Readings.{through, through_two}

-- which slots are valid, as a mask
abbrev pub mask_of : Validity → ℕ → Option (List Bool)
mask_of all_valid taken = None
mask_of (bitmap bytes) taken = Some (bits_of bytes 0 taken)

abbrev pub marked : ℕ → Validity → Marked
marked taken validity = record { taken = taken; validity = validity }

abbrev pub marks_of : Marked → ℕ × Option (List Bool)
marks_of found = (found.taken, mask_of found.validity found.taken)

-- ---- what stands at the fronts

bits_given : (found : Option (List ℕ)) (taken : ℕ)
    → ((found >>= (λ bytes. Some (bitmap bytes))) >>= (λ validity. Some (marks_of (marked taken validity))))
    ≡ (((found >>= (λ bytes. Some (bits_of bytes 0 taken))) >>= (λ bits. Some (Some bits))) >>= (λ mask. Some (taken, mask)))
bits_given None taken = refl
bits_given (Some bytes) taken = refl

validity_given : (nodes : List FieldNode) (buffers : List Buffer) (little : Bool) (origin taken : ℕ) (room : List ℕ) (has_nulls : Bool)
    → ((slice_get (map buffer_of buffers) 0 >>= (λ _. if has_nulls then
    (buffer_at (source_of nodes buffers little room origin) 0 ((taken + 7) / 8) >>= (λ bits. Some (bitmap bits))) else Some all_valid))
    >>= (λ validity. Some (marks_of (marked taken validity))))
    ≡ ((slice_get buffers 0 >>= (λ _. if has_nulls then (next_bits buffers origin taken room >>= (λ bits. Some (Some bits))) else Some None))
    >>= (λ mask. Some (taken, mask)))
unfolding buffer_at
validity_given nodes [] little origin taken room has_nulls = refl
validity_given nodes (b ∷ bs) little origin taken room false = refl
validity_given nodes (b ∷ bs) little origin taken room true =
    bits_given (buffer_at (source_of nodes (b ∷ bs) little room origin) 0 ((taken + 7) / 8)) taken

by_taken : (t : Option ℕ) (v : ℕ → Option Validity) (w : ℕ → Option (Option (List Bool)))
    → ((n : ℕ) → (v n >>= (λ validity. Some (marks_of (marked n validity)))) ≡ (w n >>= (λ mask. Some (n, mask))))
    → ((t >>= (λ n. v n >>= (λ validity. Some (marked n validity)))) >>= (λ found. Some (marks_of found)))
    ≡ (t >>= (λ n. (t >>= w) >>= (λ mask. Some (n, mask))))
by_taken None v w same = refl
by_taken (Some n) v w same =
    through_two (v n) (λ validity. Some (marked n validity)) (λ found. Some (marks_of found)) ∙ same n

pub marked_given : (nodes : List FieldNode) (buffers : List Buffer) (little : Bool) (limit : Option ℕ) (origin : ℕ) (room : List ℕ)
    → (marked_in (front nodes buffers little limit origin room) >>= (λ found. Some (marks_of found)))
    ≡ next_marked nodes limit buffers origin room
unfolding marked_in validity_in
marked_given [] buffers little limit origin room = refl
marked_given (n ∷ ns) buffers little limit origin room =
    by_taken (taken_in limit n)
    (λ taken. slice_get (map buffer_of buffers) 0 >>= (λ _. if int_lt (pos 0) n.null_count then
    (buffer_at (source_of (n ∷ ns) buffers little room origin) 0 ((taken + 7) / 8) >>= (λ bits. Some (bitmap bits))) else Some all_valid))
    (λ taken. slice_get buffers 0 >>= (λ _. if int_lt (pos 0) n.null_count then
    (next_bits buffers origin taken room >>= (λ bits. Some (Some bits))) else Some None))
    (λ taken. validity_given (n ∷ ns) buffers little origin taken room (int_lt (pos 0) n.null_count))

-- what is made of the marks
pub front_made : {C : Type 0} (nodes : List FieldNode) (buffers : List Buffer) (little : Bool) (limit : Option ℕ) (origin : ℕ) (room : List ℕ)
    (f : Marked → Option C) (g : ℕ × Option (List Bool) → Option C) → ((found : Marked) → f found ≡ g (marks_of found))
    → (marked_in (front nodes buffers little limit origin room) >>= f) ≡ (next_marked nodes limit buffers origin room >>= g)
front_made nodes buffers little limit origin room f g same =
    through (marked_in (front nodes buffers little limit origin room)) marks_of f g same
    ∙ ap (λ (found : Option (ℕ × Option (List Bool))). found >>= g) (marked_given nodes buffers little limit origin room)

drop_none : {A : Type 0} (xs : List A) → drop 0 xs ≡ xs
drop_none [] = refl
drop_none (x ∷ xs) = refl

-- the buffers behind the first ones
pub later_window : (k : ℕ) (nodes : List FieldNode) (buffers : List Buffer) (little : Bool) (origin needed : ℕ) (room : List ℕ)
    → buffer_at (source_of nodes buffers little room origin) k needed ≡ next_window (drop k buffers) origin needed room
unfolding buffer_at
later_window zero nodes buffers little origin needed room =
    ap (λ (rest : List Buffer). next_window rest origin needed room) (sym (drop_none buffers))
later_window (suc k) nodes [] little origin needed room = refl
later_window (suc k) nodes (b ∷ bs) little origin needed room = later_window k nodes bs little origin needed room

pub later_offsets : (k : ℕ) (is_large : Bool) (nodes : List FieldNode) (buffers : List Buffer) (little : Bool) (origin taken : ℕ) (room : List ℕ)
    → offsets_in (offset_width is_large) (source_of nodes buffers little room origin) k taken
    ≡ next_offsets is_large little (drop k buffers) taken origin room
unfolding buffer_at offsets_in
later_offsets zero is_large nodes buffers little origin taken room =
    ap (λ (rest : List Buffer). next_offsets is_large little rest taken origin room) (sym (drop_none buffers))
later_offsets (suc k) is_large nodes [] little origin taken room = refl
later_offsets (suc k) is_large nodes (b ∷ bs) little origin taken room = later_offsets k is_large nodes bs little origin taken room

-- ---- slots under a mask

valid_same : (validity : Validity) (n i : ℕ) → i < n → is_valid_in validity i ≡ is_valid_at (mask_of validity n) i
unfolding memory.bit_at
valid_same all_valid n i below = refl
valid_same (bitmap bytes) n i below =
    let at : 0 + i ≡ i = omega arith in
    sym (get_or-window (memory.bit_at bytes) 0 n i false below ∙ ap (bit_at bytes) at)

-- slots by their values are those under the mask
pub slots_same : (validity : Validity) (n : ℕ) (value stored : ℕ → Slot) → ((i : ℕ) → i < n → value i ≡ stored i)
    → slots_by validity value n ≡ window (λ i. unless_null (mask_of validity n) i (stored i)) 0 n
slots_same validity n value stored same =
    window_same (slot_by validity value) (λ i. unless_null (mask_of validity n) i (stored i)) 0 0 n (λ i below.
    let at : 0 + i < n = omega arith in
    λ j. if valid_same validity n (0 + i) at j then same (0 + i) at j else null)

-- slots by their values are those of the column that stores them
pub column_made : (t : DataType) (validity : Validity) (n : ℕ) (value : ℕ → Slot) (stored : Stored) → stored_len stored ≡ n
    → ((i : ℕ) → i < n → value i ≡ stored_at stored i) → slots_by validity value n ≡ slots (flat t (mask_of validity n) stored)
column_made t validity n value stored counted same =
    slots_same validity n value (stored_at stored) same
    ∙ ap (λ (k : ℕ). window (λ i. unless_null (mask_of validity n) i (stored_at stored i)) 0 k) (sym counted)
