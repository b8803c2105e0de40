-- The slots of columns of numbers and of booleans, by what is read of them.
use Rattle.std.proofs.Common.{◌≡◌, ◌∙◌, ◌+◌, ◌*◌, ◌/◌, ◌<◌, ℕ, List, Bool, true, false, length, drop, get_or, refl, sym, ap, arith}
use Rattle.std.specs.Prelude.{Option, Some, pos}
use Rattle.std.proofs.lemmas.List.{get_or-map, length-map}
use Rattle.ipc_format_column_bytes.specs.streams.columnar_memory.Bits as memory
use Rattle.ipc_format_column_bytes.specs.streams.columnar_memory.Bits.{bits_of}
use Rattle.ipc_format_column_bytes.specs.streams.columnar_memory.Layouts.{physical_type}
use Rattle.ipc_format_column_bytes.specs.streams.columnar_memory.Numbers as memory_numbers
use Rattle.ipc_format_column_bytes.specs.streams.columnar_memory.Numbers.{Numbers, IsNative, zeros, one, first_number, second_number, third_number, numbers_in}
use Rattle.ipc_format_column_bytes.specs.streams.columnar_memory.Windows.{window}
use Rattle.ipc_format_column_bytes.specs.streams.columnar_memory.declared.DataType.{DataType}
use Rattle.ipc_format_column_bytes.specs.streams.columnar_memory.declared.PhysicalType.TheVariants as physical
use Rattle.ipc_format_column_bytes.specs.streams.columnar_memory.declared.PrimitiveType.{PrimitiveType}
use Rattle.ipc_format_column_bytes.specs.streams.columnar_memory.declared.PrimitiveType.TheVariants as kinds
use Rattle.ipc_format_column_bytes.specs.streams.columns.Slots.{Slot, number, pair, triple, truth}
use Rattle.ipc_format_column_bytes.specs.streams.columns.StoredColumns.{flat, bits, stored_at, stored_len, slots, pair_slot, triple_slot}
use Rattle.ipc_format_column_bytes.specs.streams.flatbuffers.Reading.{◌>>=◌}
use Rattle.ipc_format_column_bytes.specs.streams.grammar.Columns.{Marked, buffer_at, fixed_slots, slots_by}
use Rattle.ipc_format_column_bytes.specs.streams.grammar.Values.{bit_at, element_bytes, kind_size, value_of, value_at}
use Rattle.ipc_format_column_bytes.specs.streams.messages.declared.values.Buffer.{Buffer}
use Rattle.ipc_format_column_bytes.specs.streams.messages.declared.values.FieldNode.{FieldNode}
use Rattle.ipc_format_column_bytes.proofs.streams_lemmas.columnar_memory_lemmas.bitmap_lemmas.Lists.{get_or-window, length-window}
use Rattle.ipc_format_column_reading.specs.Buffers.{source_of, next_bits, next_values, next_window, values_in}
use Rattle.ipc_format_column_reading.specs.FlatColumns.{pair_of, triple_of, stored_numbers}
use Rattle.ipc_format_column_reading.specs.Reads.{front_slots, next_marked}
use Rattle.ipc_format_column_reading.proofs.Marks.{marks_of, front_made, later_window, column_made}
use Rattle.ipc_format_column_reading.proofs.Readings.{through}
use Rattle.ipc_format_column_reading.proofs.Types.{numbers_read, truths_read}

-- the slot of a value of a kind
slot_of : PrimitiveType → Numbers → Slot
slot_of kinds.DaysMs n = pair kinds.DaysMs (first_number n) (second_number n)
slot_of kinds.MonthDayNano n = triple kinds.MonthDayNano (first_number n) (second_number n) (third_number n)
slot_of kind n = number kind (first_number n)

-- the two definitions of how bytes spell a value, and of how many bytes it takes, say the same
value_is : (kind : PrimitiveType) (little : Bool) (bytes : List ℕ) → IsNative kind (zeros kind)
    → value_of kind little bytes ≡ slot_of kind (numbers_in kind little bytes)
unfolding slot_of
value_is kinds.Int8 true bytes native = refl
value_is kinds.Int8 false bytes native = refl
value_is kinds.Int16 true bytes native = refl
value_is kinds.Int16 false bytes native = refl
value_is kinds.Int32 true bytes native = refl
value_is kinds.Int32 false bytes native = refl
value_is kinds.Int64 true bytes native = refl
value_is kinds.Int64 false bytes native = refl
value_is kinds.Int128 true bytes native = refl
value_is kinds.Int128 false bytes native = refl
value_is kinds.Int256 true bytes native = refl
value_is kinds.Int256 false bytes native = refl
value_is kinds.UInt8 true bytes native = refl
value_is kinds.UInt8 false bytes native = refl
value_is kinds.UInt16 true bytes native = refl
value_is kinds.UInt16 false bytes native = refl
value_is kinds.UInt32 true bytes native = refl
value_is kinds.UInt32 false bytes native = refl
value_is kinds.UInt64 true bytes native = refl
value_is kinds.UInt64 false bytes native = refl
value_is kinds.DaysMs true bytes native = refl
value_is kinds.DaysMs false bytes native = refl
value_is kinds.MonthDayNano true bytes native = refl
value_is kinds.MonthDayNano false bytes native = refl
value_is kinds.Float16 little bytes native = absurd native
value_is kinds.Float32 little bytes native = absurd native
value_is kinds.Float64 little bytes native = absurd native

size_is : (kind : PrimitiveType) → kind_size kind ≡ memory_numbers.kind_size kind
size_is kinds.Int8 = refl
size_is _ = refl

stored_count : (kind : PrimitiveType) (ns : List Numbers) → stored_len (stored_numbers kind ns) ≡ length ns
stored_count kinds.DaysMs ns = length-map ns pair_of
stored_count kinds.MonthDayNano ns = length-map ns triple_of
stored_count _ ns = length-map ns first_number

stored_is : (kind : PrimitiveType) (ns : List Numbers) (i : ℕ) → i < length ns
    → stored_at (stored_numbers kind ns) i ≡ slot_of kind (get_or ns i (one (pos 0)))
unfolding slot_of
stored_is kinds.DaysMs ns i below = ap (pair_slot kinds.DaysMs) (get_or-map pair_of ns i (one (pos 0)) (pos 0, pos 0) below)
stored_is kinds.MonthDayNano ns i below =
    ap (triple_slot kinds.MonthDayNano) (get_or-map triple_of ns i (one (pos 0)) (pos 0, pos 0, pos 0) below)
stored_is kind ns i below = ap (number kind) (get_or-map first_number ns i (one (pos 0)) (pos 0) below)

-- the values of some bytes stand at their places
value_there : (kind : PrimitiveType) (little : Bool) (bytes : List ℕ) (n i : ℕ) → IsNative kind (zeros kind) → i < n
    → value_at kind little bytes i ≡ stored_at (stored_numbers kind (values_in kind little n bytes)) i
value_there kind little bytes n i native below =
    let value : ℕ → Numbers = λ i. numbers_in kind little (element_bytes (memory_numbers.kind_size kind) bytes i) in
    let count : length (window value 0 n) ≡ n = length-window value 0 n in
    let at : 0 + i ≡ i = omega arith in
    value_is kind little (element_bytes (kind_size kind) bytes i) native
    ∙ ap (λ (size : ℕ). slot_of kind (numbers_in kind little (element_bytes size bytes i))) (size_is kind)
    ∙ ap (λ (k : ℕ). slot_of kind (value k)) (sym at)
    ∙ ap (slot_of kind) (sym (get_or-window value 0 n i (one (pos 0)) below))
    ∙ sym (stored_is kind (window value 0 n) i (omega arith))

-- what is made of the marks and the values of a column of numbers
abbrev pub numbers_made : DataType → PrimitiveType → ℕ × Option (List Bool) → List Numbers → Option (List Slot)
numbers_made t kind marks values = Some (slots (flat t marks.1 (stored_numbers kind values)))

abbrev pub numbers_next : DataType → PrimitiveType → Bool → List Buffer → ℕ → ℕ × Option (List Bool) → List ℕ → Option (List Slot)
numbers_next t kind little buffers origin marks room =
    next_values kind little (drop 1 buffers) origin marks.0 room >>= (λ values. numbers_made t kind marks values)

numbers_behind : (t : DataType) (kind : PrimitiveType) (little : Bool) (nodes : List FieldNode) (buffers : List Buffer) (origin : ℕ) (room : List ℕ)
    (found : Marked) → IsNative kind (zeros kind)
    → (buffer_at (source_of nodes buffers little room origin) 1 (found.taken * kind_size kind)
    >>= (λ bytes. Some (slots_by found.validity (value_at kind little bytes) found.taken)))
    ≡ numbers_next t kind little buffers origin (marks_of found) room
numbers_behind t kind little nodes buffers origin room found native =
    let n = found.taken in
    let values : ℕ → List ℕ → ℕ → Numbers = λ size bytes i. numbers_in kind little (element_bytes size bytes i) in
    ap (λ (size : ℕ). buffer_at (source_of nodes buffers little room origin) 1 (n * size)
    >>= (λ bytes. Some (slots_by found.validity (value_at kind little bytes) n))) (size_is kind)
    ∙ ap (λ (given : Option (List ℕ)). given >>= (λ bytes. Some (slots_by found.validity (value_at kind little bytes) n)))
    (later_window 1 nodes buffers little origin (n * memory_numbers.kind_size kind) room)
    ∙ through (next_window (drop 1 buffers) origin (n * memory_numbers.kind_size kind) room) (values_in kind little n)
    (λ bytes. Some (slots_by found.validity (value_at kind little bytes) n)) (numbers_made t kind (marks_of found))
    (λ bytes. ap Some (column_made t found.validity n (value_at kind little bytes) (stored_numbers kind (values_in kind little n bytes))
    (stored_count kind (values_in kind little n bytes) ∙ length-window (values (memory_numbers.kind_size kind) bytes) 0 n)
    (λ i below. value_there kind little bytes n i native below)))

-- the slots of a column of numbers are made of its marks and its values
pub numbers_given : (t : DataType) (kind : PrimitiveType) (nodes : List FieldNode) (buffers : List Buffer) (little : Bool) (limit : Option ℕ)
    (origin : ℕ) → IsNative kind (zeros kind) → physical_type t ≡ physical.Primitive kind → (room : List ℕ)
    → front_slots t nodes buffers little limit origin room
    ≡ (next_marked nodes limit buffers origin room >>= (λ marks. numbers_next t kind little buffers origin marks room))
unfolding fixed_slots
numbers_given t kind nodes buffers little limit origin native is room =
    numbers_read t kind is _
    ∙ front_made nodes buffers little limit origin room
    (λ found. buffer_at (source_of nodes buffers little room origin) 1 (found.taken * kind_size kind)
    >>= (λ bytes. Some (slots_by found.validity (value_at kind little bytes) found.taken)))
    (λ marks. numbers_next t kind little buffers origin marks room)
    (λ found. numbers_behind t kind little nodes buffers origin room found native)

-- ---- booleans

truth_there : (bytes : List ℕ) (n i : ℕ) → i < n → truth (bit_at bytes i) ≡ stored_at (bits (bits_of bytes 0 n)) i
unfolding memory.bit_at
truth_there bytes n i below =
    let at : 0 + i ≡ i = omega arith in
    ap truth (sym (get_or-window (memory.bit_at bytes) 0 n i false below ∙ ap (bit_at bytes) at))

abbrev pub truths_made : DataType → ℕ × Option (List Bool) → List Bool → Option (List Slot)
truths_made t marks values = Some (slots (flat t marks.1 (bits values)))

abbrev pub truths_next : DataType → List Buffer → ℕ → ℕ × Option (List Bool) → List ℕ → Option (List Slot)
truths_next t buffers origin marks room = next_bits (drop 1 buffers) origin marks.0 room >>= (λ values. truths_made t marks values)

truths_behind : (t : DataType) (little : Bool) (nodes : List FieldNode) (buffers : List Buffer) (origin : ℕ) (room : List ℕ) (found : Marked)
    → (buffer_at (source_of nodes buffers little room origin) 1 ((found.taken + 7) / 8)
    >>= (λ bytes. Some (slots_by found.validity (λ i. truth (bit_at bytes i)) found.taken)))
    ≡ truths_next t buffers origin (marks_of found) room
truths_behind t little nodes buffers origin room found =
    let n = found.taken in
    ap (λ (given : Option (List ℕ)). given >>= (λ bytes. Some (slots_by found.validity (λ i. truth (bit_at bytes i)) n)))
    (later_window 1 nodes buffers little origin ((n + 7) / 8) room)
    ∙ through (next_window (drop 1 buffers) origin ((n + 7) / 8) room) (λ bytes. bits_of bytes 0 n)
    (λ bytes. Some (slots_by found.validity (λ i. truth (bit_at bytes i)) n)) (truths_made t (marks_of found))
    (λ bytes. ap Some (column_made t found.validity n (λ i. truth (bit_at bytes i)) (bits (bits_of bytes 0 n))
    (length-window (memory.bit_at bytes) 0 n) (λ i below. truth_there bytes n i below)))

pub truths_given : (t : DataType) (nodes : List FieldNode) (buffers : List Buffer) (little : Bool) (limit : Option ℕ) (origin : ℕ)
    → physical_type t ≡ physical.Boolean → (room : List ℕ)
    → front_slots t nodes buffers little limit origin room
    ≡ (next_marked nodes limit buffers origin room >>= (λ marks. truths_next t buffers origin marks room))
unfolding fixed_slots
truths_given t nodes buffers little limit origin is room =
    truths_read t is _
    ∙ front_made nodes buffers little limit origin room
    (λ found. buffer_at (source_of nodes buffers little room origin) 1 ((found.taken + 7) / 8)
    >>= (λ bytes. Some (slots_by found.validity (λ i. truth (bit_at bytes i)) found.taken)))
    (λ marks. truths_next t buffers origin marks room) (λ found. truths_behind t little nodes buffers origin room found)
