-- Columns of nulls, and of byte strings of one size, by what is read of them.
use Rattle.std.proofs.Common.{◌≡◌, ◌∙◌, ◌+◌, ◌*◌, ◌/◌, ◌<◌, ◌≤◌, ◌&&◌, ◌^◌, ℕ, zero, suc, Bool, true, false, List, [], ◌∷◌, length, map, drop, take}
use Rattle.std.proofs.Common.{refl, sym, ap, subst, arith, inl, inr, slice_range}
use Rattle.std.specs.Prelude.{Option, Some, None, Result, Ok, Err, nat_lt, nat_le, replicate, slice_get, if◌then◌else◌}
use Rattle.std.specs.List.{list_all}
use Rattle.std.proofs.Math.Nat.{mul_comm, mul-div_cancel_left}
use Rattle.std.proofs.lemmas.Bool.{cases_Bool, eq-eqb, leb-true, lt-ltb, ltb-true, true≢false}
use Rattle.std.proofs.lemmas.List.{length-drop, length-take-le}
use Rattle.ipc_format_column_writing.specs.column_reading.Flat.{IsMaskOf}
use Rattle.ipc_format_column_writing.specs.column_reading.columnar_memory.Layouts.{physical_type}
use Rattle.ipc_format_column_writing.specs.column_reading.columnar_memory.declared.DataType.{DataType}
use Rattle.ipc_format_column_writing.specs.column_reading.columnar_memory.declared.Error.{Error}
use Rattle.ipc_format_column_writing.specs.column_reading.columnar_memory.declared.DataType.TheOpen as layer
use Rattle.ipc_format_column_writing.specs.column_reading.columnar_memory.declared.IntervalUnit.TheVariants as intervals
use Rattle.ipc_format_column_writing.specs.column_reading.columnar_memory.declared.PhysicalType.{PhysicalType}
use Rattle.ipc_format_column_writing.specs.column_reading.columnar_memory.declared.PhysicalType.TheVariants as physical
use Rattle.ipc_format_column_writing.specs.column_reading.columns.Slots.{Slot, bytes, null, window}
use Rattle.ipc_format_column_writing.specs.column_reading.columns.SoundColumns.{is_byte, is_null_type, is_sound, mask_fits}
use Rattle.ipc_format_column_writing.specs.column_reading.columns.StoredColumns.{Column, column_type, fixed_bytes, flat, nulls, slots, type_layer}
use Rattle.ipc_format_column_writing.specs.column_reading.flatbuffers.Reading.{◌>>=◌, guard, window_at}
use Rattle.ipc_format_column_writing.specs.column_reading.grammar.Columns.{Marked, Place, marked_in, buffer_at, fixed_bytes_slots, fixed_slots, null_slots, slots_by, slots_in}
use Rattle.ipc_format_column_writing.specs.column_reading.grammar.Messages.{natural}
use Rattle.ipc_format_column_writing.specs.column_reading.grammar.Values.{element_bytes}
use Rattle.ipc_format_column_writing.specs.column_reading.grammar.Schemas.{Ids}
use Rattle.ipc_format_column_writing.specs.column_reading.messages.declared.values.Buffer.{Buffer}
use Rattle.ipc_format_column_writing.specs.column_reading.messages.declared.values.FieldNode.{FieldNode}
use Rattle.ipc_format_column_writing.specs.column_reading.Buffers.{buffer_of, next_window, taken_in}
use Rattle.ipc_format_column_writing.specs.column_reading.Reads.{ReadsColumn, front, front_slots, next_marked}
use Rattle.ipc_format_column_writing.specs.column_reading.Rooms.{ForBytes, ReadsAs, Told}
use Rattle.ipc_format_column_writing.proofs.reading_lemmas.ColumnReads.{Marks, takes_behind, values_behind, values_refused}
use Rattle.ipc_format_column_writing.proofs.reading_lemmas.Marks.{column_made, front_made, later_window, mask_of, marks_of}
use Rattle.ipc_format_column_writing.proofs.reading_lemmas.Readings.{out_of_spec, through_found}
use Rattle.ipc_format_column_writing.proofs.reading_lemmas.columns_lemmas.TypeLayers.{Layer, is_extension, layer_layout, layout_is}
use Rattle.ipc_format_array_reading.specs.ArrayReads.{Test, is_readable}
use Rattle.ipc_format_array_reading.specs.TypedReads.{IsNeeded, ReadsNulls, StatesSmall, front_array}
use Rattle.ipc_format_array_reading.proofs.Layers.{layer_plain, layer_reads, layer_tests, read_layer, test_layer}
use Rattle.ipc_format_column_writing.specs.nested_arrays.Checked.{IsChecked}
use Rattle.ipc_format_column_writing.specs.nested_arrays.FlatColumns.{byte_width, layer_width}
use Rattle.ipc_format_column_writing.proofs.nested_lemmas.flat_lemmas.FixedWidths.{fixed_parts, fixed_sound}

-- nothing follows, whatever there is
pub nothing_follows : {A B : Type 0} (r : Option A) (f : A → Option B) → ((x : A) → f x ≡ None) → (r >>= f) ≡ None
nothing_follows None f none = refl
nothing_follows (Some x) f none = none x

-- ---- nulls

abbrev pub is_null : PhysicalType → Bool
is_null physical.Null = true
is_null _ = false

unlike : false ≡ true → ⊥
unlike e = true≢false (sym e)

null_read : (x : Layer) (at : Place) → is_null (layer_layout x) ≡ true → is_extension x ≡ false → read_layer x at ≡ null_slots at
null_read layer.Null at is plain = refl
null_read (layer.Interval intervals.YearMonth) at is plain = absurd (unlike is)
null_read (layer.Interval intervals.DayTime) at is plain = absurd (unlike is)
null_read (layer.Interval intervals.MonthDayNano) at is plain = absurd (unlike is)
null_read (layer.Extension name inner metadata) at is plain = absurd (true≢false plain)
null_read x at is plain = absurd (unlike is)

nulls_window : (o n : ℕ) → replicate n null ≡ window (λ i. null) o n
nulls_window o zero = refl
nulls_window o (suc n) = ap (λ xs. null ∷ xs) (nulls_window (o + 1) n)

-- the slots of a column of nulls, by its node
pub nulls_given : (t : DataType) (node : FieldNode) (nodes : List FieldNode) (limit : Option ℕ) → physical_type t ≡ physical.Null
    → front_slots t (node ∷ nodes) [] true limit 0 [] ≡ (taken_in limit node >>= (λ n. Some (slots (nulls t n))))
nulls_given t node nodes limit is =
    ap (λ read. read (front (node ∷ nodes) [] true limit 0 [])) (layer_reads t)
    ∙ null_read (type_layer t) (front (node ∷ nodes) [] true limit 0 [])
    (ap is_null (sym (layout_is t) ∙ is)) (layer_plain t)
    ∙ through_found (taken_in limit node) (λ n. Some (replicate n null)) (λ n. Some (slots (nulls t n))) (λ n found. ap Some (nulls_window 0 n))

pub no_node : (t : DataType) (limit : Option ℕ) → physical_type t ≡ physical.Null → front_slots t [] [] true limit 0 [] ≡ None
no_node t limit is =
    ap (λ read. read (front [] [] true limit 0 [])) (layer_reads t)
    ∙ null_read (type_layer t) (front [] [] true limit 0 []) (ap is_null (sym (layout_is t) ∙ is)) (layer_plain t)

abbrev or_node : FieldNode → Option FieldNode → FieldNode
or_node x None = x
or_node x (Some y) = y

-- by the first of the nodes
pub nulls_at : (t : DataType) (nodes : List FieldNode) (node : FieldNode) (limit : Option ℕ) → physical_type t ≡ physical.Null
    → slice_get nodes 0 ≡ Some node → front_slots t nodes [] true limit 0 [] ≡ (taken_in limit node >>= (λ n. Some (slots (nulls t n))))
nulls_at t [] node limit is there = absurd cc
nulls_at t (x ∷ xs) node limit is there =
    nulls_given t x xs limit is ∙ ap (λ first. taken_in limit first >>= (λ n. Some (slots (nulls t n)))) (ap (or_node x) there)

pub nulls_missing : (t : DataType) (nodes : List FieldNode) (limit : Option ℕ) → physical_type t ≡ physical.Null → slice_get nodes 0 ≡ None
    → front_slots t nodes [] true limit 0 [] ≡ None
nulls_missing t [] limit is none = no_node t limit is
nulls_missing t (x ∷ xs) limit is none = absurd cc

-- what is made of the number
pub nulls_made : (t : DataType) (given : Option (List Slot)) (n : ℕ) (nodes after : List FieldNode) (r : Result Column Error)
    → physical_type t ≡ physical.Null → given ≡ Some (slots (nulls t n)) → (1 ≤ length nodes) × (after ≡ drop 1 nodes)
    → IsChecked (nulls t n) r → ReadsNulls t given nodes after r
nulls_made t given n nodes after (Ok array) is found off checked =
    (is, ap column_type checked.0, found ∙ ap (λ a. Some (slots a)) (sym checked.0), off)
nulls_made t given n nodes after (Err error) is found off checked =
    absurd (checked.1 (null_sound (type_layer t) (ap is_null (sym (layout_is t) ∙ is)) (layer_plain t)))
  where
    null_sound : (x : Layer) → is_null (layer_layout x) ≡ true → is_extension x ≡ false → is_null_type x ≡ true
    null_sound layer.Null is plain = refl
    null_sound (layer.Interval intervals.YearMonth) is plain = absurd (unlike is)
    null_sound (layer.Interval intervals.DayTime) is plain = absurd (unlike is)
    null_sound (layer.Interval intervals.MonthDayNano) is plain = absurd (unlike is)
    null_sound (layer.Extension name inner metadata) is plain = absurd (true≢false plain)
    null_sound x is plain = absurd (unlike is)

-- ---- byte strings of one size

abbrev pub is_fixed : PhysicalType → Bool
is_fixed physical.FixedSizeBinary = true
is_fixed _ = false

record FixedLayer (x : Layer) : Type 0 where
  reads : (at : Place) → read_layer x at ≡ fixed_bytes_slots (layer_width x) at
  tests : (here : Ids) → test_layer x here ≡ nat_lt 0 (layer_width x)

and_true : (b : Bool) → (b && true) ≡ b
and_true true = refl
and_true false = refl

fixed_layer : (x : Layer) → is_fixed (layer_layout x) ≡ true → is_extension x ≡ false → FixedLayer x
fixed_layer (layer.FixedSizeBinary size) is plain = record { reads = λ at. refl; tests = λ here. and_true (nat_lt 0 size) }
fixed_layer (layer.Interval intervals.YearMonth) is plain = absurd (unlike is)
fixed_layer (layer.Interval intervals.DayTime) is plain = absurd (unlike is)
fixed_layer (layer.Interval intervals.MonthDayNano) is plain = absurd (unlike is)
fixed_layer (layer.Extension name inner metadata) is plain = absurd (true≢false plain)
fixed_layer x is plain = absurd (unlike is)

-- what is made of marks and bytes
abbrev pub fixed_bytes_made : DataType → ℕ → ℕ × Option (List Bool) → List ℕ → Option (List Slot)
fixed_bytes_made t size marks content =
    guard (nat_lt 0 size) >>= (λ _. Some (slots (flat t marks.1 (fixed_bytes size content))))

abbrev pub fixed_bytes_next : DataType → ℕ → List Buffer → ℕ → ℕ × Option (List Bool) → List ℕ → Option (List Slot)
fixed_bytes_next t size later origin marks room =
    next_window later origin (marks.0 * size) room >>= (λ content. fixed_bytes_made t size marks content)

-- ---- as many bytes as are needed

peel : {A B P : Type 0} (r : Option A) (f : A → Option B) (y : B) → (r >>= f) ≡ Some y → ((x : A) → f x ≡ Some y → P) → P
peel None f y e follow = absurd cc
peel (Some x) f y e follow = follow x e

abbrev or_bytes : List ℕ → Option (List ℕ) → List ℕ
or_bytes xs None = xs
or_bytes xs (Some ys) = ys

window_length : (room : List ℕ) (place n : ℕ) (content : List ℕ) → window_at room place n ≡ Some content → length content ≡ n
window_length room place n content e = elim (cases_Bool (nat_le (place + n) (length room))) [
  | inl within ↦
      let found : Some (take n (drop place room)) ≡ Some content =
      sym (ap (λ (test : Bool). if test then Some (take n (drop place room)) else None) within) ∙ e in
      let same : take n (drop place room) ≡ content = ap (or_bytes []) found in
      let enough : place + n ≤ length room = leb-true (place + n) (length room) within in
      ap length (sym same) ∙ length-take-le n (drop place room) (omega (arith, enough, length-drop place room))
  | inr past ↦
      absurd (nothing (sym (ap (λ (test : Bool). if test then Some (take n (drop place room)) else None) past) ∙ e))
]
  where
    nothing : {A : Type 0} {x : A} → None ≡ Some x → ⊥
    nothing e = cc

needed_length : (later : List Buffer) (origin needed : ℕ) (room content : List ℕ) → next_window later origin needed room ≡ Some content
    → length content ≡ needed
unfolding buffer_at
needed_length later origin needed room content e =
    peel (slice_get (map buffer_of later) 0) _ content e (λ buffer e.
    peel (natural buffer.offset) _ content e (λ offset e.
    peel (natural buffer.length) _ content e (λ stated e.
    peel (guard (nat_le needed stated)) _ content e (λ test e.
    window_length room (origin + offset) needed content e))))

-- ---- the slots

element_is : (size : ℕ) (content : List ℕ) (i : ℕ) → element_bytes size content i ≡ slice_range content (size * i) (size * i + size)
element_is size content i = ap (λ (k : ℕ). take k (drop (size * i) content)) (omega arith)

fixed_slots_are : (t : DataType) (size : ℕ) (found : Marked) (content : List ℕ) → 0 < size → length content ≡ found.taken * size
    → slots_by found.validity (λ i. bytes (element_bytes size content i)) found.taken
    ≡ slots (flat t (mask_of found.validity found.taken) (fixed_bytes size content))
fixed_slots_are t size found content some counted =
    column_made t found.validity found.taken (λ i. bytes (element_bytes size content i)) (fixed_bytes size content)
    (ap (λ k. k / size) (counted ∙ mul_comm found.taken size) ∙ mul-div_cancel_left found.taken {n = size} (omega (arith, some)))
    (λ i below. ap bytes (element_is size content i))

made_fixed : (t : DataType) (size : ℕ) (found : Marked) (content : List ℕ) → length content ≡ found.taken * size
    → (guard (nat_lt 0 size) >>= (λ _. Some (slots_by found.validity (λ i. bytes (element_bytes size content i)) found.taken)))
    ≡ fixed_bytes_made t size (marks_of found) content
made_fixed t size found content counted = elim (cases_Bool (nat_lt 0 size)) [
  | inl some ↦ ap (λ (xs : List Slot). guard (nat_lt 0 size) >>= (λ _. Some xs))
      (fixed_slots_are t size found content (ltb-true 0 size some) counted)
  | inr none ↦ ap (λ test. guard test >>= (λ _. Some (slots_by found.validity (λ i. bytes (element_bytes size content i)) found.taken))) none
      ∙ sym (ap (λ test. guard test >>= (λ _. Some (slots (flat t (marks_of found).1 (fixed_bytes size content))))) none)
]

-- a guard, before or behind what it does not depend on
guard_behind : {A B C : Type 0} (p : Bool) (r : Option A) (next : A → Option B) (made : A → B → C)
    → (guard p >>= (λ _. r >>= (λ x. next x >>= (λ y. Some (made x y))))) ≡ (r >>= (λ x. next x >>= (λ y. guard p >>= (λ _. Some (made x y)))))
guard_behind true r next made = refl
guard_behind false r next made =
    sym (nothing_follows r (λ x. next x >>= (λ y. None)) (λ x. nothing_follows (next x) (λ y. None) (λ y. refl)))

-- the slots of byte strings of one size are made of the marks and the bytes
pub fixed_bytes_given : (t : DataType) (nodes : List FieldNode) (buffers : List Buffer) (little : Bool) (limit : Option ℕ) (origin : ℕ)
    → physical_type t ≡ physical.FixedSizeBinary → (room : List ℕ) → front_array t nodes buffers little limit origin room
    ≡ (next_marked nodes limit buffers origin room >>= (λ marks. fixed_bytes_next t (byte_width t) (drop 1 buffers) origin marks room))
unfolding fixed_slots
fixed_bytes_given t nodes buffers little limit origin is room =
    let size : ℕ = byte_width t in
    let at = front nodes buffers little limit origin room in
    let here = fixed_layer (type_layer t) (ap is_fixed (sym (layout_is t) ∙ is)) (layer_plain t) in
    let test : is_readable t at.ids ≡ nat_lt 0 size = ap (λ (f : Test). f at.ids) (layer_tests t) ∙ here.tests at.ids in
    let read : slots_in t at ≡ fixed_bytes_slots size at = ap (λ r. r at) (layer_reads t) ∙ here.reads at in
    (λ j. guard (test j) >>= (λ _. read j))
    ∙ guard_behind (nat_lt 0 size) (marked_in at) (λ found. buffer_at at.source 1 (found.taken * size))
    (λ found content. slots_by found.validity (λ i. bytes (element_bytes size content i)) found.taken)
    ∙ front_made nodes buffers little limit origin room
    (λ found. buffer_at at.source 1 (found.taken * size)
    >>= (λ content. guard (nat_lt 0 size) >>= (λ _. Some (slots_by found.validity (λ i. bytes (element_bytes size content i)) found.taken))))
    (λ marks. fixed_bytes_next t size (drop 1 buffers) origin marks room) (λ found.
    ap (λ (r : Option (List ℕ)). r
    >>= (λ content. guard (nat_lt 0 size) >>= (λ _. Some (slots_by found.validity (λ i. bytes (element_bytes size content i)) found.taken))))
    (later_window 1 nodes buffers little origin (found.taken * size) room)
    ∙ through_found (next_window (drop 1 buffers) origin (found.taken * size) room) _ (fixed_bytes_made t size (marks_of found))
    (λ content there. made_fixed t size found content (needed_length (drop 1 buffers) origin (found.taken * size) room content there)))

-- ---- more bytes than a buffer states

pub too_many_bytes : (later : List Buffer) (origin needed : ℕ) (room : List ℕ) → 2 ^ 64 ≤ needed → StatesSmall later
    → next_window later origin needed room ≡ None
unfolding buffer_at
too_many_bytes [] origin needed room many small = refl
too_many_bytes (buffer ∷ later) origin needed room many small =
    nothing_follows (natural buffer.offset) _ (λ offset.
    none_found (natural buffer.length) _ (λ stated is.
    ap (λ (test : Bool). guard test >>= (λ _. window_at room (origin + offset) needed))
    (le-leb-false needed stated (omega (arith, many, small stated is)))))
  where
    none_found : {A B : Type 0} (r : Option A) (f : A → Option B) → ((x : A) → r ≡ Some x → f x ≡ None) → (r >>= f) ≡ None
    none_found None f each = refl
    none_found (Some x) f each = each x refl

    not_le : {a b : ℕ} (test : Bool) → (test ≡ true → a ≤ b) → b < a → test ≡ false
    not_le false within less = refl
    not_le true within less = absurd (omega (arith, within refl, less))

    le-leb-false : (a b : ℕ) → b < a → nat_le a b ≡ false
    le-leb-false a b less = not_le (nat_le a b) (λ test. leb-true a b test) less

-- ---- what is answered behind the marks

abbrev given_bytes : DataType → ℕ → List Buffer → ℕ → List ℕ → Option (List ℕ)
given_bytes t origin rest n room = next_window rest origin (n * byte_width t) room

abbrev made_bytes : DataType → Marks → List ℕ → Option (List Slot)
made_bytes t marks content = fixed_bytes_made t (byte_width t) marks content

-- the bytes are refused
pub bytes_refused : {A : Type 0} (is_compressed : Bool) (old mid new : Told) (t : DataType) (nodes : List FieldNode) (limit : Option ℕ)
    (buffers later : List Buffer) (little : Bool) (origin : ℕ) (marks : Marks) (needed : ℕ) (view : A → List Slot) (error : Error)
    → physical_type t ≡ physical.FixedSizeBinary → needed ≡ marks.0 * byte_width t
    → ReadsAs is_compressed old mid (λ (found : Marks). found) (next_marked nodes limit buffers origin) (Ok marks) → later ≡ drop 1 buffers
    → ReadsAs is_compressed mid new (λ (bytes : List ℕ). bytes) (next_window later origin needed) (Err error)
    → ReadsAs is_compressed old new view (front_array t nodes buffers little limit origin) (Err error)
bytes_refused is_compressed old mid new t nodes limit buffers later little origin marks needed view error kind counted before rest refused =
    values_refused is_compressed old mid new (λ (found : Marks). found) nodes limit buffers later origin marks (λ (bytes : List ℕ). bytes)
    (given_bytes t origin) (made_bytes t) view (front_array t nodes buffers little limit origin) error
    (fixed_bytes_given t nodes buffers little limit origin kind) (before, rest)
    (subst (λ n. ReadsAs is_compressed mid new (λ (bytes : List ℕ). bytes) (next_window later origin n) (Err error)) counted refused)

-- nothing is made of what the next buffer has
none_made : (is_compressed : Bool) (old mid : Told) (t : DataType) (nodes : List FieldNode) (limit : Option ℕ) (buffers later : List Buffer)
    (little : Bool) (origin : ℕ) (marks : Marks) (needed : ℕ) → physical_type t ≡ physical.FixedSizeBinary → needed ≡ marks.0 * byte_width t
    → ReadsAs is_compressed old mid (λ (found : Marks). found) (next_marked nodes limit buffers origin) (Ok marks) → later ≡ drop 1 buffers
    → ForBytes mid (λ room. (next_window later origin needed room >>= (λ bytes. made_bytes t marks bytes)) ≡ None)
    → ForBytes old (λ room. front_array t nodes buffers little limit origin room ≡ None)
none_made is_compressed old mid t nodes limit buffers later little origin marks needed kind counted before rest none room told =
    fixed_bytes_given t nodes buffers little limit origin kind room
    ∙ ap (λ (found : Option Marks). found >>= (λ m. given_bytes t origin (drop 1 buffers) m.0 room >>= (λ bytes. made_bytes t m bytes)))
    (before.2 room told)
    ∙ ap (λ (rest : List Buffer). given_bytes t origin rest marks.0 room >>= (λ bytes. made_bytes t marks bytes)) (sym rest)
    ∙ ap (λ n. next_window later origin n room >>= (λ bytes. made_bytes t marks bytes)) (sym counted) ∙ none room (before.1.0 ∙ told)

-- the buffer has fewer bytes than are counted in 64 bits
pub bytes_past : (is_compressed : Bool) (old mid : Told) (t : DataType) (nodes : List FieldNode) (limit : Option ℕ) (buffers later : List Buffer)
    (little : Bool) (origin : ℕ) (marks : Marks) (needed : ℕ) → physical_type t ≡ physical.FixedSizeBinary → needed ≡ marks.0 * byte_width t
    → IsNeeded needed later None
    → ReadsAs is_compressed old mid (λ (found : Marks). found) (next_marked nodes limit buffers origin) (Ok marks) → later ≡ drop 1 buffers
    → (is_compressed ≡ false) × ForBytes old (λ room. front_array t nodes buffers little limit origin room ≡ None)
bytes_past is_compressed old mid t nodes limit buffers later little origin marks needed kind counted past before rest = (
  before.0,
  none_made is_compressed old mid t nodes limit buffers later little origin marks needed kind counted before rest (λ room told.
      ap (λ (found : Option (List ℕ)). found >>= (λ bytes. made_bytes t marks bytes)) (too_many_bytes later origin needed room past.0 past.1)),
)

mask_is : (n : ℕ) (mask : Option (List Bool)) → IsMaskOf n mask → mask_fits mask n ≡ true
mask_is n None is = refl
mask_is n (Some marks) is = eq-eqb (length marks) n (is marks refl)

-- whole strings of a size
strings_sound : (t : DataType) (n : ℕ) (mask : Option (List Bool)) (content : List ℕ) → 0 < byte_width t → length content ≡ n * byte_width t
    → IsMaskOf n mask → list_all is_byte content ≡ true → is_sound (flat t mask (fixed_bytes (byte_width t) content)) ≡ true
strings_sound t n mask content some counted masked each =
    let size : ℕ = byte_width t in
    let count : length content / size ≡ n =
    ap (λ k. k / size) (counted ∙ mul_comm n size) ∙ mul-div_cancel_left n {n = size} (omega (arith, some)) in
    fixed_sound t size content mask refl some (ap (λ k. size * k) count ∙ mul_comm size n ∙ sym counted) each
    (ap (mask_fits mask) count ∙ mask_is n mask masked)

-- an array is made of what was read, or refused
pub strings_made : (is_compressed : Bool) (old mid new : Told) (t : DataType) (nodes nodes1 : List FieldNode) (limit : Option ℕ)
    (buffers later last : List Buffer) (little : Bool) (origin : ℕ) (marks : Marks) (needed : ℕ) (content : List ℕ) (r : Result Column Error)
    → physical_type t ≡ physical.FixedSizeBinary → needed ≡ marks.0 * byte_width t → IsMaskOf marks.0 marks.1 → length content ≡ needed
    → list_all is_byte content ≡ true
    → ReadsAs is_compressed old mid (λ (found : Marks). found) (next_marked nodes limit buffers origin) (Ok marks)
    → (1 ≤ length nodes) × (nodes1 ≡ drop 1 nodes) → (1 ≤ length buffers) × (later ≡ drop 1 buffers)
    → ReadsAs is_compressed mid new (λ (bytes : List ℕ). bytes) (next_window later origin needed) (Ok content)
    → (1 ≤ length later) × (last ≡ drop 1 later) → IsChecked (flat t marks.1 (fixed_bytes (byte_width t) content)) r
    → ReadsColumn (physical_type t ≡ physical.FixedSizeBinary) is_compressed old new (λ (array : Column). array) t
    (front_array t nodes buffers little limit origin) 1 2 nodes nodes1 buffers last r
strings_made is_compressed old mid new t nodes nodes1 limit buffers later last little origin marks needed content (Ok array) kind counted masked sized
    each before off_nodes off_first read off_next checked =
    let size : ℕ = byte_width t in
    let some : 0 < size = (fixed_parts t size content marks.1 checked.1).0 in
    let made : made_bytes t marks content ≡ Some (slots array) =
    ap (λ b. guard b >>= (λ _. Some (slots (flat t marks.1 (fixed_bytes size content))))) (lt-ltb 0 size some)
    ∙ ap (λ a. Some (slots a)) (sym checked.0) in (
      kind,
      ap column_type checked.0,
      values_behind is_compressed old mid new (λ (found : Marks). found) nodes limit buffers later origin marks (λ (bytes : List ℕ). bytes)
          (given_bytes t origin) (made_bytes t) content slots (front_array t nodes buffers little limit origin) array
          (fixed_bytes_given t nodes buffers little limit origin kind) (before, off_first.1)
          (subst (λ n. ReadsAs is_compressed mid new (λ (bytes : List ℕ). bytes) (next_window later origin n) (Ok content)) counted read) made,
      off_nodes,
      takes_behind 1 1 2 buffers later last refl off_first off_next,
    )
strings_made is_compressed old mid new t nodes nodes1 limit buffers later last little origin marks needed content (Err error) kind counted masked
    sized each before off_nodes off_first read off_next checked =
    let size : ℕ = byte_width t in
    let none : made_bytes t marks content ≡ None = elim (cases_Bool (nat_lt 0 size)) [
      | inl some ↦ absurd (checked.1 (strings_sound t marks.0 marks.1 content (ltb-true 0 size some) (sized ∙ counted) masked each))
      | inr small ↦ ap (λ b. guard b >>= (λ _. Some (slots (flat t marks.1 (fixed_bytes size content))))) small
    ] in
    let whole : ForBytes old (λ room. front_array t nodes buffers little limit origin room ≡ None) =
    none_made is_compressed old mid t nodes limit buffers later little origin marks needed kind counted before off_first.1 (λ room told.
    ap (λ (found : Option (List ℕ)). found >>= (λ bytes. made_bytes t marks bytes)) (read.2 room told) ∙ none) in
    inl (
      kind,
      out_of_spec old new (ForBytes old (λ room. front_array t nodes buffers little limit origin room ≡ None)) is_compressed error checked.0 before.0
          whole,
      (1, off_nodes.1),
      (2, (takes_behind 1 1 2 buffers later last refl off_first off_next).1),
    )
