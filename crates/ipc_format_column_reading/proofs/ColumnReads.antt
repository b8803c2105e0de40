-- What the readers of columns without children answer, by what they read one after another.
use Rattle.std.proofs.Common.{◌≡◌, ◌∙◌, ◌+◌, ◌-◌, ◌≤◌, ℕ, List, [], ◌∷◌, Bool, length, drop, sum, refl, sym, ap, subst, arith, length-drop}
use Rattle.std.specs.Prelude.{Option, Some, Result, Ok, Err, ℤ, pos}
use Rattle.std.proofs.lemmas.List.{drop-drop}
use Rattle.ipc_format_column_bytes.specs.streams.columnar_memory.Spans as spans
use Rattle.ipc_format_column_bytes.specs.streams.columnar_memory.Spans.{Spans, ends_from, number_of, offsets_of}
use Rattle.ipc_format_column_bytes.specs.streams.columnar_memory.declared.Error.{Error}
use Rattle.ipc_format_column_bytes.specs.streams.columns.Slots.{Slot}
use Rattle.ipc_format_column_bytes.specs.streams.flatbuffers.Reading.{◌>>=◌}
use Rattle.ipc_format_column_bytes.specs.streams.grammar.Columns.{last_of}
use Rattle.ipc_format_column_bytes.specs.streams.messages.declared.values.Buffer.{Buffer}
use Rattle.ipc_format_column_bytes.specs.streams.messages.declared.values.FieldNode.{FieldNode}
use Rattle.ipc_format_column_bytes.proofs.streams_lemmas.columnar_memory_lemmas.buffer_lemmas.Runs.{sum-cons}
use Rattle.ipc_format_column_reading.specs.Buffers.{next_window}
use Rattle.ipc_format_column_reading.specs.Reads.{Strings, strings_of, next_marked, next_offsets, next_strings}
use Rattle.ipc_format_column_reading.specs.Rooms.{Told, ReadsAs}
use Rattle.ipc_format_column_reading.proofs.Readings.{reads_behind, reads_made, reads_refused}

abbrev pub Marks : Type 0
Marks = ℕ × Option (List Bool)

-- ---- two reads one after another, the second from the buffers that the first leaves

-- what comes off behind what came off
pub takes_behind : {A : Type 0} (n m k : ℕ) (xs ys zs : List A) → k ≡ n + m → (n ≤ length xs) × (ys ≡ drop n xs)
    → (m ≤ length ys) × (zs ≡ drop m ys) → (k ≤ length xs) × (zs ≡ drop k xs)
takes_behind n m k xs ys zs is first later =
    let left : length ys ≡ length xs - n = ap length first.1 ∙ length-drop n xs in
    let enough : k ≤ length xs = omega (arith, first.0, later.0) in
    (enough, later.1 ∙ ap (drop m) first.1 ∙ drop-drop m n xs ∙ ap (λ (j : ℕ). drop j xs) (sym is))

-- ---- columns of values of one size: the marks, and the values behind them

-- what is read behind the marks
abbrev pub ReadsBehind : {A : Type 0} → Bool → Told → Told → (A → Marks) → List FieldNode → Option ℕ → List Buffer → ℕ → A → List Buffer
    → Type 0
ReadsBehind is_compressed old mid marks nodes limit buffers origin found later =
    ReadsAs is_compressed old mid marks (next_marked nodes limit buffers origin) (Ok found) × (later ≡ drop 1 buffers)

-- the slots that are made of the marks and of what is read behind them
pub values_behind : {A B V W : Type 0} (is_compressed : Bool) (old mid new : Told) (marks : A → Marks) (nodes : List FieldNode)
    (limit : Option ℕ) (buffers later : List Buffer) (origin : ℕ) (found : A) (values : V → W)
    (given : List Buffer → ℕ → List ℕ → Option W) (made : Marks → W → Option (List Slot)) (value : V) (view : B → List Slot)
    (whole : List ℕ → Option (List Slot)) (array : B)
    → ((room : List ℕ) → whole room ≡ (next_marked nodes limit buffers origin room
    >>= (λ m. given (drop 1 buffers) m.0 room >>= (λ read. made m read))))
    → ReadsBehind is_compressed old mid marks nodes limit buffers origin found later
    → ReadsAs is_compressed mid new values (given later (marks found).0) (Ok value)
    → made (marks found) (values value) ≡ Some (view array) → ReadsAs is_compressed old new view whole (Ok array)
values_behind is_compressed old mid new marks nodes limit buffers later origin found values given made value view whole array is before read is_made =
    reads_behind is_compressed old mid new marks (next_marked nodes limit buffers origin) found view
    (λ m room. given (drop 1 buffers) m.0 room >>= (λ read. made m read)) whole (Ok array) is before.0
    (reads_made is_compressed mid new values (given later (marks found).0) value view (λ read room. made (marks found) read)
    (λ room. given (drop 1 buffers) (marks found).0 room >>= (λ read. made (marks found) read)) array
    (λ room. ap (λ (rest : List Buffer). given rest (marks found).0 room >>= (λ read. made (marks found) read)) (sym before.1)) read
    (λ room. is_made))

pub values_refused : {A B V W : Type 0} (is_compressed : Bool) (old mid new : Told) (marks : A → Marks) (nodes : List FieldNode)
    (limit : Option ℕ) (buffers later : List Buffer) (origin : ℕ) (found : A) (values : V → W)
    (given : List Buffer → ℕ → List ℕ → Option W) (made : Marks → W → Option (List Slot)) (view : B → List Slot)
    (whole : List ℕ → Option (List Slot)) (error : Error)
    → ((room : List ℕ) → whole room ≡ (next_marked nodes limit buffers origin room
    >>= (λ m. given (drop 1 buffers) m.0 room >>= (λ read. made m read))))
    → ReadsBehind is_compressed old mid marks nodes limit buffers origin found later
    → ReadsAs is_compressed mid new values (given later (marks found).0) (Err error) → ReadsAs is_compressed old new view whole (Err error)
values_refused is_compressed old mid new marks nodes limit buffers later origin found values given made view whole error is before refused =
    reads_behind is_compressed old mid new marks (next_marked nodes limit buffers origin) found view
    (λ m room. given (drop 1 buffers) m.0 room >>= (λ read. made m read)) whole (Err error) is before.0
    (reads_refused is_compressed mid new values (given later (marks found).0) view (λ read room. made (marks found) read)
    (λ room. given (drop 1 buffers) (marks found).0 room >>= (λ read. made (marks found) read)) error
    (λ room. ap (λ (rest : List Buffer). given rest (marks found).0 room >>= (λ read. made (marks found) read)) (sym before.1)) refused)

-- ---- strings: the marks, the offsets, and the bytes

last-ends : (before : ℕ) (lengths : List ℕ) → last_of (before ∷ ends_from before lengths) ≡ before + sum lengths
last-ends before [] = omega arith
last-ends before (l ∷ ls) = last-ends (before + l) ls ∙ omega (arith, sum-cons l ls)

-- two numbers of one integer
pub same_number : (z : ℤ) (n m : ℕ) → z ≡ pos n → z ≡ pos m → n ≡ m
same_number z n m first second = ap number_of (sym first ∙ second)

-- where the last span ends is the last offset
pub last_is : (s : Spans) → last_of (offsets_of s) ≡ spans.last_of s
last_is s = last-ends s.start s.lengths

abbrev pub with_bytes : List Buffer → ℕ → Marks → List ℕ → List ℕ → Option Strings
with_bytes later origin marks offsets room =
    next_window later origin (last_of offsets) room >>= (λ bytes. Some (strings_of marks.0 marks.1 offsets bytes))

abbrev pub with_offsets : Bool → Bool → List Buffer → ℕ → Marks → List ℕ → Option Strings
with_offsets is_large little later origin marks room =
    next_offsets is_large little later marks.0 origin room >>= (λ offsets. with_bytes (drop 1 later) origin marks offsets room)

strings_whole : (is_large little : Bool) (nodes : List FieldNode) (limit : Option ℕ) (buffers : List Buffer) (origin : ℕ) (room : List ℕ)
    → next_strings is_large nodes limit buffers little origin room
    ≡ (next_marked nodes limit buffers origin room >>= (λ m. with_offsets is_large little (drop 1 buffers) origin m room))
strings_whole is_large little nodes limit buffers origin room =
    ap (λ (rest : List Buffer). next_marked nodes limit buffers origin room
    >>= (λ m. next_offsets is_large little (drop 1 buffers) m.0 origin room >>= (λ offsets. with_bytes rest origin m offsets room)))
    (sym (drop-drop 1 1 buffers))

-- what is read behind the marks
pub strings_behind : {A B : Type 0} (is_compressed : Bool) (old mid new : Told) (marks : A → Marks) (is_large little : Bool)
    (nodes : List FieldNode) (limit : Option ℕ) (buffers later : List Buffer) (origin : ℕ) (found : A) (view : B → Strings) (r : Result B Error)
    → ReadsBehind is_compressed old mid marks nodes limit buffers origin found later
    → ReadsAs is_compressed mid new view (with_offsets is_large little later origin (marks found)) r
    → ReadsAs is_compressed old new view (next_strings is_large nodes limit buffers little origin) r
strings_behind is_compressed old mid new marks is_large little nodes limit buffers later origin found view r before read =
    reads_behind is_compressed old mid new marks (next_marked nodes limit buffers origin) found view
    (λ m room. with_offsets is_large little (drop 1 buffers) origin m room) (next_strings is_large nodes limit buffers little origin) r
    (strings_whole is_large little nodes limit buffers origin) before.0
    (subst (λ (rest : List Buffer). ReadsAs is_compressed mid new view (with_offsets is_large little rest origin (marks found)) r) before.1 read)

-- what is read behind the offsets
pub bytes_behind : {B : Type 0} (is_compressed : Bool) (old mid new : Told) (is_large little : Bool) (buffers later : List Buffer)
    (origin : ℕ) (marks : Marks) (offsets : Spans) (view : B → Strings) (r : Result B Error)
    → ReadsAs is_compressed old mid offsets_of (next_offsets is_large little buffers marks.0 origin) (Ok offsets) → later ≡ drop 1 buffers
    → ReadsAs is_compressed mid new view (with_bytes later origin marks (offsets_of offsets)) r
    → ReadsAs is_compressed old new view (with_offsets is_large little buffers origin marks) r
bytes_behind is_compressed old mid new is_large little buffers later origin marks offsets view r before is read =
    reads_behind is_compressed old mid new offsets_of (next_offsets is_large little buffers marks.0 origin) offsets view
    (λ found room. with_bytes (drop 1 buffers) origin marks found room) (with_offsets is_large little buffers origin marks) r (λ room. refl) before
    (subst (λ (rest : List Buffer). ReadsAs is_compressed mid new view (with_bytes rest origin marks (offsets_of offsets)) r) is read)
