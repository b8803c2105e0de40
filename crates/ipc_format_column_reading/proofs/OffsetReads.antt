-- Offsets, by the numbers that are read.
use Rattle.std.proofs.Common.{◌≡◌, ◌∙◌, ◌+◌, ◌*◌, ◌<◌, ◌≤◌, ℕ, ℤ, pos, negsuc, List, [], ◌∷◌, Bool, true, false, length, map, drop}
use Rattle.std.proofs.Common.{refl, sym, ap, arith}
use Rattle.std.specs.Prelude.{Option, Some, None, Result, Ok, Err, IfOk, MatchResult, ◌⊎◌, ◌&&◌, ◌==◌, nat_le, nat_lt, if◌then◌else◌}
use Rattle.std.specs.Int.{byte_len}
use Rattle.std.proofs.lemmas.Bool.{and_parts, cases_Bool, le-leb}
use Rattle.std.proofs.lemmas.Bool.Decides.{nat_tests}
use mathlib.Core.Logic.{inl, inr}
use Rattle.ipc_format_column_bytes.specs.streams.columnar_memory.Error.{IsOutOfMemory}
use Rattle.ipc_format_column_bytes.specs.streams.columnar_memory.Growth.{IsChecked}
use Rattle.ipc_format_column_bytes.specs.streams.columnar_memory.declared.Error.{Error}
use Rattle.ipc_format_column_bytes.specs.streams.columnar_memory.Numbers.{Numbers, first_number, one, kind_size, numbers_in}
use Rattle.ipc_format_column_bytes.specs.streams.columnar_memory.Spans.{Spans, AreOffsets, IsWhole, NeverFalls, ends_from, offsets_of, no_spans}
use Rattle.ipc_format_column_bytes.specs.streams.columnar_memory.Windows.{window}
use Rattle.ipc_format_column_bytes.specs.streams.columnar_memory.declared.PrimitiveType.{PrimitiveType}
use Rattle.ipc_format_column_bytes.specs.streams.columnar_memory.declared.PrimitiveType.TheVariants as kinds
use Rattle.ipc_format_column_bytes.specs.streams.flatbuffers.Reading.{◌>>=◌, guard}
use Rattle.ipc_format_column_bytes.specs.streams.grammar.Columns.{buffer_at, offsets_in, rising}
use Rattle.ipc_format_column_bytes.specs.streams.grammar.Messages.{natural}
use Rattle.ipc_format_column_bytes.specs.streams.grammar.Values.{element_bytes, signed_of}
use Rattle.ipc_format_column_bytes.specs.streams.messages.declared.values.Buffer.{Buffer}
use Rattle.ipc_format_column_bytes.proofs.streams_lemmas.columnar_memory_lemmas.bits_lemmas.Windows.{map_window}
use Rattle.ipc_format_column_bytes.proofs.streams_lemmas.columnar_memory_lemmas.buffer_lemmas.Runs.{length-AreOffsets}
use Rattle.ipc_format_column_reading.specs.Buffers.{next_values, values_in, source_of}
use Rattle.ipc_format_column_reading.specs.Reads.{is_below, next_offsets, offset_width, states_less}
use Rattle.ipc_format_column_reading.specs.Queues.{TakesOff}
use Rattle.ipc_format_column_reading.specs.Rooms.{Told, ForBytes, ReadsAs}
use Rattle.ipc_format_column_reading.proofs.Readings.{made_none, out_of_memory, out_of_spec, reads_made, through}

-- the kind of offsets
abbrev pub offset_kind : Bool → PrimitiveType
offset_kind is_large = if is_large then kinds.Int64 else kinds.Int32

pub offset_size : (is_large : Bool) → kind_size (offset_kind is_large) ≡ byte_len (offset_width is_large)
offset_size true = refl
offset_size false = refl

-- ---- no slot, and a buffer that is shorter than one offset

short_by : (stated : Option ℕ) (taken size : ℕ) (numbers : Option (List ℕ)) → taken ≡ 0 → is_below stated size ≡ true
    → (stated >>= (λ n. if (taken == 0) && nat_lt n size then Some (0 ∷ []) else numbers)) ≡ Some (0 ∷ [])
short_by None taken size numbers none short = absurd cc
short_by (Some n) taken size numbers none short =
    ap (λ (k : ℕ). if (k == 0) && nat_lt n size then Some (0 ∷ []) else numbers) none
    ∙ ap (λ (test : Bool). if test then Some (0 ∷ []) else numbers) short

pub short_offsets : (is_large little : Bool) (buffers : List Buffer) (taken origin size : ℕ) (room : List ℕ)
    → size ≡ byte_len (offset_width is_large) → taken ≡ 0 → states_less buffers size ≡ true
    → next_offsets is_large little buffers taken origin room ≡ Some (0 ∷ [])
unfolding offsets_in
short_offsets is_large little [] taken origin size room sized none short = absurd cc
short_offsets is_large little (b ∷ bs) taken origin size room sized none short =
    short_by (natural b.length) taken (byte_len (offset_width is_large)) _ none
    (ap (is_below (natural b.length)) (sym sized) ∙ short)

-- ---- offsets that are looked at

signed_window : (is_large little : Bool) (bytes : List ℕ) (n : ℕ)
    → window (λ i. signed_of little (offset_width is_large) (element_bytes (byte_len (offset_width is_large)) bytes i)) 0 n
    ≡ map first_number (values_in (offset_kind is_large) little n bytes)
signed_window true true bytes n = sym (map_window first_number (λ i. numbers_in kinds.Int64 true (element_bytes 8 bytes i)) 0 n)
signed_window true false bytes n = sym (map_window first_number (λ i. numbers_in kinds.Int64 false (element_bytes 8 bytes i)) 0 n)
signed_window false true bytes n = sym (map_window first_number (λ i. numbers_in kinds.Int32 true (element_bytes 4 bytes i)) 0 n)
signed_window false false bytes n = sym (map_window first_number (λ i. numbers_in kinds.Int32 false (element_bytes 4 bytes i)) 0 n)

-- the numbers, and the offsets that they are
abbrev pub offsets_made : List Numbers → Option (List ℕ)
offsets_made numbers = rising 0 (map first_number numbers)

rising_given : (is_large little : Bool) (n size : ℕ) (given : ℕ → Option (List ℕ)) → size ≡ byte_len (offset_width is_large)
    → (given (n * byte_len (offset_width is_large)) >>= (λ bytes. rising 0
    (window (λ i. signed_of little (offset_width is_large) (element_bytes (byte_len (offset_width is_large)) bytes i)) 0 n)))
    ≡ ((given (n * size) >>= (λ bytes. Some (values_in (offset_kind is_large) little n bytes))) >>= offsets_made)
rising_given is_large little n size given sized =
    through (given (n * byte_len (offset_width is_large))) (values_in (offset_kind is_large) little n)
    (λ bytes. rising 0 (window (λ i. signed_of little (offset_width is_large) (element_bytes (byte_len (offset_width is_large)) bytes i)) 0 n))
    offsets_made (λ bytes. ap (rising 0) (signed_window is_large little bytes n))
    ∙ ap (λ (k : ℕ). (given (n * k) >>= (λ bytes. Some (values_in (offset_kind is_large) little n bytes))) >>= offsets_made) (sym sized)

looked_at : (is_large little : Bool) (offset length : ℤ) (bs : List Buffer) (taken origin size : ℕ) (room : List ℕ)
    → size ≡ byte_len (offset_width is_large) → ((taken == 0) && is_below (natural length) size) ≡ false
    → next_offsets is_large little (record { offset = offset; length = length } ∷ bs) taken origin room
    ≡ (next_values (offset_kind is_large) little (record { offset = offset; length = length } ∷ bs) origin (taken + 1) room >>= offsets_made)
unfolding offsets_in buffer_at
looked_at is_large little (pos m) (negsuc n) bs taken origin size room sized looked = refl
looked_at is_large little (negsuc m) (negsuc n) bs taken origin size room sized looked = refl
looked_at is_large little offset (pos n) bs taken origin size room sized looked =
    let w = offset_width is_large in
    let source = source_of [] (record { offset = offset; length = pos n } ∷ bs) little room origin in
    let numbers : Option (List ℕ) = buffer_at source 0 ((taken + 1) * byte_len w)
    >>= (λ bytes. rising 0 (window (λ i. signed_of little w (element_bytes (byte_len w) bytes i)) 0 (taken + 1))) in
    ap (λ (k : ℕ). if (taken == 0) && nat_lt n k then Some (0 ∷ []) else numbers) (sym sized)
    ∙ ap (λ (test : Bool). if test then Some (0 ∷ []) else numbers) looked
    ∙ rising_given is_large little (taken + 1) (kind_size (offset_kind is_large)) (λ needed. buffer_at source 0 needed) (offset_size is_large)

-- the offsets are those that the numbers of the next buffer are
pub offsets_given : (is_large little : Bool) (buffers : List Buffer) (taken origin size : ℕ) (room : List ℕ)
    → size ≡ byte_len (offset_width is_large) → ((taken == 0) && states_less buffers size) ≡ false
    → next_offsets is_large little buffers taken origin room
    ≡ (next_values (offset_kind is_large) little buffers origin (taken + 1) room >>= offsets_made)
unfolding offsets_in buffer_at
offsets_given is_large little [] taken origin size room sized looked = refl
offsets_given is_large little (b ∷ bs) taken origin size room sized looked =
    looked_at is_large little b.offset b.length bs taken origin size room sized looked

-- ---- offsets as spans

first_numbers : {T : Type 0} (numbers : T → Numbers) (value : T → ℤ) → ((x : T) → numbers x ≡ one (value x)) → (xs : List T)
    → map first_number (map numbers xs) ≡ map value xs
first_numbers numbers value law [] = refl
first_numbers numbers value law (x ∷ xs) = λ j. first_number (law x j) ∷ first_numbers numbers value law xs j

rising_up : (least first : ℕ) (ls : List ℕ) → least ≤ first
    → rising least (map pos (first ∷ ends_from first ls)) ≡ Some (first ∷ ends_from first ls)
rising_up least first [] enough =
    ap (λ (test : Bool). guard test >>= (λ _. Some (first ∷ []))) (le-leb least first enough)
rising_up least first (l ∷ ls) enough =
    let later = rising_up first (first + l) ls (omega arith) in
    ap (λ (test : Bool). guard test >>= (λ _. rising first (map pos (ends_from first (l ∷ ls))) >>= (λ offsets. Some (first ∷ offsets))))
    (le-leb least first enough)
    ∙ ap (λ (found : Option (List ℕ)). found >>= (λ offsets. Some (first ∷ offsets))) later

pub spans_made : {T : Type 0} (numbers : T → Numbers) (value : T → ℤ) → ((x : T) → numbers x ≡ one (value x)) → (xs : List T) (s : Spans)
    → AreOffsets value xs s → offsets_made (map numbers xs) ≡ Some (offsets_of s)
spans_made numbers value law xs s are =
    ap (rising 0) (first_numbers numbers value law xs ∙ are) ∙ rising_up 0 s.start s.lengths (omega arith)

rising_step : {T : Type 0} (value : T → ℤ) (least : ℕ) (x : T) (xs : List T) (z : ℤ) → value x ≡ z
    → ((n : ℕ) → (rising n (map value xs) ≡ None) ⊎ NeverFalls value n xs)
    → (rising least (map value (x ∷ xs)) ≡ None) ⊎ NeverFalls value least (x ∷ xs)
rising_step value least x xs (negsuc n) is later =
    inl (ap (λ (z : ℤ). natural z >>= (λ offset. guard (nat_le least offset)
    >>= (λ _. rising offset (map value xs) >>= (λ others. Some (offset ∷ others))))) is)
rising_step value least x xs (pos n) is later =
    let first : rising least (map value (x ∷ xs)) ≡ (guard (nat_le least n)
    >>= (λ _. rising n (map value xs) >>= (λ others. Some (n ∷ others)))) =
    ap (λ (z : ℤ). natural z >>= (λ offset. guard (nat_le least offset)
    >>= (λ _. rising offset (map value xs) >>= (λ others. Some (offset ∷ others))))) is in
    elim (cases_Bool (nat_le least n)) [
      | inl rises ↦ elim (later n) [
        | inl none ↦ inl (first ∙ ap (λ (test : Bool). guard test
            >>= (λ _. rising n (map value xs) >>= (λ others. Some (n ∷ others)))) rises
            ∙ ap (λ (found : Option (List ℕ)). found >>= (λ others. Some (n ∷ others))) none)
        | inr never ↦ inr (n, is, leb-le least n rises, never)
      ]
      | inr falls ↦ inl (first ∙ ap (λ (test : Bool). guard test
          >>= (λ _. rising n (map value xs) >>= (λ others. Some (n ∷ others)))) falls)
    ]
  where
    leb-le : (n m : ℕ) → nat_le n m ≡ true → n ≤ m
    leb-le n m h = grind (arith, nat_tests)

rising_or : {T : Type 0} (value : T → ℤ) (xs : List T) (least : ℕ) → (rising least (map value xs) ≡ None) ⊎ NeverFalls value least xs
rising_or value [] least = inr tt
rising_or value (x ∷ xs) least = rising_step value least x xs (value x) refl (rising_or value xs)

-- numbers that are no offsets
pub no_spans_made : {T : Type 0} (numbers : T → Numbers) (value : T → ℤ) → ((x : T) → numbers x ≡ one (value x)) → (xs : List T)
    → 0 < length xs → ¬ IsWhole value xs → offsets_made (map numbers xs) ≡ None
no_spans_made numbers value law xs some broken =
    elim (rising_or value xs 0) [
      | inl none ↦ ap (rising 0) (first_numbers numbers value law xs) ∙ none
      | inr never ↦ absurd (broken (some, never))
    ]

-- ---- what the call answers

pub offsets_whole : (is_large little : Bool) (kind : PrimitiveType) (buffers : List Buffer) (taken origin size : ℕ) → size ≡ kind_size kind
    → kind ≡ offset_kind is_large → ((taken == 0) && states_less buffers size) ≡ false → (room : List ℕ)
    → next_offsets is_large little buffers taken origin room ≡ (next_values kind little buffers origin (taken + 1) room >>= offsets_made)
offsets_whole is_large little kind buffers taken origin size sized is looked room =
    offsets_given is_large little buffers taken origin size room (sized ∙ ap kind_size is ∙ offset_size is_large) looked
    ∙ ap (λ (k : PrimitiveType). next_values k little buffers origin (taken + 1) room >>= offsets_made) (sym is)

pub offsets_read : {T : Type 0} (numbers : T → Numbers) (value : T → ℤ) → ((x : T) → numbers x ≡ one (value x)) → (is_compressed : Bool)
    (old new : Told) (given : List ℕ → Option (List Numbers)) (whole : List ℕ → Option (List ℕ)) (xs : List T) (taken : ℕ)
    (r : Result Spans Error) → ((room : List ℕ) → whole room ≡ (given room >>= offsets_made)) → length xs ≡ taken + 1
    → ReadsAs is_compressed old new (map numbers) given (Ok xs) → IsChecked value xs r → ReadsAs is_compressed old new offsets_of whole r
offsets_read numbers value law is_compressed old new given whole xs taken (Ok s) is counted before checked =
    reads_made is_compressed old new (map numbers) given xs offsets_of (λ found room. offsets_made found) whole s is before
    (λ room. spans_made numbers value law xs s checked)
offsets_read numbers value law is_compressed old new given whole xs taken (Err error) is counted before checked =
    let some : 0 < length xs = omega arith in
    out_of_spec old new (ForBytes old (λ room. whole room ≡ None)) is_compressed error checked.0 before.0
    (made_none is_compressed old new (map numbers) given xs (λ found room. offsets_made found) whole is before
    (λ room. no_spans_made numbers value law xs some checked.1))

pub offsets_sized : {T : Type 0} (value : T → ℤ) (xs : List T) (taken : ℕ) (r : Result Spans Error) → length xs ≡ taken + 1
    → IsChecked value xs r → IfOk r (λ offsets. length offsets.lengths ≡ taken)
offsets_sized value xs taken (Ok s) counted checked = omega (arith, length-AreOffsets value xs s checked)
offsets_sized value xs taken (Err error) counted checked = tt

pub short_read : (is_compressed : Bool) (told : Told) (whole : List ℕ → Option (List ℕ)) (r : Result Spans Error) → is_compressed ≡ false
    → ((room : List ℕ) → whole room ≡ Some (0 ∷ [])) → MatchResult r (λ offsets. offsets ≡ no_spans) IsOutOfMemory
    → ReadsAs is_compressed told told offsets_of whole r
short_read is_compressed told whole (Ok s) plain is made =
    (plain, (refl, refl), λ room all. is room ∙ ap (λ (offsets : Spans). Some (offsets_of offsets)) (sym made))
short_read is_compressed told whole (Err error) plain is made =
    out_of_memory told told (ForBytes told (λ room. whole room ≡ None)) is_compressed error made plain

-- a buffer that is there comes off
pub short_taken : {X : Type 0} (buffers after : List Buffer) (taken size : ℕ) (r : Result X Error)
    → ((taken == 0) && states_less buffers size) ≡ true → after ≡ drop 1 buffers → TakesOff 1 buffers after r
short_taken [] after taken size r short off = absurd (unlike (taken == 0) short)
  where
    unlike : (b : Bool) → (b && false) ≡ true → ⊥
    unlike true h = cc
    unlike false h = cc
short_taken (b ∷ bs) after taken size (Ok x) short off =
    let some : 1 ≤ length (b ∷ bs) = omega arith in
    (some, off)
short_taken (b ∷ bs) after taken size (Err error) short off = (1, off)

both_parts : (a b : Bool) → (a && b) ≡ true → (a ≡ true) × (b ≡ true)
both_parts a b h = and_parts a b h

-- no slots, and a short buffer
pub short_whole : (is_large little : Bool) (kind : PrimitiveType) (buffers : List Buffer) (taken origin size : ℕ) → size ≡ kind_size kind
    → kind ≡ offset_kind is_large → ((taken == 0) && states_less buffers size) ≡ true → (room : List ℕ)
    → next_offsets is_large little buffers taken origin room ≡ Some (0 ∷ [])
short_whole is_large little kind buffers taken origin size sized is short room =
    let parts = both_parts (taken == 0) (states_less buffers size) short in
    short_offsets is_large little buffers taken origin size room (sized ∙ ap kind_size is ∙ offset_size is_large) (eqb-eq taken parts.0) parts.1
  where
    eqb-eq : (n : ℕ) → (n == 0) ≡ true → n ≡ 0
    eqb-eq n h = grind (arith, nat_tests)
