-- The offsets of the first slots, and the pieces between them.
use Rattle.std.proofs.Common.{◌≡◌, ◌∙◌, ℕ, zero, suc, ◌+◌, ◌*◌, ◌≤◌, ◌<◌, ℤ, Bool, true, false, ◌&&◌, List, [], ◌∷◌, length, take}
use Rattle.std.proofs.Common.{refl, sym, ap, ap₂, subst, arith, add-one, suc-mul, nat_lt, nat_le, ◌==◌, slice_index, slice_range}
use Rattle.std.specs.Prelude.{Some, slice_get, if◌then◌else◌}
use Rattle.std.specs.Int.{Width, byte_len}
use Rattle.std.proofs.Math.Nat.{mul-le-mul_right}
use Rattle.std.proofs.lemmas.Bool.{and_parts, leb-true, le-ltb, eqb-true}
use Rattle.std.proofs.lemmas.List.{length-take-le, take_all}
use Rattle.ipc_format_grammar.specs.flatbuffers.Reading.{◌>>=◌, guard}
use Rattle.ipc_format_grammar.specs.columns.Slots.{window}
use Rattle.ipc_format_grammar.proofs.columns_lemmas.Windows.{length-window}
use Rattle.ipc_format_grammar.specs.Messages.{Buffer, natural}
use Rattle.ipc_format_grammar.specs.Values.{signed_of, element_bytes}
use Rattle.ipc_format_grammar.specs.Columns.{Source, buffer_at, rising, offsets_in, last_of, piece_at}
use Rattle.ipc_format_laws.proofs.Firsts.{came_of, same_value, guarded, index_take, element_take, range_take, first_same}
use Rattle.ipc_format_laws.proofs.FirstBuffers.{buffer_first, buffer_states}

-- ---- offsets that don't fall

record RisingParts (least : ℕ) (zs : List ℤ) (offsets : List ℕ) : Type 0 where
  offset : ℕ
  later : List ℕ
  from_least : least ≤ offset
  rest : rising offset zs ≡ Some later
  whole : offset ∷ later ≡ offsets

rising_parts : (least : ℕ) (z : ℤ) (zs : List ℤ) (offsets : List ℕ) → rising least (z ∷ zs) ≡ Some offsets → RisingParts least zs offsets
rising_parts least z zs offsets e =
    let offset = came_of {A = ℕ} (natural z) _ offsets e in
    let test = came_of {A = Bool} (guard (nat_le least offset.0)) _ offsets offset.2 in
    let later = came_of {A = List ℕ} (rising offset.0 zs) _ offsets test.2 in
    record {
      offset = offset.0;
      later = later.0;
      from_least = leb-true least offset.0 (guarded (nat_le least offset.0) test.0 test.1);
      rest = later.1;
      whole = same_value (offset.0 ∷ later.0) offsets later.2;
    }

rising_count : (least : ℕ) (zs : List ℤ) (offsets : List ℕ) → rising least zs ≡ Some offsets → length offsets ≡ length zs
rising_count least [] offsets e = ap length (sym (same_value [] offsets e))
rising_count least (z ∷ zs) offsets e =
    let parts = rising_parts least z zs offsets e in
    ap length (sym parts.whole) ∙ ap suc (rising_count parts.offset zs parts.later parts.rest)

rising_first : (least n : ℕ) (zs : List ℤ) (offsets : List ℕ) → rising least zs ≡ Some offsets → rising least (take n zs) ≡ Some (take n offsets)
rising_first least zero zs offsets e = refl
rising_first least (suc n) [] offsets e = ap (λ xs. Some (take (suc n) xs)) (same_value [] offsets e)
rising_first least (suc n) (z ∷ zs) offsets e =
    let offset = came_of {A = ℕ} (natural z) _ offsets e in
    let test = came_of {A = Bool} (guard (nat_le least offset.0)) _ offsets offset.2 in
    let later = came_of {A = List ℕ} (rising offset.0 zs) _ offsets test.2 in
    let whole : offset.0 ∷ later.0 ≡ offsets = same_value (offset.0 ∷ later.0) offsets later.2 in
    let is : nat_le least offset.0 ≡ true = guarded (nat_le least offset.0) test.0 test.1 in
    rw (offset.1, is, rising_first offset.0 n zs later.0 later.1) (ap (λ xs. Some (take (suc n) xs)) whole)

from_least : (least : ℕ) (zs : List ℤ) (offsets : List ℕ) (j : ℕ) → rising least zs ≡ Some offsets → j < length offsets
    → least ≤ slice_index offsets j
from_least least [] offsets j e h = let none : length offsets ≡ 0 = rising_count least [] offsets e in absurd (omega arith)
from_least least (z ∷ zs) offsets zero e h =
    let parts = rising_parts least z zs offsets e in
    subst (λ (xs : List ℕ). least ≤ slice_index xs 0) parts.whole parts.from_least
from_least least (z ∷ zs) offsets (suc j) e h =
    let parts = rising_parts least z zs offsets e in
    let size : suc (length parts.later) ≡ length offsets = ap length parts.whole in
    let there : parts.offset ≤ slice_index parts.later j = from_least parts.offset zs parts.later j parts.rest (omega arith) in
    let bound : least ≤ slice_index parts.later j = omega (arith, there, parts.from_least) in
    subst (λ (xs : List ℕ). least ≤ slice_index xs (suc j)) parts.whole bound

rises : (least : ℕ) (zs : List ℤ) (offsets : List ℕ) (i j : ℕ) → rising least zs ≡ Some offsets → i ≤ j → j < length offsets
    → slice_index offsets i ≤ slice_index offsets j
rises least [] offsets i j e h inside = let none : length offsets ≡ 0 = rising_count least [] offsets e in absurd (omega arith)
rises least (z ∷ zs) offsets zero zero e h inside = omega arith
rises least (z ∷ zs) offsets zero (suc j) e h inside =
    let parts = rising_parts least z zs offsets e in
    let size : suc (length parts.later) ≡ length offsets = ap length parts.whole in
    subst (λ (xs : List ℕ). slice_index xs 0 ≤ slice_index xs (suc j)) parts.whole
    (from_least parts.offset zs parts.later j parts.rest (omega arith))
rises least (z ∷ zs) offsets (suc i) zero e h inside = absurd (omega arith)
rises least (z ∷ zs) offsets (suc i) (suc j) e h inside =
    let parts = rising_parts least z zs offsets e in
    let size : suc (length parts.later) ≡ length offsets = ap length parts.whole in
    subst (λ (xs : List ℕ). slice_index xs (suc i) ≤ slice_index xs (suc j)) parts.whole
    (rises parts.offset zs parts.later i j parts.rest (omega arith) (omega arith))

-- ---- offsets of a width

-- the offsets of so many slots, and of the first of them
pub record OffsetsFirst (w : Width) (source : Source) (k many few : ℕ) (offsets : List ℕ) : Type 0 where
  pub is : offsets_in w source k few ≡ Some (take (few + 1) offsets)
  pub count : length offsets ≡ many + 1
  pub rise : (i j : ℕ) → i ≤ j → j ≤ many → slice_index offsets i ≤ slice_index offsets j

and_false : (b : Bool) → (b && false) ≡ false
and_false true = refl
and_false false = refl

enough_for_one : (n size total : ℕ) → (n + 1) * size ≤ total → size ≤ total
enough_for_one n size total h =
    let whole : (n + 1) * size ≡ n * size + size = ap (λ m. m * size) (add-one n) ∙ suc-mul n size in
    omega (arith, whole)

offsets_by : (w : Width) (source : Source) (k many few : ℕ) (offsets : List ℕ) (buffer : Buffer) (stated : ℕ) (test : Bool)
    → slice_get source.buffers k ≡ Some buffer → natural buffer.length ≡ Some stated → ((many == 0) && nat_lt stated (byte_len w)) ≡ test
    → (if test then Some (0 ∷ []) else (buffer_at source k ((many + 1) * byte_len w) >>= (λ numbers. rising 0 (window
    (λ i. signed_of source.is_little_endian w (element_bytes (byte_len w) numbers i)) 0 (many + 1))))) ≡ Some offsets → few ≤ many
    → OffsetsFirst w source k many few offsets
unfolding offsets_in
offsets_by w source k many few offsets buffer stated true there length_is test e h =
    let none : many ≡ 0 = eqb-true many 0 (and_parts (many == 0) (nat_lt stated (byte_len w)) test).0 in
    let same : few ≡ many = omega arith in
    let whole : 0 ∷ [] ≡ offsets = same_value (0 ∷ []) offsets e in
    record {
      is = rw (there, length_is, same, test) (ap Some (whole ∙ sym (take_all (many + 1) offsets (omega (arith, ap length whole)))));
      count = sym (ap length whole) ∙ omega arith;
      rise = λ (i j : ℕ) (le : i ≤ j) (inside : j ≤ many).
          let first : i ≡ j = omega arith in
          omega (arith, ap (slice_index offsets) first);
    }
offsets_by w source k many few offsets buffer stated false there length_is test e h =
    let little : Bool = source.is_little_endian in
    let numbers = came_of {A = List ℕ} (buffer_at source k ((many + 1) * byte_len w)) _ offsets e in
    let value : List ℕ → ℕ → ℤ = λ bytes i. signed_of little w (element_bytes (byte_len w) bytes i) in
    let states : (many + 1) * byte_len w ≤ stated =
    buffer_states source k ((many + 1) * byte_len w) numbers.0 buffer stated numbers.1 there length_is in
    let short : nat_lt stated (byte_len w) ≡ false = le-ltb stated (byte_len w) (enough_for_one many (byte_len w) stated states) in
    let fewer : (few + 1) * byte_len w ≤ (many + 1) * byte_len w = mul-le-mul_right (byte_len w) (omega arith) in
    let part = buffer_first source k ((many + 1) * byte_len w) ((few + 1) * byte_len w) numbers.0 numbers.1 fewer in
    let same : window (value (take ((few + 1) * byte_len w) numbers.0)) 0 (few + 1) ≡ take (few + 1) (window (value numbers.0) 0 (many + 1)) =
    first_same (value numbers.0) (value (take ((few + 1) * byte_len w) numbers.0)) (few + 1) (many + 1) (omega arith)
    (λ (i : ℕ) (inside : i < few + 1). ap (signed_of little w) (element_take (byte_len w) (few + 1) i numbers.0 inside)) in
    let size : length offsets ≡ many + 1 =
    rising_count 0 (window (value numbers.0) 0 (many + 1)) offsets numbers.2 ∙ length-window (value numbers.0) 0 (many + 1) in
    record {
      is = rw (there, length_is, short, and_false (few == 0), part, same)
          (rising_first 0 (few + 1) (window (value numbers.0) 0 (many + 1)) offsets numbers.2);
      count = size;
      rise = λ (i j : ℕ) (le : i ≤ j) (inside : j ≤ many).
          rises 0 (window (value numbers.0) 0 (many + 1)) offsets i j numbers.2 le (omega arith);
    }

pub offsets_first : (w : Width) (source : Source) (k many few : ℕ) (offsets : List ℕ) → offsets_in w source k many ≡ Some offsets → few ≤ many
    → OffsetsFirst w source k many few offsets
unfolding offsets_in
offsets_first w source k many few offsets e h =
    let buffer = came_of {A = Buffer} (slice_get source.buffers k) _ offsets e in
    let stated = came_of {A = ℕ} (natural buffer.0.length) _ offsets buffer.2 in
    offsets_by w source k many few offsets buffer.0 stated.0 ((many == 0) && nat_lt stated.0 (byte_len w)) buffer.1 stated.1 refl stated.2 h

-- ---- pieces

last_is : (xs : List ℕ) (n : ℕ) → length xs ≡ suc n → last_of xs ≡ slice_index xs n
last_is [] n size = absurd (omega arith)
last_is (x ∷ []) zero size = refl
last_is (x ∷ []) (suc n) size = absurd (omega arith)
last_is (x ∷ y ∷ xs) zero size = absurd (omega arith)
last_is (x ∷ y ∷ xs) (suc n) size = last_is (y ∷ xs) n (omega arith)

-- the last of the first offsets
pub last_first : (offsets : List ℕ) (many few : ℕ) → length offsets ≡ many + 1 → few ≤ many
    → last_of (take (few + 1) offsets) ≡ slice_index offsets few
last_first offsets many few count h =
    let size : length (take (few + 1) offsets) ≡ suc few = length-take-le (few + 1) offsets (omega arith) ∙ add-one few in
    last_is (take (few + 1) offsets) few size ∙ index_take (few + 1) offsets few (omega arith)

pub last_fewer : (w : Width) (source : Source) (k many few : ℕ) (offsets : List ℕ) → OffsetsFirst w source k many few offsets → few ≤ many
    → last_of (take (few + 1) offsets) ≤ last_of offsets
last_fewer w source k many few offsets first h =
    let last : last_of offsets ≡ slice_index offsets many = last_is offsets many (first.count ∙ add-one many) in
    omega (arith, last, last_first offsets many few first.count h, first.rise few many h (omega arith))

-- a piece between the first offsets, of the first values
pub piece_first : {A : Type 0} (w : Width) (source : Source) (k many few : ℕ) (offsets : List ℕ) (values : List A)
    → OffsetsFirst w source k many few offsets → few ≤ many → (i : ℕ) → i < few
    → piece_at (take (few + 1) offsets) (take (last_of (take (few + 1) offsets)) values) i ≡ piece_at offsets values i
piece_first w source k many few offsets values first h i inside =
    let begin = index_take (few + 1) offsets i (omega arith) in
    let end = index_take (few + 1) offsets (i + 1) (omega arith) in
    let rise = first.rise i (i + 1) (omega arith) (omega arith) in
    let upto = first.rise (i + 1) few (omega arith) h in
    let last = last_first offsets many few first.count h in
    ap₂ (λ a b. slice_range (take (last_of (take (few + 1) offsets)) values) a b) begin end
    ∙ range_take (slice_index offsets i) (slice_index offsets (i + 1)) (last_of (take (few + 1) offsets)) values rise (omega (arith, upto, last))
