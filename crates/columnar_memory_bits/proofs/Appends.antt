-- Bits that are added behind others, and bits that are cut off.
use Rattle.std.proofs.Common.{◌≡◌, ◌∙◌, refl, sym, ap, ap₂}
use Rattle.std.proofs.Common.{ℕ, zero, suc, ◌+◌, ◌-◌, ◌*◌, ◌/◌, ◌%◌, ◌^◌, ◌≤◌, ◌<◌, arith}
use Rattle.std.proofs.Common.{Bool, false, ◌⊎◌, inl, inr}
use Rattle.std.proofs.Common.{List, ◌∷◌, ◌++◌, length, take, get_or, replicate, length-append, Result, Ok, Err, OnOk, IsOk}
use Rattle.std.specs.Int as number
use Rattle.std.specs.Int.{w64, to_le_bytes, bytes_low_first, byte_at}
use Rattle.std.proofs.lemmas.List.{get_or_append_left, get_or-append_right, get_or_past, get_or-take, length-take-le}
use Rattle.std.proofs.lemmas.Bool.{cases_lt}
use Rattle.columnar_memory_bits.specs.Bits.{bit, bit_at, bits_of, bytes_for, IsPacked}
use Rattle.columnar_memory_bits.specs.Appends.{AppendsBits}
use Rattle.columnar_memory_bits.specs.Windows.{window}
use Rattle.columnar_memory_bits.specs.Words.{word}
use Rattle.columnar_memory_bits.proofs.Words.{bit_of_word}
use Rattle.columnar_memory_bits.proofs.Windows.{window_append, window_same}
use Rattle.columnar_memory_bits.proofs.Bits.{digit_mod, digit_shr, bit_at_byte, bit_same, bit_above}
use Rattle.std.proofs.Math.Nat.{pow-suc, pow-le-pow_right}
use Rattle.std.proofs.lemmas.Nat.{pow-add}

-- no bit is set behind the last byte
pub bit_at_beyond : (bytes : List ℕ) (i : ℕ) → 8 * length bytes ≤ i → bit_at bytes i ≡ false
bit_at_beyond bytes i h =
    bit_at_byte bytes i ∙ ap (λ b. bit b (i % 8)) (get_or_past bytes (i / 8) 0 (omega arith)) ∙ bit_above 0 0 (i % 8) (omega arith) (omega arith)

-- the bits of bytes one behind the other
pub bit_at_front : (xs ys : List ℕ) (i : ℕ) → i < 8 * length xs → bit_at (xs ++ ys) i ≡ bit_at xs i
bit_at_front xs ys i h =
    bit_at_byte (xs ++ ys) i ∙ ap (λ b. bit b (i % 8)) (get_or_append_left xs ys 0 (i / 8) (omega arith)) ∙ sym (bit_at_byte xs i)

pub bit_at_behind : (xs ys : List ℕ) (i : ℕ) → bit_at (xs ++ ys) (8 * length xs + i) ≡ bit_at ys i
bit_at_behind xs ys i =
    let byte : (8 * length xs + i) / 8 - length xs ≡ i / 8 = omega arith in
    let place : (8 * length xs + i) % 8 ≡ i % 8 = omega arith in
    bit_at_byte (xs ++ ys) (8 * length xs + i)
    ∙ ap (λ b. bit b ((8 * length xs + i) % 8)) (get_or-append_right xs ys (length xs) ((8 * length xs + i) / 8) 0 refl (omega arith))
    ∙ ap₂ (λ (k : ℕ) (r : ℕ). bit (get_or ys k 0) r) byte place ∙ sym (bit_at_byte ys i)

-- bytes behind whole bytes
pub appends_whole : (old more new : List ℕ) (f : ℕ → Bool) (n : ℕ) → new ≡ old ++ more → length more ≡ bytes_for n →
    ((i : ℕ) → i < n → bit_at more i ≡ f i) → ((i : ℕ) → n ≤ i → bit_at more i ≡ false) → AppendsBits old new (8 * length old) f n
appends_whole old more new f n e count some none = record {
  counted = omega (arith, ap length e, length-append old more);
  before = λ i h. ap (λ bs. bit_at bs i) e ∙ bit_at_front old more i h;
  added = λ i h. ap (λ bs. bit_at bs (8 * length old + i)) e ∙ bit_at_behind old more i ∙ some i h;
  zeros = λ i h.
      let place : 8 * length old + (i - 8 * length old) ≡ i = omega arith in
      ap₂ bit_at e (sym place) ∙ bit_at_behind old more (i - 8 * length old) ∙ none (i - 8 * length old) (omega arith);
}

-- bits that are added, and more behind them
then_added : (old mid new : List ℕ) (held : ℕ) (f g : ℕ → Bool) (a b : ℕ) → AppendsBits old mid held f a → AppendsBits mid new (held + a) g b →
    ((i : ℕ) → i < b → g i ≡ f (a + i)) → (i : ℕ) → i < a + b → (i < a) ⊎ (a ≤ i) → bit_at new (held + i) ≡ f i
then_added old mid new held f g a b one two same i h (inl first) = two.before (held + i) (omega arith) ∙ one.added i first
then_added old mid new held f g a b one two same i h (inr second) =
    let place : held + i ≡ held + a + (i - a) = omega arith in
    let back : a + (i - a) ≡ i = omega arith in
    ap (bit_at new) place ∙ two.added (i - a) (omega arith) ∙ same (i - a) (omega arith) ∙ ap f back

pub appends_then : (old mid new : List ℕ) (held : ℕ) (f g : ℕ → Bool) (a b : ℕ) → AppendsBits old mid held f a → AppendsBits mid new (held + a) g b →
    ((i : ℕ) → i < b → g i ≡ f (a + i)) → AppendsBits old new held f (a + b)
appends_then old mid new held f g a b one two same = record {
  counted = let count : held + a + b ≡ held + (a + b) = omega arith in two.counted ∙ ap bytes_for count;
  before = λ i h. two.before i (omega arith) ∙ one.before i h;
  added = λ i h. then_added old mid new held f g a b one two same i h (cases_lt i a);
  zeros = λ i h. two.zeros i (omega arith);
}

pub appends_none : (bytes : List ℕ) (held : ℕ) (f : ℕ → Bool) → IsPacked bytes held → AppendsBits bytes bytes held f 0
appends_none bytes held f packed = record {
  counted = let count : held ≡ held + 0 = omega arith in packed.counted ∙ ap bytes_for count;
  before = λ i h. refl;
  added = λ i h. absurd (omega arith);
  zeros = λ i h. packed.zeros i (omega arith);
}

-- the lists of bits
pub appended_bits : (old new : List ℕ) (held : ℕ) (f : ℕ → Bool) (n : ℕ) → AppendsBits old new held f n →
    bits_of new 0 (held + n) ≡ bits_of old 0 held ++ window f 0 n
appended_bits old new held f n added =
    window_append (bit_at new) 0 held n
    ∙ ap₂ (λ (xs : List Bool) ys. xs ++ ys) (window_same (bit_at new) (bit_at old) 0 0 held (λ i h. added.before (0 + i) (omega arith)))
    (window_same (bit_at new) f (0 + held) 0 n (λ i h.
    let place : 0 + held + i ≡ held + i = omega arith in
    let same : i ≡ 0 + i = omega arith in
    ap (bit_at new) place ∙ added.added i h ∙ ap f same))

-- bits of other bytes, from one on
pub appended_window : (bytes : List ℕ) (offset n : ℕ) → window (λ i. bit_at bytes (offset + i)) 0 n ≡ bits_of bytes offset n
appended_window bytes offset n =
    window_same (λ i. bit_at bytes (offset + i)) (bit_at bytes) 0 offset n
    (λ i h. let same : offset + (0 + i) ≡ offset + i = omega arith in ap (bit_at bytes) same)

pub appended_packed : (old new : List ℕ) (held : ℕ) (f : ℕ → Bool) (n : ℕ) → AppendsBits old new held f n → IsPacked new (held + n)
appended_packed old new held f n added = record { counted = added.counted; zeros = added.zeros }

-- ---- the bytes of a word

byte_is : (i x : ℕ) → byte_at i x ≡ x / 256 ^ i % 256
byte_is zero x = omega arith
byte_is (suc i) x = refl

le_byte : (j n x k : ℕ) → k < n → get_or (bytes_low_first j n x) k 0 ≡ x / 256 ^ (j + k) % 256
le_byte j zero x k h = absurd (omega arith)
le_byte j (suc n) x zero h = byte_is j x ∙ ap (λ i. x / 256 ^ i % 256) (omega arith)
le_byte j (suc n) x (suc k) h = le_byte (suc j) n x k (omega arith) ∙ ap (λ i. x / 256 ^ i % 256) (omega arith)

pow_256 : (k : ℕ) → 256 ^ k ≡ 2 ^ (8 * k)
pow_256 zero = refl
pow_256 (suc k) =
    let more : 8 * suc k ≡ 8 * k + 8 = omega arith in
    pow-suc 256 k ∙ ap (λ n. n * 256) (pow_256 k) ∙ sym (pow-add 2 (8 * k) 8) ∙ ap (λ n. 2 ^ n) (sym more)

-- the digits of a word's bytes are the word's
digit_le : (x k r : ℕ) → k < 8 → r < 8 → number.bit_at (get_or (to_le_bytes w64 x) k 0) r ≡ number.bit_at x (8 * k + r)
digit_le x k r h low =
    let power : 256 ^ (0 + k) ≡ 2 ^ (8 * k) = ap (λ n. 256 ^ n) (omega arith) ∙ pow_256 k in
    ap (λ b. number.bit_at b r) (le_byte 0 8 x k h ∙ ap (λ p. x / p % 256) power)
    ∙ digit_mod (x / 2 ^ (8 * k)) 8 r low ∙ digit_shr x (8 * k) r

pub bit_of_le : (x k i : ℕ) → k ≤ 8 → x < 2 ^ (8 * k) → (i < 8 * k) ⊎ (8 * k ≤ i) → bit_at (take k (to_le_bytes w64 x)) i ≡ bit x i
bit_of_le x k i few small (inl h) =
    let place : 8 * (i / 8) + i % 8 ≡ i = omega arith in
    bit_at_byte (take k (to_le_bytes w64 x)) i
    ∙ ap (λ b. bit b (i % 8)) (get_or-take k (to_le_bytes w64 x) (i / 8) 0 (omega arith))
    ∙ bit_same (get_or (to_le_bytes w64 x) (i / 8) 0) x (i % 8) i (digit_le x (i / 8) (i % 8) (omega arith) (omega arith)
    ∙ ap (number.bit_at x) place)
bit_of_le x k i few small (inr h) =
    bit_at_beyond (take k (to_le_bytes w64 x)) i (omega (arith, length-take-le k (to_le_bytes w64 x) few)) ∙ sym (bit_above x (8 * k) i small h)

-- a word behind whole bytes
pub appends_word : (old new : List ℕ) (x n : ℕ) → n ≤ 64 → x < 2 ^ n → new ≡ old ++ take (bytes_for n) (to_le_bytes w64 x) →
    AppendsBits old new (8 * length old) (bit x) n
appends_word old new x n few small e =
    let within : bytes_for n ≤ 8 = omega arith in
    let more : n ≤ 8 * bytes_for n = omega arith in
    let two : 0 < 2 = omega arith in
    let wider : 2 ^ n ≤ 2 ^ (8 * bytes_for n) = pow-le-pow_right two more in
    let bound : x < 2 ^ (8 * bytes_for n) = omega (arith, wider) in
    let each : (i : ℕ) → bit_at (take (bytes_for n) (to_le_bytes w64 x)) i ≡ bit x i =
    λ i. bit_of_le x (bytes_for n) i within bound (cases_lt i (8 * bytes_for n)) in
    appends_whole old (take (bytes_for n) (to_le_bytes w64 x)) new (bit x) n e (length-take-le (bytes_for n) (to_le_bytes w64 x) within)
    (λ i h. each i) (λ i h. each i ∙ bit_above x n i small h)

-- one word more of some bytes' bits
pub appends_next : (old mid new bytes : List ℕ) (offset held done n x : ℕ) → AppendsBits old mid held (λ i. bit_at bytes (offset + i)) done →
    AppendsBits mid new (held + done) (bit x) n → x ≡ word (bits_of bytes (offset + done) n) →
    AppendsBits old new held (λ i. bit_at bytes (offset + i)) (done + n)
appends_next old mid new bytes offset held done n x one two e =
    appends_then old mid new held (λ i. bit_at bytes (offset + i)) (bit x) done n one two
    (λ i h. let place : offset + done + i ≡ offset + (done + i) = omega arith in bit_of_word bytes (offset + done) n x i e h
    ∙ ap (bit_at bytes) place)

-- the same bits behind other numbers that are equal
pub appends_at : (old new : List ℕ) (f : ℕ → Bool) (held other n m : ℕ) → held ≡ other → n ≡ m → AppendsBits old new held f n →
    AppendsBits old new other f m
appends_at old new f held other n m e d added = rw (← e, ← d) added

-- a second step from the byte boundary at which the first one ended
pub appends_rest : (old mid new : List ℕ) (f g : ℕ → Bool) (held done len begun : ℕ) → AppendsBits old mid held f done → (held + done) % 8 ≡ 0 →
    done ≤ len → length mid ≡ begun → AppendsBits mid new (8 * begun) g (len - done) → ((i : ℕ) → i < len - done → g i ≡ f (done + i)) →
    AppendsBits old new held f len
appends_rest old mid new f g held done len begun one whole within count two same =
    let place : 8 * begun ≡ held + done = omega (arith, one.counted, whole, count) in
    let all : done + (len - done) ≡ len = omega arith in
    let here = appends_at mid new g (8 * begun) (held + done) (len - done) (len - done) place refl two in
    appends_at old new f held held (done + (len - done)) len refl all (appends_then old mid new held f g done (len - done) one here same)

-- what a call that adds bits may answer
pub appended_on_ok : {A E : Type 0} (result : Result A E) (old new bytes : List ℕ) (held offset n : ℕ) → IsOk result →
    AppendsBits old new held (λ i. bit_at bytes (offset + i)) n →
    OnOk result (bits_of new 0 (held + n) ≡ bits_of old 0 held ++ bits_of bytes offset n)
appended_on_ok (Ok x) old new bytes held offset n ok added =
    appended_bits old new held (λ i. bit_at bytes (offset + i)) n added
    ∙ ap (λ (xs : List Bool). bits_of old 0 held ++ xs) (appended_window bytes offset n)
appended_on_ok (Err x) old new bytes held offset n ok added = tt

-- a word of some bytes' bits that is added
pub appends_bits : (old new bytes : List ℕ) (held offset n x : ℕ) → AppendsBits old new held (bit x) n → x ≡ word (bits_of bytes offset n) →
    AppendsBits old new held (λ i. bit_at bytes (offset + i)) n
appends_bits old new bytes held offset n x added e = record {
  counted = added.counted;
  before = added.before;
  added = λ i h. added.added i h ∙ bit_of_word bytes offset n x i e h;
  zeros = added.zeros;
}

-- a word of one value that is added
pub appends_constant : (old new : List ℕ) (held n x : ℕ) (value : Bool) → AppendsBits old new held (bit x) n → ((i : ℕ) → i < n → bit x i ≡ value) →
    AppendsBits old new held (λ _. value) n
appends_constant old new held n x value added same = record {
  counted = added.counted;
  before = added.before;
  added = λ i h. added.added i h ∙ same i h;
  zeros = added.zeros;
}

window_constant : (value : Bool) (first n : ℕ) → window (λ _. value) first n ≡ replicate n value
window_constant value first zero = refl
window_constant value first (suc n) = ap (λ rest. value ∷ rest) (window_constant value (first + 1) n)

pub appended_constant : (old new : List ℕ) (held n : ℕ) (value : Bool) → AppendsBits old new held (λ _. value) n →
    bits_of new 0 (held + n) ≡ bits_of old 0 held ++ replicate n value
appended_constant old new held n value added =
    appended_bits old new held (λ _. value) n added ∙ ap (λ (xs : List Bool). bits_of old 0 held ++ xs) (window_constant value 0 n)

pub constant_on_ok : {A E : Type 0} (result : Result A E) (old new : List ℕ) (held n : ℕ) (value : Bool) → IsOk result →
    AppendsBits old new held (λ _. value) n → OnOk result (bits_of new 0 (held + n) ≡ bits_of old 0 held ++ replicate n value)
constant_on_ok (Ok x) old new held n value ok added = appended_constant old new held n value added
constant_on_ok (Err x) old new held n value ok added = tt

-- the same values
pub appends_as : (old new : List ℕ) (held n : ℕ) (f g : ℕ → Bool) → AppendsBits old new held f n → ((i : ℕ) → i < n → f i ≡ g i) →
    AppendsBits old new held g n
appends_as old new held n f g added same = record {
  counted = added.counted;
  before = added.before;
  added = λ i h. added.added i h ∙ same i h;
  zeros = added.zeros;
}

pub window_on_ok : {A E : Type 0} (result : Result A E) (old new : List ℕ) (held n : ℕ) (f : ℕ → Bool) → IsOk result → AppendsBits old new held f n →
    OnOk result (bits_of new 0 (held + n) ≡ bits_of old 0 held ++ window f 0 n)
window_on_ok (Ok x) old new held n f ok added = appended_bits old new held f n added
window_on_ok (Err x) old new held n f ok added = tt
