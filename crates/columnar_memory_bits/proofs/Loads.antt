-- Words that are read from bytes.
use Rattle.std.proofs.Common.{◌≡◌, ◌∙◌, sym, ap, ap₂}
use Rattle.std.proofs.Common.{ℕ, suc, ◌+◌, ◌-◌, ◌*◌, ◌/◌, ◌%◌, ◌^◌, ◌≤◌, ◌<◌, max, bit_and, bit_or, arith}
use Rattle.std.proofs.Common.{◌⊎◌, inl, inr, List, [], ◌∷◌, length, take, drop, get_or, length-drop}
use Rattle.std.specs.Int as number
use Rattle.std.specs.Simd.Lanes.{number_l}
use Rattle.std.proofs.Math.Nat.{pow-le-pow_right}
use Rattle.std.proofs.lemmas.Nat.{shl_whole, or_shifted, and_mask, pow_pos, mod_below}
use Rattle.std.proofs.lemmas.Nat.Bits.{bit_at_or, bit_at_above, ones_shr}
use Rattle.std.proofs.lemmas.List.{take_all, get_or-drop}
use Rattle.std.proofs.lemmas.Bool.{cases_lt}
use Rattle.columnar_memory_bits.specs.Bits.{bits_of}
use Rattle.columnar_memory_bits.specs.Words.{word}
use Rattle.columnar_memory_bits.proofs.Bits.{digit, digit_shr, digit_mod, digit_shl_low, digit_shl_high}
use Rattle.columnar_memory_bits.proofs.Words.{number_lt, word_of_bytes}

-- all bytes from one on
pub rest_is : (bytes : List ℕ) (k : ℕ) → take (length bytes - k) (drop k bytes) ≡ drop k bytes
rest_is bytes k = take_all (length bytes - k) (drop k bytes) (omega (arith, length-drop k bytes))

-- one byte more in front of a number of few bytes
number_more : (b : ℕ) (bytes : List ℕ) (n : ℕ) → b < 256 → ((k : ℕ) → get_or bytes k 0 < 256) → length bytes ≤ 6 → n ≡ number_l 256 bytes →
    bit_or (n * 256 % 2 ^ 64) b ≡ number_l 256 (b ∷ bytes)
number_more b bytes n small all few e =
    let positive : 0 < 256 = omega arith in
    let most : 256 ^ length bytes ≤ 256 ^ 6 = pow-le-pow_right positive few in
    let bound : n < 2 ^ 56 = omega (arith, e, number_lt bytes all, most) in
    ap (λ m. bit_or m b) (shl_whole n 56 8 64 bound (omega arith)) ∙ or_shifted n 8 b small ∙ omega (arith, e)

pub number_of_few : (bytes : List ℕ) (n b : ℕ) → ((k : ℕ) → get_or bytes k 0 < 256) → 1 ≤ length bytes → length bytes < 8 →
    n ≡ number_l 256 (take (length bytes - 1) (drop 1 bytes)) → b ≡ get_or bytes 0 0 → bit_or (n * 256 % 2 ^ 64) b ≡ number_l 256 bytes
number_of_few [] n b small some few rest first = absurd (omega arith)
number_of_few (x ∷ bytes) n b small some few rest first =
    let all : n ≡ number_l 256 bytes = rest ∙ ap (number_l 256) (rest_is (x ∷ bytes) 1) in
    ap (bit_or (n * 256 % 2 ^ 64)) first ∙ number_more x bytes n (small 0) (λ k. small (suc k)) (omega arith) all

-- digits of the bytes from a byte on
digit_part : (bytes : List ℕ) (offset i : ℕ) →
    digit (take (length bytes - offset / 8) (drop (offset / 8) bytes)) (offset % 8 + i) ≡ digit bytes (offset + i)
digit_part bytes offset i =
    let byte : offset / 8 + (offset % 8 + i) / 8 ≡ (offset + i) / 8 = omega arith in
    let place : (offset % 8 + i) % 8 ≡ (offset + i) % 8 = omega arith in
    ap (λ bs. digit bs (offset % 8 + i)) (rest_is bytes (offset / 8))
    ∙ ap (λ b. number.bit_at b ((offset % 8 + i) % 8)) (get_or-drop (offset / 8) bytes ((offset % 8 + i) / 8) 0)
    ∙ ap₂ (λ (k : ℕ) (r : ℕ). number.bit_at (get_or bytes k 0) r) byte place

module _ (part : List ℕ) (low s : ℕ) (small : low < 2 ^ 64) (within : s < 8) (same : (i : ℕ) → i < 64 → number.bit_at low i ≡ digit part i) where
  -- the digits of a word that lies in eight bytes
  pub digits_in_eight : (i : ℕ) → s + i < 64 → number.bit_at (low / 2 ^ s) i ≡ digit part (s + i)
  digits_in_eight i h = digit_shr low s i ∙ same (s + i) h

  high_digit : (b i : ℕ) → i < 64 → (s + i < 64) ⊎ (64 ≤ s + i) → b ≡ get_or part 8 0 →
      max (number.bit_at (low / 2 ^ s) i) (number.bit_at (b * 2 ^ (64 - s) % 2 ^ 64) i) ≡ digit part (s + i)
  high_digit b i h (inl here) e =
      let none : number.bit_at (b * 2 ^ (64 - s) % 2 ^ 64) i ≡ 0 = digit_mod (b * 2 ^ (64 - s)) 64 i h ∙ digit_shl_low b (64 - s) i (omega arith) in
      omega (arith, none, digits_in_eight i here)
  high_digit b i h (inr there) e =
      let none : number.bit_at (low / 2 ^ s) i ≡ 0 = digit_shr low s i ∙ bit_at_above low 64 (s + i) small there in
      let some : number.bit_at (b * 2 ^ (64 - s) % 2 ^ 64) i ≡ number.bit_at b (i - (64 - s)) =
      digit_mod (b * 2 ^ (64 - s)) 64 i h ∙ digit_shl_high b (64 - s) i (pow_pos (64 - s)) (omega arith) in
      let byte : (s + i) / 8 ≡ 8 = omega arith in
      let place : i - (64 - s) ≡ (s + i) % 8 = omega arith in
      let found : number.bit_at b (i - (64 - s)) ≡ digit part (s + i) =
      ap₂ (λ (n : ℕ) (r : ℕ). number.bit_at n r) (e ∙ ap (λ (k : ℕ). get_or part k 0) (sym byte)) place in
      omega (arith, none, some, found)

  -- the digits of a word that lies in nine bytes
  pub digits_in_nine : (b i : ℕ) → i < 64 → b ≡ get_or part 8 0 →
      number.bit_at (bit_or (low / 2 ^ s) (b * 2 ^ (64 - s) % 2 ^ 64)) i ≡ digit part (s + i)
  digits_in_nine b i h e = bit_at_or (low / 2 ^ s) (b * 2 ^ (64 - s) % 2 ^ 64) i ∙ high_digit b i h (cases_lt (s + i) 64) e

-- a number that is masked
pub mask_is : (found len : ℕ) → len ≤ 64 → bit_and found ((2 ^ 64 - 1) / 2 ^ (64 - len)) ≡ found % 2 ^ len
mask_is found len few =
    let count : 64 - (64 - len) ≡ len = omega arith in
    let mask : (2 ^ 64 - 1) / 2 ^ (64 - len) ≡ 2 ^ len - 1 = ones_shr 64 (64 - len) (omega arith) ∙ ap (λ k. 2 ^ k - 1) count in
    ap (bit_and found) mask ∙ and_mask found len

-- a number that has the digits of some bytes, cut to so many
pub word_cut : (bytes : List ℕ) (offset len found : ℕ) → len ≤ 64 → (len ≡ 0 → ⊥) →
    ((i : ℕ) → i < len → number.bit_at found i ≡ digit (take (length bytes - offset / 8) (drop (offset / 8) bytes)) (offset % 8 + i)) →
    bit_and found ((2 ^ 64 - 1) / 2 ^ (64 - len)) ≡ word (bits_of bytes offset len)
word_cut bytes offset len found few some same =
    mask_is found len few ∙ word_of_bytes bytes offset len (found % 2 ^ len) (mod_below found (2 ^ len) (pow_pos len))
    (λ i h. digit_mod found len i h ∙ same i h ∙ digit_part bytes offset i)
