-- Bits that are gathered in a word.
use Rattle.std.proofs.Common.{◌≡◌, ◌∙◌, refl, sym, ap, ap₂, ℕ, ◌+◌, ◌-◌, ◌*◌, ◌%◌, ◌^◌, ◌≤◌, ◌<◌, arith}
use Rattle.std.proofs.Common.{Bool, true, false, List, [], ◌∷◌, ◌++◌, append_assoc}
use mir.Val.{bool_byte}
use Rattle.std.specs.Int as number
use Rattle.std.proofs.Math.Pow.{pow_mono}
use Rattle.std.proofs.lemmas.Nat.Bits.{bit_at_cat_low, bit_at_cat_high}
use Rattle.columnar_memory_bits.specs.Bits.{bit}
use Rattle.columnar_memory_bits.specs.Words.{word_bits}
use Rattle.columnar_memory_bits.proofs.Bits.{bit_same}
use Rattle.columnar_memory_bitmap.proofs.Lists.{window_next, window_same}

first_bit : (b : Bool) → bit (bool_byte b) 0 ≡ b
unfolding bit
first_bit true = refl
first_bit false = refl

shifted : (b : Bool) (count : ℕ) → count < 64 → bool_byte b * 2 ^ count % 18446744073709551616 ≡ bool_byte b * 2 ^ count
shifted true count few = let most : 2 ^ count ≤ 2 ^ 63 = pow_mono {i = count} {j = 63} (omega arith) in omega (arith, most)
shifted false count few = omega arith

-- a word with one more bit behind its first ones
pub bits_with_more : (word count x b : ℕ) (value : Bool) → b ≡ bool_byte value → count < 64 → word < 2 ^ count →
    x ≡ word + b * 2 ^ count % 18446744073709551616 → word_bits (count + 1) x ≡ word_bits count word ++ value ∷ []
bits_with_more word count x b value is few small e =
    let turned : word + bool_byte value * 2 ^ count ≡ bool_byte value * 2 ^ count + word = omega arith in
    let cat : x ≡ bool_byte value * 2 ^ count + word = e ∙ ap (λ n. word + n * 2 ^ count % 18446744073709551616) is
    ∙ ap (λ n. word + n) (shifted value count few) ∙ turned in
    let none : 0 + count ≡ count = omega arith in
    let first : count ≤ 0 + count = omega arith in
    let place : 0 + count - count ≡ 0 = omega arith in
    let last : bit x (0 + count) ≡ value = bit_same x (bool_byte value) (0 + count) 0
    (ap (λ n. number.bit_at n (0 + count)) cat ∙ bit_at_cat_high (bool_byte value) count word (0 + count) small first
    ∙ ap (number.bit_at (bool_byte value)) place) ∙ first_bit value in
    window_next (bit x) 0 count
    ∙ ap₂ (λ (xs : List Bool) (y : Bool). xs ++ y ∷ [])
    (window_same (bit x) (bit word) 0 0 count (λ (k : ℕ) (inside : k < count).
    bit_same x word (0 + k) (0 + k) (ap (λ n. number.bit_at n (0 + k)) cat ∙ bit_at_cat_low (bool_byte value) count word (0 + k) (omega arith))))
    last

-- bits in front, those of a word and one more bit
pub with_more : (front given held more : List Bool) (value : Bool) → front ++ held ≡ given → more ≡ held ++ value ∷ [] →
    front ++ more ≡ given ++ value ∷ []
with_more front given held more value is e =
    ap (λ xs. front ++ xs) e ∙ sym (append_assoc front held (value ∷ [])) ∙ ap (λ xs. xs ++ value ∷ []) is
