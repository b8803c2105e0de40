-- Lemmas on single bits of numbers and bytes.
use Rattle.std.proofs.Common.{◌≡◌, ◌≢◌, ◌∙◌, refl, sym, ap, ap₂}
use Rattle.std.proofs.Common.{ℕ, zero, suc, ◌+◌, ◌-◌, ◌*◌, ◌/◌, ◌%◌, ◌^◌, ◌≤◌, ◌<◌, bit_and, bit_or, arith}
use Rattle.std.proofs.Common.{Bool, true, false, if◌then◌else◌, ◌==◌, ◌⊎◌, inl, inr}
use Rattle.std.proofs.Common.{List, ◌∷◌, length, get_or, set, slice_index}
use Rattle.std.specs.Int as number
use Rattle.std.proofs.lemmas.Nat.{shr-shr, and_mask}
use Rattle.std.proofs.lemmas.Nat.Bits.{bit_at_above, bit_at_and, bit_at_ones, bit_at-lt, bit_at_cat_low, bit_at_cat_high}
use Rattle.std.proofs.lemmas.Nat.Bits.{bit_at-zero, bit_at_set_same, bit_at_set_other, bit_at_clear_same, bit_at_clear_other}
use Rattle.std.specs.Int.{w8}
use Rattle.std.proofs.lemmas.Nat.{and_le_l}
use Rattle.std.proofs.Common.{get_or-set_same, get_or-set_other}
use Rattle.std.proofs.lemmas.Bool.{cases_lt, cases_eq, eq-eqb, ne_eqb}
use Rattle.columnar_memory_bits.specs.Bits.{bit, bit_at}

-- digit i of some bytes in base 2, 0 behind the last byte
abbrev pub digit : List ℕ → ℕ → ℕ
digit bytes i = number.bit_at (slice_index bytes (i / 8)) (i % 8)

-- bits that are the same digit
pub bit_same : (m n i j : ℕ) → number.bit_at m i ≡ number.bit_at n j → bit m i ≡ bit n j
unfolding bit
bit_same m n i j e = ap (λ x. x == 1) e

pub bit_true : (m i : ℕ) → number.bit_at m i ≡ 1 → bit m i ≡ true
unfolding bit
bit_true m i e = ap (λ x. x == 1) e

pub bit_false : (m i : ℕ) → number.bit_at m i ≡ 0 → bit m i ≡ false
unfolding bit
bit_false m i e = ap (λ x. x == 1) e

-- a number below 2 ^ k has no bit set from k on
pub bit_above : (m k i : ℕ) → m < 2 ^ k → k ≤ i → bit m i ≡ false
bit_above m k i small h = bit_false m i (bit_at_above m k i small h)

-- a bit of some bytes is a bit of one of them, and a digit
pub bit_at_byte : (bytes : List ℕ) (i : ℕ) → bit_at bytes i ≡ bit (slice_index bytes (i / 8)) (i % 8)
unfolding bit bit_at
bit_at_byte bytes i = refl

pub bit_at_digit : (bytes : List ℕ) (i : ℕ) → bit_at bytes i ≡ (digit bytes i == 1)
unfolding bit_at
bit_at_digit bytes i = refl

digit_of_test : (d : ℕ) → d < 2 → (if d == 1 then 1 else 0) ≡ d
digit_of_test zero h = refl
digit_of_test (suc zero) h = refl
digit_of_test (suc (suc d)) h = absurd (omega arith)

-- a bit as a number is its digit
pub digit_of_bit : (n i : ℕ) → (if bit n i then 1 else 0) ≡ number.bit_at n i
unfolding bit
digit_of_bit n i = digit_of_test (number.bit_at n i) (bit_at-lt n i)

pub digit_of_bit_at : (bytes : List ℕ) (i : ℕ) → (if bit_at bytes i then 1 else 0) ≡ digit bytes i
unfolding bit_at
digit_of_bit_at bytes i = digit_of_test (digit bytes i) (bit_at-lt (slice_index bytes (i / 8)) (i % 8))

-- the digits of a shifted and of a cut number
pub digit_shr : (n k i : ℕ) → number.bit_at (n / 2 ^ k) i ≡ number.bit_at n (k + i)
digit_shr n k i = ap (λ x. x % 2) (shr-shr n k i)

pub digit_mod : (n k i : ℕ) → i < k → number.bit_at (n % 2 ^ k) i ≡ number.bit_at n i
digit_mod n k i h =
    ap (λ x. number.bit_at x i) (sym (and_mask n k)) ∙ bit_at_and n (2 ^ k - 1) i ∙ omega (arith, bit_at_ones k i h, bit_at-lt n i)

pub digit_shl_low : (n k i : ℕ) → i < k → number.bit_at (n * 2 ^ k) i ≡ 0
digit_shl_low n k i h =
    let e : n * 2 ^ k ≡ n * 2 ^ k + 0 = omega arith in
    ap (λ x. number.bit_at x i) e ∙ bit_at_cat_low n k 0 i h ∙ bit_at-zero i

pub digit_shl_high : (n k i : ℕ) → 0 < 2 ^ k → k ≤ i → number.bit_at (n * 2 ^ k) i ≡ number.bit_at n (i - k)
digit_shl_high n k i pos h =
    let e : n * 2 ^ k ≡ n * 2 ^ k + 0 = omega arith in
    ap (λ x. number.bit_at x i) e ∙ bit_at_cat_high n k 0 i pos h

-- bits of bytes one behind the other
pub digit_first : (b : ℕ) (bytes : List ℕ) (i : ℕ) → i < 8 → digit (b ∷ bytes) i ≡ number.bit_at b i
digit_first b bytes i h =
    let byte : i / 8 ≡ 0 = omega arith in
    let place : i % 8 ≡ i = omega arith in
    ap₂ (λ (k : ℕ) (r : ℕ). number.bit_at (get_or (b ∷ bytes) k 0) r) byte place

pub digit_next : (b : ℕ) (bytes : List ℕ) (i : ℕ) → 8 ≤ i → digit (b ∷ bytes) i ≡ digit bytes (i - 8)
digit_next b bytes i h =
    let byte : i / 8 ≡ suc ((i - 8) / 8) = omega arith in
    let place : i % 8 ≡ (i - 8) % 8 = omega arith in
    ap₂ (λ (k : ℕ) (r : ℕ). number.bit_at (get_or (b ∷ bytes) k 0) r) byte place

-- ---- a byte with one bit written

choose_same : {A : Type 0} (j i : ℕ) (x y z : A) → j ≡ i → x ≡ y → x ≡ (if j == i then y else z)
choose_same j i x y z e same = rw (eq-eqb j i e) same

choose_other : {A : Type 0} (j i : ℕ) (x y z : A) → (j ≢ i) → x ≡ z → x ≡ (if j == i then y else z)
choose_other j i x y z apart same = rw (ne_eqb j i apart) same

bit_set_by : (b i j : ℕ) → i < 8 → (j ≡ i) ⊎ (j ≢ i) → bit (bit_or b (1 * 2 ^ i % 256)) j ≡ (if j == i then true else bit b j)
bit_set_by b i j h (inl e) = choose_same j i _ _ _ e (bit_true _ j (ap (number.bit_at (bit_or b (1 * 2 ^ i % 256))) e ∙ bit_at_set_same w8 b i h))
bit_set_by b i j h (inr apart) = choose_other j i _ _ _ apart (bit_same _ _ j j (bit_at_set_other w8 b i h j apart))

pub bit_set : (b i j : ℕ) → i < 8 → bit (bit_or b (1 * 2 ^ i % 256)) j ≡ (if j == i then true else bit b j)
bit_set b i j h = bit_set_by b i j h (cases_eq j i)

clear_other : (b i j : ℕ) → b < 256 → i < 8 → j ≢ i → (j < 8) ⊎ (8 ≤ j) → bit (bit_and b (255 - 1 * 2 ^ i % 256)) j ≡ bit b j
clear_other b i j small h apart (inl low) = bit_same _ _ j j (bit_at_clear_other w8 b i h j low apart)
clear_other b i j small h apart (inr high) =
    bit_above (bit_and b (255 - 1 * 2 ^ i % 256)) 8 j (omega (arith, and_le_l b (255 - 1 * 2 ^ i % 256))) high ∙ sym (bit_above b 8 j small high)

bit_clear_by : (b i j : ℕ) → b < 256 → i < 8 → (j ≡ i) ⊎ (j ≢ i) → bit (bit_and b (255 - 1 * 2 ^ i % 256)) j ≡ (if j == i then false else bit b j)
bit_clear_by b i j small h (inl e) =
    choose_same j i _ _ _ e (bit_false _ j (ap (number.bit_at (bit_and b (255 - 1 * 2 ^ i % 256))) e ∙ bit_at_clear_same w8 b i h))
bit_clear_by b i j small h (inr apart) = choose_other j i _ _ _ apart (clear_other b i j small h apart (cases_lt j 8))

pub bit_clear : (b i j : ℕ) → b < 256 → i < 8 → bit (bit_and b (255 - 1 * 2 ^ i % 256)) j ≡ (if j == i then false else bit b j)
bit_clear b i j small h = bit_clear_by b i j small h (cases_eq j i)

-- bytes of which one has one bit written
module _ (bytes more : List ℕ) (place value : ℕ) (b : Bool) (j : ℕ) (within : place / 8 < length bytes) (written : more ≡ set bytes (place / 8) value)
    (one : (k : ℕ) → bit value k ≡ (if k == place % 8 then b else bit (slice_index bytes (place / 8)) k)) where
  in_byte : j / 8 ≡ place / 8 → (j % 8 ≡ place % 8) ⊎ (j % 8 ≢ place % 8) →
      (if j % 8 == place % 8 then b else bit (slice_index bytes (place / 8)) (j % 8)) ≡ (if j == place then b else bit_at bytes j)
  in_byte same (inl e) = sym (choose_same (j % 8) (place % 8) b b _ e refl) ∙ choose_same j place b b _ (omega arith) refl
  in_byte same (inr apart) =
      sym (choose_other (j % 8) (place % 8) (bit (slice_index bytes (place / 8)) (j % 8)) b _ apart refl)
      ∙ ap (λ k. bit (get_or bytes k 0) (j % 8)) (sym same) ∙ sym (bit_at_byte bytes j)
      ∙ choose_other j place (bit_at bytes j) b _ (λ e. apart (ap (λ n. n % 8) e)) refl

  by_byte : (j / 8 ≡ place / 8) ⊎ (j / 8 ≢ place / 8) → bit_at more j ≡ (if j == place then b else bit_at bytes j)
  by_byte (inl same) =
      bit_at_byte more j ∙ ap (λ bs. bit (get_or bs (j / 8) 0) (j % 8)) written
      ∙ ap (λ k. bit (get_or (set bytes (place / 8) value) k 0) (j % 8)) same
      ∙ ap (λ n. bit n (j % 8)) (get_or-set_same bytes (place / 8) value 0 within) ∙ one (j % 8)
      ∙ in_byte same (cases_eq (j % 8) (place % 8))
  by_byte (inr apart) =
      bit_at_byte more j ∙ ap (λ bs. bit (get_or bs (j / 8) 0) (j % 8)) written
      ∙ ap (λ n. bit n (j % 8)) (get_or-set_other bytes (place / 8) (j / 8) value 0 apart) ∙ sym (bit_at_byte bytes j)
      ∙ choose_other j place (bit_at bytes j) b _ (λ e. apart (ap (λ n. n / 8) e)) refl

  pub bit_at_set : bit_at more j ≡ (if j == place then b else bit_at bytes j)
  bit_at_set = by_byte (cases_eq (j / 8) (place / 8))
