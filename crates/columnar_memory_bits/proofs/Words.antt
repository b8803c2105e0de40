-- Lemmas on words of booleans.
use Rattle.std.proofs.Common.{◌≡◌, ◌∙◌, refl, sym, ap}
use Rattle.std.proofs.Common.{ℕ, suc, ◌+◌, ◌-◌, ◌*◌, ◌/◌, ◌%◌, ◌^◌, ◌≤◌, ◌<◌, count_ones, arith}
use Rattle.std.proofs.Common.{Bool, true, false, if◌then◌else◌, ◌==◌, ◌⊎◌, inl, inr}
use Rattle.std.proofs.Common.{List, [], ◌∷◌, length, map, get_or, count_by}
use Rattle.std.specs.Int as number
use Rattle.std.specs.Int.{from_le_bytes, w64}
use Rattle.std.specs.Simd.Lanes.{mask_l, number_l}
use Rattle.std.proofs.lemmas.Simd.{mask_l-lt, bit_mask_l, ones-mask_l}
use Rattle.std.proofs.lemmas.Bool.{cases_lt}
use Rattle.std.proofs.lemmas.List.{get_or_past}
use Rattle.std.proofs.Math.Nat.{pow-suc}
use Rattle.std.proofs.lemmas.Nat.Bits.{same_from_bits_below, bit_at_cat_low, bit_at_cat_high, bit_at-zero}
use Rattle.columnar_memory_bits.specs.Windows.{window}
use Rattle.columnar_memory_bits.specs.Bits.{bit, bit_at, bits_of}
use Rattle.columnar_memory_bits.specs.Words.{word, word_bits}
use Rattle.columnar_memory_bits.proofs.Windows.{length_window, get_or_window, window_is}
use Rattle.columnar_memory_bits.proofs.Bits.{digit, digit_of_bit_at, bit_at_digit, digit_first, digit_next}

-- std's word of a mask is this word
pub word_mask : (bits : List Bool) → word bits ≡ mask_l bits
word_mask [] = refl
word_mask (b ∷ bits) = ap (λ n. (if b then 1 else 0) + 2 * n) (word_mask bits)

pub word_lt : (bits : List Bool) → word bits < 2 ^ length bits
word_lt bits = omega (arith, word_mask bits, mask_l-lt bits)

-- the digits of a word are its booleans
pub digit_word : (bits : List Bool) (i : ℕ) → number.bit_at (word bits) i ≡ (if get_or bits i false then 1 else 0)
digit_word bits i = ap (λ n. number.bit_at n i) (word_mask bits) ∙ bit_mask_l bits i

-- a number whose digits are some booleans is their word
pub word_is : (bits : List Bool) (x : ℕ) → x < 2 ^ length bits → ((i : ℕ) → i < length bits →
    number.bit_at x i ≡ (if get_or bits i false then 1 else 0)) → x ≡ word bits
word_is bits x small same = same_from_bits_below (length bits) x (word bits) small (word_lt bits) (λ i h. same i h ∙ sym (digit_word bits i))

-- a number whose digits are those of some bytes is the word of these bits
pub word_of_bytes : (bytes : List ℕ) (first n x : ℕ) → x < 2 ^ n → ((i : ℕ) → i < n → number.bit_at x i ≡ digit bytes (first + i)) →
    x ≡ word (bits_of bytes first n)
word_of_bytes bytes first n x small same =
    let count : length (bits_of bytes first n) ≡ n = length_window (bit_at bytes) first n in
    let bound : x < 2 ^ length (bits_of bytes first n) = rw count small in
    word_is (bits_of bytes first n) x bound
    (λ i h. same i (omega (arith, count)) ∙ sym (digit_of_bit_at bytes (first + i))
    ∙ ap (λ (b : Bool). if b then 1 else 0) (sym (get_or_window (bit_at bytes) first n i false (omega (arith, count)))))

-- how many ones a word has
pub ones_word : (bits : List Bool) → count_ones (word bits) ≡ count_by (λ b. b) bits
ones_word bits = ap count_ones (word_mask bits ∙ ap mask_l (sym (map_same bits))) ∙ ones-mask_l (λ (b : Bool). b) bits where
  map_same : (bs : List Bool) → map (λ (b : Bool). b) bs ≡ bs
  map_same [] = refl
  map_same (b ∷ bs) = ap (λ rest. b ∷ rest) (map_same bs)

-- one byte more in front of a number
digit_behind : (b : ℕ) (bytes : List ℕ) (m i : ℕ) → b < 256 → (8 ≤ i → number.bit_at m (i - 8) ≡ digit bytes (i - 8)) → (i < 8) ⊎ (8 ≤ i) →
    number.bit_at (b + 256 * m) i ≡ digit (b ∷ bytes) i
digit_behind b bytes m i small rest (inl low) =
    let cat : b + 256 * m ≡ m * 2 ^ 8 + b = omega arith in
    ap (λ n. number.bit_at n i) cat ∙ bit_at_cat_low m 8 b i low ∙ sym (digit_first b bytes i low)
digit_behind b bytes m i small rest (inr high) =
    let cat : b + 256 * m ≡ m * 2 ^ 8 + b = omega arith in
    ap (λ n. number.bit_at n i) cat ∙ bit_at_cat_high m 8 b i small high ∙ rest high ∙ sym (digit_next b bytes i high)

-- the digits of the number that some bytes make, the lowest first
pub digit_number : (bytes : List ℕ) → ((k : ℕ) → get_or bytes k 0 < 256) → (i : ℕ) → number.bit_at (number_l 256 bytes) i ≡ digit bytes i
digit_number [] small i = bit_at-zero i ∙ sym (bit_at-zero (i % 8))
digit_number (b ∷ bytes) small i =
    digit_behind b bytes (number_l 256 bytes) i (small 0) (λ h. digit_number bytes (λ k. small (suc k)) (i - 8)) (cases_lt i 8)

pub number_lt : (bytes : List ℕ) → ((k : ℕ) → get_or bytes k 0 < 256) → number_l 256 bytes < 256 ^ length bytes
number_lt [] small = omega arith
number_lt (b ∷ bytes) small =
    let rest = number_lt bytes (λ k. small (suc k)) in
    omega (arith, rest, small 0, pow-suc 256 (length bytes))

-- eight bytes as a number
eight_is : (b0 b1 b2 b3 b4 b5 b6 b7 : ℕ) →
    let bytes = b0 ∷ b1 ∷ b2 ∷ b3 ∷ b4 ∷ b5 ∷ b6 ∷ b7 ∷ [] in from_le_bytes w64 bytes ≡ number_l 256 bytes
eight_is b0 b1 b2 b3 b4 b5 b6 b7 = omega arith

pub digit_eight : (bytes eight : List ℕ) (i : ℕ) → ((k : ℕ) → get_or bytes k 0 < 256) → i < 64 →
    eight ≡
    get_or bytes 0 0 ∷ get_or bytes 1 0 ∷ get_or bytes 2 0 ∷ get_or bytes 3 0 ∷ get_or bytes 4 0 ∷ get_or bytes 5 0 ∷ get_or bytes 6 0
    ∷ get_or bytes 7 0 ∷ [] →
    number.bit_at (from_le_bytes w64 eight) i ≡ digit bytes i
digit_eight bytes eight i small h e =
    let f : ℕ → ℕ = λ k. get_or bytes k 0 in
    let each : (k : ℕ) → k < 8 → get_or (window f 0 8) k 0 ≡ get_or bytes k 0 = λ k l. get_or_window f 0 8 k 0 l ∙ ap f (omega arith) in
    let below : (k : ℕ) → get_or (window f 0 8) k 0 < 256 = λ k. below_256 bytes small k (cases_lt k 8) in
    ap (λ bs. number.bit_at (from_le_bytes w64 bs) i) e
    ∙ ap (λ n. number.bit_at n i) (eight_is (f 0) (f 1) (f 2) (f 3) (f 4) (f 5) (f 6) (f 7))
    ∙ digit_number (window f 0 8) below i
    ∙ ap (λ (b : ℕ). number.bit_at b (i % 8)) (each (i / 8) (omega arith))
  where
    below_256 : (bs : List ℕ) → ((j : ℕ) → get_or bs j 0 < 256) → (k : ℕ) → (k < 8) ⊎ (8 ≤ k) →
        get_or (window (λ (j : ℕ). get_or bs j 0) 0 8) k 0 < 256
    below_256 bs fits k (inl low) = rw (get_or_window (λ (j : ℕ). get_or bs j 0) 0 8 k 0 low) (fits (0 + k))
    below_256 bs fits k (inr high) = rw (get_or_past (window (λ (j : ℕ). get_or bs j 0) 0 8) k 0 high) (omega arith)

-- what a word of some bytes' bits is
pub bit_of_word : (bytes : List ℕ) (first n x i : ℕ) → x ≡ word (bits_of bytes first n) → i < n → bit x i ≡ bit_at bytes (first + i)
unfolding bit
bit_of_word bytes first n x i e h =
    ap (λ d. d == 1)
    (ap (λ w. number.bit_at w i) e ∙ digit_word (bits_of bytes first n) i
    ∙ ap (λ (b : Bool). if b then 1 else 0) (get_or_window (bit_at bytes) first n i false h) ∙ digit_of_bit_at bytes (first + i))
    ∙ sym (bit_at_digit bytes (first + i))

pub word_small : (bytes : List ℕ) (first n x : ℕ) → x ≡ word (bits_of bytes first n) → x < 2 ^ n
word_small bytes first n x e =
    let count : length (bits_of bytes first n) ≡ n = length_window (bit_at bytes) first n in
    let bound : word (bits_of bytes first n) < 2 ^ n = rw count at (word_lt (bits_of bytes first n)) in
    omega (arith, e, bound)

bit_test : (b : Bool) → ((if b then 1 else 0) == 1) ≡ b
bit_test true = refl
bit_test false = refl

-- the bits of a word are its booleans
pub bit_of_list : (bits : List Bool) (i : ℕ) → bit (word bits) i ≡ get_or bits i false
unfolding bit
bit_of_list bits i = ap (λ d. d == 1) (digit_word bits i) ∙ bit_test (get_or bits i false)

pub word_bits_of_word : (bits : List Bool) → word_bits (length bits) (word bits) ≡ bits
word_bits_of_word bits =
    sym (window_is (bit (word bits)) 0 bits false (λ i h. let same : i ≡ 0 + i = omega arith in sym (bit_of_list bits i) ∙ ap (bit (word bits)) same))
