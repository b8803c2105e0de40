-- Bits combined byte by byte.
use Rattle.std.proofs.Common.{◌≡◌, ◌≢◌, ◌∙◌, ℕ, zero, suc, ◌+◌, ◌-◌, ◌*◌, ◌/◌, ◌%◌, ◌^◌, ◌≤◌, ◌<◌, Bool, true, false, not, ◌&&◌, ◌||◌, List, []}
use Rattle.std.proofs.Common.{◌∷◌, length, set, get_or, refl, ap, ap₂, sym, arith, add-zero, ◌==◌, slice_index, ⊎_elim, min, max, map, inl, inr}
use Rattle.std.proofs.Common.{◌⊎◌, if◌then◌else◌, nat_lt}
use Rattle.std.specs.Int.Bits.{bit_and, bit_or, bit_xor}
use Rattle.std.specs.Int as number
use Rattle.std.specs.Int.{w8}
use Rattle.std.proofs.lemmas.Bool.{cases_eq, cases_lt, lt-ltb, le-ltb}
use Rattle.std.proofs.lemmas.List.{get_or-set_same, get_or-set_other, get_or_past}
use Rattle.std.proofs.lemmas.Nat.Bits.{bit_at_and, bit_at_or, bit_at_xor, bit_at-lt, bit_at_not, bit_at-zero}
use Rattle.std.proofs.lemmas.Nat.{pow_pos}
use Rattle.std.proofs.Math.Nat.{pow-suc}
use Rattle.columnar_memory_bits.specs.Words.{word}
use Rattle.columnar_memory_bits.specs.Windows.{window}
use Rattle.columnar_memory_bits.specs.Bits.{bit, bit_at}
use Rattle.columnar_memory_bitmap.specs.Operators.{pairwise, xor}
use Rattle.columnar_memory_bitmap.proofs.Lists.{length-window, get_or-window}
use Rattle.columnar_memory_bitmap.proofs.SameWords.{bit-word}

-- bits are 0 or 1
zero_or_one : (r : ℕ) → r < 2 → (r ≡ 0) ⊎ (r ≡ 1)
zero_or_one zero below = inl refl
zero_or_one (suc zero) below = inr refl
zero_or_one (suc (suc r)) below = absurd (omega arith)

-- what holds of the four pairs of bits holds of all
of_bits : (P : ℕ → ℕ → Type 0) → P 0 0 → P 0 1 → P 1 0 → P 1 1 → (a b : ℕ) → a < 2 → b < 2 → P a b
of_bits P none right left all zero zero small below = none
of_bits P none right left all zero (suc zero) small below = right
of_bits P none right left all (suc zero) zero small below = left
of_bits P none right left all (suc zero) (suc zero) small below = all
of_bits P none right left all a (suc (suc b)) small below = absurd (omega arith)
of_bits P none right left all (suc (suc a)) b small below = absurd (omega arith)

both : (a b : ℕ) → a < 2 → b < 2 → (min a b == 1) ≡ ((a == 1) && (b == 1))
both = of_bits (λ a b. (min a b == 1) ≡ ((a == 1) && (b == 1))) refl refl refl refl

either_of : (a b : ℕ) → a < 2 → b < 2 → (max a b == 1) ≡ ((a == 1) || (b == 1))
either_of = of_bits (λ a b. (max a b == 1) ≡ ((a == 1) || (b == 1))) refl refl refl refl

one_of : (a b : ℕ) → a < 2 → b < 2 → ((a + b) % 2 == 1) ≡ xor (a == 1) (b == 1)
one_of = of_bits (λ a b. ((a + b) % 2 == 1) ≡ xor (a == 1) (b == 1)) refl refl refl refl

pub bit-and : (a b i : ℕ) → bit (bit_and a b) i ≡ (bit a i && bit b i)
unfolding bit
bit-and a b i = ap (λ k. k == 1) (bit_at_and a b i) ∙ both (number.bit_at a i) (number.bit_at b i) (bit_at-lt a i) (bit_at-lt b i)

pub bit-or : (a b i : ℕ) → bit (bit_or a b) i ≡ (bit a i || bit b i)
unfolding bit
bit-or a b i = ap (λ k. k == 1) (bit_at_or a b i) ∙ either_of (number.bit_at a i) (number.bit_at b i) (bit_at-lt a i) (bit_at-lt b i)

pub bit-xor : (a b i : ℕ) → bit (bit_xor a b) i ≡ xor (bit a i) (bit b i)
unfolding bit
bit-xor a b i = ap (λ k. k == 1) (bit_at_xor a b i) ∙ one_of (number.bit_at a i) (number.bit_at b i) (bit_at-lt a i) (bit_at-lt b i)

-- windows of values that are combined
pub pairwise-window : (table : Bool → Bool → Bool) (f g h : ℕ → Bool) (a b c n : ℕ) →
    ((k : ℕ) → k < n → h (c + k) ≡ table (f (a + k)) (g (b + k))) → window h c n ≡ pairwise table (window f a n) (window g b n)
pairwise-window table f g h a b c zero combines = refl
pairwise-window table f g h a b c (suc n) combines =
    let here : h c ≡ table (f a) (g b) = ap h (sym (add-zero c)) ∙ combines 0 (omega arith)
    ∙ ap₂ (λ i j. table (f i) (g j)) (add-zero a) (add-zero b) in
    let later : (k : ℕ) → k < n → h (c + 1 + k) ≡ table (f (a + 1 + k)) (g (b + 1 + k)) = λ (k : ℕ) (inside : k < n).
    let first : c + 1 + k ≡ c + suc k = omega arith in
    let second : a + suc k ≡ a + 1 + k = omega arith in
    let third : b + suc k ≡ b + 1 + k = omega arith in
    ap h first ∙ combines (suc k) (omega arith) ∙ ap₂ (λ i j. table (f i) (g j)) second third in
    ap₂ (λ (x : Bool) xs. x ∷ xs) here (pairwise-window table f g h (a + 1) (b + 1) (c + 1) n later)

-- a byte that was written
pub bit_at-written : (bytes : List ℕ) (i byte k : ℕ) → i < length bytes → k / 8 ≡ i → bit_at (set bytes i byte) k ≡ bit byte (k % 8)
unfolding bit bit_at
bit_at-written bytes i byte k inside here =
    ap (λ b. b / 2 ^ (k % 8) % 2 == 1) (ap (λ j. get_or (set bytes i byte) j 0) here ∙ get_or-set_same bytes i byte 0 inside)

pub bit_at-kept : (bytes : List ℕ) (i byte k : ℕ) → k / 8 ≢ i → bit_at (set bytes i byte) k ≡ bit_at bytes k
unfolding bit_at
bit_at-kept bytes i byte k other = ap (λ b. b / 2 ^ (k % 8) % 2 == 1) (get_or-set_other bytes i (k / 8) byte 0 other)

-- a bit by its byte
pub bit_at-byte : (bytes : List ℕ) (i k : ℕ) → k / 8 ≡ i → bit (slice_index bytes i) (k % 8) ≡ bit_at bytes k
unfolding bit bit_at
bit_at-byte bytes i k here = ap (λ j. slice_index bytes j / 2 ^ (k % 8) % 2 == 1) (sym here)

-- one more byte that is combined
pub combined_more : (table : Bool → Bool → Bool) (initial now : List ℕ) (other : ℕ → Bool) (i byte right : ℕ) → i < length now →
    ((k : ℕ) → k < 8 * i → bit_at now k ≡ table (bit_at initial k) (other k)) → ((k : ℕ) → 8 * i ≤ k → bit_at now k ≡ bit_at initial k) →
    ((j : ℕ) → j < 8 → bit byte j ≡ table (bit (slice_index now i) j) (bit right j)) → ((j : ℕ) → j < 8 → bit right j ≡ other (8 * i + j)) →
    ((k : ℕ) → k < 8 * (i + 1) → bit_at (set now i byte) k ≡ table (bit_at initial k) (other k))
    × ((k : ℕ) → 8 * (i + 1) ≤ k → bit_at (set now i byte) k ≡ bit_at initial k)
combined_more table initial now other i byte right inside before behind combines reads = (
  λ (k : ℕ) (below : k < 8 * (i + 1)).
      ⊎_elim (λ (here : k / 8 ≡ i).
      let place : 8 * i + k % 8 ≡ k = omega arith in
      bit_at-written now i byte k inside here ∙ combines (k % 8) (omega arith)
      ∙ ap₂ (λ a b. table a b) (bit_at-byte now i k here ∙ behind k (omega arith)) (reads (k % 8) (omega arith) ∙ ap other place))
      (λ (other_byte : k / 8 ≢ i). bit_at-kept now i byte k other_byte ∙ before k (omega arith))
      (cases_eq (k / 8) i),
  λ (k : ℕ) (above : 8 * (i + 1) ≤ k). bit_at-kept now i byte k (omega arith) ∙ behind k (omega arith),
)

one_at_most : (x : Bool) → (if x then 1 else 0) ≤ 1
one_at_most true = omega arith
one_at_most false = omega arith

-- a word of fewer than eight bits fits a byte
word_within : (xs : List Bool) (m : ℕ) → length xs ≤ m → word xs < 2 ^ m
word_within [] m few = pow_pos m
word_within (x ∷ xs) zero few = absurd (omega arith)
word_within (x ∷ xs) (suc m) few = omega (arith, word_within xs m (omega arith), pow-suc 2 m, one_at_most x)

pub byte_word : (f : ℕ → Bool) (first n : ℕ) → n ≤ 8 → word (window f first n) < 256
byte_word f first n few = word_within (window f first n) 8 (omega (arith, length-window f first n))

-- the bits of a word of up to eight, and false behind them
pub filled : (bytes : List ℕ) (offset len i count j : ℕ) → count ≡ min (len - 8 * i) 8 → j < 8 →
    bit (word (window (bit_at bytes) (offset + 8 * i) count)) j ≡ (if nat_lt (8 * i + j) len then bit_at bytes (offset + (8 * i + j)) else false)
filled bytes offset len i count j is within =
    let bits = window (bit_at bytes) (offset + 8 * i) count in
    bit-word bits j ∙ ⊎_elim (λ (inside : 8 * i + j < len).
    let place : offset + 8 * i + j ≡ offset + (8 * i + j) = omega arith in
    get_or-window (bit_at bytes) (offset + 8 * i) count j false (omega arith) ∙ ap (bit_at bytes) place
    ∙ sym (ap (λ t. if t then bit_at bytes (offset + (8 * i + j)) else false) (lt-ltb (8 * i + j) len inside)))
    (λ (past : len ≤ 8 * i + j).
    get_or_past bits j false (omega (arith, length-window (bit_at bytes) (offset + 8 * i) count))
    ∙ sym (ap (λ t. if t then bit_at bytes (offset + (8 * i + j)) else false) (le-ltb (8 * i + j) len past)))
    (cases_lt (8 * i + j) len)

-- a byte whose bits are turned
turned_bit : (b : ℕ) → b < 2 → (1 - b == 1) ≡ not (b == 1)
turned_bit zero small = refl
turned_bit (suc zero) small = refl
turned_bit (suc (suc b)) small = absurd (omega arith)

bit-not : (n i : ℕ) → n < 256 → i < 8 → bit (255 - n) i ≡ not (bit n i)
unfolding bit
bit-not n i byte inside = ap (λ k. k == 1) (bit_at_not w8 n i byte inside) ∙ turned_bit (number.bit_at n i) (bit_at-lt n i)

bit-none : (i : ℕ) → bit 0 i ≡ false
unfolding bit
bit-none i = ap (λ k. k == 1) (bit_at-zero i)

-- one more byte whose bits are turned
pub turned_more : (initial now : List ℕ) (i byte : ℕ) → i < length now → slice_index now i < 256 → byte ≡ 255 - slice_index now i →
    ((k : ℕ) → k < 8 * i → bit_at now k ≡ not (bit_at initial k)) → ((k : ℕ) → 8 * i ≤ k → bit_at now k ≡ bit_at initial k) →
    ((k : ℕ) → k < 8 * (i + 1) → bit_at (set now i byte) k ≡ not (bit_at initial k))
    × ((k : ℕ) → 8 * (i + 1) ≤ k → bit_at (set now i byte) k ≡ bit_at initial k)
turned_more initial now i byte inside small is before behind =
    combined_more (λ a b. not a) initial now (λ k. false) i byte 0 inside before behind
    (λ (j : ℕ) (within : j < 8). ap (λ n. bit n j) is ∙ bit-not (slice_index now i) j small within)
    (λ (j : ℕ) (within : j < 8). bit-none j)

-- windows of values that are turned
pub map-not-window : (f g : ℕ → Bool) (a b n : ℕ) → ((k : ℕ) → k < n → g (b + k) ≡ not (f (a + k))) → window g b n ≡ map not (window f a n)
map-not-window f g a b zero turns = refl
map-not-window f g a b (suc n) turns =
    let here : g b ≡ not (f a) = ap g (sym (add-zero b)) ∙ turns 0 (omega arith) ∙ ap (λ i. not (f i)) (add-zero a) in
    let later : (k : ℕ) → k < n → g (b + 1 + k) ≡ not (f (a + 1 + k)) = λ (k : ℕ) (inside : k < n).
    let first : b + 1 + k ≡ b + suc k = omega arith in
    let second : a + suc k ≡ a + 1 + k = omega arith in
    ap g first ∙ turns (suc k) (omega arith) ∙ ap (λ i. not (f i)) second in
    ap₂ (λ (x : Bool) xs. x ∷ xs) here (map-not-window f g (a + 1) (b + 1) n later)
