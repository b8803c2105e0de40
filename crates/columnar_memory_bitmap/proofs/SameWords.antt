-- Bits compared by words.
use Rattle.std.proofs.Common.{◌≡◌, ◌∙◌, ℕ, zero, suc, ◌+◌, ◌-◌, ◌*◌, ◌/◌, ◌%◌, ◌^◌, ◌≤◌, ◌<◌, Bool, true, false, List, [], ◌∷◌, ◌++◌, length, refl}
use Rattle.std.proofs.Common.{ap, ap₂, sym, arith, if◌then◌else◌, Decides, ◌↔◌, IsTrue, ◌==◌, get_or}
use Rattle.std.proofs.Math.Bool.{beq}
use Rattle.std.specs.Prelude.{slice_range}
use Rattle.std.specs.Cmp.Lexicographic.{pointwise, pointwise_decides}
use Rattle.std.proofs.lemmas.Bool.{false≢true}
use Rattle.std.proofs.lemmas.Bool.Decides.{same_from_decides}
use Rattle.std.specs.Int.{w64, bit_at, bit_not, trailing_zeros}
use Rattle.std.specs.Int.Count.{trailing_of_zero}
use Rattle.std.proofs.lemmas.Nat.{trailing_le}
use Rattle.std.proofs.lemmas.Nat.Bits.{bit_at-zero, bit_at_lowest, bit_at-suc, bit_at-lt, bit_at_not, bit_at-trailing_zeros}
use Rattle.columnar_memory_bits.specs.Bits.{bit}
use Rattle.columnar_memory_bits.specs.Windows.{window}
use Rattle.columnar_memory_bits.specs.Words.{word}
use Rattle.columnar_memory_bitmap.proofs.Lists.{window-add, get_or-window, length-window, slice_range-window}

-- the lowest bit and the rest of a word
word_parts : (a b : Bool) (m n : ℕ) → (if a then 1 else 0) + 2 * m ≡ (if b then 1 else 0) + 2 * n → (a ≡ b) × (m ≡ n)
word_parts true true m n same = (refl, omega arith)
word_parts true false m n same = absurd (omega arith)
word_parts false true m n same = absurd (omega arith)
word_parts false false m n same = (refl, omega arith)

-- words tell lists of one length apart
word_injective : (xs ys : List Bool) → length xs ≡ length ys → word xs ≡ word ys → xs ≡ ys
word_injective [] [] long same = refl
word_injective [] (y ∷ ys) long same = absurd (omega arith)
word_injective (x ∷ xs) [] long same = absurd (omega arith)
word_injective (x ∷ xs) (y ∷ ys) long same =
    let parts = word_parts x y (word xs) (word ys) same in
    ap₂ (λ (b : Bool) bs. b ∷ bs) parts.0 (word_injective xs ys (omega arith) parts.1)

-- one more word that is the same
pub same_more : (f g : ℕ → Bool) (a b m n : ℕ) → window f a m ≡ window g b m → word (window f (a + m) n) ≡ word (window g (b + m) n) →
    window f a (m + n) ≡ window g b (m + n)
same_more f g a b m n before here =
    let long : length (window f (a + m) n) ≡ length (window g (b + m) n) = length-window f (a + m) n ∙ sym (length-window g (b + m) n) in
    window-add f a m n ∙ ap₂ (λ (xs ys : List Bool). xs ++ ys) before (word_injective (window f (a + m) n) (window g (b + m) n) long here)
    ∙ sym (window-add g b m n)

-- lists that are the same have the same words
pub same_word : (f g : ℕ → Bool) (a b len m n : ℕ) → m + n ≤ len → window f a len ≡ window g b len →
    word (window f (a + m) n) ≡ word (window g (b + m) n)
same_word f g a b len m n within same =
    ap word (sym (slice_range-window f a len m n within) ∙ ap (λ xs. slice_range xs m (m + n)) same ∙ slice_range-window g b len m n within)

-- the test of equal lists
beq_decides : (x y : Bool) → Decides (beq x y) (x ≡ y)
beq_decides true true = (λ _. refl, λ _. refl)
beq_decides true false = (λ (e : false ≡ true). absurd (cc), λ (e : true ≡ false). absurd (cc))
beq_decides false true = (λ (e : false ≡ true). absurd (cc), λ (e : false ≡ true). absurd (cc))
beq_decides false false = (λ _. refl, λ _. refl)

pub lists_decide : (xs ys : List Bool) → Decides (pointwise beq xs ys) (xs ≡ ys)
lists_decide xs ys = pointwise_decides beq_decides xs ys

-- the test of equal lists, from one that decides
pub equal_by_test : (r : Bool) (xs ys : List Bool) → IsTrue r ↔ (xs ≡ ys) → r ≡ pointwise beq xs ys
equal_by_test r xs ys decides = same_from_decides r (pointwise beq xs ys) decides (lists_decide xs ys)

-- windows of other lengths are not the same
other_lengths : (f g : ℕ → Bool) (a b m n : ℕ) → (m ≡ n → ⊥) → window f a m ≡ window g b n → ⊥
other_lengths f g a b m n other same = other (sym (length-window f a m) ∙ ap length same ∙ length-window g b n)

-- and so a test says of two lists that are such windows
pub false_of_lengths : (f g : ℕ → Bool) (a b m n : ℕ) (xs ys : List Bool) → (m ≡ n → ⊥) → window f a m ≡ xs → window g b n ≡ ys →
    (false ≡ true → xs ≡ ys) × (xs ≡ ys → false ≡ true)
false_of_lengths f g a b m n xs ys other first second = (
  λ (said : false ≡ true). absurd (false≢true said),
  λ (same : xs ≡ ys). absurd (other_lengths f g a b m n other (first ∙ same ∙ sym second)),
)

-- a bit of a word
lowest : (x : Bool) (n : ℕ) → (((if x then 1 else 0) + 2 * n) % 2 == 1) ≡ x
lowest true n = let odd : (1 + 2 * n) % 2 ≡ 1 = omega arith in ap (λ k. k == 1) odd
lowest false n = let even : (0 + 2 * n) % 2 ≡ 0 = omega arith in ap (λ k. k == 1) even

higher : (x : Bool) (n : ℕ) → ((if x then 1 else 0) + 2 * n) / 2 ≡ n
higher true n = omega arith
higher false n = omega arith

pub bit-word : (xs : List Bool) (i : ℕ) → bit (word xs) i ≡ get_or xs i false
unfolding bit
bit-word [] i = ap (λ k. k == 1) (bit_at-zero i)
bit-word (x ∷ xs) zero = ap (λ k. k == 1) (bit_at_lowest (word (x ∷ xs))) ∙ lowest x (word xs)
bit-word (x ∷ xs) (suc i) =
    ap (λ k. k == 1) (bit_at-suc (word (x ∷ xs)) i) ∙ ap (λ k. bit k i) (higher x (word xs)) ∙ bit-word xs i

pub bit-word-window : (f : ℕ → Bool) (first n i : ℕ) → i < n → bit (word (window f first n)) i ≡ f (first + i)
bit-word-window f first n i inside = bit-word (window f first n) i ∙ get_or-window f first n i false inside

-- the zeros below the lowest bit that is set
zeros_below : (n i : ℕ) → n < 2 ^ 64 → i < trailing_zeros w64 n → bit_at n i ≡ 0
zeros_below zero i fits below = bit_at-zero i
zeros_below (suc n) i fits below = (bit_at-trailing_zeros w64 (suc n) (omega arith) fits).2 i below

one_at : (n : ℕ) → n < 2 ^ 64 → trailing_zeros w64 n < 64 → bit_at n (trailing_zeros w64 n) ≡ 1
one_at zero fits inside = let all : trailing_zeros w64 0 ≡ 64 = trailing_of_zero 64 in absurd (omega arith)
one_at (suc n) fits inside = (bit_at-trailing_zeros w64 (suc n) (omega arith) fits).1

-- the same with each bit turned
ones_below : (n i : ℕ) → n < 2 ^ 64 → i < trailing_zeros w64 (bit_not w64 n) → bit_at n i ≡ 1
ones_below n i fits below =
    let bound : i < 64 = omega (arith, trailing_le 64 (bit_not w64 n)) in
    let turned : bit_at (bit_not w64 n) i ≡ 1 - bit_at n i = bit_at_not w64 n i fits bound in
    omega (arith, zeros_below (bit_not w64 n) i (omega arith) below, bit_at-lt n i)

zero_at : (n : ℕ) → n < 2 ^ 64 → trailing_zeros w64 (bit_not w64 n) < 64 → bit_at n (trailing_zeros w64 (bit_not w64 n)) ≡ 0
zero_at n fits inside =
    let turned : bit_at (bit_not w64 n) (trailing_zeros w64 (bit_not w64 n)) ≡ 1 - bit_at n (trailing_zeros w64 (bit_not w64 n)) =
    bit_at_not w64 n (trailing_zeros w64 (bit_not w64 n)) fits inside in
    omega (arith, one_at (bit_not w64 n) (omega arith) inside, bit_at-lt n (trailing_zeros w64 (bit_not w64 n)))

-- the same by the bits of a word
pub unset_below : (n i : ℕ) → n < 2 ^ 64 → i < trailing_zeros w64 n → bit n i ≡ false
unfolding bit
unset_below n i fits below = ap (λ k. k == 1) (zeros_below n i fits below)

pub set_at : (n : ℕ) → n < 2 ^ 64 → trailing_zeros w64 n < 64 → bit n (trailing_zeros w64 n) ≡ true
unfolding bit
set_at n fits inside = ap (λ k. k == 1) (one_at n fits inside)

pub set_below : (n i : ℕ) → n < 2 ^ 64 → i < trailing_zeros w64 (bit_not w64 n) → bit n i ≡ true
unfolding bit
set_below n i fits below = ap (λ k. k == 1) (ones_below n i fits below)

pub unset_at : (n : ℕ) → n < 2 ^ 64 → trailing_zeros w64 (bit_not w64 n) < 64 → bit n (trailing_zeros w64 (bit_not w64 n)) ≡ false
unfolding bit
unset_at n fits inside = ap (λ k. k == 1) (zero_at n fits inside)
