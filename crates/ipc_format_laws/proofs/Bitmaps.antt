-- A bitmap gives back its tests, bit by bit (Arrow columnar format, "Validity bitmaps").
use Rattle.std.proofs.Common.{inl, inr, ◌≡◌, ◌∙◌, ℕ, zero, suc, ◌+◌, ◌-◌, ◌*◌, ◌/◌, ◌%◌, ◌^◌, ◌≤◌, ◌<◌, Bool, true, false, List, [], ◌∷◌, length}
use Rattle.std.proofs.Common.{get_or, take, drop, refl, sym, ap, ap₂, arith, min, if◌then◌else◌, ◌==◌, slice_index}
use Rattle.std.proofs.lemmas.Bool.{cases_lt}
use Rattle.std.proofs.lemmas.List.{get_or-take, get_or-drop, length-take, length-drop}
use Rattle.std.proofs.lemmas.Nat.{shr-shr}
use Rattle.ipc_format_grammar.specs.Values.{bit_at}
use Rattle.ipc_format_grammar.specs.Buffers.{bits_by, bitmap_by}

-- a byte for each eight things
pub bitmap_size : {A : Type 0} (test : A → Bool) (most : ℕ) (xs : List A) → length xs ≤ most
    → (length xs + 7) / 8 ≡ length (bitmap_by test most xs)
bitmap_size test zero [] fits = refl
bitmap_size test zero (x ∷ xs) fits = absurd (omega arith)
bitmap_size test (suc most) [] fits = refl
bitmap_size test (suc most) (x ∷ xs) fits =
    let rest : length (drop 8 (x ∷ xs)) ≡ suc (length xs) - 8 = length-drop 8 (x ∷ xs) in
    let others : (length (drop 8 (x ∷ xs)) + 7) / 8 ≡ length (bitmap_by test most (drop 8 (x ∷ xs))) =
    bitmap_size test most (drop 8 (x ∷ xs)) (omega arith) in
    omega arith

-- the lowest bit
lowest : (b : Bool) (n : ℕ) → (((if b then 1 else 0) + 2 * n) / 2 ^ 0 % 2 == 1) ≡ b
lowest true n = let one : (1 + 2 * n) / 1 % 2 ≡ 1 = omega arith in ap (λ k. k == 1) one
lowest false n = let none : (0 + 2 * n) / 1 % 2 ≡ 0 = omega arith in ap (λ k. k == 1) none

half_of : (b : Bool) (n : ℕ) → ((if b then 1 else 0) + 2 * n) / 2 ≡ n
half_of true n = omega arith
half_of false n = omega arith

-- the bits above it
above : (b : Bool) (n i : ℕ) → ((if b then 1 else 0) + 2 * n) / 2 ^ suc i ≡ n / 2 ^ i
above b n i =
    let m : ℕ = (if b then 1 else 0) + 2 * n in
    let order : suc i ≡ 1 + i = omega arith in
    ap (λ k. m / 2 ^ k) order ∙ sym (shr-shr m 1 i) ∙ ap (λ k. k / 2 ^ i) (half_of b n)

bit_of_bits : {A : Type 0} (test : A → Bool) (xs : List A) (i : ℕ) (d : A) → i < length xs
    → (bits_by test xs / 2 ^ i % 2 == 1) ≡ test (get_or xs i d)
bit_of_bits test [] i d inside = absurd (omega arith)
bit_of_bits test (x ∷ xs) zero d inside = lowest (test x) (bits_by test xs)
bit_of_bits test (x ∷ xs) (suc i) d inside =
    ap (λ k. k % 2 == 1) (above (test x) (bits_by test xs) i) ∙ bit_of_bits test xs i d (omega arith)

-- bit i is the test of thing i
pub bit_back : {A : Type 0} (test : A → Bool) (most : ℕ) (xs : List A) (i : ℕ) (d : A) → length xs ≤ most → i < length xs
    → bit_at (bitmap_by test most xs) i ≡ test (get_or xs i d)
bit_back test zero [] i d fits inside = absurd (omega arith)
bit_back test zero (x ∷ xs) i d fits inside = absurd (omega arith)
bit_back test (suc most) [] i d fits inside = absurd (omega arith)
bit_back test (suc most) (x ∷ xs) i d fits inside = elim (cases_lt i 8) [
  | inl few ↦
      let place : i / 8 ≡ 0 = omega arith in
      let bit : i % 8 ≡ i = omega arith in
      let size : length (take 8 (x ∷ xs)) ≡ min 8 (suc (length xs)) = length-take 8 (x ∷ xs) in
      ap₂ (λ j k. slice_index (bitmap_by test (suc most) (x ∷ xs)) j / 2 ^ k % 2 == 1) place bit
      ∙ bit_of_bits test (take 8 (x ∷ xs)) i d (omega arith) ∙ ap test (get_or-take 8 (x ∷ xs) i d few)
  | inr enough ↦
      let place : i / 8 ≡ suc ((i - 8) / 8) = omega arith in
      let bit : i % 8 ≡ (i - 8) % 8 = omega arith in
      let rest : length (drop 8 (x ∷ xs)) ≡ suc (length xs) - 8 = length-drop 8 (x ∷ xs) in
      let at : 8 + (i - 8) ≡ i = omega arith in
      ap₂ (λ j k. slice_index (bitmap_by test (suc most) (x ∷ xs)) j / 2 ^ k % 2 == 1) place bit
      ∙ bit_back test most (drop 8 (x ∷ xs)) (i - 8) d (omega arith) (omega arith)
      ∙ ap test (get_or-drop 8 (x ∷ xs) (i - 8) d ∙ ap (λ j. get_or (x ∷ xs) j d) at)
]
