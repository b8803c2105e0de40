-- How many booleans are true and how many false.
use Rattle.std.proofs.Common.{◌≡◌, ◌∙◌, refl, sym, ap, ℕ, ◌+◌, ◌-◌, ◌≤◌, count_ones, arith}
use Rattle.std.proofs.Common.{Bool, true, false, not, cond, List, [], ◌∷◌, ◌++◌, length, count_by}
use Rattle.std.proofs.lemmas.List.Sums.{sum_by-cons, sum_by-append}
use Rattle.columnar_memory_bits.specs.Bits.{bit_at, bits_of, unset_count}
use Rattle.columnar_memory_bits.specs.Words.{word}
use Rattle.columnar_memory_bits.proofs.Windows.{length_window, window_append}
use Rattle.columnar_memory_bits.proofs.Words.{ones_word}

-- how many are true
abbrev pub set_count : List Bool → ℕ
set_count bits = count_by (λ b. b) bits

pub set_count_append : (xs ys : List Bool) → set_count (xs ++ ys) ≡ set_count xs + set_count ys
set_count_append xs ys = sum_by-append _ xs ys

pub unset_count_append : (xs ys : List Bool) → unset_count (xs ++ ys) ≡ unset_count xs + unset_count ys
unset_count_append xs ys = sum_by-append _ xs ys

-- each is true or false
pub counts_all : (bits : List Bool) → set_count bits + unset_count bits ≡ length bits
counts_all [] = refl
counts_all (true ∷ bits) = omega (
  arith,
  counts_all bits,
  sum_by-cons (λ (b : Bool). cond b 1 0) true bits,
  sum_by-cons (λ (b : Bool). cond (not b) 1 0) true bits,
)
counts_all (false ∷ bits) = omega (
  arith,
  counts_all bits,
  sum_by-cons (λ (b : Bool). cond b 1 0) false bits,
  sum_by-cons (λ (b : Bool). cond (not b) 1 0) false bits,
)

pub unset_count_le : (bits : List Bool) → unset_count bits ≤ length bits
unset_count_le bits = omega (arith, counts_all bits)

-- one word more is counted
pub ones_next : (bytes : List ℕ) (first done n : ℕ) (x : ℕ) → x ≡ word (bits_of bytes (first + done) n) →
    set_count (bits_of bytes first (done + n)) ≡ set_count (bits_of bytes first done) + count_ones x
ones_next bytes first done n x e =
    ap set_count (window_append (bit_at bytes) first done n)
    ∙ set_count_append (bits_of bytes first done) (bits_of bytes (first + done) n)
    ∙ ap (λ m. set_count (bits_of bytes first done) + m) (sym (ones_word (bits_of bytes (first + done) n)) ∙ ap count_ones (sym e))

-- the ones of the word that some bits make
pub word_ones : (bytes : List ℕ) (first n : ℕ) (x : ℕ) → x ≡ word (bits_of bytes first n) → count_ones x ≡ set_count (bits_of bytes first n)
word_ones bytes first n x e = ap count_ones e ∙ ones_word (bits_of bytes first n)

pub set_count_most : (bytes : List ℕ) (first n : ℕ) → set_count (bits_of bytes first n) ≤ n
set_count_most bytes first n = omega (arith, counts_all (bits_of bytes first n), length_window (bit_at bytes) first n)

pub unset_from_set : (bytes : List ℕ) (first n ones : ℕ) → ones ≡ set_count (bits_of bytes first n) → n - ones ≡ unset_count (bits_of bytes first n)
unset_from_set bytes first n ones e = omega (arith, e, counts_all (bits_of bytes first n), length_window (bit_at bytes) first n)
