-- Words that are written in place, one after the other.
use Rattle.std.proofs.Common.{◌≡◌, ◌∙◌, ℕ, ◌+◌, ◌-◌, ◌*◌, ◌/◌, ◌%◌, ◌≤◌, ◌<◌, Bool, false, List, [], ◌∷◌, ◌++◌, length, take, get_or}
use Rattle.std.proofs.Common.{slice_index, refl, ap, ap₂, sym, ◌==◌, ◌≢◌, if◌then◌else◌, subst, arith, ◌⊎◌, inl, inr, length-append, min}
use Rattle.std.proofs.Math.Nat.{mul-le-mul_left}
use Rattle.std.proofs.lemmas.List.{get_or_append_left, get_or-append_right, get_or-take, take_all, length-take-le}
use Rattle.std.proofs.lemmas.Nat.{div-mul-add}
use Rattle.std.proofs.lemmas.Grind.{div_ceil_times}
use Rattle.std.proofs.lemmas.Bool.{cases_lt, cases_eq, eq-eqb, ne_eqb}
use Rattle.columnar_memory_bitmap.specs.bits.Windows.{window}
use Rattle.columnar_memory_bitmap.specs.bits.Bits.{bit, bit_at, bits_of}
use Rattle.columnar_memory_bitmap.specs.bits.Words.{word, word_at, words_bits, words_for}
use Rattle.columnar_memory_bitmap.proofs.bits_lemmas.Windows.{length_window, window_is, window_same, drop_window, take_window}
use Rattle.columnar_memory_bitmap.proofs.bits_lemmas.Bits.{bit_same, bit_at_byte, digit_mod, digit_shr}
use Rattle.std.specs.Int as number
use Rattle.std.proofs.Common.{◌^◌, set, get_or-set_same, get_or-set_other}
use Rattle.columnar_memory_kernels.specs.Kernels.{IsWordwise}
use Rattle.columnar_memory_kernels.proofs.WordLists.{length_words, get_or_words, more_each}
use Rattle.columnar_memory_kernels.specs.Writes.{WritesWord}

-- ---- places of words

-- a word begins among the bits
pub word_begins : (w n k : ℕ) → 0 < w → k < words_for w n → w * k < n
word_begins w n k some h =
    let more : k + 1 ≤ (n + w - 1) / w = omega arith in
    let whole : w * ((n + w - 1) / w) ≤ n + w - 1 = omega arith in
    omega (arith, mul-le-mul_left w more, whole)

-- each place is in a word
pub place_in_word : (w n i : ℕ) → 0 < w → i < n → i / w < words_for w n
place_in_word w n i some h = elim (cases_lt (i / w) (words_for w n)) [
  | inl less ↦ less
  | inr more ↦ absurd (
      let whole : n + w - 1 < w * ((n + w - 1) / w) + w = omega arith in
      let begin : w * (i / w) ≤ i = omega arith in
      omega (arith, mul-le-mul_left w more, whole, begin))
]

-- how many words there are
pub words_are : (w n : ℕ) → 0 < w → n / w + min 1 (n % w) ≡ words_for w n
words_are w n some =
    let words = n / w + min 1 (n % w) in
    let bounds = div_ceil_times n w some in
    let whole : words * w + (n + w - 1 - words * w) ≡ n + w - 1 = omega (arith, bounds.1) in
    sym (ap (λ m. m / w) (sym whole) ∙ div-mul-add words w (n + w - 1 - words * w) (omega (arith, bounds.0)))

-- ---- bytes of which the first k words are written

pub record IsWritten (w : ℕ) (answers : ℕ → ℕ → Type 0) (len k : ℕ) (old new : List ℕ) : Type 0 where
  pub answered : List ℕ
  pub counted : length answered ≡ k
  pub each : (j : ℕ) → j < k → answers j (slice_index answered j)
  pub written : (j r : ℕ) → j < k → r < w → w * j + r < len → bit_at new (w * j + r) ≡ bit (slice_index answered j) r
  pub behind : (i : ℕ) → w * k ≤ i → bit_at new i ≡ bit_at old i

pub none_written : (w : ℕ) (answers : ℕ → ℕ → Type 0) (len : ℕ) (old : List ℕ) → IsWritten w answers len 0 old old
none_written w answers len old = record {
  answered = [];
  counted = refl;
  each = λ j h. absurd (omega arith);
  written = λ j r h. absurd (omega arith);
  behind = λ i h. refl;
}

module _ (w : ℕ) (answers : ℕ → ℕ → Type 0) (len k n y : ℕ) (old mid new : List ℕ) (so_far : IsWritten w answers len k old mid) (here : answers k y)
    (writes : WritesWord mid new (w * k) y n) (few : n ≤ w) (most : (n ≡ w) ⊎ (w * k + n ≡ len)) where
  more : List ℕ
  more = so_far.answered ++ y ∷ []

  before_is : (j : ℕ) → j < k → slice_index (so_far.answered ++ y ∷ []) j ≡ slice_index so_far.answered j
  before_is j h = get_or_append_left so_far.answered (y ∷ []) 0 j (omega (arith, so_far.counted))

  last_is : (j : ℕ) → j ≡ k → slice_index (so_far.answered ++ y ∷ []) j ≡ y
  last_is j e =
      let none : j - k ≡ 0 = omega arith in
      get_or-append_right so_far.answered (y ∷ []) k j 0 so_far.counted (omega arith) ∙ ap (λ (i : ℕ). get_or (y ∷ []) i 0) none

  in_last : (r : ℕ) → r < w → w * k + r < len → (n ≡ w) ⊎ (w * k + n ≡ len) → r < n
  in_last r low within (inl whole) = omega arith
  in_last r low within (inr rest) = omega arith

  written_more : (j r : ℕ) → j < k + 1 → r < w → w * j + r < len → (j < k) ⊎ (k ≤ j) →
      bit_at new (w * j + r) ≡ bit (slice_index (so_far.answered ++ y ∷ []) j) r
  written_more j r h low within (inl before) =
      let next : j + 1 ≤ k = omega arith in
      writes.before (w * j + r) (omega (arith, mul-le-mul_left w next)) ∙ so_far.written j r before low within
      ∙ ap (λ m. bit m r) (sym (before_is j before))
  written_more j r h low within (inr last) =
      let place : j ≡ k = omega arith in
      let same : w * j ≡ w * k = ap (λ m. w * m) place in
      ap (λ m. bit_at new (m + r)) same ∙ writes.written r (in_last r low (omega (arith, same)) most)
      ∙ ap (λ m. bit m r) (sym (last_is j place))

  pub next_written : IsWritten w answers len (k + 1) old new
  next_written = record {
    answered = so_far.answered ++ y ∷ [];
    counted = length-append so_far.answered (y ∷ []) ∙ ap (λ m. m + 1) so_far.counted;
    each = λ j h. more_each answers so_far.answered k y j so_far.counted so_far.each here h (cases_lt j k);
    written = λ j r h low within. written_more j r h low within (cases_lt j k);
    behind = λ i h. let next : w * (k + 1) ≡ w * k + w = omega arith in
        writes.behind i (omega (arith, next)) ∙ so_far.behind i (omega (arith, next));
  }

-- all words are written
pub all_written : (w : ℕ) (answers : ℕ → ℕ → Type 0) (len : ℕ) (old new : List ℕ) → 0 < w → IsWritten w answers len (words_for w len) old new →
    IsWordwise w answers len (bits_of new 0 len)
all_written w answers len old new some all =
    let words = words_bits w all.answered in
    let count : length words ≡ w * words_for w len = length_words w all.answered ∙ ap (λ m. w * m) all.counted in
    let whole : len + w - 1 < w * ((len + w - 1) / w) + w = omega arith in
    let size : length (take len words) ≡ len = length-take-le len words (omega (arith, count, whole)) in
    record {
      answered = all.answered;
      counted = all.counted;
      each = all.each;
      cut = sym (window_is (bit_at new) 0 (take len words) false (λ i h.
          let within : i < len = omega (arith, size) in
          let place : w * (i / w) + i % w ≡ i = omega arith in
          let low : i % w < w = omega arith in
          let in_word = place_in_word w len i some within in
          get_or-take len words i false within ∙ ap (λ (m : ℕ). get_or words m false) (sym place)
          ∙ get_or_words w all.answered (i / w) (i % w) (omega (arith, in_word, all.counted)) low
          ∙ sym (all.written (i / w) (i % w) in_word low (omega arith)) ∙ ap (bit_at new) (omega (arith, place)))
          ∙ ap (window (bit_at new) 0) size);
    }

-- ---- the words of some bits of bytes

pub word_of_bits : (w : ℕ) (bytes : List ℕ) (offset len k n : ℕ) → n ≤ w → w * k + n ≤ len → (n ≡ w) ⊎ (w * k + n ≡ len) →
    word (bits_of bytes (offset + w * k) n) ≡ word_at w (bits_of bytes offset len) k
word_of_bits w bytes offset len k n few within (inl whole) =
    let left : len ≡ w * k + (len - w * k) = omega arith in
    ap word (sym (ap (take w) (drop_window (bit_at bytes) offset (w * k) (len - w * k) len left)
    ∙ take_window (bit_at bytes) (offset + w * k) w (len - w * k) (omega arith) ∙ ap (window (bit_at bytes) (offset + w * k)) (sym whole)))
word_of_bits w bytes offset len k n few within (inr rest) =
    ap word (sym (ap (take w) (drop_window (bit_at bytes) offset (w * k) n len (sym rest))
    ∙ take_all w (bits_of bytes (offset + w * k) n) (omega (arith, length_window (bit_at bytes) (offset + w * k) n))))

-- a word that is still to be written
pub word_behind : (w : ℕ) (answers : ℕ → ℕ → Type 0) (old mid : List ℕ) (len k n : ℕ) → IsWritten w answers len k old mid → n ≤ w →
    w * k + n ≤ len → (n ≡ w) ⊎ (w * k + n ≡ len) → word (bits_of mid (w * k) n) ≡ word_at w (bits_of old 0 len) k
word_behind w answers old mid len k n so_far few within most =
    ap word (window_same (bit_at mid) (bit_at old) (w * k) (0 + w * k) n (λ i h.
    so_far.behind (w * k + i) (omega arith) ∙ ap (bit_at old) (omega arith)))
    ∙ word_of_bits w old 0 len k n few within most

-- ---- the same where a number is the width

module _ (w b len k n : ℕ) (e : b ≡ w) (few : n ≤ b) (most : (n ≡ b) ⊎ (b * k + n ≡ len)) where
  most_is : (n ≡ w) ⊎ (w * k + n ≡ len)
  most_is = subst (λ m. (n ≡ m) ⊎ (m * k + n ≡ len)) e most

  pub step_written : (answers : ℕ → ℕ → Type 0) (y : ℕ) (old mid new : List ℕ) → IsWritten w answers len k old mid → answers k y →
      WritesWord mid new (b * k) y n → IsWritten w answers len (k + 1) old new
  step_written answers y old mid new so_far here writes =
      next_written w answers len k n y old mid new so_far here (subst (λ m. WritesWord mid new (m * k) y n) e writes) (omega (arith, few, e)) most_is

  pub step_behind : (answers : ℕ → ℕ → Type 0) (old mid : List ℕ) (x : ℕ) → IsWritten w answers len k old mid → b * k + n ≤ len →
      x ≡ word (bits_of mid (b * k) n) → x ≡ word_at w (bits_of old 0 len) k
  step_behind answers old mid x so_far within load =
      load ∙ ap (λ m. word (bits_of mid (m * k) n)) e
      ∙ word_behind w answers old mid len k n so_far (omega (arith, few, e)) (subst (λ m. m * k + n ≤ len) e within) most_is

  pub step_other : (bytes : List ℕ) (offset x : ℕ) → b * k + n ≤ len → x ≡ word (bits_of bytes (offset + b * k) n) →
      x ≡ word_at w (bits_of bytes offset len) k
  step_other bytes offset x within load =
      load ∙ ap (λ m. word (bits_of bytes (offset + m * k) n)) e
      ∙ word_of_bits w bytes offset len k n (omega (arith, few, e)) (subst (λ m. m * k + n ≤ len) e within) most_is

pub end_written : (w b len k last : ℕ) (answers : ℕ → ℕ → Type 0) (old new : List ℕ) → b ≡ w → 0 < w → last ≡ len / b + min 1 (len % b) → k ≡ last →
    IsWritten w answers len k old new → IsWordwise w answers len (bits_of new 0 len)
end_written w b len k last answers old new e some count end all =
    let words : k ≡ words_for w len = end ∙ count ∙ ap (λ m. len / m + min 1 (len % m)) e ∙ words_are w len some in
    all_written w answers len old new some (subst (λ m. IsWritten w answers len m old new) words all)

-- ---- bits of a word that are written one after the other

pub no_bits : (bytes : List ℕ) (first x : ℕ) → WritesWord bytes bytes first x 0
no_bits bytes first x = record { before = λ i h. refl; written = λ i h. absurd (omega arith); behind = λ i h. refl }

pub one_bit : (old mid new : List ℕ) (first x n : ℕ) (value : Bool) → WritesWord old mid first x n → value ≡ bit x n →
    ((j : ℕ) → bit_at new j ≡ (if j == first + n then value else bit_at mid j)) → WritesWord old new first x (n + 1)
one_bit old mid new first x n value so_far e set = record {
  before = λ i h. set i ∙ other i (omega arith) ∙ so_far.before i h;
  written = λ i h. elim (cases_eq i n) [
    | inl same ↦ set (first + i) ∙ there i same ∙ e ∙ ap (bit x) (sym same)
    | inr apart ↦ set (first + i) ∙ other (first + i) (λ k. apart (omega arith)) ∙ so_far.written i (beyond i n h apart)
  ];
  behind = λ i h. set i ∙ other i (omega arith) ∙ so_far.behind i (omega arith);
} where
  other : (j : ℕ) → (j ≢ first + n) → (if j == first + n then value else bit_at mid j) ≡ bit_at mid j
  other j apart = rw (ne_eqb j (first + n) apart) refl

  there : (i : ℕ) → i ≡ n → (if first + i == first + n then value else bit_at mid (first + i)) ≡ value
  there i same = rw (eq-eqb (first + i) (first + n) (ap (λ m. first + m) same)) refl

  beyond : (i n : ℕ) → i < n + 1 → (i ≢ n) → i < n
  beyond i n h apart = elim (cases_lt i n) [ inl less ↦ less | inr more ↦ absurd (apart (omega arith)) ]

-- ---- bytes of a word that are written one after the other

bit_of_byte : (x k i : ℕ) → 8 * k ≤ i → i < 8 * k + 8 → bit (x / 2 ^ (8 * k) % 2 ^ 8) (i % 8) ≡ bit x i
bit_of_byte x k i from to =
    let low : i % 8 < 8 = omega arith in
    let place : 8 * k + i % 8 ≡ i = omega arith in
    bit_same (x / 2 ^ (8 * k) % 2 ^ 8) x (i % 8) i
    (digit_mod (x / 2 ^ (8 * k)) 8 (i % 8) low ∙ digit_shr x (8 * k) (i % 8) ∙ ap (number.bit_at x) place)

module _ (old mid new : List ℕ) (first x k place v : ℕ) (so_far : WritesWord old mid first x (8 * k)) (e : v ≡ x / 2 ^ (8 * k) % 2 ^ 8)
    (set_is : new ≡ set mid place v) (place_is : place ≡ first / 8 + k) (aligned : first % 8 ≡ 0) (within : place < length mid) where
  other_byte : (j : ℕ) → (j / 8 ≢ place) → bit_at new j ≡ bit_at mid j
  other_byte j apart =
      bit_at_byte new j ∙ ap (λ (bs : List ℕ). bit (get_or bs (j / 8) 0) (j % 8)) set_is
      ∙ ap (λ m. bit m (j % 8)) (get_or-set_other mid place (j / 8) v 0 apart) ∙ sym (bit_at_byte mid j)

  this_byte : (j : ℕ) → j / 8 ≡ place → bit_at new j ≡ bit v (j % 8)
  this_byte j same =
      bit_at_byte new j ∙ ap (λ (bs : List ℕ). bit (get_or bs (j / 8) 0) (j % 8)) set_is
      ∙ ap (λ (m : ℕ). bit (get_or (set mid place v) m 0) (j % 8)) same ∙ ap (λ m. bit m (j % 8)) (get_or-set_same mid place v 0 within)

  written_byte : (i : ℕ) → i < 8 * k + 8 → (i < 8 * k) ⊎ (8 * k ≤ i) → bit_at new (first + i) ≡ bit x i
  written_byte i h (inl before) =
      let outside : (first + i) / 8 < place = omega arith in
      other_byte (first + i) (λ same. absurd (omega arith)) ∙ so_far.written i before
  written_byte i h (inr here) =
      let inside : (first + i) / 8 ≡ place = omega arith in
      let low : (first + i) % 8 ≡ i % 8 = omega arith in
      this_byte (first + i) inside ∙ ap₂ bit e low ∙ bit_of_byte x k i here h

  pub one_byte : WritesWord old new first x (8 * (k + 1))
  one_byte = record {
    before = λ i h. let outside : i / 8 < place = omega arith in other_byte i (λ same. absurd (omega arith)) ∙ so_far.before i h;
    written = λ i h. written_byte i (omega arith) (cases_lt i (8 * k));
    behind = λ i h. let outside : place < i / 8 = omega arith in
        other_byte i (λ same. absurd (omega arith)) ∙ so_far.behind i (omega arith);
  }
