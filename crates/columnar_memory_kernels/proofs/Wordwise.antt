-- Words that are answered one after the other.
use Rattle.std.proofs.Common.{◌≡◌, ◌∙◌, ℕ, zero, suc, ◌+◌, ◌-◌, ◌*◌, ◌^◌, ◌≤◌, ◌<◌, Bool, List, [], ◌∷◌, ◌++◌, length, take, slice_index}
use Rattle.std.proofs.Common.{refl, ap, ap₂, sym, arith, length-append, length-drop, min, drop, get_or, ◌⊎◌, inl, inr, Result, Ok, Err}
use Rattle.std.proofs.lemmas.List.{append-nil, append_assoc, take_all, take_more}
use Rattle.std.proofs.Math.Seq.{take-length}
use Rattle.std.specs.Int.{w64, to_le_bytes}
use Rattle.std.proofs.lemmas.Grind.{flat_map-append}
use Rattle.std.proofs.lemmas.Bool.{cases_lt}
use Rattle.columnar_memory_bitmap.specs.bits.Appends.{AppendsBits}
use Rattle.columnar_memory_bitmap.specs.bits.Bits.{bit, bit_at, IsPacked}
use Rattle.columnar_memory_bitmap.specs.types.declared.error.Error.{Error}
use Rattle.columnar_memory_bitmap.specs.Results.{OrOutOfMemory}
use Rattle.columnar_memory_bitmap.specs.bits.Words.{word, word_at, word_bits, words_bits, words_for}
use Rattle.columnar_memory_bitmap.proofs.bits_lemmas.Windows.{take_window}
use Rattle.columnar_memory_bitmap.proofs.bits_lemmas.Appends.{bit_at_beyond, appends_at, appends_word}
use Rattle.columnar_memory_kernels.specs.Kernels.{IsWordwise, part}
use Rattle.columnar_memory_kernels.proofs.WordLists.{length_words, more_each}

-- the first k words are answered, and these are their booleans
pub record IsAnswered (answers : ℕ → ℕ → Type 0) (k : ℕ) (bits : List Bool) : Type 0 where
  pub answered : List ℕ
  pub counted : length answered ≡ k
  pub each : (j : ℕ) → j < k → answers j (slice_index answered j)
  pub whole : bits ≡ words_bits 64 answered

pub none_answered : (answers : ℕ → ℕ → Type 0) → IsAnswered answers 0 []
none_answered answers = record { answered = []; counted = refl; each = λ j h. absurd (omega arith); whole = refl }

more_bits : (words : List ℕ) (y : ℕ) → words_bits 64 (words ++ y ∷ []) ≡ words_bits 64 words ++ word_bits 64 y
more_bits words y = flat_map-append (word_bits 64) words (y ∷ []) ∙ ap (λ (xs : List Bool). words_bits 64 words ++ xs) (append-nil (word_bits 64 y))

pub next_answered : (answers : ℕ → ℕ → Type 0) (k y : ℕ) (bits more : List Bool) → IsAnswered answers k bits → answers k y →
    more ≡ bits ++ word_bits 64 y →
    IsAnswered answers (k + 1) more
next_answered answers k y bits more so_far here e = record {
  answered = so_far.answered ++ y ∷ [];
  counted = length-append so_far.answered (y ∷ []) ∙ ap (λ n. n + 1) so_far.counted;
  each = λ j h. more_each answers so_far.answered k y j so_far.counted so_far.each here h (cases_lt j k);
  whole = e ∙ ap (λ (xs : List Bool). xs ++ word_bits 64 y) so_far.whole ∙ sym (more_bits so_far.answered y);
}

-- all words are whole
pub all_answered : (answers : ℕ → ℕ → Type 0) (k n : ℕ) (bits : List Bool) → IsAnswered answers k bits → n ≡ 64 * k → IsWordwise 64 answers n bits
all_answered answers k n bits so_far e =
    let count : k ≡ words_for 64 n = omega arith in
    record {
      answered = so_far.answered;
      counted = so_far.counted ∙ count;
      each = λ j h. so_far.each j (omega arith);
      cut = so_far.whole ∙ sym (take_all n (words_bits 64 so_far.answered) (omega (arith, length_words 64 so_far.answered, so_far.counted)));
    }

-- the first of two lists and some of the second
take_both : (xs ys : List Bool) (m n : ℕ) → length xs ≡ m → take (m + n) (xs ++ ys) ≡ xs ++ take n ys
take_both [] ys m n e = let none : m + n ≡ n = omega arith in ap (λ k. take k ys) none
take_both (x ∷ xs) ys zero n e = absurd (omega arith)
take_both (x ∷ xs) ys (suc m) n e =
    let count : suc m + n ≡ suc (m + n) = omega arith in
    ap (λ k. take k (x ∷ (xs ++ ys))) count ∙ ap (λ rest. x ∷ rest) (take_both xs ys m n (omega arith))

-- the last word is cut
pub last_answered : (answers : ℕ → ℕ → Type 0) (k rest y n : ℕ) (bits more : List Bool) → IsAnswered answers k bits → answers k y → 0 < rest →
    rest < 64 →
    n ≡ 64 * k + rest → more ≡ bits ++ word_bits rest y → IsWordwise 64 answers n more
last_answered answers k rest y n bits more so_far here some few e last =
    let all = next_answered answers k y bits (bits ++ word_bits 64 y) so_far here refl in
    let count : k + 1 ≡ words_for 64 n = omega arith in
    let size : length bits ≡ 64 * k = ap length so_far.whole ∙ length_words 64 so_far.answered ∙ ap (λ m. 64 * m) so_far.counted in
    let within : rest ≤ 64 = omega arith in
    record {
      answered = all.answered;
      counted = all.counted ∙ count;
      each = λ j h. all.each j (omega arith);
      cut = last ∙ ap (λ (xs : List Bool). bits ++ xs) (sym (take_window (bit y) 0 rest 64 within))
          ∙ sym (take_both bits (word_bits 64 y) (64 * k) rest size)
          ∙ ap₂ (λ (m : ℕ) (xs : List Bool). take m xs) (sym e) all.whole;
    }

-- ---- the parts of some bits

take_most : (rest : List Bool) → (64 < length rest) ⊎ (length rest ≤ 64) → take (min 64 (length rest)) rest ≡ take 64 rest
take_most rest (inl more) = let count : min 64 (length rest) ≡ 64 = omega arith in ap (λ n. take n rest) count
take_most rest (inr few) =
    let most : length rest ≤ min 64 (length rest) = omega arith in
    take_all (min 64 (length rest)) rest most ∙ sym (take_all 64 rest few)

-- a part of 64 bits, or of those that are left, is a word
pub part_is_word : (bits : List Bool) (n k : ℕ) → n ≡ length bits → part bits (64 * k) (min 64 (n - 64 * k)) ≡ word_at 64 bits k
part_is_word bits n k e =
    let rest = drop (64 * k) bits in
    let count : min 64 (n - 64 * k) ≡ min 64 (length rest) = omega (arith, length-drop (64 * k) bits) in
    ap (λ m. part bits (64 * k) m) count ∙ ap word (take_most rest (cases_lt 64 (length rest)))

-- what a kernel answers, where it answers the words as the parts
pub words_answered : (parts answers : ℕ → ℕ → Type 0) (n : ℕ) (bits made : List Bool) (result : Result (List Bool) Error) → n ≡ length bits →
    IsWordwise 64 parts n made → OrOutOfMemory result (λ b. b ≡ made) → ((k y : ℕ) → parts k y → answers k y) →
    OrOutOfMemory result (IsWordwise 64 answers (length bits))
words_answered parts answers n bits made (Ok b) size all is known = record {
  answered = all.answered;
  counted = all.counted ∙ ap (words_for 64) size;
  each = λ k h. let within : k < words_for 64 n = omega (arith, size) in known k (slice_index all.answered k) (all.each k within);
  cut = is ∙ all.cut ∙ ap (λ m. take m (words_bits 64 all.answered)) size;
}
words_answered parts answers n bits made (Err e) size all is known = is

-- no bytes hold no bits
pub packed_none : (bytes : List ℕ) → bytes ≡ [] → IsPacked bytes 0
packed_none bytes e = record {
  counted = ap length e;
  zeros = λ i h. ap (λ bs. bit_at bs i) e ∙ bit_at_beyond [] i (omega arith);
}

-- ---- the bytes of a word behind those of others

-- one byte more
pub one_byte_more : (xs : List ℕ) (i : ℕ) (x : ℕ) (old mid new : List ℕ) → i < length xs → mid ≡ old ++ take i xs →
    new ≡ mid ++ get_or xs i x ∷ [] → new ≡ old ++ take (i + 1) xs
one_byte_more xs i x old mid new inside so_far added =
    added ∙ ap (λ (front : List ℕ). front ++ get_or xs i x ∷ []) so_far ∙ append_assoc old (take i xs) (get_or xs i x ∷ [])
    ∙ ap (λ (ys : List ℕ). old ++ ys) (sym (take_more xs i x inside))

-- a word behind whole words
pub word_appended : (old new : List ℕ) (k y : ℕ) → IsPacked old (64 * k) → y < 2 ^ 64 → new ≡ old ++ to_le_bytes w64 y →
    AppendsBits old new (64 * k) (bit y) 64
word_appended old new k y packed small e =
    let place : 8 * length old ≡ 64 * k = omega (arith, packed.counted) in
    appends_at old new (bit y) (8 * length old) (64 * k) 64 64 place refl
    (appends_word old new y 64 (omega arith) small (e ∙ ap (λ (bytes : List ℕ). old ++ bytes) (sym (take-length (to_le_bytes w64 y)))))
