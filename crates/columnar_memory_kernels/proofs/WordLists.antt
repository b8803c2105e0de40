-- Words one after another: their booleans, and one answer more.
use Rattle.std.proofs.Common.{◌≡◌, ◌∙◌, ℕ, zero, suc, ◌+◌, ◌-◌, ◌*◌, ◌/◌, ◌%◌, ◌≤◌, ◌<◌, false, List, [], ◌∷◌, ◌++◌, length, get_or}
use Rattle.std.proofs.Common.{slice_index, ap, sym, subst, arith, ◌⊎◌, inl, inr, length-append}
use Rattle.std.proofs.Math.Nat.{div-lt_iff_lt-mul}
use Rattle.std.proofs.lemmas.List.{get_or_append_left, get_or-append_right}
use Rattle.columnar_memory_bitmap.specs.bits.Bits.{bit}
use Rattle.columnar_memory_bitmap.specs.bits.Words.{word_bits, words_bits}
use Rattle.columnar_memory_bitmap.proofs.bits_lemmas.Windows.{length_window, get_or_window}

pub length_words : (w : ℕ) (words : List ℕ) → length (words_bits w words) ≡ w * length words
length_words w [] = omega arith
length_words w (x ∷ words) =
    omega (arith, length-append (word_bits w x) (words_bits w words), length_window (bit x) 0 w, length_words w words)

pub get_or_words : (w : ℕ) (words : List ℕ) (j r : ℕ) → j < length words → r < w →
    get_or (words_bits w words) (w * j + r) false ≡ bit (get_or words j 0) r
get_or_words w [] j r h low = absurd (omega arith)
get_or_words w (x ∷ words) zero r h low =
    let size : length (word_bits w x) ≡ w = length_window (bit x) 0 w in
    let place : w * zero + r ≡ r = omega arith in
    ap (λ (i : ℕ). get_or (word_bits w x ++ words_bits w words) i false) place
    ∙ get_or_append_left (word_bits w x) (words_bits w words) false r (omega (arith, size)) ∙ get_or_window (bit x) 0 w r false low
    ∙ ap (bit x) (omega arith)
get_or_words w (x ∷ words) (suc j) r h low =
    let place : w * suc j + r - w ≡ w * j + r = omega arith in
    get_or-append_right (word_bits w x) (words_bits w words) w (w * suc j + r) false (length_window (bit x) 0 w) (omega arith)
    ∙ ap (λ (i : ℕ). get_or (words_bits w words) i false) place ∙ get_or_words w words j r (omega arith) low

-- a boolean by its word and its place there
pub get_or_place : (w : ℕ) (words : List ℕ) (i : ℕ) → 0 < w → i < w * length words →
    get_or (words_bits w words) i false ≡ bit (get_or words (i / w) 0) (i % w)
get_or_place w words i some within =
    let place : w * (i / w) + i % w ≡ i = omega arith in
    let turned : i < length words * w = omega arith in
    ap (λ (m : ℕ). get_or (words_bits w words) m false) (sym place)
    ∙ get_or_words w words (i / w) (i % w) ((div-lt_iff_lt-mul some).1 turned) (omega arith)

-- one answer more behind others
pub more_each : (answers : ℕ → ℕ → Type 0) (words : List ℕ) (k y j : ℕ) → length words ≡ k → ((i : ℕ) → i < k → answers i (slice_index words i)) →
    answers k y →
    j < k + 1 → (j < k) ⊎ (k ≤ j) → answers j (slice_index (words ++ y ∷ []) j)
more_each answers words k y j count each here h (inl before) =
    subst (answers j) (sym (get_or_append_left words (y ∷ []) 0 j (omega arith))) (each j before)
more_each answers words k y j count each here h (inr last) =
    let place : j ≡ k = omega arith in
    let none : j - k ≡ 0 = omega arith in
    let same : get_or (words ++ y ∷ []) j 0 ≡ y =
    get_or-append_right words (y ∷ []) k j 0 count last ∙ ap (λ (i : ℕ). get_or (y ∷ []) i 0) none in
    subst (λ n. answers j n) (sym same) (subst (λ n. answers n y) (sym place) here)
