-- Word functions that act on each bit by one table.
use Rattle.std.proofs.Common.{◌≡◌, ◌∙◌, ℕ, ◌+◌, ◌*◌, ◌/◌, ◌%◌, ◌^◌, ◌<◌, ◌≤◌, min, Bool, false, List, [], ◌∷◌, length, map}
use Rattle.std.proofs.Common.{take, drop, get_or, slice_index, refl, sym, ap, ap₂, arith, lit<, ◌-◌}
use Rattle.std.proofs.lemmas.List.{get_or-take, get_or-drop, length-take, length-take-le}
use Rattle.std.proofs.Math.Nat.{pow-le-pow_right}
use Rattle.columnar_memory_bitmap.specs.bits.Windows.{window}
use Rattle.columnar_memory_bitmap.specs.bits.Bits.{bit}
use Rattle.columnar_memory_bitmap.specs.bits.Words.{word_at, words_bits, words_for}
use Rattle.columnar_memory_bitmap.proofs.bits_lemmas.Windows.{window_of_list, window_is}
use Rattle.columnar_memory_bitmap.proofs.bits_lemmas.Words.{bit_of_list, word_lt}
use Rattle.std.specs.Prelude.{Result, Ok, Err}
use Rattle.columnar_memory_bitmap.specs.types.declared.error.Error.{Error}
use Rattle.columnar_memory_bitmap.specs.Results.{OrOutOfMemory}
use Rattle.columnar_memory_bitmap.specs.Operators.{pairwise}
use Rattle.columnar_memory_bitmap.proofs.Combining.{pairwise-window}
use Rattle.columnar_memory_kernels.specs.Kernels.{AnswersOne, AnswersTwo, CombinesValues, IsWordwise, TurnsValues, fourwise, threewise}
use Rattle.columnar_memory_kernels.proofs.InPlace.{place_in_word}
use Rattle.columnar_memory_kernels.proofs.WordLists.{get_or_words, length_words}

-- a bit of a word of some booleans
bit_of_word_at : (w : ℕ) (xs : List Bool) (k r : ℕ) → r < w → bit (word_at w xs k) r ≡ get_or xs (w * k + r) false
bit_of_word_at w xs k r h = bit_of_list (take w (drop (w * k) xs)) r ∙ get_or-take w (drop (w * k) xs) r false h ∙ get_or-drop (w * k) xs r false

-- words that have at each bit what a function gives of its place are the booleans of that function
wordwise_window : (w : ℕ) (h : ℕ → Bool) (answers : ℕ → ℕ → Type 0) (n : ℕ) (zs : List Bool) → 0 < w →
    ((k y i : ℕ) → answers k y → i < w → bit y i ≡ h (w * k + i)) → IsWordwise w answers n zs → zs ≡ window h 0 n
wordwise_window w h answers n zs some acts all =
    let words = words_bits w all.answered in
    let count : length words ≡ w * words_for w n = length_words w all.answered ∙ ap (λ m. w * m) all.counted in
    let whole : n + w - 1 < w * ((n + w - 1) / w) + w = omega arith in
    let size : length zs ≡ n = ap length all.cut ∙ length-take-le n words (omega (arith, count, whole)) in
    let each : (i : ℕ) → i < length zs → get_or zs i false ≡ h (0 + i) = λ i less.
    let within : i < n = omega (arith, size) in
    let place : w * (i / w) + i % w ≡ i = omega arith in
    let low : i % w < w = omega arith in
    let in_word = place_in_word w n i some within in
    ap (λ (bs : List Bool). get_or bs i false) all.cut ∙ get_or-take n words i false within
    ∙ ap (λ (m : ℕ). get_or words m false) (sym place) ∙ get_or_words w all.answered (i / w) (i % w) (omega (arith, in_word, all.counted)) low
    ∙ acts (i / w) (slice_index all.answered (i / w)) (i % w) (all.each (i / w) in_word) low ∙ ap h (omega (arith, place)) in
    window_is h 0 zs false each ∙ ap (window h 0) size

-- words that have at each bit what a table gives of two bits are the booleans of that table
wordwise_bits : (w : ℕ) (table : Bool → Bool → Bool) (answers : ℕ → ℕ → Type 0) (xs ys zs : List Bool) → 0 < w → length xs ≡ length ys →
    ((k y i : ℕ) → answers k y → i < w → bit y i ≡ table (bit (word_at w xs k) i) (bit (word_at w ys k) i)) →
    IsWordwise w answers (length xs) zs → zs ≡ pairwise table xs ys
wordwise_bits w table answers xs ys zs some same acts all =
    let fx : ℕ → Bool = λ i. get_or xs i false in
    let fy : ℕ → Bool = λ i. get_or ys i false in
    let h : ℕ → Bool = λ i. table (fx i) (fy i) in
    wordwise_window w h answers (length xs) zs some (λ k y i said low.
    acts k y i said low ∙ ap₂ table (bit_of_word_at w xs k i low) (bit_of_word_at w ys k i low)) all
    ∙ pairwise-window table fx fy h 0 0 0 (length xs) (λ k _. refl)
    ∙ ap₂ (pairwise table) (window_of_list xs false) (ap (window fy 0) same ∙ window_of_list ys false)

-- a word function that acts on each bit by one table gives the booleans of that table
pub wordwise_pairwise : (table : Bool → Bool → Bool) (f : ℕ → ℕ → ℕ) (answers : ℕ → ℕ → Type 0) (xs ys zs : List Bool) → length xs ≡ length ys →
    ((a b i : ℕ) → bit (f a b) i ≡ table (bit a i) (bit b i)) → ((k y : ℕ) → answers k y → y ≡ f (word_at 64 xs k) (word_at 64 ys k)) →
    IsWordwise 64 answers (length xs) zs → zs ≡ pairwise table xs ys
wordwise_pairwise table f answers xs ys zs same acts known all =
    wordwise_bits 64 table answers xs ys zs (lit< tt) same
    (λ k y i said low. ap (λ w. bit w i) (known k y said) ∙ acts (word_at 64 xs k) (word_at 64 ys k) i) all

-- a word of some booleans has 64 bits
word_at_fits : (xs : List Bool) (k : ℕ) → word_at 64 xs k < 2 ^ 64
word_at_fits xs k =
    let bits = take 64 (drop (64 * k) xs) in
    let few : length bits ≤ 64 = omega (arith, length-take 64 (drop (64 * k) xs)) in
    let power : 2 ^ length bits ≤ 2 ^ 64 = pow-le-pow_right {n = 2} (lit< tt) few in
    omega (arith, word_lt bits, power)

-- what a kernel of such a word function may answer
pub pairwise_or_none : (table : Bool → Bool → Bool) (f : ℕ → ℕ → ℕ) (answers : ℕ → ℕ →
    Type 0) (xs ys : List Bool) (result : Result (List Bool) Error) →
    OrOutOfMemory result (IsWordwise 64 answers (length xs)) → length xs ≡ length ys → ((a b i : ℕ) → bit (f a b) i ≡ table (bit a i) (bit b i)) →
    ((k y : ℕ) → answers k y → y ≡ f (word_at 64 xs k) (word_at 64 ys k)) → OrOutOfMemory result (λ zs. zs ≡ pairwise table xs ys)
pairwise_or_none table f answers xs ys (Ok zs) all same acts known = wordwise_pairwise table f answers xs ys zs same acts known all
pairwise_or_none table f answers xs ys (Err e) all same acts known = all

-- what a kernel of a word function that acts bit by bit may answer
pub combined_or_none : (table : Bool → Bool → Bool) (answers : ℕ → ℕ → Type 0) (xs ys : List Bool) (result : Result (List Bool) Error) →
    OrOutOfMemory result (IsWordwise 64 answers (length xs)) → length xs ≡ length ys →
    ((k y i : ℕ) → word_at 64 xs k < 2 ^ 64 → word_at 64 ys k < 2 ^ 64 → answers k y → i < 64 →
    bit y i ≡ table (bit (word_at 64 xs k) i) (bit (word_at 64 ys k) i)) → OrOutOfMemory result (λ zs. zs ≡ pairwise table xs ys)
combined_or_none table answers xs ys (Ok zs) all same acts =
    wordwise_bits 64 table answers xs ys zs (lit< tt) same (λ k y i said low. acts k y i (word_at_fits xs k) (word_at_fits ys k) said low) all
combined_or_none table answers xs ys (Err e) all same acts = all

pairwise_itself : (table : Bool → Bool) (xs : List Bool) → pairwise (λ x y. table x) xs xs ≡ map table xs
pairwise_itself table [] = refl
pairwise_itself table (x ∷ xs) = ap (λ (rest : List Bool). table x ∷ rest) (pairwise_itself table xs)

-- the same of one bitmap
pub turned_or_none : (table : Bool → Bool) (answers : ℕ → ℕ → Type 0) (xs : List Bool) (result : Result (List Bool) Error) →
    OrOutOfMemory result (IsWordwise 64 answers (length xs)) →
    ((k y i : ℕ) → word_at 64 xs k < 2 ^ 64 → answers k y → i < 64 → bit y i ≡ table (bit (word_at 64 xs k) i)) →
    OrOutOfMemory result (λ zs. zs ≡ map table xs)
turned_or_none table answers xs (Ok zs) all acts =
    wordwise_bits 64 (λ x y. table x) answers xs xs zs (lit< tt) refl (λ k y i said low. acts k y i (word_at_fits xs k) said low) all
    ∙ pairwise_itself table xs
turned_or_none table answers xs (Err e) all acts = all

-- of three bitmaps, and of four
pub threewise_or_none : (table : Bool → Bool → Bool → Bool) (answers : ℕ → ℕ → Type 0) (one two three : List Bool)
    (result : Result (List Bool) Error) → OrOutOfMemory result (IsWordwise 64 answers (length one)) →
    ((k y i : ℕ) → word_at 64 one k < 2 ^ 64 → word_at 64 two k < 2 ^ 64 → word_at 64 three k < 2 ^ 64 → answers k y → i < 64 →
    bit y i ≡ table (bit (word_at 64 one k) i) (bit (word_at 64 two k) i) (bit (word_at 64 three k) i)) →
    OrOutOfMemory result (λ b. b ≡ threewise table one two three)
threewise_or_none table answers one two three (Ok b) all acts =
    wordwise_window 64 (λ i. table (get_or one i false) (get_or two i false) (get_or three i false)) answers (length one) b (lit< tt)
    (λ k y i said low. acts k y i (word_at_fits one k) (word_at_fits two k) (word_at_fits three k) said low
    ∙ ap (λ x. table x (bit (word_at 64 two k) i) (bit (word_at 64 three k) i)) (bit_of_word_at 64 one k i low)
    ∙ ap₂ (table (get_or one (64 * k + i) false)) (bit_of_word_at 64 two k i low) (bit_of_word_at 64 three k i low)) all
threewise_or_none table answers one two three (Err e) all acts = all

pub fourwise_or_none : (table : Bool → Bool → Bool → Bool → Bool) (answers : ℕ → ℕ → Type 0) (one two three four : List Bool)
    (result : Result (List Bool) Error) → OrOutOfMemory result (IsWordwise 64 answers (length one)) →
    ((k y i : ℕ) → word_at 64 one k < 2 ^ 64 → word_at 64 two k < 2 ^ 64 → word_at 64 three k < 2 ^ 64 → word_at 64 four k < 2 ^ 64 →
    answers k y → i < 64 →
    bit y i ≡ table (bit (word_at 64 one k) i) (bit (word_at 64 two k) i) (bit (word_at 64 three k) i) (bit (word_at 64 four k) i)) →
    OrOutOfMemory result (λ b. b ≡ fourwise table one two three four)
fourwise_or_none table answers one two three four (Ok b) all acts =
    wordwise_window 64 (λ i. table (get_or one i false) (get_or two i false) (get_or three i false) (get_or four i false)) answers (length one) b
    (lit< tt)
    (λ k y i said low.
    acts k y i (word_at_fits one k) (word_at_fits two k) (word_at_fits three k) (word_at_fits four k) said low
    ∙ ap₂ (λ x z. table x z (bit (word_at 64 three k) i) (bit (word_at 64 four k) i)) (bit_of_word_at 64 one k i low) (bit_of_word_at 64 two k i low)
    ∙ ap₂ (table (get_or one (64 * k + i) false) (get_or two (64 * k + i) false)) (bit_of_word_at 64 three k i low)
    (bit_of_word_at 64 four k i low)) all
fourwise_or_none table answers one two three four (Err e) all acts = all

-- ---- in place, by values of a type

module _ {T : Type 0} (value : T → ℕ) (w : ℕ) (some : 0 < w) where
  pub values_turned : (table : Bool → Bool) (post : T → T → Type 0) (xs zs : List Bool) → TurnsValues value w table post →
      IsWordwise w (λ k. AnswersOne value post (word_at w xs k)) (length xs) zs → zs ≡ map table xs
  values_turned table post xs zs acts all =
      wordwise_bits w (λ x y. table x) (λ k. AnswersOne value post (word_at w xs k)) xs xs zs some refl
      (λ k y i said low. ap (λ n. bit n i) (sym said.result_is) ∙ acts said.given said.result i said.answers low
      ∙ ap (λ n. table (bit n i)) said.given_is) all ∙ pairwise_itself table xs

  pub values_combined : (table : Bool → Bool → Bool) (post : T → T → T → Type 0) (xs ys zs : List Bool) → length xs ≡ length ys →
      CombinesValues value w table post → IsWordwise w (λ k. AnswersTwo value post (word_at w xs k) (word_at w ys k)) (length xs) zs →
      zs ≡ pairwise table xs ys
  values_combined table post xs ys zs same acts all =
      wordwise_bits w table (λ k. AnswersTwo value post (word_at w xs k) (word_at w ys k)) xs ys zs some same
      (λ k y i said low. ap (λ n. bit n i) (sym said.result_is) ∙ acts said.left said.right said.result i said.answers low
      ∙ ap₂ (λ m n. table (bit m i) (bit n i)) said.left_is said.right_is) all
