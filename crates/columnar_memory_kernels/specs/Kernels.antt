-- Kernels: a function of words on the words of lists of booleans (Arrow columnar format, "Validity bitmaps").
use Rattle.std.specs.Prelude.{◌≡◌, ℕ, ◌+◌, ◌^◌, ◌<◌, ◌≤◌, Bool, false, List, length, take, drop, get_or, slice_index}
use Rattle.columnar_memory_bitmap.specs.bits.Bits.{bit}
use Rattle.columnar_memory_bitmap.specs.bits.Windows.{window}
use Rattle.columnar_memory_bitmap.specs.bits.Words.{word, words_for, words_bits}

-- The booleans are those of words of w bits, cut to n: each word is an answer at its place.
pub record IsWordwise (w : ℕ) (answers : ℕ → ℕ → Type 0) (n : ℕ) (result : List Bool) : Type 0 where
  pub answered : List ℕ
  pub counted : length answered ≡ words_for w n
  pub each : (k : ℕ) → k < words_for w n → answers k (slice_index answered k)
  pub cut : result ≡ take n (words_bits w answered)

module _ {T : Type 0} (value : T → ℕ) where
  -- a function answers a number to a number, and to two, each as a value of its type
  pub record AnswersOne (post : T → T → Type 0) (word answer : ℕ) : Type 0 where
    pub given : T
    pub result : T
    pub given_is : value given ≡ word
    pub result_is : value result ≡ answer
    pub answers : post given result

  pub record AnswersTwo (post : T → T → T → Type 0) (first second answer : ℕ) : Type 0 where
    pub left : T
    pub right : T
    pub result : T
    pub left_is : value left ≡ first
    pub right_is : value right ≡ second
    pub result_is : value result ≡ answer
    pub answers : post left right result

-- the word of so many booleans of a list, from a first one on
abbrev pub part : List Bool → ℕ → ℕ → ℕ
part bits first count = word (take count (drop first bits))

-- a function of a first bit and a count takes each part of n bits that is no longer than a word
abbrev pub TakesParts : (ℕ → ℕ → Type 0) → ℕ → Type 0
TakesParts takes n = (first count : ℕ) → count ≤ 64 → first + count ≤ n → takes first count

-- each answer to a word has at each bit what a table gives of the bit there
abbrev pub TurnsBits : (Bool → Bool) → (ℕ → ℕ → Type 0) → Type 0
TurnsBits table answers = (word answer i : ℕ) → word < 2 ^ 64 → answers word answer → i < 64 → bit answer i ≡ table (bit word i)

-- the same of two words
abbrev pub CombinesBits : (Bool → Bool → Bool) → (ℕ → ℕ → ℕ → Type 0) → Type 0
CombinesBits table answers = (left right answer i : ℕ) → left < 2 ^ 64 → right < 2 ^ 64 → answers left right answer → i < 64
    → bit answer i ≡ table (bit left i) (bit right i)

-- of three, and of four
abbrev pub CombinesThree : (Bool → Bool → Bool → Bool) → (ℕ → ℕ → ℕ → ℕ → Type 0) → Type 0
CombinesThree table answers = (one two three answer i : ℕ) → one < 2 ^ 64 → two < 2 ^ 64 → three < 2 ^ 64 → answers one two three answer → i < 64
    → bit answer i ≡ table (bit one i) (bit two i) (bit three i)

abbrev pub CombinesFour : (Bool → Bool → Bool → Bool → Bool) → (ℕ → ℕ → ℕ → ℕ → ℕ → Type 0) → Type 0
CombinesFour table answers = (one two three four answer i : ℕ) → one < 2 ^ 64 → two < 2 ^ 64 → three < 2 ^ 64 → four < 2 ^ 64
    → answers one two three four answer → i < 64 → bit answer i ≡ table (bit one i) (bit two i) (bit three i) (bit four i)

-- the same of values of a type with so many bits
abbrev pub TurnsValues : {T : Type 0} → (T → ℕ) → ℕ → (Bool → Bool) → (T → T → Type 0) → Type 0
TurnsValues {T} value width table answers = (given answer : T) (i : ℕ) → answers given answer → i < width
    → bit (value answer) i ≡ table (bit (value given) i)

abbrev pub CombinesValues : {T : Type 0} → (T → ℕ) → ℕ → (Bool → Bool → Bool) → (T → T → T → Type 0) → Type 0
CombinesValues {T} value width table answers = (left right answer : T) (i : ℕ) → answers left right answer → i < width
    → bit (value answer) i ≡ table (bit (value left) i) (bit (value right) i)

-- what a table gives of the booleans at each place of three lists, and of four, which are as long as the first
abbrev pub threewise : (Bool → Bool → Bool → Bool) → List Bool → List Bool → List Bool → List Bool
threewise table one two three = window (λ i. table (get_or one i false) (get_or two i false) (get_or three i false)) 0 (length one)

abbrev pub fourwise : (Bool → Bool → Bool → Bool → Bool) → List Bool → List Bool → List Bool → List Bool → List Bool
fourwise table one two three four =
    window (λ i. table (get_or one i false) (get_or two i false) (get_or three i false) (get_or four i false)) 0 (length one)
