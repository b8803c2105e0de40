-- Booleans in words of w bits, the first boolean in the least significant bit (Arrow columnar format, "Validity bitmaps").
use Rattle.std.specs.Prelude.{ℕ, ◌+◌, ◌-◌, ◌*◌, ◌/◌, Bool, List, [], ◌∷◌, length, take, drop, filter, if◌then◌else◌}
use Rattle.std.specs.List.{flat_map}
use Rattle.columnar_memory_bits.specs.Windows.{window}
use Rattle.columnar_memory_bits.specs.Bits.{bit, bits_of}

-- the number whose bits are some booleans, the least significant first: the sum of its bits times powers of two
abbrev pub word : List Bool → ℕ
word [] = 0
word (b ∷ bs) = (if b then 1 else 0) + 2 * word bs

-- word k of some booleans in words of w bits, filled with false where they end
abbrev pub word_at : ℕ → List Bool → ℕ → ℕ
word_at w bits k = word (take w (drop (w * k) bits))

-- how many words of w bits so many booleans fill, the last one perhaps in part
abbrev pub words_for : ℕ → ℕ → ℕ
words_for w n = (n + w - 1) / w

-- some booleans in words of w bits, the last one filled with false
abbrev pub words : ℕ → List Bool → List ℕ
words w bits = window (word_at w bits) 0 (words_for w (length bits))

-- the words that some booleans fill wholly, and the booleans behind them
abbrev pub whole_words : ℕ → List Bool → List ℕ
whole_words w bits = window (word_at w bits) 0 (length bits / w)

abbrev pub rest_bits : ℕ → List Bool → List Bool
rest_bits w bits = drop (w * (length bits / w)) bits

-- the booleans of a word of w bits, and those of words one after another
abbrev pub word_bits : ℕ → ℕ → List Bool
word_bits w n = window (bit n) 0 w

abbrev pub words_bits : ℕ → List ℕ → List Bool
words_bits w ns = flat_map (word_bits w) ns

-- n words of w bits of some bytes, from a bit on
abbrev pub words_from : ℕ → List ℕ → ℕ → ℕ → List ℕ
words_from w bytes first n = window (λ k. word (bits_of bytes (first + w * k) w)) 0 n

-- which of n places from a first one on are those of set bits of a number
abbrev pub set_places : ℕ → ℕ → ℕ → List ℕ
set_places x first n = filter (bit x) (window (λ i. i) first n)
