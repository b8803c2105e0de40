-- Offsets as spans, one after another: where the first begins, and the length of each.
use Rattle.std.specs.Prelude.{◌≡◌, ℕ, ◌+◌, ◌-◌, ◌<◌, ◌≤◌, ℤ, pos, negsuc, List, [], ◌∷◌, ◌++◌, map, sum, take, drop, length}

pub record Spans : Type 0 where
  pub start : ℕ
  pub lengths : List ℕ

-- where each span ends, if the first begins here
abbrev pub ends_from : ℕ → List ℕ → List ℕ
ends_from before [] = []
ends_from before (l ∷ ls) = (before + l) ∷ ends_from (before + l) ls

-- the offsets: where each span begins, and where the last one ends
abbrev pub offsets_of : Spans → List ℕ
offsets_of s = s.start ∷ ends_from s.start s.lengths

-- where the span at a place begins; at the number of spans, where the last one ends
abbrev pub offset_at : Spans → ℕ → ℕ
offset_at s i = s.start + sum (take i s.lengths)

-- where the last span ends
abbrev pub last_of : Spans → ℕ
last_of s = s.start + sum s.lengths

-- the spans with more of these lengths behind them
abbrev pub extended : Spans → List ℕ → Spans
extended s ls = record { start = s.start; lengths = s.lengths ++ ls }

-- as many of the spans, from a place on
abbrev pub spans_between : Spans → ℕ → ℕ → Spans
spans_between s i n = record { start = offset_at s i; lengths = take n (drop i s.lengths) }

-- the lengths between offsets, the first of which stands behind this one
abbrev pub lengths_from : ℕ → List ℕ → List ℕ
lengths_from before [] = []
lengths_from before (x ∷ xs) = (x - before) ∷ lengths_from x xs

-- the spans of offsets
abbrev pub spans_of : List ℕ → Spans
spans_of [] = record { start = 0; lengths = [] }
spans_of (x ∷ xs) = record { start = x; lengths = lengths_from x xs }

-- the number of an integer, and none of a negative one
abbrev pub number_of : ℤ → ℕ
number_of (pos n) = n
number_of (negsuc n) = 0

-- the numbers of values
abbrev pub numbers_of : {T : Type 0} → (T → ℤ) → List T → List ℕ
numbers_of value xs = map (λ x. number_of (value x)) xs

-- the values are the offsets of these spans
abbrev pub AreOffsets : {T : Type 0} → (T → ℤ) → List T → Spans → Type 0
AreOffsets value xs s = map value xs ≡ map pos (offsets_of s)

-- no value is negative, below this number, or below the one before it
abbrev pub NeverFalls : {T : Type 0} → (T → ℤ) → ℕ → List T → Type 0
NeverFalls value before [] = Unit {0}
NeverFalls value before (x ∷ xs) = (n : ℕ) × (value x ≡ pos n) × (before ≤ n) × NeverFalls value n xs

-- there is a value, and none is negative or below the one before it
abbrev pub IsWhole : {T : Type 0} → (T → ℤ) → List T → Type 0
IsWhole value xs = (0 < length xs) × NeverFalls value 0 xs

-- no spans, the first of which would begin at 0
abbrev pub no_spans : Spans
no_spans = record { start = 0; lengths = [] }

-- the first of the spans
abbrev pub first_spans : Spans → ℕ → Spans
first_spans s n = record { start = s.start; lengths = take n s.lengths }

-- the spans without the last one
abbrev pub shortened : Spans → Spans
shortened s = first_spans s (length s.lengths - 1)

-- the spans of the offsets that stand in these values
abbrev pub stored : {T : Type 0} → (T → ℤ) → List T → Spans
stored value xs = spans_of (numbers_of value xs)

-- offsets stand in these values
abbrev pub IsStored : {T : Type 0} → (T → ℤ) → List T → Type 0
IsStored value xs = AreOffsets value xs (stored value xs)
