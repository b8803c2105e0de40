-- Texts, one after another in some bytes.
use Rattle.std.specs.Prelude.{ℕ, List, [], ◌∷◌, drop}
use Rattle.std.specs.Str.{IsUtf8, IsCharBoundary}

-- each byte string is UTF-8 by itself
abbrev pub AllTexts : List (List ℕ) → Type 0
AllTexts [] = Unit {0}
AllTexts (x ∷ xs) = IsUtf8 x × AllTexts xs

-- no byte string of these lengths, one after another in some bytes, begins inside a character
abbrev pub CutsBetweenChars : List ℕ → List ℕ → Type 0
CutsBetweenChars [] bytes = Unit {0}
CutsBetweenChars (l ∷ ls) bytes = IsCharBoundary bytes 0 × CutsBetweenChars ls (drop l bytes)
