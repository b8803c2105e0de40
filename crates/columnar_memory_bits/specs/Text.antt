-- Bits as text: "[0b______01, 0b00000001]" is bytes, each with its most significant bit first, and an underscore at each place that is
-- none of the bits.
use Rattle.std.specs.Prelude.{ℕ, ◌+◌, ◌-◌, ◌*◌, ◌&&◌, List, ◌++◌, codes, if◌then◌else◌, ◌==◌, nat_lt, nat_le}
use Rattle.std.specs.List.{flat_map}
use Rattle.columnar_memory_bits.specs.Windows.{window}
use Rattle.columnar_memory_bits.specs.Bits.{bit_at, bytes_for}

-- a place of some bytes whose n bits begin at a first one
abbrev pub glyph : List ℕ → ℕ → ℕ → ℕ → List ℕ
glyph bytes first n place =
    if nat_le first place && nat_lt place (first + n) then (if bit_at bytes place then codes "1" else codes "0") else codes "_"

-- the first m places of byte k, from its most significant bit on
abbrev pub glyphs : List ℕ → ℕ → ℕ → ℕ → ℕ → List ℕ
glyphs bytes first n k m = flat_map (λ j. glyph bytes first n (8 * k + (7 - j))) (window (λ j. j) 0 m)

-- byte k, behind a comma where it is not the first
abbrev pub byte_text : List ℕ → ℕ → ℕ → ℕ → List ℕ
byte_text bytes first n k = (if k == 0 then codes "0b" else codes ", 0b") ++ glyphs bytes first n k 8

abbrev pub bytes_text : List ℕ → ℕ → ℕ → ℕ → List ℕ
bytes_text bytes first n m = flat_map (byte_text bytes first n) (window (λ k. k) 0 m)

-- n bits of some bytes from a first one on; no bits need no byte
abbrev pub bits_text : List ℕ → ℕ → ℕ → List ℕ
bits_text bytes first n = codes "[" ++ bytes_text bytes first n (if n == 0 then 0 else bytes_for (first + n)) ++ codes "]"
