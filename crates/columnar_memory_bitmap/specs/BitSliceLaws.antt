-- The law of slices of bitmaps.
use Rattle.std.specs.Prelude.{◌≡◌, ℕ, ◌+◌, ◌≤◌, List, Bool, slice_range}

-- a slice of a slice of bits is one slice, at the sum of the places
abbrev pub BitSlicesJoin : Type 0
BitSlicesJoin = (bits : List Bool) (offset count inner few : ℕ) → inner + few ≤ count
    → slice_range (slice_range bits offset (offset + count)) inner (inner + few) ≡ slice_range bits (offset + inner) (offset + inner + few)
