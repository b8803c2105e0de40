-- What holds of every cut.
use Rattle.std.specs.Prelude.{◌≡◌, ℕ, ◌+◌, ◌≤◌}
use Rattle.flat_arrays_values.specs.columnar_memory.Window.{window}
use Rattle.flat_arrays_bytes.specs.ByteStrings.{ByteStrings, cut, len_of, marked_of, slots_of}

-- the slots of a cut, and its stored values with their marks, are a window on those of the array
pub record CutsSlots : Type 0 where
  pub marked : (a : ByteStrings) (offset count : ℕ) → offset + count ≤ len_of a → marked_of (cut a offset count) ≡ window (marked_of a) offset count
  pub slots : (a : ByteStrings) (offset count : ℕ) → offset + count ≤ len_of a → slots_of (cut a offset count) ≡ window (slots_of a) offset count

-- a cut of a cut is one cut, at the sum of the places
abbrev pub CutsJoin : Type 0
CutsJoin = (a : ByteStrings) (offset count inner few : ℕ) → inner + few ≤ count → cut (cut a offset count) inner few ≡ cut a (offset + inner) few
