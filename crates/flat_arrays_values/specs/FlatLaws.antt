-- What holds of every cut of an array, and of its slots.
use Rattle.std.specs.Prelude.{◌≡◌, ℕ, ◌+◌, ◌≤◌, length, count_by, is_none}
use Rattle.columnar_memory_core.specs.Bits.{unset_count}
use Rattle.columnar_memory_core.specs.Window.{window}
use Rattle.flat_arrays_values.specs.Flat.{Flat, cut, marks_of, slots_of, IsMaskOf}

-- the slots of a cut are the slots from the offset on, as many
abbrev pub CutsSlots : Type 0 → Type 0
CutsSlots V = (a : Flat V) (offset count : ℕ) → slots_of (cut a offset count) ≡ window (slots_of a) offset count

-- a cut of a cut is one cut, at the sum of the places
abbrev pub CutsJoin : Type 0 → Type 0
CutsJoin V = (a : Flat V) (offset count inner few : ℕ) → inner + few ≤ count → cut (cut a offset count) inner few ≡ cut a (offset + inner) few

-- there is a slot for each value, and as many of them are null as marks are false
abbrev pub SlotsCount : Type 0 → Type 0
SlotsCount V = (a : Flat V) → IsMaskOf (length a.values) a.validity
    → (length (slots_of a) ≡ length a.values) × (count_by is_none (slots_of a) ≡ unset_count (marks_of a))
