-- What holds of every push, and of slots that came together.
use Rattle.std.specs.Prelude.{◌≡◌, ℕ, ◌≤◌, Option, List, [], ◌∷◌, ◌++◌, length}
use Rattle.flat_arrays_bytes.specs.columnar_memory.Spans.{last_of}
use Rattle.flat_arrays_bytes.specs.ByteStrings.{ByteStrings, slots_of}
use Rattle.flat_arrays_byte_values_builders.specs.Growing.{IsFilled, joined, trimmed, with_slot, with_slots, without_last}

-- a push adds its slot behind the others, and without the last slot they are as before
pub record PushesAdd : Type 0 where
  pub added : (a : ByteStrings) (slot : Option (List ℕ)) → IsFilled a → slots_of (with_slot a slot) ≡ slots_of a ++ slot ∷ []
  pub undone : (a : ByteStrings) (slot : Option (List ℕ)) → IsFilled a → slots_of (without_last (with_slot a slot)) ≡ slots_of a

-- slots that came together stand behind the others, and without the bytes behind the last value they are the same
pub record SlotsJoin : Type 0 where
  pub many : (a : ByteStrings) (slots : List (Option (List ℕ))) → IsFilled a → slots_of (with_slots a slots) ≡ slots_of a ++ slots
  pub behind : (a b : ByteStrings) → IsFilled a → IsFilled b → slots_of (joined a b) ≡ slots_of a ++ slots_of b
  pub kept : (a : ByteStrings) → last_of a.offsets ≤ length a.bytes → slots_of (trimmed a) ≡ slots_of a
