-- Whether two slots are the same, and the distinct ones among several.
use Rattle.std.specs.Prelude.{ℕ, suc, Bool, true, false, not, ◌&&◌, ◌||◌, if◌then◌else◌, List, [], ◌∷◌, nat_eq}
use Rattle.std.specs.Ordering.{int_eq}
use Rattle.std.specs.List.{filter}
use Rattle.std.specs.Cmp.Lexicographic.{pointwise}
use Rattle.columnar_memory_core.specs.Equality.{same_type}
use Rattle.nested_arrays_columns.specs.Kinds.{same_kind}
use Rattle.nested_arrays_columns.specs.Slots.{Slot, Slots, null, truth, number, pair, triple, text, bytes, items, fields, pick, no_slot, slot_then}

abbrev pub same_bytes : List ℕ → List ℕ → Bool
same_bytes = pointwise nat_eq

abbrev pub same_truth : Bool → Bool → Bool
same_truth true b = b
same_truth false b = not b

abbrev mutual
  pub same_slot : Slot → Slot → Bool
  same_slot null null = true
  same_slot (truth a) (truth b) = same_truth a b
  same_slot (number kind a) (number other b) = same_kind kind other && int_eq a b
  same_slot (pair kind a b) (pair other c d) = same_kind kind other && int_eq a c && int_eq b d
  same_slot (triple kind a b c) (triple other d e f) = same_kind kind other && int_eq a d && int_eq b e && int_eq c f
  same_slot (text a) (text b) = same_bytes a b
  same_slot (bytes a) (bytes b) = same_bytes a b
  same_slot (items a) (items b) = same_slots a b
  same_slot (fields a) (fields b) = same_slots a b
  same_slot (pick type_a a) (pick type_b b) = same_type type_a type_b && same_slot a b
  same_slot _ _ = false

  pub same_slots : Slots → Slots → Bool
  same_slots no_slot no_slot = true
  same_slots (slot_then a slots_a) (slot_then b slots_b) = same_slot a b && same_slots slots_a slots_b
  same_slots _ _ = false

-- each slot once, in the order of first use
abbrev pub distinct : List Slot → List Slot
distinct [] = []
distinct (slot ∷ slots) = slot ∷ filter (λ other. not (same_slot slot other)) (distinct slots)

-- whether a slot stands among others
abbrev pub is_among : Slot → List Slot → Bool
is_among slot [] = false
is_among slot (other ∷ others) = same_slot slot other || is_among slot others

-- the place where a slot first stands among others, or their number
abbrev pub place_among : Slot → List Slot → ℕ
place_among slot [] = 0
place_among slot (other ∷ others) = if same_slot slot other then 0 else suc (place_among slot others)

-- no slot stands twice
abbrev pub are_distinct : List Slot → Bool
are_distinct [] = true
are_distinct (slot ∷ slots) = not (is_among slot slots) && are_distinct slots
