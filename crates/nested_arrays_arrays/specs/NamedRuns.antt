-- Slots of dictionaries by the places that their keys name.
use Rattle.std.specs.Prelude.{◌≡◌, ◌+◌, ◌<◌, ◌≤◌, ◌↔◌, ℕ, ℤ, Bool, IsTrue, List, length, Option, Some, None, slice_index}
use Rattle.nested_arrays_parts.specs.columns.Slots.{Slot, null}
use Rattle.nested_arrays_parts.specs.columns.StoredColumns.{Column, column_len, slot_at}
use Rattle.nested_arrays_parts.specs.flat.ColumnMasks.{column_mask}
use Rattle.nested_arrays_parts.specs.Keys.{numbers_in}
use Rattle.nested_arrays_parts.specs.Ranges.{SameRanges}

-- the slot of values at a place, or null
abbrev pub named_slot : Column → Option ℕ → Slot
named_slot values None = null
named_slot values (Some place) = slot_at values place

-- Places of two columns, in pairs: the slots of each pair are the same, where the left place is one of its column.
abbrev pub AreSamePairs : List ℕ → List ℕ → Column → Column → Type 0
AreSamePairs lefts rights l r = (h : ℕ) → h < length lefts → slice_index lefts h < column_len l
    → slot_at l (slice_index lefts h) ≡ slot_at r (slice_index rights h)

-- a mask and whole numbers are those of a column of keys
pub record StoresKeys (mask : Option (List Bool)) (numbers : List ℤ) (keys : Column) : Type 0 where
  pub masked : mask ≡ column_mask keys
  pub stored : numbers ≡ numbers_in keys

-- a test tells whether n slots of a column from place i on are those of another from place j on; by it a count of steps grew by so many nodes
-- where they are the same, and by no more where they are not
pub record TellsRun (l : Column) (i : ℕ) (r : Column) (j n nodes before after : ℕ) (test : Bool) : Type 0 where
  pub same : IsTrue test ↔ SameRanges l i r j n
  pub counted : after ≤ before + nodes
  pub used : IsTrue test → after ≡ before + nodes
