-- The values of columns, whatever their layout in memory (Arrow columnar format, "Physical memory layout").
use Rattle.std.specs.Prelude.{ℕ, ℤ, Bool, List, [], ◌∷◌}
use Rattle.columnar_memory_core.specs.declared.DataType.{DataType}
use Rattle.columnar_memory_core.specs.declared.PrimitiveType.{PrimitiveType}
pub use Rattle.columnar_memory_core.specs.Windows.{window}

mutual
  -- one value of a column
  pub data Slot : Type 0 where
    -- no value
    null : Slot
    truth : Bool → Slot
    -- a whole number of a physical kind
    number : PrimitiveType → ℤ → Slot
    -- a pair of whole numbers of a physical kind: days and milliseconds
    pair : PrimitiveType → ℤ → ℤ → Slot
    -- three whole numbers of a physical kind: months, days and nanoseconds
    triple : PrimitiveType → ℤ → ℤ → ℤ → Slot
    -- the bytes of a text in UTF-8
    text : List ℕ → Slot
    bytes : List ℕ → Slot
    -- a list of values
    items : Slots → Slot
    -- a value for each field of a struct
    fields : Slots → Slot
    -- a union's value: the type of its child, and the value there
    pick : DataType → Slot → Slot

  -- values one after another
  pub data Slots : Type 0 where
    no_slot : Slots
    slot_then : Slot → Slots → Slots

-- slots one after another, as they stand in a list or a struct
abbrev pub in_slots : List Slot → Slots
in_slots [] = no_slot
in_slots (slot ∷ slots) = slot_then slot (in_slots slots)

-- the slots of a list or a struct, as a list
abbrev pub slot_list : Slots → List Slot
slot_list no_slot = []
slot_list (slot_then slot slots) = slot ∷ slot_list slots
