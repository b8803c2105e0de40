-- Which slots a list of slots brings to each child of a type (Arrow columnar format, "Variable-size List Layout" to "Dictionary-encoded
-- Layout").
use Rattle.std.specs.Prelude.{ℕ, zero, suc, not, List, [], map, replicate}
use Rattle.std.specs.List.{filter, flat_map}
use Rattle.nested_arrays_columns.specs.Cells.{is_null}
use Rattle.nested_arrays_columns.specs.SameSlots.{distinct}
use Rattle.nested_arrays_columns.specs.Slots.{Slot, Slots, null, items, fields, no_slot, slot_then, slot_list}

-- the items of a list; null brings none
abbrev pub items_of : Slot → List Slot
items_of (items slots) = slot_list slots
items_of _ = []

-- the items of a list of n; null brings n nulls
abbrev pub fixed_items_of : ℕ → Slot → List Slot
fixed_items_of n (items slots) = slot_list slots
fixed_items_of n _ = replicate n null

-- one of some slots by its number
abbrev pub slot_number : ℕ → Slots → Slot
slot_number k no_slot = null
slot_number zero (slot_then slot slots) = slot
slot_number (suc k) (slot_then slot slots) = slot_number k slots

-- field k of a record; null brings null
abbrev pub field_of : ℕ → Slot → Slot
field_of k (fields slots) = slot_number k slots
field_of k _ = null

-- the items of lists, joined
abbrev pub joined_items : List Slot → List Slot
joined_items slots = flat_map items_of slots

-- the items of lists of n, joined
abbrev pub joined_fixed_items : ℕ → List Slot → List Slot
joined_fixed_items n slots = flat_map (fixed_items_of n) slots

-- the slots of field k
abbrev pub field_slots : List Slot → ℕ → List Slot
field_slots slots k = map (field_of k) slots

-- the values of a dictionary: the distinct slots but null, in the order of first use
abbrev pub dictionary_values : List Slot → List Slot
dictionary_values slots = distinct (filter (λ slot. not (is_null slot)) slots)
