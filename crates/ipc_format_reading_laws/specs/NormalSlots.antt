-- What is read by the normalised form of a type: the slots that are read by the type itself, where what a union picks names the normalised
-- type of its child (docs/FORMAT.md, "Messages and schemas, as read").
use Rattle.std.specs.Prelude.{◌≡◌, List, map, Some}
use Rattle.ipc_format_laws.specs.columnar_memory.declared.DataType.{DataType}
use Rattle.ipc_format_laws.specs.columns.Slots.{Slot, Slots, items, fields, pick, no_slot, slot_then}
use Rattle.ipc_format_laws.specs.grammar.Writable.{normalised_type}
use Rattle.ipc_format_laws.specs.grammar.Columns.{Dictionary, Place, slots_in}

-- a slot with the type of each pick in its normalised form, at every depth
abbrev mutual
  pub normal_slot : Slot → Slot
  normal_slot (items some) = items (normal_slots some)
  normal_slot (fields some) = fields (normal_slots some)
  normal_slot (pick data_type slot) = pick (normalised_type data_type) (normal_slot slot)
  normal_slot slot = slot

  pub normal_slots : Slots → Slots
  normal_slots no_slot = no_slot
  normal_slots (slot_then slot some) = slot_then (normal_slot slot) (normal_slots some)

-- a dictionary as it stands where it was read by the normalised form of its type
abbrev pub normal_dictionary : Dictionary → Dictionary
normal_dictionary dictionary =
    record dictionary { data_type = normalised_type dictionary.data_type; slots = map normal_slot dictionary.slots }

-- the same place, where each dictionary was read by the normalised form of its type
abbrev pub among_normal : Place → Place
among_normal at = record at { standing = map normal_dictionary at.standing }

-- what a type reads, its normalised form reads with each pick normalised
abbrev pub NormalTypesRead : Type 0
NormalTypesRead = (data_type : DataType) (at : Place) (some : List Slot) → slots_in data_type at ≡ Some some
    → slots_in (normalised_type data_type) (among_normal at) ≡ Some (map normal_slot some)
