-- How many slots stand in slots: one for each, and those inside it.
use Rattle.std.specs.Prelude.{ℕ, ◌+◌}
use Rattle.nested_arrays_columns.specs.Slots.{Slot, Slots, null, truth, number, pair, triple, text, bytes, items, fields, pick, no_slot, slot_then}

abbrev mutual
  pub slot_nodes : Slot → ℕ
  slot_nodes null = 1
  slot_nodes (truth b) = 1
  slot_nodes (number kind n) = 1
  slot_nodes (pair kind a b) = 1
  slot_nodes (triple kind a b c) = 1
  slot_nodes (text content) = 1
  slot_nodes (bytes content) = 1
  slot_nodes (items slots) = nodes_of slots + 1
  slot_nodes (fields slots) = nodes_of slots + 1
  slot_nodes (pick data_type slot) = slot_nodes slot + 1

  pub nodes_of : Slots → ℕ
  nodes_of no_slot = 0
  nodes_of (slot_then slot slots) = slot_nodes slot + nodes_of slots
