-- The hash of a slot, by which dictionaries find values: slots that are the same hash alike.
use Rattle.std.specs.Prelude.{ℕ, Bool, ◌==◌, ◌%◌, ◌^◌, if◌then◌else◌, unsigned_abs}
use Rattle.nested_arrays_sized_builders.specs.values.Hashes.{mixed, mixed_all}
use Rattle.nested_arrays_sized_builders.specs.nulls.columns.Slots.{Slot, Slots, null, truth, number, pair, triple, text, bytes, items, fields, pick}
use Rattle.nested_arrays_sized_builders.specs.nulls.columns.Slots.{no_slot, slot_then}

abbrev mutual
  pub slot_hash : Slot → ℕ
  slot_hash null = 0
  slot_hash (truth b) = if b then 1 else 0
  slot_hash (number kind n) = unsigned_abs n % 2 ^ 64
  slot_hash (pair kind days ms) = mixed (unsigned_abs days) (unsigned_abs ms)
  slot_hash (triple kind months days ns) = mixed (unsigned_abs days) (unsigned_abs ns)
  slot_hash (text content) = mixed_all 0 content
  slot_hash (bytes content) = mixed_all 0 content
  slot_hash (items slots) = slots_hash 1 slots
  slot_hash (fields slots) = slots_hash 2 slots
  slot_hash (pick data_type slot) = slot_hash slot

  -- a hash with those of some slots
  pub slots_hash : ℕ → Slots → ℕ
  slots_hash hash no_slot = hash
  slots_hash hash (slot_then slot slots) = slots_hash (mixed hash (slot_hash slot)) slots

-- whether a slot hashes as another
abbrev pub hashes_as : Slot → Slot → Bool
hashes_as item slot = slot_hash slot == slot_hash item
