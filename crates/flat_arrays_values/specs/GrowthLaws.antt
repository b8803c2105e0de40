-- What holds of every list that grows, and of its slots.
use Rattle.std.specs.Prelude.{◌≡◌, List, ◌++◌, length, map, Bool, Option}
use Rattle.std.specs.List.{zip}
use Rattle.flat_arrays_values.specs.Growth.{grown, with_slots}
use Rattle.flat_arrays_values.specs.Flat.{Flat, slot_of, slots_of, IsMaskOf}

-- the slots of a list that has grown are its slots and then those of the values and marks that came
abbrev pub GrownSlots : Type 0 → Type 0
GrownSlots V = (a : Flat V) (values : List V) (bits : List Bool) → IsMaskOf (length a.values) a.validity → length bits ≡ length values
    → slots_of (grown a values bits) ≡ slots_of a ++ map slot_of (zip values bits)

-- the same of slots that came
abbrev pub AddedSlots : Type 0 → Type 0
AddedSlots V = (blank : V) (a : Flat V) (slots : List (Option V)) → IsMaskOf (length a.values) a.validity
    → slots_of (with_slots blank a slots) ≡ slots_of a ++ slots
