-- Cells that are looked for among others.
use Rattle.std.specs.Prelude.{◌≡◌, ◌≢◌, ℕ, ◌<◌, List, length, slice_index_or, Option, MatchOption, false, true}
use Rattle.nested_arrays_builder_parts.specs.arrays.columns.SameSlots.{is_among, same_slot}
use Rattle.nested_arrays_builder_parts.specs.arrays.columns.Slots.{Slot, null}
use Rattle.nested_arrays_scalars.specs.declared.scalars.AnyScalar.{AnyScalar}

-- the place of a cell among others, or none has it
abbrev pub IsPlaceOf : List AnyScalar → AnyScalar → Option ℕ → Type 0
IsPlaceOf cells cell r =
    MatchOption r ((k : ℕ) → k < length cells → slice_index_or cells k cell ≢ cell)
    (λ k. (k < length cells) × (slice_index_or cells k cell ≡ cell))

-- the place of a slot among others, or it is not among them
abbrev pub IsSlotAt : List Slot → Slot → Option ℕ → Type 0
IsSlotAt slots slot r =
    MatchOption r (is_among slot slots ≡ false)
    (λ k. (k < length slots) × (same_slot slot (slice_index_or slots k null) ≡ true))
