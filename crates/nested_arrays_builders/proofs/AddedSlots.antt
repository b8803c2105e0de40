-- Records that are not added.
use Rattle.std.proofs.Common.{inl, inr, ◌≡◌, List, length, Bool, false, ap}
use Rattle.std.specs.Prelude.{◌⊎◌, Err}
use Rattle.nested_arrays_builder_values.specs.parts.arrays.columnar_memory.declared.Error.{Error}
use Rattle.nested_arrays_builder_values.specs.parts.arrays.columnar_memory.Error.{IsOutOfMemory, IsOverflow}
use Rattle.nested_arrays_builder_values.specs.parts.arrays.columns.Kinds.{most_slots}
use Rattle.nested_arrays_builder_values.specs.parts.arrays.columns.Slots.{Slot}
use Rattle.nested_arrays_builder_values.specs.parts.Marks.{TakesMark}
use Rattle.nested_arrays_builder_values.specs.parts.Open.{Open}
use Rattle.nested_arrays_builders.specs.Parts.{of_fields, has_room, AddsSlot}

module _ (marks : List Bool) (children : List Open) (s : Slot) (e : Error) where
  why : IsOutOfMemory e ⊎ (IsOverflow e × (length marks ≡ most_slots))
      → IsOutOfMemory e ⊎ (IsOverflow e × ((length marks ≡ most_slots) ⊎ (has_room (of_fields children) s ≡ false)))
  why (inl out) = inl out
  why (inr over) = inr (over.0, inl over.1)

  -- where the mark finds no room the fields go again
  pub record_refused : (U : Type 0) (mark : Bool) (after : List Bool) (new : List Open) → new ≡ children → TakesMark {U = U} marks mark after (Err e)
      → AddsSlot {U = U} marks (of_fields children) s after (of_fields new) (Err e)
  record_refused U mark after new same is = (is.0, ap of_fields same, why is.1)
