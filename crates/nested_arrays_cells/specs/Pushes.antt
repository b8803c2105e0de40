-- What is answered where the slot of an array is pushed into a builder.
use Rattle.std.specs.Prelude.{◌≡◌, ◌⊎◌, Bool, true, false, Result, Ok, Err}
use Rattle.nested_arrays_builder_arrays.specs.arrays.columnar_memory.declared.Error.{Error}
use Rattle.nested_arrays_builder_arrays.specs.arrays.columnar_memory.Error.{IsInvalidArgument, IsOutOfMemory}
use Rattle.nested_arrays_builder_arrays.specs.arrays.columns.Slots.{Slot}
use Rattle.nested_arrays_builder_arrays.specs.parts.Open.{Open, IsPushed}

-- A slot that has a cell is pushed as the cell is. One that has none is refused, and the open column is as it was.
abbrev pub IsPushedIf : {U : Type 0} → Bool → Open → Slot → Open → Result U Error → Type 0
IsPushedIf true old slot new r = IsPushed old slot new r
IsPushedIf false old slot new (Ok done) = ⊥
IsPushedIf false old slot new (Err error) = (new ≡ old) × (IsInvalidArgument error ⊎ IsOutOfMemory error)
