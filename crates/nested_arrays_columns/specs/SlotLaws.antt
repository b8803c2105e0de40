-- What holds of all slots and types.
use Rattle.std.specs.Prelude.{◌≡◌, ◌++◌, List, Some, true, slice_get}
use Rattle.std.specs.Bool.{Decides}
use Rattle.columnar_memory_core.specs.declared.DataType.{DataType}
use Rattle.nested_arrays_columns.specs.Cells.{fits_cell}
use Rattle.nested_arrays_columns.specs.OpenBatch.{fits}
use Rattle.nested_arrays_columns.specs.SameSlots.{same_slot, distinct, is_among, place_among, are_distinct}
use Rattle.nested_arrays_columns.specs.Slots.{Slot, null}

-- two slots are the same exactly where they are equal
abbrev pub SamenessDecides : Type 0
SamenessDecides = (a b : Slot) → Decides (same_slot a b) (a ≡ b)

-- among the distinct ones of some slots no slot stands twice
abbrev pub DistinctOnes : Type 0
DistinctOnes = (slots : List Slot) → are_distinct (distinct slots) ≡ true

-- each slot has its place among the distinct ones
abbrev pub PlacesAmongDistinct : Type 0
PlacesAmongDistinct = (slots : List Slot) (slot : Slot) → is_among slot slots ≡ true
    → slice_get (distinct slots) (place_among slot (distinct slots)) ≡ Some slot

-- null fits every type
abbrev pub NullFits : Type 0
NullFits = (data_type : DataType) → fits_cell data_type null ≡ true

-- the first of some slots fit a column where all of them do
abbrev pub BeginningsFit : Type 0
BeginningsFit = (data_type : DataType) (slots others : List Slot) → fits data_type (slots ++ others) ≡ true → fits data_type slots ≡ true
