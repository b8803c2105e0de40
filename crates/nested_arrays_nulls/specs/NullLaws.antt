-- What the slots of arrays of nulls are.
use Rattle.std.specs.Prelude.{◌≡◌, ℕ, replicate}
use Rattle.nested_arrays_iterators.specs.columnar_memory.Layouts.{physical_type}
use Rattle.nested_arrays_iterators.specs.columnar_memory.declared.DataType.{DataType}
use Rattle.nested_arrays_iterators.specs.columnar_memory.declared.PhysicalType.TheVariants as physical
use Rattle.nested_arrays_iterators.specs.columns.Slots.{null}
use Rattle.nested_arrays_iterators.specs.columns.StoredColumns.{Column, slots}

-- so many null slots, where the type is stored otherwise than unions, which have no nulls of their own
abbrev pub AreNullSlots : DataType → ℕ → Column → Type 0
AreNullSlots data_type n array = (physical_type data_type ≡ physical.Union → ⊥) → slots array ≡ replicate n null
