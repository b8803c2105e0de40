-- Iterators over the slots of arrays.
use Rattle.std.specs.Prelude.{◌≡◌, Bool, List}
use Rattle.columnar_memory_core.specs.Bits.{unset_count}
use Rattle.columnar_memory_core.specs.declared.ZipValidity.{ZipValidity}
use Rattle.columnar_memory_core.specs.declared.ZipValidity.TheVariants.{Required, Optional}
use Rattle.flat_arrays_values.specs.Flat.{Flat, marks_of}

-- The iterator stands before an array's values and marks, or before the values alone, where each mark is true.
abbrev pub StandsBefore : {T V I B : Type 0} → (I → List V) → (B → List Bool) → Flat V → ZipValidity T I B → Type 0
StandsBefore values marks a (Required left) = (values left ≡ a.values) × (unset_count (marks_of a) ≡ 0)
StandsBefore values marks a (Optional left) = (values left.0 ≡ a.values) × (marks left.1 ≡ marks_of a)
