-- Values of a type before any slot is pushed.
use Rattle.std.specs.Prelude.{◌≡◌, ◌⊎◌, Bool, true, false, [], Result, MatchResult}
use Rattle.nested_arrays_core.specs.arrays.columnar_memory.declared.DataType.{DataType}
use Rattle.nested_arrays_core.specs.arrays.columnar_memory.declared.Error.{Error}
use Rattle.nested_arrays_core.specs.arrays.columnar_memory.declared.PhysicalType.{PhysicalType}
use Rattle.nested_arrays_core.specs.arrays.columnar_memory.declared.PhysicalType.TheVariants as physical
use Rattle.nested_arrays_core.specs.arrays.columnar_memory.declared.PrimitiveType.{PrimitiveType}
use Rattle.nested_arrays_core.specs.arrays.columnar_memory.declared.PrimitiveType.TheVariants as kinds
use Rattle.nested_arrays_core.specs.arrays.columnar_memory.Error.{IsInvalidArgument, IsNotYetImplemented, IsOutOfMemory}
use Rattle.nested_arrays_core.specs.arrays.columnar_memory.Layouts.{physical_type}
use Rattle.nested_arrays_core.specs.arrays.columns.FreshLaws.{is_buildable}
use Rattle.nested_arrays_core.specs.arrays.parts.Childless.{is_childless}
use Rattle.nested_arrays_builder_parts.specs.Growing.{Growing, values_of}
use Rattle.nested_arrays_builder_parts.specs.GrowingNodes.{growing_of}
use Rattle.nested_arrays_builder_parts.specs.KeptValues.{IsTyped}
use Rattle.nested_arrays_builder_parts.specs.declared.values.ValuesNode.{ValuesNode}

abbrev pub is_float : PrimitiveType → Bool
is_float kinds.Float16 = true
is_float kinds.Float32 = true
is_float kinds.Float64 = true
is_float _ = false

-- whether arrays that lie in memory so are of floats
abbrev pub is_of_floats : PhysicalType → Bool
is_of_floats (physical.Primitive kind) = is_float kind
is_of_floats _ = false

-- why nothing of a type grows: it is of floats, or it has children or byte strings of no bytes, or memory ran out
abbrev pub IsNoGrowth : DataType → Error → Type 0
IsNoGrowth t e = IsOutOfMemory e ⊎ (IsNotYetImplemented e × (is_of_floats (physical_type t) ≡ true))
    ⊎ (IsInvalidArgument e × ((is_childless (physical_type t) ≡ false) ⊎ (is_buildable t ≡ false)))

-- values of the type, and none of them
abbrev pub IsEmptyFor : DataType → Growing → Type 0
IsEmptyFor t values = IsTyped t values × (values ≡ values_of values [])

abbrev pub IsNodeFor : DataType → Result ValuesNode Error → Type 0
IsNodeFor t r = MatchResult r (λ node. IsEmptyFor t (growing_of node)) (IsNoGrowth t)

abbrev pub BeginsFor : DataType → Result Growing Error → Type 0
BeginsFor t r = MatchResult r (IsEmptyFor t) (IsNoGrowth t)
