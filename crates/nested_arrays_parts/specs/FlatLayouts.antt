-- How the arrays of each variant lie in memory, and what taking an array of one kind out of one without children answers.
use Rattle.std.specs.Prelude.{◌≡◌, Bool, true, false, Result, MatchResult}
use Rattle.nested_arrays_flat.specs.columnar_memory.Layouts.{physical_type}
use Rattle.nested_arrays_flat.specs.columnar_memory.declared.PhysicalType.{PhysicalType}
use Rattle.nested_arrays_flat.specs.columnar_memory.declared.PhysicalType.TheVariants as physical
use Rattle.nested_arrays_flat.specs.columns.StoredColumns.{Column, column_type}
use Rattle.nested_arrays_flat.specs.Primitives.{is_primitive}
use Rattle.nested_arrays_parts.specs.FlatNodes.{flat_column}
use Rattle.nested_arrays_parts.specs.declared.flats.FlatNode.{FlatNode}
use Rattle.nested_arrays_parts.specs.declared.flats.FlatNode.TheVariants as variant

-- whether the arrays of a variant lie in memory so
abbrev pub lies_as : FlatNode → PhysicalType → Bool
lies_as (variant.Null array) physical.Null = true
lies_as (variant.Boolean array) physical.Boolean = true
lies_as (variant.Primitive array) (physical.Primitive kind) = true
lies_as (variant.Binary array) physical.Binary = true
lies_as (variant.LargeBinary array) physical.LargeBinary = true
lies_as (variant.FixedSizeBinary array) physical.FixedSizeBinary = true
lies_as (variant.Utf8 array) physical.Utf8 = true
lies_as (variant.LargeUtf8 array) physical.LargeUtf8 = true
lies_as _ layout = false

-- whether a variant holds numbers
abbrev pub is_of_numbers : FlatNode → Bool
is_of_numbers (variant.Primitive array) = true
is_of_numbers _ = false

-- how an array lies in memory, by its column
abbrev pub layout_in : Column → PhysicalType
layout_in column = physical_type (column_type column)

-- whether an array lies in memory as its variant says
abbrev pub lies_well : FlatNode → Bool
lies_well node = lies_as node (layout_in (flat_column node))

-- the array whose column it is, where it lies in memory so, or what was given
abbrev pub TakesKind : {A : Type 0} → (A → Column) → PhysicalType → Column → Result A Column → Type 0
TakesKind column layout given r = MatchResult r (λ array. (column array ≡ given) × (layout_in given ≡ layout))
    (λ left. (left ≡ given) × ¬ (layout_in given ≡ layout))

-- the same of numbers of any kind
abbrev pub TakesNumbers : Column → Result Column Column → Type 0
TakesNumbers given r = MatchResult r (λ array. (array ≡ given) × (is_primitive (layout_in given) ≡ true))
    (λ left. (left ≡ given) × ¬ (is_primitive (layout_in given) ≡ true))
